-- The ages of a line that doesn't drain after the home takes a message, where no age begins.
use Rattle.std.proofs.Common.{◌≡◌, ℕ, Bool, true, false, cond, ◌==◌, ◌&&◌, not, List, [], ◌∷◌, map, refl, arith, ap, sym, ◌∙◌}
use Rattle.std.proofs.lemmas.Bool.Decides.{nat_tests}
use Rattle.eager_model.specs.Types.{Class}
use Rattle.op_model.specs.declared.messages.NakCause.{NakCause}
use Rattle.op_model.specs.declared.messages.NakCause.TheVariants.{Pending, NoLink, Budget}
use Rattle.op_model.specs.Nodes.{unlist}
use Rattle.op_model.specs.Operations.{Words}
use Rattle.op_model.specs.Messages.{Content, Get, FwdGet, Wb, Rpl, Put, Nak, ShWb, FAck, Nakc}
use Rattle.op_model.specs.Lines.{Header, Room, Outcome, sending, no_message, is_empty, is_idle, is_pending, owner, words_of}
use Rattle.op_model.specs.Tables.Home.{on_get, on_wb, on_rpl, on_shwb, on_fack, on_nakc, refuse, share_home_copy, share_memory, forward_get, lacks_link}
use Rattle.op_model.specs.Tables.Remote.{is_invalidate}
use Rattle.op_model.proofs.Public.{eqb-self}
use Rattle.line_invariant.specs.Line.{share_of}
use Rattle.line_invariant.specs.Rows.{IsServedFor}
use Rattle.line_invariant.proofs.Public.{if-either}
use Rattle.eager_model.specs.Ages.{sent_age, with_copy}
use Rattle.eager_model.specs.Line.{AgedLine, ages_of}
use Rattle.eager_model.specs.Newest.{newest_age}
use Rattle.eager_model.specs.Good.{IsSettled}
use Rattle.eager_model.proofs.Taken.{left_line, first-age, newest-taken, rest-same, free-lane}
use Rattle.eager_model.proofs.Sent.{AreSent}
use Rattle.eager_model.proofs.NewestRows.{IsNewRow, newest-quiet, newest-for, given-home, given-memory, home-waits, home-memory}
use Rattle.eager_model.proofs.SettledFacts.{copy-same, copy-newest, at-self}
use Rattle.eager_model.proofs.TakenRows.{Row}

held : (pending dirty local : Bool) → pending ≡ false → (dirty && local) ≡ true → (not pending && dirty && local) ≡ true
held pending dirty local e f = grind arith

module _ (home : ℕ) (line : AgedLine) (settled : IsSettled home line) (from to : ℕ) (class : Class) (rest : List Content) (age : ℕ) (ages : List ℕ) (first : line.lane_age from to class ≡ age ∷ ages) where
  -- a row that sends what has no age, where memory has this age after it
  plain-row : (content : Content) → line.line.lane from to class ≡ content ∷ rest → (header : Header) (sends : List (ℕ × Content)) (m : ℕ) → is_invalidate header.wait ≡ false → (header.dirty ≡ false → m ≡ line.top) →
      ((given : ℕ) → AreSent given line.top line.last sends) →
      IsNewRow home to (left_line from to class rest ages line) (sending (record (share_of line.line to) { header = header }) sends) (record { copy = cond (is_empty (line.line.copy to)) 0 (line.copy_age to); memory = m })
  plain-row content front header sends m waits memory sent =
      newest-quiet home to (left_line from to class rest ages line) (record (share_of line.line to) { header = header }) sends false
      (record { copy = cond (is_empty (line.line.copy to)) 0 (line.copy_age to); memory = m }) (newest-taken home line from to class content rest front age ages first settled.ages)
      (home-waits line header m (to == home) settled.settled waits)
      (copy-same home line settled to (line.line.copy to) (λ e. e))
      (sent _) (home-memory line header m home settled.ages (to == home) memory) (λ d e counted. counted)

  pub row-wb : (words : Words) → line.line.lane from to class ≡ Wb words ∷ rest → Row home line settled from to class rest age ages first (Wb words) (on_wb words (share_of line.line to))
  unfolding on_wb
  row-wb words front = plain-row (Wb words) front _ no_message age settled.settled (λ e. first-age home line from to class (Wb words) rest front age ages first settled.ages) (λ given. tt)

  pub row-shwb : (words : Words) → line.line.lane from to class ≡ ShWb words ∷ rest → Row home line settled from to class rest age ages first (ShWb words) (on_shwb words (share_of line.line to))
  unfolding on_shwb
  row-shwb words front = plain-row (ShWb words) front _ no_message age refl (λ e. first-age home line from to class (ShWb words) rest front age ages first settled.ages) (λ given. tt)

  pub row-fack : line.line.lane from to class ≡ FAck ∷ rest → Row home line settled from to class rest age ages first FAck (on_fack (share_of line.line to))
  unfolding on_fack
  row-fack front = plain-row FAck front _ no_message line.memory_age refl settled.ages.memory (λ given. tt)

  pub row-nakc : line.line.lane from to class ≡ Nakc ∷ rest → Row home line settled from to class rest age ages first Nakc (on_nakc (share_of line.line to))
  unfolding on_nakc
  row-nakc front = plain-row Nakc front _ no_message line.memory_age refl settled.ages.memory (λ given. tt)

  pub row-rpl : line.line.lane from to class ≡ Rpl ∷ rest → Row home line settled from to class rest age ages first Rpl (on_rpl from (share_of line.line to))
  unfolding on_rpl
  row-rpl front =
      if-either (Row home line settled from to class rest age ages first Rpl) (is_idle line.line.header.wait && not line.line.header.dirty) _ _
      (λ _. plain-row Rpl front (record line.line.header { list = unlist line.line.header.list from }) no_message line.memory_age settled.settled settled.ages.memory (λ given. tt))
      (λ _. plain-row Rpl front line.line.header no_message line.memory_age settled.settled settled.ages.memory (λ given. tt))

  -- what the home refuses or sends on
  pub row-refuse : (content : Content) → line.line.lane from to class ≡ content ∷ rest → (cause : NakCause) (m : ℕ) → (line.line.header.dirty ≡ false → m ≡ line.top) →
      IsNewRow home to (left_line from to class rest ages line) (refuse from cause (share_of line.line to)) (record { copy = cond (is_empty (line.line.copy to)) 0 (line.copy_age to); memory = m })
  row-refuse content front cause m memory = plain-row content front line.line.header ((from, Nak cause) ∷ []) m settled.settled memory (λ given. (refl, tt))

  pub row-forward : (content : Content) → line.line.lane from to class ≡ content ∷ rest → (header : Header) (m x : ℕ) (asks : Content) → is_invalidate header.wait ≡ false → (header.dirty ≡ false → m ≡ line.top) →
      ((given last : ℕ) → sent_age given asks ≡ newest_age line.top last asks) →
      IsNewRow home to (left_line from to class rest ages line) (sending (record (share_of line.line to) { header = header }) ((x, asks) ∷ [])) (record { copy = cond (is_empty (line.line.copy to)) 0 (line.copy_age to); memory = m })
  row-forward content front header m x asks waits memory same = plain-row content front header ((x, asks) ∷ []) m waits memory (λ given. (same given (line.last x), tt))

  -- Get, where memory has this age after it
  abbrev GetRow : Outcome → Type 0
  GetRow o =
      (m : ℕ) → (line.line.header.dirty ≡ false → m ≡ line.top) → ((not (is_pending line.line.header) && line.line.header.dirty && line.line.header.local) ≡ true → m ≡ line.top) →
      IsServedFor line.line.want line.line.answered to line.line.words o.served →
      IsNewRow home to (left_line from to class rest ages line) o (record { copy = cond (is_empty o.share.copy) 0 (line.copy_age to); memory = m })

  module _ (on : (to == home) ≡ true) (front : line.line.lane from to class ≡ Get ∷ rest) where
    full : line.line.header.local ≡ true → line.copy_age to ≡ line.top
    full local = copy-newest home line settled to (has (is_empty (line.line.copy to)) line.line.header.local here local)
      where
        here : line.line.header.local ≡ not (is_empty (line.line.copy to))
        here = let is : to ≡ home = grind (arith, nat_tests) in settled.good.local ∙ ap (λ n. not (is_empty (line.line.copy n))) (sym is)

        has : (c l : Bool) → l ≡ not c → l ≡ true → c ≡ false
        has c l e f = grind arith

    free : (l : ℕ) → line.line.answered from ≡ false → (a : ℕ) (k : Class) → map (newest_age line.top (line.last from)) ((left_line from to class rest ages line).line.lane a from k) ≡ map (newest_age line.top l) ((left_line from to class rest ages line).line.lane a from k)
    free l not_yet a k = rest-same home line from to class Get rest front (newest_age line.top (line.last from)) (newest_age line.top l) from (λ a k. free-lane home line settled.good from not_yet line.top (line.last from) l a k) a k

    -- H5
    own : is_pending line.line.header ≡ false → (line.line.header.dirty && line.line.header.local) ≡ true → GetRow (share_home_copy from (share_of line.line to))
    own idle has m clean there served =
        newest-for home to (left_line from to class rest ages line) (share_home_copy from (share_of line.line to)).share ((from, Put (words_of (line.line.copy to))) ∷ []) false
        (record { copy = line.copy_age to; memory = m }) (newest-taken home line from to class Get rest front age ages first settled.ages)
        from (words_of (line.line.copy to)) refl
        (home-waits line (share_home_copy from (share_of line.line to)).share.header m (to == home) settled.settled settled.settled)
        (full (grind arith))
        (given-home (to == home) (share_of line.line to) (ages_of line to) (grind arith) ∙ full (grind arith))
        (at-self (from == from) (eqb-self from) _ (line.last from), tt)
        (home-memory line (share_home_copy from (share_of line.line to)).share.header m home settled.ages (to == home) (λ _. there (held (is_pending line.line.header) line.line.header.dirty line.line.header.local idle has)))
        refl (λ a k l. free l served.2 a k)

    -- H8
    lent : line.line.header.dirty ≡ false → GetRow (share_memory from (share_of line.line to))
    lent is_clean m clean there served =
        newest-for home to (left_line from to class rest ages line) (share_memory from (share_of line.line to)).share ((from, Put line.line.header.memory) ∷ []) false
        (record { copy = cond (is_empty (line.line.copy to)) 0 (line.copy_age to); memory = m }) (newest-taken home line from to class Get rest front age ages first settled.ages)
        from line.line.header.memory refl
        (home-waits line (share_memory from (share_of line.line to)).share.header m (to == home) settled.settled settled.settled)
        (copy-same home line settled to (line.line.copy to) (λ e. e))
        (given-memory (to == home) (share_of line.line to) (ages_of line to) on is_clean ∙ settled.ages.memory is_clean)
        (at-self (from == from) (eqb-self from) _ (line.last from), tt)
        (home-memory line (share_memory from (share_of line.line to)).share.header m home settled.ages (to == home) clean)
        refl (λ a k l. free l served.2 a k)

    got : (room : Room) → GetRow (on_get room from (share_of line.line to))
    unfolding on_get
    got room =
        if-either GetRow (is_pending line.line.header) _ _ (λ _. no Pending) (λ idle.
        (if-either GetRow (lacks_link room from line.line.header && room.link_pending) _ _ (λ _. no NoLink) (λ _.
        (if-either GetRow (lacks_link room from line.line.header && room.full) _ _ (λ _. no Budget) (λ _.
        (if-either GetRow (lacks_link room from line.line.header) _ _ (λ _. no NoLink) (λ _.
        (if-either GetRow (line.line.header.dirty && line.line.header.local) _ _ (λ has. own idle has) (λ _.
        (if-either GetRow (line.line.header.dirty && room.full) _ _ (λ _. no Budget) (λ _.
        (if-either GetRow line.line.header.dirty _ _
        (λ _. λ m clean there served. row-forward Get front (forward_get from (share_of line.line to)).share.header m (owner line.line.header) (FwdGet from) refl clean (λ given last. refl))
        (λ clean. lent clean)))))))))))))
      where
        no : (cause : NakCause) → GetRow (refuse from cause (share_of line.line to))
        no cause m clean there served = row-refuse Get front cause m clean

    pub row-get : (room : Room) → IsServedFor line.line.want line.line.answered to line.line.words (on_get room from (share_of line.line to)).served → Row home line settled from to class rest age ages first Get (on_get room from (share_of line.line to))
    row-get room served = go (not (is_pending line.line.header) && line.line.header.dirty && line.line.header.local) refl
      where
        go : (t : Bool) → (not (is_pending line.line.header) && line.line.header.dirty && line.line.header.local) ≡ t →
            IsNewRow home to (left_line from to class rest ages line) (on_get room from (share_of line.line to)) (with_copy (on_get room from (share_of line.line to)).share.copy (cond t (record (ages_of line to) { memory = line.copy_age to }) (ages_of line to)))
        go true e = got room (line.copy_age to) (λ _. full (grind arith)) (λ _. full (grind arith)) served
        go false e = got room line.memory_age settled.ages.memory (λ h. absurd (let no : true ≡ false = sym h ∙ e in grind arith)) served
