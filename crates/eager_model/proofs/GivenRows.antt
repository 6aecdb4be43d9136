-- The ages of a line that doesn't drain after its words are given away: the home gives its own copy or memory's words, H10 and H13, and an owner hands the line on, N4 and N5.
use Rattle.std.proofs.Common.{◌≡◌, ◌⊎◌, ℕ, suc, Bool, true, false, cond, ◌==◌, ◌&&◌, not, List, [], ◌∷◌, refl, arith, ap, sym, ◌∙◌, subst, inl, inr}
use Rattle.std.proofs.lemmas.Bool.Decides.{nat_tests}
use Rattle.eager_model.specs.Types.{Class}
use Rattle.op_model.specs.declared.messages.NakCause.TheVariants.{Pending, Budget}
use Rattle.op_model.specs.Nodes.{Nodes, listed, unlist, count, none, listings, none_of_count, listed-none}
use Rattle.op_model.specs.Operations.{Words}
use Rattle.op_model.specs.Messages.{Content, GetX, FwdGetX, PutX, FAck}
use Rattle.op_model.specs.Lines.{Absent, Header, Room, sending, is_empty, is_exclusive, is_pending, owner, words_of}
use Rattle.op_model.specs.Tables.Home.{on_getx, give_home_copy, give_memory, forward_getx, no_other}
use Rattle.op_model.specs.Tables.Remote.{on_fwd_getx, is_invalidate}
use Rattle.line_invariant.specs.Line.{share_of}
use Rattle.line_invariant.specs.Good.{AskingX}
use Rattle.line_invariant.proofs.Public.{clean-phase, home-phase, if-either}
use Rattle.eager_model.specs.Rows.{asks_shared}
use Rattle.eager_model.specs.Ages.{age_given, with_copy}
use Rattle.eager_model.specs.Line.{AgedLine, ages_of, greater, begun_age}
use Rattle.eager_model.specs.Newest.{newest_age}
use Rattle.eager_model.specs.Good.{IsSettled}
use Rattle.eager_model.proofs.Taken.{left_line, newest-taken, rest-same}
use Rattle.eager_model.proofs.Sent.{AreSent}
use Rattle.eager_model.proofs.NewestRows.{given-copy, given-home, given-memory, home-waits}
use Rattle.eager_model.proofs.Begins.{IsAlone, newest-given}
use Rattle.eager_model.proofs.Alone.{alone-home, alone-memory}
use Rattle.eager_model.proofs.SettledFacts.{copy-newest}
use Rattle.eager_model.proofs.TakenRows.{Row, row-gone, exclusive-full}
use Rattle.eager_model.proofs.HomeTaken.{row-refuse, row-forward}

raised : (top given : ℕ) → given ≡ top → greater top (greater 0 (greater (suc given) 0)) ≡ suc top
raised top given e = grind (arith, nat_tests)

raised-back : (top given : ℕ) → given ≡ top → greater top (greater 0 (greater (suc given) (greater 0 0))) ≡ suc top
raised-back top given e = grind (arith, nat_tests)

-- only the sender may be listed
others-off : (list : Nodes) (p n : ℕ) → no_other p list ≡ true → (n == p) ≡ false → listed list n ≡ false
others-off list p n e f =
    let zero : count (unlist list p) ≡ 0 = grind (arith, nat_tests) in
    let gone : unlist list p ≡ none = none_of_count (unlist list p) zero in
    let stays : listed (unlist list p) n ≡ listed list n = grind (arith, nat_tests, listings) in
    sym stays ∙ ap (λ s. listed s n) gone ∙ listed-none n

module _ (home : ℕ) (line : AgedLine) (settled : IsSettled home line) (from to : ℕ) (class : Class) (rest : List Content) (age : ℕ) (ages : List ℕ) (first : line.lane_age from to class ≡ age ∷ ages) where
  -- the rest of what is under way has no words either
  alone-left : (me : ℕ) (content : Content) → line.line.lane from to class ≡ content ∷ rest → IsAlone home me line → IsAlone home me (left_line from to class rest ages line)
  alone-left me content front alone =
      record { copies = alone.copies; lanes = λ l a b k. rest-same home line from to class content rest front (newest_age line.top l) (newest_age (suc line.top) l) b (λ a k. alone.lanes l a b k) a k; puts = alone.puts }

  -- an owner hands its copy on
  pub row-fwdx : (r : ℕ) → line.line.lane from to class ≡ FwdGetX r ∷ rest → (to == home) ≡ false → (is_exclusive (line.line.copy to) ≡ true → IsAlone home to line × (line.line.header.dirty ≡ true)) →
      Row home line settled from to class rest age ages first (FwdGetX r) (on_fwd_getx home r (share_of line.line to))
  unfolding on_fwd_getx
  row-fwdx r front off alone =
      if-either (Row home line settled from to class rest age ages first (FwdGetX r)) (is_exclusive (line.line.copy to)) _ _
      (λ held. handed held (alone held).0 (alone held).1) (λ _. row-gone home line settled from to class rest age ages first (FwdGetX r) front r)
    where
      handed : is_exclusive (line.line.copy to) ≡ true → IsAlone home to line → line.line.header.dirty ≡ true → Row home line settled from to class rest age ages first (FwdGetX r)
          (sending (record (share_of line.line to) { copy = Absent }) (cond (r == home) ((home, PutX (words_of (line.line.copy to))) ∷ []) ((r, PutX (words_of (line.line.copy to))) ∷ (home, FAck) ∷ [])))
      handed held alone dirty =
          newest-given home to (left_line from to class rest ages line) (record (share_of line.line to) { copy = Absent }) (with_copy Absent (ages_of line to))
          (newest-taken home line from to class (FwdGetX r) rest front age ages first settled.ages) (alone-left to (FwdGetX r) front alone)
          (cond (r == home) ((home, PutX (words_of (line.line.copy to))) ∷ []) ((r, PutX (words_of (line.line.copy to))) ∷ (home, FAck) ∷ []))
          (home-waits line line.line.header line.memory_age (to == home) settled.settled settled.settled)
          (top (r == home)) refl (sent (r == home)) (still (to == home)) refl
        where
          given : age_given (to == home) (share_of line.line to) (ages_of line to) ≡ line.top
          given = given-copy (to == home) (share_of line.line to) (ages_of line to) off ∙ copy-newest home line settled to (exclusive-full (line.line.copy to) held)

          top : (c : Bool) → greater line.top (greater 0 (begun_age (age_given (to == home) (share_of line.line to) (ages_of line to)) (cond c ((home, PutX (words_of (line.line.copy to))) ∷ []) ((r, PutX (words_of (line.line.copy to))) ∷ (home, FAck) ∷ [])))) ≡ suc line.top
          top true = raised line.top _ given
          top false = raised-back line.top _ given

          sent : (c : Bool) → AreSent (age_given (to == home) (share_of line.line to) (ages_of line to)) (suc line.top) line.last (cond c ((home, PutX (words_of (line.line.copy to))) ∷ []) ((r, PutX (words_of (line.line.copy to))) ∷ (home, FAck) ∷ []))
          sent true = (ap suc given, tt)
          sent false = (ap suc given, (refl, tt))

          still : (b : Bool) → (cond b line.line.header line.line.header).dirty ≡ false → ⊥
          still true e = grind arith
          still false e = grind arith

  module _ (on : (to == home) ≡ true) (front : line.line.lane from to class ≡ GetX ∷ rest) where
    there : to ≡ home
    there = grind (arith, nat_tests)

    -- the home gives the line to the sender
    given-row : (header : Header) (words : Words) → is_invalidate header.wait ≡ false → header.dirty ≡ true → age_given (to == home) (share_of line.line to) (ages_of line to) ≡ line.top → IsAlone home home line →
        Row home line settled from to class rest age ages first GetX (sending (record (share_of line.line to) { copy = Absent; header = header }) ((from, PutX words) ∷ []))
    given-row header words waits dirty given alone =
        newest-given home to (left_line from to class rest ages line) (record (share_of line.line to) { copy = Absent; header = header }) (with_copy Absent (ages_of line to))
        (newest-taken home line from to class GetX rest front age ages first settled.ages) (alone-left to GetX front (subst (λ n. IsAlone home n line) (sym there) alone))
        ((from, PutX words) ∷ [])
        (home-waits line header line.memory_age (to == home) settled.settled waits)
        (raised line.top _ given) refl (ap suc given, tt) (still (to == home) on) refl
      where
        still : (b : Bool) → b ≡ true → (cond b header line.line.header).dirty ≡ false → ⊥
        still true e f = grind arith
        still false e f = grind arith

    -- H10
    own : is_pending line.line.header ≡ false → (line.line.header.dirty && line.line.header.local) ≡ true → Row home line settled from to class rest age ages first GetX (give_home_copy from (share_of line.line to))
    own idle has =
        given-row _ (words_of (line.line.copy to)) settled.settled (grind arith)
        (given-home (to == home) (share_of line.line to) (ages_of line to) (grind arith) ∙ copy-newest home line settled to (full (is_empty (line.line.copy to)) line.line.header.local here (grind arith)))
        (alone-home home line settled.good (home-phase home settled.good.phase line.line.words line.line.header (line.line.copy home) settled.good.header idle (grind arith) settled.good.local (grind arith)))
      where
        here : line.line.header.local ≡ not (is_empty (line.line.copy to))
        here = settled.good.local ∙ ap (λ n. not (is_empty (line.line.copy n))) (sym there)

        full : (c l : Bool) → l ≡ not c → l ≡ true → c ≡ false
        full c l e f = grind arith

    -- H13
    gave : is_pending line.line.header ≡ false → line.line.header.dirty ≡ false → no_other from line.line.header.list ≡ true → (settled.good.status from).carrier ≡ AskingX → Row home line settled from to class rest age ages first GetX (give_memory from (share_of line.line to))
    gave idle clean unshared asks =
        given-row _ line.line.header.memory settled.settled refl
        (given-memory (to == home) (share_of line.line to) (ages_of line to) on clean ∙ settled.ages.memory clean)
        (alone-memory home line settled.good (clean-phase home settled.good.phase line.line.words line.line.header (line.line.copy home) settled.good.header idle clean) (λ n far. by n (n == from) refl))
      where
        by : (n : ℕ) (b : Bool) → (n == from) ≡ b → (listed line.line.header.list n ≡ false) ⊎ ((settled.good.status n).carrier ≡ AskingX)
        by n true e = let is : n ≡ from = grind (arith, nat_tests) in inr (ap (λ m. (settled.good.status m).carrier) is ∙ asks)
        by n false e = inl (others-off line.line.header.list from n unshared e)

    pub row-getx : (room : Room) → asks_shared room from line.line.header ≡ false → (settled.good.status from).carrier ≡ AskingX → Row home line settled from to class rest age ages first GetX (on_getx room from (share_of line.line to))
    unfolding on_getx
    row-getx room unasked asks =
        if-either (Row home line settled from to class rest age ages first GetX) (is_pending line.line.header) _ _ (λ _. row-refuse home line settled from to class rest age ages first GetX front Pending line.memory_age settled.ages.memory) (λ idle.
        (if-either (Row home line settled from to class rest age ages first GetX) (line.line.header.dirty && line.line.header.local) _ _ (λ has. own idle has) (λ _.
        (if-either (Row home line settled from to class rest age ages first GetX) (line.line.header.dirty && room.full) _ _ (λ _. row-refuse home line settled from to class rest age ages first GetX front Budget line.memory_age settled.ages.memory) (λ _.
        (if-either (Row home line settled from to class rest age ages first GetX) line.line.header.dirty _ _
        (λ _. row-forward home line settled from to class rest age ages first GetX front (forward_getx from (share_of line.line to)).share.header line.memory_age (owner line.line.header) (FwdGetX from) refl settled.ages.memory (λ given last. refl)) (λ clean.
        (if-either (Row home line settled from to class rest age ages first GetX) (no_other from line.line.header.list) _ _ (λ unshared. gave idle clean unshared asks) (λ shared.
        (if-either (Row home line settled from to class rest age ages first GetX) room.full _ _ (λ _. row-refuse home line settled from to class rest age ages first GetX front Budget line.memory_age settled.ages.memory)
        (λ free. absurd (let no = drains (is_pending line.line.header) line.line.header.dirty (no_other from line.line.header.list) room.full idle clean shared free in let e : true ≡ false = sym no ∙ unasked in grind arith))))))))))))
      where
        drains : (a b c d : Bool) → a ≡ false → b ≡ false → c ≡ false → d ≡ false → (not a && not b && not c && not d) ≡ true
        drains a b c d e f g h = grind arith
