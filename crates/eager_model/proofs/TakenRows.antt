-- The ages of a line that doesn't drain after a forward, an invalidation or an answer, at any node. Who hands the line on stands apart, as it begins an age.
use Rattle.std.proofs.Common.{◌≡◌, ℕ, Bool, true, false, cond, ◌==◌, ◌||◌, List, [], ◌∷◌, refl, arith, ◌∙◌, Option, Some, None}
use Rattle.std.proofs.lemmas.Bool.{not-true}
use Rattle.std.proofs.lemmas.Bool.Decides.{nat_tests}
use Rattle.eager_model.specs.Types.{Class, Want, Idle}
use Rattle.op_model.specs.declared.messages.NakCause.{NakCause}
use Rattle.op_model.specs.declared.messages.NakCause.TheVariants.{Gone}
use Rattle.op_model.specs.Nodes.{none}
use Rattle.op_model.specs.Operations.{Words, is_load, after_op}
use Rattle.op_model.specs.Messages.{Content, Nakc, FwdGet, Inv, Put, PutX, Nak, InvAck, ShWb}
use Rattle.op_model.specs.Lines.{Copy, Shared, Exclusive, Outcome, NoService, For, no_message, is_empty, is_exclusive, words_of, without_shared, marked_load}
use Rattle.op_model.specs.Tables.Remote.{on_inv, on_nak, on_put, on_putx, on_fwd_get, gone, is_invalidate, waits_write}
use Rattle.op_model.proofs.Public.{eqb-self}
use Rattle.line_invariant.specs.Line.{share_of}
use Rattle.line_invariant.proofs.Public.{if-either, put-answered, writes-answered}
use Rattle.eager_model.specs.Ages.{age_given, ages_taken, with_copy}
use Rattle.eager_model.specs.Line.{AgedLine, ages_of}
use Rattle.eager_model.specs.Newest.{newest_age, is_unmarked}
use Rattle.eager_model.specs.Good.{IsSettled}
use Rattle.eager_model.proofs.SettledFacts.{same-waits, same-memory, copy-same, copy-newest, at-self}
use Rattle.eager_model.proofs.Taken.{left_line, first-age, newest-taken, rest-same, free-lane}
use Rattle.eager_model.proofs.Sent.{AreSent}
use Rattle.eager_model.proofs.NewestRows.{IsNewRow, newest-quiet, newest-for, newest-own, given-copy, home-waits, away-memory, home-memory}

none-counts : (b x : Bool) → (b || false) ≡ true → (b || x) ≡ true
none-counts b x e = grind arith

marked-counts : (want : Option Want) (b : Bool) → (b || is_unmarked (marked_load want)) ≡ true → (b || is_unmarked want) ≡ true
marked-counts want b e = grind arith

pub kept-full : (copy : Copy) → is_empty (without_shared copy) ≡ false → is_empty copy ≡ false
kept-full copy e = grind arith

pub exclusive-full : (copy : Copy) → is_exclusive copy ≡ true → is_empty copy ≡ false
exclusive-full copy e = grind arith

-- the copy of a node that takes words for its load, unless that is marked
abbrev put_copy : Words → Copy → Option Want → Copy
put_copy words copy want = elim want [ None ↦ copy | Some want ↦ cond want.marked copy (Shared words) ]

put-keeps : (words : Words) (copy : Copy) (want : Option Want) → is_empty copy ≡ true → is_empty (put_copy words copy want) ≡ false → is_unmarked want ≡ true
put-keeps words copy want empty e = grind arith

module _ (home : ℕ) (line : AgedLine) (settled : IsSettled home line) (from to : ℕ) (class : Class) (rest : List Content) (age : ℕ) (ages : List ℕ) (first : line.lane_age from to class ≡ age ∷ ages) where
  abbrev pub Row : Content → Outcome → Type 0
  Row content o = IsNewRow home to (left_line from to class rest ages line) o (with_copy o.share.copy (ages_taken (to == home) age content (share_of line.line to) (ages_of line to)))

  pub row-nak : (cause : NakCause) → line.line.lane from to class ≡ Nak cause ∷ rest → Row (Nak cause) (on_nak (share_of line.line to))
  unfolding on_nak
  row-nak cause front =
      newest-quiet home to (left_line from to class rest ages line) (record (share_of line.line to) { want = None }) no_message false
      (with_copy (line.line.copy to) (ages_of line to)) (newest-taken home line from to class (Nak cause) rest front age ages first settled.ages)
      (same-waits home line settled to) (copy-same home line settled to (line.line.copy to) (λ e. e)) tt (same-memory home line settled to) (λ d e. none-counts (to == home) (is_unmarked (line.line.want to)))

  pub row-inv : line.line.lane from to class ≡ Inv ∷ rest → Row Inv (on_inv home (share_of line.line to))
  unfolding on_inv
  row-inv front =
      newest-quiet home to (left_line from to class rest ages line) (record (share_of line.line to) { copy = without_shared (line.line.copy to); want = marked_load (line.line.want to) }) ((home, InvAck) ∷ []) false
      (with_copy (without_shared (line.line.copy to)) (ages_of line to)) (newest-taken home line from to class Inv rest front age ages first settled.ages)
      (same-waits home line settled to) (copy-same home line settled to (without_shared (line.line.copy to)) (kept-full (line.line.copy to))) (refl, tt) (same-memory home line settled to) (λ d e. marked-counts (line.line.want to) (to == home))

  pub row-gone : (content : Content) → line.line.lane from to class ≡ content ∷ rest → (r : ℕ) →
      IsNewRow home to (left_line from to class rest ages line) (gone home r (share_of line.line to)) (with_copy (line.line.copy to) (ages_of line to))
  row-gone content front r =
      newest-quiet home to (left_line from to class rest ages line) (share_of line.line to) ((r, Nak Gone) ∷ (home, Nakc) ∷ []) false
      (with_copy (line.line.copy to) (ages_of line to)) (newest-taken home line from to class content rest front age ages first settled.ages)
      (same-waits home line settled to) (copy-same home line settled to (line.line.copy to) (λ e. e)) (refl, (refl, tt)) (same-memory home line settled to) (λ d e counted. counted)

  -- an owner shares its copy
  pub row-fwd : (r : ℕ) → line.line.lane from to class ≡ FwdGet r ∷ rest → (to == home) ≡ false → (is_exclusive (line.line.copy to) ≡ true → line.line.answered r ≡ false) → Row (FwdGet r) (on_fwd_get home r (share_of line.line to))
  unfolding on_fwd_get
  row-fwd r front off waits =
      if-either (Row (FwdGet r)) (is_exclusive (line.line.copy to)) _ _ (λ held. shared held) (λ _. row-gone (FwdGet r) front r)
    where
      shared : is_exclusive (line.line.copy to) ≡ true → Row (FwdGet r) (record {
        share = record (share_of line.line to) { copy = Shared (words_of (line.line.copy to)) };
        sends = cond (r == home) ((home, Put (words_of (line.line.copy to))) ∷ []) ((r, Put (words_of (line.line.copy to))) ∷ (home, ShWb (words_of (line.line.copy to))) ∷ []);
        served = For r (words_of (line.line.copy to));
        done = false;
      })
      shared held =
          newest-for home to (left_line from to class rest ages line) (record (share_of line.line to) { copy = Shared (words_of (line.line.copy to)) })
          (cond (r == home) ((home, Put (words_of (line.line.copy to))) ∷ []) ((r, Put (words_of (line.line.copy to))) ∷ (home, ShWb (words_of (line.line.copy to))) ∷ [])) false
          (with_copy (Shared (words_of (line.line.copy to))) (ages_of line to)) (newest-taken home line from to class (FwdGet r) rest front age ages first settled.ages)
          r (words_of (line.line.copy to)) refl (same-waits home line settled to) full given (sent (r == home) refl) (same-memory home line settled to) refl
          (λ a k l. rest-same home line from to class (FwdGet r) rest front (newest_age line.top (line.last r)) (newest_age line.top l) r (λ a k. free-lane home line settled.good r (waits held) line.top (line.last r) l a k) a k)
        where
          full : line.copy_age to ≡ line.top
          full = copy-newest home line settled to (exclusive-full (line.line.copy to) held)

          given : age_given (to == home) (share_of line.line to) (ages_of line to) ≡ line.top
          given = given-copy (to == home) (share_of line.line to) (ages_of line to) off ∙ full

          sent : (c : Bool) → (r == home) ≡ c → AreSent (age_given (to == home) (share_of line.line to) (ages_of line to)) line.top (λ b. cond (b == r) (age_given (to == home) (share_of line.line to) (ages_of line to)) (line.last b))
              (cond c ((home, Put (words_of (line.line.copy to))) ∷ []) ((r, Put (words_of (line.line.copy to))) ∷ (home, ShWb (words_of (line.line.copy to))) ∷ []))
          sent true e = let is : (home == r) ≡ true = grind (arith, nat_tests) in (at-self (home == r) is _ (line.last home), tt)
          sent false e = (at-self (r == r) (eqb-self r) _ (line.last r), (given, tt))

  -- words for a load
  pub row-put : (words : Words) → line.line.lane from to class ≡ Put words ∷ rest → is_empty (line.line.copy to) ≡ true → Row (Put words) (on_put (to == home) words (share_of line.line to))
  unfolding on_put
  row-put words front empty = if-either (Row (Put words)) (to == home) _ _ (λ on. at-home on) (λ off. away off)
    where
      is_age : age ≡ line.last to
      is_age = first-age home line from to class (Put words) rest front age ages first settled.ages

      was_served : line.line.answered to ≡ true
      was_served = put-answered home line.line settled.good from rest to class words front

      at-home : (to == home) ≡ true → Row (Put words) (record { share = record (share_of line.line to) { copy = Shared words; want = None; header = record line.line.header { local = true; dirty = false; wait = Idle; memory = words } }; sends = no_message; served = NoService; done = true })
      at-home on =
          let newest : age ≡ line.top = is_age ∙ settled.ages.served to was_served (counted (to == home) (is_unmarked (line.line.want to)) on) in
          newest-quiet home to (left_line from to class rest ages line) (record (share_of line.line to) { copy = Shared words; want = None; header = record line.line.header { local = true; dirty = false; wait = Idle; memory = words } }) no_message true
          (with_copy (Shared words) (record { copy = age; memory = cond (to == home) age line.memory_age })) (newest-taken home line from to class (Put words) rest front age ages first settled.ages)
          (home-waits line _ line.memory_age (to == home) settled.settled refl) newest tt
          (home-memory line _ (cond (to == home) age line.memory_age) home settled.ages (to == home) (λ e. taken-there (to == home) on newest)) (λ d e. absurd (grind arith))
        where
          counted : (b x : Bool) → b ≡ true → (b || x) ≡ true
          counted b x e = grind arith

          taken-there : (b : Bool) → b ≡ true → age ≡ line.top → cond b age line.memory_age ≡ line.top
          taken-there true e f = f
          taken-there false e f = absurd (grind arith)

      away : (to == home) ≡ false → Row (Put words) (record { share = record (share_of line.line to) { copy = put_copy words (line.line.copy to) (line.line.want to); want = None }; sends = no_message; served = NoService; done = true })
      away off =
          newest-quiet home to (left_line from to class rest ages line) (record (share_of line.line to) { copy = put_copy words (line.line.copy to) (line.line.want to); want = None }) no_message true
          (with_copy (put_copy words (line.line.copy to) (line.line.want to)) (record { copy = age; memory = cond (to == home) age line.memory_age })) (newest-taken home line from to class (Put words) rest front age ages first settled.ages)
          (same-waits home line settled to) (copy (is_empty (put_copy words (line.line.copy to) (line.line.want to))) refl) tt
          (away-memory line line.line.header (cond (to == home) age line.memory_age) home settled.ages (to == home) off) (λ d e. absurd (grind arith))
        where
          counted : (b x : Bool) → x ≡ true → (b || x) ≡ true
          counted b x e = grind arith

          copy : (c : Bool) → is_empty (put_copy words (line.line.copy to) (line.line.want to)) ≡ c → cond c 0 age ≡ cond c 0 line.top
          copy true e = refl
          copy false e = is_age ∙ settled.ages.served to was_served (counted (to == home) (is_unmarked (line.line.want to)) (put-keeps words (line.line.copy to) (line.line.want to) empty e))

  -- words for a write
  pub row-putx : (words : Words) → line.line.lane from to class ≡ PutX words ∷ rest → waits_write (line.line.want to) ≡ true → Row (PutX words) (on_putx (to == home) words (share_of line.line to))
  unfolding on_putx
  row-putx words front writes = go (line.line.want to) refl writes
    where
      go : (w : Option Want) → line.line.want to ≡ w → waits_write w ≡ true → Row (PutX words) (on_putx (to == home) words (record (share_of line.line to) { want = w }))
      go None e f = absurd (grind arith)
      go (Some want) e f =
          newest-own home to (left_line from to class rest ages line) (record (share_of line.line to) { copy = Exclusive (after_op want.op words); want = None; header = cond (to == home) (record line.line.header { local = true; dirty = true; wait = Idle; list = none }) line.line.header }) no_message true
          (with_copy (Exclusive (after_op want.op words)) (record (ages_of line to) { copy = age })) (newest-taken home line from to class (PutX words) rest front age ages first settled.ages)
          want.op words refl refl (waits (to == home)) refl (first-age home line from to class (PutX words) rest front age ages first settled.ages) (memory (to == home))
          (λ a k l. rest-same home line from to class (PutX words) rest front (newest_age line.top (line.last to)) (newest_age line.top l) to
          (λ a k. free-lane home line settled.good to (writes-answered home line.line settled.good to want.op want.marked e (not-true (is_load want.op.kind) f)) line.top (line.last to) l a k) a k)
        where
          waits : (b : Bool) → is_invalidate (cond b (cond b (record line.line.header { local = true; dirty = true; wait = Idle; list = none }) line.line.header) line.line.header).wait ≡ false
          waits true = refl
          waits false = settled.settled

          memory : (b : Bool) → (cond b (cond b (record line.line.header { local = true; dirty = true; wait = Idle; list = none }) line.line.header) line.line.header).dirty ≡ false → cond b line.memory_age line.memory_age ≡ line.top
          memory true e = absurd (grind arith)
          memory false e = settled.ages.memory e
