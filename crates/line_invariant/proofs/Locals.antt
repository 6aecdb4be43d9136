-- Whatever a processor does keeps the line good, and serves its own operation alone, on the line's words.
-- Each table is split by its own tests, in its order.
use Rattle.std.proofs.Common.{◌≡◌, ◌≢◌, ℕ, Bool, true, false, cond, ◌==◌, ◌&&◌, not, refl, arith, ap, sym, ◌∙◌, subst, Result, Ok, Option, None}
use Rattle.std.proofs.lemmas.Bool.{not-false}
use Rattle.std.proofs.lemmas.Bool.Decides.{nat_tests}
use Rattle.line_invariant.specs.Types.{Op, Want, Cause, EvictKind}
use Rattle.op_model.specs.Nodes.{listings}
use Rattle.op_model.specs.Operations.{Words, is_load}
use Rattle.op_model.specs.Lines.{Copy, Absent, Shared, Exclusive, Header, Room, Outcome, is_pending, is_empty, nobody_listed, words_of}
use Rattle.op_model.specs.Tables.Processor.{serves, hit, ask, begin_op, begin_at_home, load_at_home, write_at_home, invalidate_for_home, forward_get_home, forward_getx_home, fits, evict, leave_home, leave_remote, reclaim, call_in, holds_link}
use Rattle.op_model.proofs.Public.{err-ok}
use Rattle.line_invariant.specs.Line.{Line, share_of, after_row}
use Rattle.line_invariant.specs.Good.{Phase, Clean, HomeOwns, Owned, Called, Asked, SharedOut, HandedOn, IsGood, IsGoodHeader, IsGoodNode, Role, Status}
use Rattle.line_invariant.specs.Rows.{IsOwnServed, IsOwnWant, IsDoneRight}
use Rattle.line_invariant.proofs.Basics.{if-either}
use Rattle.line_invariant.proofs.HomeRows.{clean-phase}
use Rattle.line_invariant.proofs.LocalRows.{good-ask, good-leave-remote, good-leave-home, good-load-home, good-write-home, good-call-home, good-forward-home, good-hit-load, good-hit-write, good-hit-home, good-hit-home-load, good-call-in}

-- a copy has the line's words
pub node-fresh : (role : Role) (words : Words) (lists : Bool) (copy : Copy) (want : Option Want) (status : Status) (op : Op) → IsGoodNode role words lists copy want status → serves op copy ≡ true → words_of copy ≡ words
node-fresh role words lists copy want status op good serve = grind arith

home-fresh : (home : ℕ) (phase : Phase) (words : Words) (header : Header) (copy : Copy) (op : Op) → IsGoodHeader home phase words header copy → serves op copy ≡ true → words_of copy ≡ words
home-fresh home Clean words header copy op good serve = grind arith
home-fresh home HomeOwns words header copy op good serve = grind arith
home-fresh home (Owned o) words header copy op good serve = absurd (grind arith)
home-fresh home (Called g) words header copy op good serve = grind arith
home-fresh home (Asked w r o f h) words header copy op good serve = absurd (let e = good.4 in grind arith)
home-fresh home (SharedOut r o) words header copy op good serve = absurd (grind arith)
home-fresh home (HandedOn r o h) words header copy op good serve = absurd (let e = good.4 in grind arith)

-- a line that holds links and isn't pending is clean
pub linked-clean : (home : ℕ) (phase : Phase) (words : Words) (header : Header) (copy : Copy) (room : Room) → IsGoodHeader home phase words header copy → is_pending header ≡ false → holds_link room header ≡ true → (phase ≡ Clean) × (nobody_listed header.list ≡ false)
linked-clean home Clean words header copy room good idle linked = (refl, grind arith)
linked-clean home HomeOwns words header copy room good idle linked = absurd (let e = good.2 in grind (arith, nat_tests, listings))
linked-clean home (Owned o) words header copy room good idle linked = absurd (let e = good.2 in grind (arith, nat_tests, listings))
linked-clean home (Called g) words header copy room good idle linked = absurd (grind arith)
linked-clean home (Asked true r o f h) words header copy room good idle linked = absurd (grind arith)
linked-clean home (Asked false r o f h) words header copy room good idle linked = absurd (grind arith)
linked-clean home (SharedOut r o) words header copy room good idle linked = absurd (grind arith)
linked-clean home (HandedOn r o h) words header copy room good idle linked = absurd (grind arith)

module _ (home : ℕ) (line : Line) (good : IsGood home line) where
  pub good-hit : (p : ℕ) (op : Op) → serves op (line.copy p) ≡ true → IsGood home (after_row home p (hit op (share_of line p)) line)
  good-hit p op serve = go (p == home) (is_load op.kind) refl refl
    where
      exclusive : (copy : Copy) → serves op copy ≡ true → is_load op.kind ≡ false → (has : Words) × (copy ≡ Exclusive has)
      exclusive Absent s w = cc
      exclusive (Shared has) s w = cc
      exclusive (Exclusive has) s w = (has, refl)

      go : (c d : Bool) → (p == home) ≡ c → is_load op.kind ≡ d → IsGood home (after_row home p (hit op (share_of line p)) line)
      go true true e load = let same : home ≡ p = grind (arith, nat_tests) in subst (λ k. IsGood home (after_row home k (hit op (share_of line k)) line)) same (good-hit-home-load home line good op load (ap (λ k. serves op (line.copy k)) same ∙ serve))
      go true false e write =
          let same : home ≡ p = grind (arith, nat_tests) in
          let words = exclusive (line.copy home) (ap (λ k. serves op (line.copy k)) same ∙ serve) write in
          subst (λ k. IsGood home (after_row home k (hit op (share_of line k)) line)) same (good-hit-home home line good op words.0 words.1)
      go false true e load = let apart : p ≢ home = grind (arith, nat_tests) in good-hit-load home line good p apart op load serve
      go false false e write = let apart : p ≢ home = grind (arith, nat_tests) in let words = exclusive (line.copy p) serve write in good-hit-write home line good p apart op words.0 words.1

  pub hit-fresh : (p : ℕ) (op : Op) → serves op (line.copy p) ≡ true → words_of (line.copy p) ≡ line.words
  hit-fresh p op serve = go (p == home) refl
    where
      go : (c : Bool) → (p == home) ≡ c → words_of (line.copy p) ≡ line.words
      go true e = let same : home ≡ p = grind (arith, nat_tests) in subst (λ k. words_of (line.copy k) ≡ line.words) same (home-fresh home good.phase line.words line.header (line.copy home) op good.header (ap (λ k. serves op (line.copy k)) same ∙ serve))
      go false e = let apart : p ≢ home = grind (arith, nat_tests) in node-fresh _ line.words _ (line.copy p) (line.want p) (good.status p) op (good.nodes p apart) serve

  pub good-evict : (p : ℕ) (kind : EvictKind) (o : Outcome) → evict p home kind (share_of line p) ≡ Ok o → IsGood home (after_row home p o line)
  unfolding evict
  good-evict p kind o = if-either Gives (fits (p == home) kind (line.copy p)) _ _ (λ fit e. let is : cond (p == home) (leave_home (line.copy p) (share_of line p)) (leave_remote home kind (share_of line p)) ≡ o = cc in subst (λ x. IsGood home (after_row home p x line)) is (go (p == home) refl fit)) (λ _ e. absurd (err-ok _ o e))
    where
      Gives : Result Outcome Cause → Type 0
      Gives r = r ≡ Ok o → IsGood home (after_row home p o line)

      go : (c : Bool) → (p == home) ≡ c → fits c kind (line.copy p) ≡ true → IsGood home (after_row home p (cond c (leave_home (line.copy p) (share_of line p)) (leave_remote home kind (share_of line p))) line)
      go true e fit = let same : home ≡ p = grind (arith, nat_tests) in
          subst (λ k. fits true kind (line.copy k) ≡ true → IsGood home (after_row home k (leave_home (line.copy k) (share_of line k)) line)) same (good-leave-home home line good kind) fit
      go false e fit = let apart : p ≢ home = grind (arith, nat_tests) in good-leave-remote home line good p apart kind fit

  -- a line that holds links and isn't pending is called in
  pub good-call : (room : Room) → is_pending line.header ≡ false → holds_link room line.header ≡ true → IsGood home (after_row home home (call_in (share_of line home)) line)
  good-call room idle linked =
      let clean = linked-clean home good.phase line.words line.header (line.copy home) room good.header idle linked in
      good-call-in home line good clean.0 clean.1

  pub good-reclaim : (room : Room) (o : Outcome) → reclaim room (share_of line home) ≡ Ok o → IsGood home (after_row home home o line)
  unfolding reclaim
  good-reclaim room o =
      if-either Gives (not (holds_link room line.header)) _ _ (λ _ e. absurd (err-ok _ o e)) (λ linked.
      (if-either Gives (is_pending line.header) _ _ (λ _ e. absurd (err-ok _ o e)) (λ idle.
      (if-either Gives room.full _ _ (λ _ e. absurd (err-ok _ o e)) (λ _ e.
      let is : call_in (share_of line home) ≡ o = cc in
      subst (λ x. IsGood home (after_row home home x line)) is (good-call room idle (not-false (holds_link room line.header) linked)))))))
    where
      Gives : Result Outcome Cause → Type 0
      Gives r = r ≡ Ok o → IsGood home (after_row home home o line)

-- a dirty line that the home's copy doesn't serve is owned elsewhere
owner-away : (home : ℕ) (phase : Phase) (words : Words) (header : Header) (copy : Copy) (op : Op) → IsGoodHeader home phase words header copy → is_pending header ≡ false → header.dirty ≡ true → serves op copy ≡ false → header.local ≡ not (is_empty copy) → header.local ≡ false
owner-away home Clean words header copy op good idle dirty miss local = absurd (grind arith)
owner-away home HomeOwns words header copy op good idle dirty miss local = absurd (let e = good.3 in grind arith)
owner-away home (Owned o) words header copy op good idle dirty miss local = let e = good.3 in grind arith
owner-away home (Called g) words header copy op good idle dirty miss local = absurd (grind arith)
owner-away home (Asked true r o f h) words header copy op good idle dirty miss local = absurd (grind arith)
owner-away home (Asked false r o f h) words header copy op good idle dirty miss local = absurd (grind arith)
owner-away home (SharedOut r o) words header copy op good idle dirty miss local = absurd (grind arith)
owner-away home (HandedOn r o h) words header copy op good idle dirty miss local = absurd (grind arith)

module _ (home : ℕ) (line : Line) (good : IsGood home line) (p : ℕ) (op : Op) (free : line.want p ≡ None) where
  abbrev Fine : Outcome → Type 0
  Fine o = IsGood home (after_row home p o line) × IsOwnServed op line.words o.served × IsOwnWant op o.share.want × IsDoneRight ⊥ o.served o.done o.share.want

  ask-fine : p ≢ home → serves op (line.copy p) ≡ false → Fine (ask home op (share_of line p))
  unfolding ask
  ask-fine apart miss = if-either (λ o. IsGood home (after_row home p o line) → Fine o) (is_load op.kind) _ _ (λ _ g. (g, tt, refl, tt)) (λ _ g. (g, tt, refl, tt)) (good-ask home line good p apart op free miss)

  at-home : (room : Room) (o : Outcome) → p ≡ home → serves op (line.copy p) ≡ false → begin_at_home home room op (share_of line p) ≡ Ok o → Fine o
  unfolding begin_at_home
  at-home room o same miss =
      if-either Gives (is_pending header) _ _ (λ _ e. absurd (err-ok _ o e)) (λ idle.
      (if-either Gives (not header.dirty && is_load op.kind) _ _ (λ c e. ok _ e (at (λ k. load_at_home op (share_of line k)) (good-load-home home line good op free' miss' idle (grind arith) (grind arith)), (memory idle (grind arith), refl), want-none, (free, refl))) (λ not_load.
      (if-either Gives (not header.dirty && nobody_listed header.list) _ _ (λ c e. ok _ e (at (λ k. write_at_home op (share_of line k)) (good-write-home home line good op free' idle (grind arith) (grind arith)), (memory idle (grind arith), refl), want-none, (free, refl))) (λ not_alone.
      (if-either Gives room.full _ _ (λ _ e. absurd (err-ok _ o e)) (λ _.
      (if-either Gives (not header.dirty) _ _ (λ clean e. ok _ e (at (λ k. invalidate_for_home op (share_of line k)) (good-call-home home line good op free' idle (grind arith) (grind arith) (grind arith)), tt, refl, tt)) (λ dirty.
      (if-either Gives (is_load op.kind) _ _ (λ load e. ok _ e (at (λ k. forward_get_home home op (share_of line k)) (good-forward-home home line good false op free' load (grind arith) (grind arith) (away idle (grind arith))), tt, refl, tt)) (λ write e. ok _ e (at (λ k. forward_getx_home home op (share_of line k)) (good-forward-home home line good true op free' write (grind arith) (grind arith) (away idle (grind arith))), tt, refl, tt))))))))))))
    where
      header : Header
      header = line.header

      Gives : Result Outcome Cause → Type 0
      Gives r = r ≡ Ok o → Fine o

      ok : (x : Outcome) → ◌≡◌ {A = Result Outcome Cause} (Ok x) (Ok o) → Fine x → Fine o
      ok x e f = let is : x ≡ o = cc in subst Fine is f

      at : (f : ℕ → Outcome) → IsGood home (after_row home home (f home) line) → IsGood home (after_row home p (f p) line)
      at f g = subst (λ k. IsGood home (after_row home k (f k) line)) (sym same) g

      free' : line.want home ≡ None
      free' = ap line.want (sym same) ∙ free

      miss' : serves op (line.copy home) ≡ false
      miss' = ap (λ k. serves op (line.copy k)) (sym same) ∙ miss

      away : is_pending line.header ≡ false → line.header.dirty ≡ true → line.header.local ≡ false
      away idle dirty = owner-away home good.phase line.words line.header (line.copy home) op good.header idle dirty miss' good.local

      want-none : IsOwnWant op (line.want p)
      want-none = rw free tt

      memory : is_pending line.header ≡ false → line.header.dirty ≡ false → line.header.memory ≡ line.words
      memory idle clean =
          let phase = clean-phase home good.phase line.words line.header (line.copy home) good.header idle clean in
          let is : IsGoodHeader home Clean line.words line.header (line.copy home) = rw phase at good.header in is.2

  pub good-begin : (room : Room) (o : Outcome) → begin_op p home room op (share_of line p) ≡ Ok o → Fine o
  unfolding begin_op
  good-begin room o =
      if-either Gives (serves op (line.copy p)) _ _ (λ _ e. absurd (err-ok _ o e)) (λ miss.
      (if-either Gives (p == home) _ _
      (λ e. at-home room o (grind (arith, nat_tests)) miss)
      (λ e is. let same : ask home op (share_of line p) ≡ o = cc in subst Fine same (ask-fine (grind (arith, nat_tests)) miss))))
    where
      Gives : Result Outcome Cause → Type 0
      Gives r = r ≡ Ok o → Fine o
