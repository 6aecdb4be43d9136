-- A row of one line, put into the share of its node, keeps what holds of the share: the other lines are as they were, each count
-- changes by one line's, and the set of a line that the node waits for stays empty.
use Rattle.std.proofs.Common.{◌≡◌, ◌≢◌, ◌⊎◌, inl, inr, ℕ, ◌≤◌, Bool, true, false, ◌==◌, ◌&&◌, not, List, refl, arith, sym, ap, subst, ◌∙◌, None}
use Rattle.std.proofs.lemmas.Bool.{not-true}
use Rattle.std.proofs.lemmas.Bool.Decides.{nat_tests}
use Rattle.std.specs.FinMap as fin
use Rattle.line_map.specs.Sizes.{Sizes, home_of, set_of}
use Rattle.op_model.specs.declared.operations.Op.{Op}
use Rattle.op_model.specs.Lines.{Absent, Copy, LineShare, Outcome, is_empty}
use Rattle.op_model.specs.OwnPart.{IsOutstanding}
use Rattle.op_model.specs.Shares.{Charge, Share, copy_of, header_of, is_set_empty, line_share, pending_lines, put_share, room_of, want_on}
use Rattle.op_model.proofs.Public.{empty-copy}
use Rattle.one_history.proofs.Public.{IsOn, any-found, any-none, copy-other, copy-same, found, header-other}
use Rattle.one_history.proofs.Public.{header-same, want-other, want-same}
use Rattle.lane_bounds.proofs.Public.{IsAllowed, own-after, pending-bound}

-- a set is empty exactly where each line of it has no copy
pub all-empty : (sizes : Sizes) (share : Share) (line b : ℕ) → is_set_empty sizes share line ≡ true → set_of sizes b ≡ set_of sizes line → is_empty (copy_of share b) ≡ true
unfolding copy_of
all-empty sizes share line b alone same = go (is_empty (copy_of share b)) refl
  where
    go : (c : Bool) → is_empty (copy_of share b) ≡ c → c ≡ true
    go true e = refl
    go false e =
        let at = found share b e in
        let t : (set_of sizes b == set_of sizes line) ≡ true = grind (arith, nat_tests) in
        let holds : ((set_of sizes b == set_of sizes line) && not (is_empty (copy_of share b))) ≡ true = rw (t, e) refl in
        let any = any-found (λ k. (set_of sizes k == set_of sizes line) && not (is_empty (copy_of share k))) b at.0 (fin.entries share.copies) at.1 holds in
        let d : true ≡ false = sym any ∙ not-true _ alone in cc

pub empty-set : (sizes : Sizes) (share : Share) (line : ℕ) → ((b : ℕ) → set_of sizes b ≡ set_of sizes line → is_empty (copy_of share b) ≡ true) → is_set_empty sizes share line ≡ true
unfolding copy_of
empty-set sizes share line each = ap not (any-none (λ e. (set_of sizes e.0 == set_of sizes line) && not (is_empty (copy_of share e.0))) (fin.entries share.copies) (λ e. none e.0))
  where
    none : (q : ℕ) → ((set_of sizes q == set_of sizes line) && not (is_empty (copy_of share q))) ≡ false
    none q = go (set_of sizes q == set_of sizes line) refl
      where
        go : (c : Bool) → (set_of sizes q == set_of sizes line) ≡ c → (c && not (is_empty (copy_of share q))) ≡ false
        go true e = let same : set_of sizes q ≡ set_of sizes line = grind (arith, nat_tests) in ap not (each q same)
        go false e = refl

pub full-copy : (copy : Copy) → is_empty copy ≡ false → copy ≡ Absent → ⊥
full-copy copy e none = let d : true ≡ false = sym (ap is_empty none) ∙ e in cc

-- What holds of a node's share, where this is said of a line at its home
pub record IsPartOf (Line : ℕ → LineShare → Type 0) (sizes : Sizes) (node : ℕ) (program : List Op) (share : Share) : Type 0 where
  pub outstanding : IsOutstanding sizes node program share share.want
  pub lines : (line : ℕ) → home_of sizes line ≡ node → Line node (line_share sizes share line)
  pub pending : pending_lines share ≤ sizes.pending
  pub sets : (a b : ℕ) → is_empty (copy_of share a) ≡ false → is_empty (copy_of share b) ≡ false → set_of sizes a ≡ set_of sizes b → a ≡ b
  pub headers : (line : ℕ) → home_of sizes line ≢ node → fin.get share.headers line ≡ None

module _ (Line : ℕ → LineShare → Type 0) (charge : Charge) (sizes : Sizes) (node : ℕ) (program : List Op) (share : Share) (part : IsPartOf Line sizes node program share) (line : ℕ) (o : Outcome) where
  abbrev at_home : Bool
  at_home = node == home_of sizes line

  abbrev row : LineShare
  row = o.share

  abbrev before : LineShare
  before = line_share sizes share line

  abbrev pub next_share : Share
  next_share = put_share sizes at_home line o.done row share

  -- no other line stands in the set of this one
  abbrev pub AreOthersAway : Type 0
  AreOthersAway = (b : ℕ) → b ≢ line → set_of sizes b ≡ set_of sizes line → is_empty (copy_of share b) ≡ true

  -- what a row of a line has to be
  pub record IsPartRow : Type 0 where
    pub kept : node ≡ home_of sizes line → Line (home_of sizes line) row
    pub allowed : at_home ≡ true → IsAllowed (room_of charge sizes share) (header_of sizes share line) row.header
    pub on : IsOn sizes line row.want
    pub fits : (share.want ≡ None) ⊎ (want_on sizes share.want line ≡ None → row.want ≡ None)
    pub comes : (copy_of share line ≡ Absent → row.copy ≡ Absent) ⊎ AreOthersAway
    pub begun : IsOutstanding sizes node program next_share next_share.want

  module _ (is : IsPartRow) where
    same-line : node ≡ home_of sizes line → line_share sizes next_share line ≡ row
    same-line same =
        let here : at_home ≡ true = grind (arith, nat_tests) in
        λ i. record { copy = copy-same sizes at_home line o.done row share i; want = want-same sizes at_home line o.done row share is.fits is.on i; header = header-same sizes at_home line o.done row share here i }

    other-line : (q : ℕ) → q ≢ line → line_share sizes next_share q ≡ line_share sizes share q
    other-line q other = λ i. record { copy = copy-other sizes at_home line o.done row share q other i; want = want-other sizes at_home line o.done row share q other is.on i; header = header-other sizes at_home line o.done row share q (inl other) i }

    line-kept : (q : ℕ) → home_of sizes q ≡ node → Line node (line_share sizes next_share q)
    line-kept q home = go (q == line) refl
      where
        go : (c : Bool) → (q == line) ≡ c → Line node (line_share sizes next_share q)
        go true e =
            let same : line ≡ q = grind (arith, nat_tests) in
            let here : node ≡ home_of sizes line = sym home ∙ ap (home_of sizes) (sym same) in
            subst (λ k. Line node (line_share sizes next_share k)) same (subst (Line node) (sym (same-line here)) (subst (λ k. Line k row) (sym here) (is.kept here)))
        go false e = let other : q ≢ line = grind (arith, nat_tests) in subst (Line node) (sym (other-line q other)) (part.lines q home)

    full-before : (copy_of share line ≡ Absent → row.copy ≡ Absent) → is_empty (copy_of next_share line) ≡ false → is_empty (copy_of share line) ≡ false
    full-before stays full = go (is_empty (copy_of share line)) refl
      where
        go : (c : Bool) → is_empty (copy_of share line) ≡ c → c ≡ false
        go true e = absurd (full-copy (copy_of next_share line) full (copy-same sizes at_home line o.done row share ∙ stays (empty-copy (copy_of share line) e)))
        go false e = refl

    else-before : (q : ℕ) → q ≢ line → is_empty (copy_of next_share q) ≡ false → is_empty (copy_of share q) ≡ false
    else-before q other full = sym (ap is_empty (copy-other sizes at_home line o.done row share q other)) ∙ full

    sets-kept : (a b : ℕ) → is_empty (copy_of next_share a) ≡ false → is_empty (copy_of next_share b) ≡ false → set_of sizes a ≡ set_of sizes b → a ≡ b
    sets-kept a b x y same = go (a == line) (b == line) refl refl is.comes
      where
        go : (c d : Bool) → (a == line) ≡ c → (b == line) ≡ d → (copy_of share line ≡ Absent → row.copy ≡ Absent) ⊎ AreOthersAway → a ≡ b
        go true true e f comes = grind (arith, nat_tests)
        go false false e f comes =
            let p : a ≢ line = grind (arith, nat_tests) in let q : b ≢ line = grind (arith, nat_tests) in
            part.sets a b (else-before a p x) (else-before b q y) same
        go true false e f (inl stays) =
            let p : a ≡ line = grind (arith, nat_tests) in let q : b ≢ line = grind (arith, nat_tests) in
            part.sets a b (ap (λ k. is_empty (copy_of share k)) p ∙ full-before stays (ap (λ k. is_empty (copy_of next_share k)) (sym p) ∙ x)) (else-before b q y) same
        go false true e f (inl stays) =
            let p : a ≢ line = grind (arith, nat_tests) in let q : b ≡ line = grind (arith, nat_tests) in
            part.sets a b (else-before a p x) (ap (λ k. is_empty (copy_of share k)) q ∙ full-before stays (ap (λ k. is_empty (copy_of next_share k)) (sym q) ∙ y)) same
        go true false e f (inr away) =
            let p : a ≡ line = grind (arith, nat_tests) in let q : b ≢ line = grind (arith, nat_tests) in
            absurd (let d : true ≡ false = sym (away b q (sym same ∙ ap (set_of sizes) p)) ∙ else-before b q y in cc)
        go false true e f (inr away) =
            let p : a ≢ line = grind (arith, nat_tests) in let q : b ≡ line = grind (arith, nat_tests) in
            absurd (let d : true ≡ false = sym (away a p (same ∙ ap (set_of sizes) q)) ∙ else-before a p x in cc)

    headers-kept : (q : ℕ) → home_of sizes q ≢ node → fin.get next_share.headers q ≡ None
    headers-kept q far = own-after charge sizes share at_home line o.done row q (part.headers q far) (go (q == line) refl)
      where
        go : (c : Bool) → (q == line) ≡ c → (at_home ≡ false) ⊎ (q ≢ line)
        go true e =
            let same : q ≡ line = grind (arith, nat_tests) in
            let off : home_of sizes line ≢ node = λ h. far (ap (home_of sizes) same ∙ h) in
            inl (apart (home_of sizes line) off)
          where
            apart : (k : ℕ) → k ≢ node → (node == k) ≡ false
            apart k h = grind (arith, nat_tests)
        go false e = inr (grind (arith, nat_tests))

    pub part-row : IsPartOf Line sizes node program next_share
    part-row =
        record {
          outstanding = is.begun;
          lines = line-kept;
          pending = pending-bound charge sizes share at_home line o.done row is.allowed part.pending;
          sets = sets-kept;
          headers = headers-kept;
        }
