-- A cache set holds at most one line, and where a node waits for a line its set is empty: a row brings a line to a node that has
-- it or waits for it already, or to an empty set.
use Rattle.std.proofs.Common.{◌≡◌, ◌≢◌, ℕ, Bool, true, false, cond, ◌==◌, ◌&&◌, ◌||◌, not, ◌⊎◌, inl, inr, List, [], ◌∷◌, refl, arith, ap, sym, ◌∙◌, Option, Some, None, unwrap_or}
use Rattle.std.proofs.lemmas.Bool.Decides.{nat_tests}
use Rattle.std.specs.Ordering.{nat_cmp}
use Rattle.std.specs.Cmp.{unsigned_tied}
use Rattle.std.specs.List.{list_any}
use Rattle.std.specs.FinMap as fin
use Rattle.std.specs.FinMap.{find}
use Rattle.line_map.specs.Sizes.{Sizes, line_of, set_of}
use Rattle.op_model.specs.declared.operations.Op.{Op}
use Rattle.op_model.specs.declared.state.Want.{Want}
use Rattle.op_model.specs.Lines.{Absent, Copy, LineShare, is_empty}
use Rattle.op_model.specs.Shares.{Share, conflicts, copy_of, is_set_empty, put_share, want_after, want_on}
use Rattle.op_model.proofs.Public.{empty-copy}
use Rattle.line_invariant.specs.Rows.{wanting}
use Rattle.one_history.specs.Sound.{IsCached, is_begun_on, is_kept}
use Rattle.one_history.proofs.Shares.{IsOn, copy-other, copy-same}

pub any-none : {A : Type 0} (p : A → Bool) (xs : List A) → ((x : A) → p x ≡ false) → list_any p xs ≡ false
any-none p [] none = refl
any-none p (x ∷ xs) none = rw (none x) (any-none p xs none)

pub any-found : {X : Type 0} (p : ℕ → Bool) (q : ℕ) (x : X) (es : List (ℕ × X)) → find nat_cmp q es ≡ Some x → p q ≡ true → list_any (λ e. p e.0) es ≡ true
any-found p q x [] at holds = absurd (let d : ◌≡◌ {A = Option _} None (Some x) = at in cc)
any-found p q x (e ∷ es) at holds = go (q == e.0) refl (sym (ap (λ c. cond c (Some e.1) (find nat_cmp q es)) (unsigned_tied q e.0)) ∙ at) (λ rest. any-found p q x es rest holds)
  where
    or-true : (b : Bool) → (b || true) ≡ true
    or-true true = refl
    or-true false = refl

    go : (c : Bool) → (q == e.0) ≡ c → cond c (Some e.1) (find nat_cmp q es) ≡ Some x → (find nat_cmp q es ≡ Some x → list_any (λ e. p e.0) es ≡ true) → (p e.0 || list_any (λ e. p e.0) es) ≡ true
    go true is at rest = let same : q ≡ e.0 = grind (arith, nat_tests) in ap (λ b. b || list_any (λ e. p e.0) es) (ap p (sym same) ∙ holds)
    go false is at rest = ap (λ b. p e.0 || b) (rest at) ∙ or-true (p e.0)

-- a line with a copy stands in the map of copies
pub found : (share : Share) (q : ℕ) → is_empty (copy_of share q) ≡ false → (copy : Copy) × (find nat_cmp q (fin.entries share.copies) ≡ Some copy)
unfolding copy_of
found share q has = go (fin.get share.copies q) (fin.get-entries share.copies q) has
  where
    go : (o : Option Copy) → o ≡ find nat_cmp q (fin.entries share.copies) → is_empty (unwrap_or o Absent) ≡ false → (copy : Copy) × (find nat_cmp q (fin.entries share.copies) ≡ Some copy)
    go None e has = cc
    go (Some copy) e has = (copy, sym e)

pub none-conflicts : (sizes : Sizes) (share : Share) (line b : ℕ) → conflicts sizes share line ≡ false → b ≢ line → set_of sizes b ≡ set_of sizes line → is_empty (copy_of share b) ≡ true
unfolding copy_of
none-conflicts sizes share line b free other same = go (is_empty (copy_of share b)) refl
  where
    go : (c : Bool) → is_empty (copy_of share b) ≡ c → c ≡ true
    go true e = refl
    go false e =
        let at = found share b e in
        let t : (set_of sizes b == set_of sizes line) ≡ true = grind (arith, nat_tests) in
        let off : (b == line) ≡ false = grind (arith, nat_tests) in
        let holds : ((set_of sizes b == set_of sizes line) && not (b == line) && not (is_empty (copy_of share b))) ≡ true = rw (t, off, e) refl in
        let any = any-found (λ k. (set_of sizes k == set_of sizes line) && not (k == line) && not (is_empty (copy_of share k))) b at.0 (fin.entries share.copies) at.1 holds in
        let d : true ≡ false = sym any ∙ free in cc

begun-is : (sizes : Sizes) (begun : Option Want) (line : ℕ) (op : Op) (marked : Bool) → want_on sizes begun line ≡ wanting op marked → is_begun_on sizes begun line ≡ true
begun-is sizes None line op marked e = absurd (let d : None ≡ wanting op marked = e in cc)
begun-is sizes (Some want) line op marked e = go (line_of sizes want.op.word == line) e
  where
    go : (c : Bool) → cond c (Some want) None ≡ wanting op marked → c ≡ true
    go true e = refl
    go false e = absurd (let d : None ≡ wanting op marked = e in cc)

begun-none : (sizes : Sizes) (begun : Option Want) (line : ℕ) → is_begun_on sizes begun line ≡ false → want_on sizes begun line ≡ None
begun-none sizes None line e = refl
begun-none sizes (Some want) line e = ap (λ c. cond c (Some want) None) e

kept-begun : (c b : Bool) → b ≡ true → (not c || b) ≡ true
kept-begun true b e = e
kept-begun false b e = refl

-- the set of a line that a node waits for is empty
pub waits-alone : (sizes : Sizes) (share : Share) (line : ℕ) (op : Op) (marked : Bool) → IsCached sizes share → want_on sizes share.want line ≡ wanting op marked → copy_of share line ≡ Absent → is_set_empty sizes share line ≡ true
unfolding copy_of
waits-alone sizes share line op marked cached wants empty = ap not (any-none _ (fin.entries share.copies) (λ e. none e.0))
  where
    none : (q : ℕ) → ((set_of sizes q == set_of sizes line) && not (is_empty (copy_of share q))) ≡ false
    none q = go (set_of sizes q == set_of sizes line) (is_empty (copy_of share q)) refl refl
      where
        go : (c d : Bool) → (set_of sizes q == set_of sizes line) ≡ c → is_empty (copy_of share q) ≡ d → (c && not d) ≡ false
        go false d e f = refl
        go true true e f = refl
        go true false e f =
            let has : is_kept sizes share q ≡ true = rw f refl in
            let same_set : set_of sizes q ≡ set_of sizes line = grind (arith, nat_tests) in
            let same : q ≡ line = cached q line has (kept-begun (is_empty (copy_of share line)) (is_begun_on sizes share.want line) (begun-is sizes share.want line op marked wants)) same_set in
            let is : is_empty (copy_of share q) ≡ true = ap (λ k. is_empty (copy_of share k)) same ∙ ap is_empty empty in
            let d : true ≡ false = sym is ∙ f in cc

-- A row of a line leaves room in its set: it brings nothing to a node that has nothing of the line, or no other line stands in the set
abbrev pub IsRoomFor : Sizes → Share → ℕ → LineShare → Type 0
IsRoomFor sizes share line row =
    (copy_of share line ≡ Absent → want_on sizes share.want line ≡ None → (row.copy ≡ Absent) × (row.want ≡ None))
    ⊎ ((b : ℕ) → b ≢ line → is_kept sizes share b ≡ true → set_of sizes b ≡ set_of sizes line → ⊥)

pub room-issue : (sizes : Sizes) (share : Share) (line : ℕ) → share.want ≡ None → conflicts sizes share line ≡ false → (b : ℕ) → b ≢ line → is_kept sizes share b ≡ true → set_of sizes b ≡ set_of sizes line → ⊥
room-issue sizes share line free none b other kept same =
    let empty = none-conflicts sizes share line b none other same in
    let no : is_kept sizes share b ≡ false = rw (empty, free) refl in
    let d : true ≡ false = sym kept ∙ no in cc

module _ (sizes : Sizes) (at_home : Bool) (line : ℕ) (done : Bool) (row : LineShare) (share : Share) (on : IsOn sizes line row.want) where
  abbrev next : Share
  next = put_share sizes at_home line done row share

  -- what is begun by a row of this line is begun on no other line
  begun-off : (want : Option Want) (q : ℕ) → IsOn sizes line want → q ≢ line → is_begun_on sizes want q ≡ false
  begun-off None q on other = refl
  begun-off (Some want) q on other = there (line_of sizes want.op.word) on
    where
      there : (at : ℕ) → at ≡ line → (at == q) ≡ false
      there at e = grind (arith, nat_tests)

  begun-else : (begun : Option Want) (q : ℕ) → q ≢ line → is_begun_on sizes (want_after sizes begun line row.want) q ≡ is_begun_on sizes begun q
  begun-else None q other = begun-off row.want q on other
  begun-else (Some want) q other = go (line_of sizes want.op.word == line) refl
    where
      here : (at : ℕ) → (at == line) ≡ true → false ≡ (at == q)
      here at e = grind (arith, nat_tests)

      go : (c : Bool) → (line_of sizes want.op.word == line) ≡ c → is_begun_on sizes (cond c row.want (Some want)) q ≡ is_begun_on sizes (Some want) q
      go true e = begun-off row.want q on other ∙ here (line_of sizes want.op.word) e
      go false e = refl

  begun-here : (begun : Option Want) → is_begun_on sizes (want_after sizes begun line None) line ≡ false
  begun-here None = refl
  begun-here (Some want) = go (line_of sizes want.op.word == line) refl
    where
      go : (c : Bool) → (line_of sizes want.op.word == line) ≡ c → is_begun_on sizes (cond c None (Some want)) line ≡ false
      go true e = refl
      go false e = e

  kept-else : (q : ℕ) → q ≢ line → is_kept sizes next q ≡ is_kept sizes share q
  unfolding put_share
  kept-else q other = (λ i. not (is_empty (copy-other sizes at_home line done row share q other i)) || begun-else share.want q other i)

  kept-here : (copy_of share line ≡ Absent → want_on sizes share.want line ≡ None → (row.copy ≡ Absent) × (row.want ≡ None)) → is_kept sizes next line ≡ true → is_kept sizes share line ≡ true
  unfolding put_share
  kept-here stays kept = go (is_empty (copy_of share line)) (is_begun_on sizes share.want line) refl refl
    where
      go : (c d : Bool) → is_empty (copy_of share line) ≡ c → is_begun_on sizes share.want line ≡ d → (not c || d) ≡ true
      go false d e f = refl
      go true true e f = refl
      go true false e f =
          let s = stays (empty-copy (copy_of share line) e) (begun-none sizes share.want line f) in
          let copy : is_empty (copy_of next line) ≡ true = ap is_empty (copy-same sizes at_home line done row share ∙ s.0) in
          let begun : is_begun_on sizes (want_after sizes share.want line row.want) line ≡ false = ap (λ w. is_begun_on sizes (want_after sizes share.want line w) line) s.1 ∙ begun-here share.want in
          let no : is_kept sizes next line ≡ false = (λ i. not (copy i) || begun i) in
          let d : true ≡ false = sym kept ∙ no in cc

  pub cached-row : IsCached sizes share → IsRoomFor sizes share line row → IsCached sizes next
  cached-row cached room a b = go (a == line) (b == line) refl refl room
    where
      go : (c d : Bool) → (a == line) ≡ c → (b == line) ≡ d → IsRoomFor sizes share line row → is_kept sizes next a ≡ true → is_kept sizes next b ≡ true → set_of sizes a ≡ set_of sizes b → a ≡ b
      go true true e f room x y same = grind (arith, nat_tests)
      go false false e f room x y same =
          let p : a ≢ line = grind (arith, nat_tests) in let q : b ≢ line = grind (arith, nat_tests) in
          cached a b (sym (kept-else a p) ∙ x) (sym (kept-else b q) ∙ y) same
      go true false e f (inl stays) x y same =
          let is : a ≡ line = grind (arith, nat_tests) in let q : b ≢ line = grind (arith, nat_tests) in
          cached a b (ap (is_kept sizes share) is ∙ kept-here stays (ap (is_kept sizes next) (sym is) ∙ x)) (sym (kept-else b q) ∙ y) same
      go false true e f (inl stays) x y same =
          let p : a ≢ line = grind (arith, nat_tests) in let is : b ≡ line = grind (arith, nat_tests) in
          cached a b (sym (kept-else a p) ∙ x) (ap (is_kept sizes share) is ∙ kept-here stays (ap (is_kept sizes next) (sym is) ∙ y)) same
      go true false e f (inr free) x y same =
          let is : a ≡ line = grind (arith, nat_tests) in let q : b ≢ line = grind (arith, nat_tests) in
          absurd (free b q (sym (kept-else b q) ∙ y) (sym same ∙ ap (set_of sizes) is))
      go false true e f (inr free) x y same =
          let p : a ≢ line = grind (arith, nat_tests) in let is : b ≡ line = grind (arith, nat_tests) in
          absurd (free a p (sym (kept-else a p) ∙ x) (same ∙ ap (set_of sizes) is))
