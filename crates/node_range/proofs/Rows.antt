-- A row of a node and a line of the machine keeps to the machine.
-- It changes the copy and the header of its line at its node alone, and what it sends is of its line and to nodes of the machine.
use Rattle.std.proofs.Common.{◌≡◌, ◌≢◌, ℕ, ◌<◌, ◌≤◌, Bool, true, false, cond, ◌==◌, ◌&&◌, ◌⊎◌, inl, inr, List, [], ◌∷◌, ◌++◌, refl, arith, ap, sym, ◌∙◌, subst}
use Rattle.std.proofs.lemmas.Bool.Decides.{nat_tests}
use Rattle.line_map.specs.Sizes.{Sizes, home_of}
use Rattle.op_model.specs.declared.events.Class.{Class}
use Rattle.op_model.specs.declared.messages.Msg.{Msg}
use Rattle.op_model.specs.Events.Step.{put_at}
use Rattle.op_model.specs.Lines.{Absent, Header, Outcome}
use Rattle.op_model.specs.Messages.{Content, class_of, msg_content-message, msg_line-message, same_class}
use Rattle.op_model.specs.Nodes.{count}
use Rattle.op_model.specs.Shares.{Lanes, Share, State, copy_of, header_of, put_share}
use Rattle.line_invariant.specs.Line.{addressed}
use Rattle.one_history.proofs.Public.{copy-other, header-other, header-same}
use Rattle.lane_bounds.proofs.Public.{after_row_of, tag}
use Rattle.node_range.specs.Range.{AreIn, IsContentIn, IsHeaderIn, IsRanged, IsSentIn}

not-sent : (nodes b : ℕ) (class : Class) (sends : List (ℕ × Content)) → IsSentIn nodes sends → nodes ≤ b → addressed b class sends ≡ []
not-sent nodes b class [] h far = refl
not-sent nodes b class (s ∷ sends) h far =
    let ih = not-sent nodes b class sends h.2 far in
    let off : (s.0 == b) ≡ false = let lt = h.0 in grind (arith, nat_tests) in
    rw off ih

are-append : (sizes : Sizes) (xs ys : List Msg) → AreIn sizes xs → AreIn sizes ys → AreIn sizes (xs ++ ys)
are-append sizes [] ys h k = k
are-append sizes (x ∷ xs) ys h k = (h.0, h.1, are-append sizes xs ys h.2 k)

are-tagged : (sizes : Sizes) (line b : ℕ) (class : Class) (sends : List (ℕ × Content)) → home_of sizes line < sizes.nodes → IsSentIn sizes.nodes sends → AreIn sizes (tag line (addressed b class sends))
are-tagged sizes line b class [] at h = tt
are-tagged sizes line b class (s ∷ sends) at h = go ((s.0 == b) && same_class class (class_of s.1)) (are-tagged sizes line b class sends at h.2)
  where
    go : (c : Bool) → AreIn sizes (tag line (addressed b class sends)) → AreIn sizes (tag line (cond c (s.1 ∷ addressed b class sends) (addressed b class sends)))
    go true rest = (
      subst (λ l. home_of sizes l < sizes.nodes) (sym (msg_line-message line s.1)) at,
      subst (IsContentIn sizes.nodes) (sym (msg_content-message line s.1)) h.1,
      rest,
    )
    go false rest = rest

module _ (sizes : Sizes) (state : State) (ranged : IsRanged sizes state) (node line : ℕ) (outcome : Outcome) (lane : Lanes) (node_in : node < sizes.nodes) (home_in : home_of sizes line < sizes.nodes) where
  abbrev share : Share
  share = put_share sizes (node == home_of sizes line) line outcome.done outcome.share (state.share node)

  -- the header of a line is as it was, or is that of the row
  header-cases : (P : Header → Type 0) (g : ℕ) → P (header_of sizes (state.share (home_of sizes g)) g) → (node ≡ home_of sizes line → g ≡ line → P outcome.share.header) → P (header_of sizes (put_at state.share node share (home_of sizes g)) g)
  header-cases P g was is = go (home_of sizes g == node) refl
    where
      here : (d : Bool) → home_of sizes g ≡ node → (g == line) ≡ d → P (header_of sizes share g)
      here true at e =
          let same : g ≡ line = grind (arith, nat_tests) in
          let home : node ≡ home_of sizes line = sym at ∙ ap (home_of sizes) same in
          let on : (node == home_of sizes line) ≡ true = grind (arith, nat_tests) in
          subst P (sym (ap (header_of sizes share) same ∙ header-same sizes (node == home_of sizes line) line outcome.done outcome.share (state.share node) on)) (is home same)
      here false at e =
          let other : g ≢ line = grind (arith, nat_tests) in
          subst P (sym (header-other sizes (node == home_of sizes line) line outcome.done outcome.share (state.share node) g (inl other) ∙ ap (λ n. header_of sizes (state.share n) g) (sym at))) was

      go : (c : Bool) → (home_of sizes g == node) ≡ c → P (header_of sizes (cond c share (state.share (home_of sizes g))) g)
      go true e = here (g == line) (grind (arith, nat_tests)) refl
      go false e = was

  pub ranged-row : (node ≡ home_of sizes line → IsHeaderIn sizes.nodes outcome.share.header) → IsSentIn sizes.nodes outcome.sends →
      ((a b : ℕ) (class : Class) → (sizes.nodes ≤ a) ⊎ (sizes.nodes ≤ b) → lane a b class ≡ []) → ((a b : ℕ) (class : Class) → AreIn sizes (lane a b class)) →
      IsRanged sizes (after_row_of sizes node line outcome (record state { lane = lane }))
  ranged-row good sends lanes messages =
      record {
        copies = λ n g far. copy n g far (n == node) refl;
        headers = λ g. header-cases (IsHeaderIn sizes.nodes) g (ranged.headers g) (λ home same. good home);
        strange = λ g far. header-cases (λ h. count h.list ≡ 0) g (ranged.strange g far) (λ home same. absurd (let e : home_of sizes g ≡ home_of sizes line = ap (home_of sizes) same in omega arith));
        lanes = λ a b class far. sent a b class far (a == node) refl;
        messages = λ a b class. are-append sizes (lane a b class) _ (messages a b class) (mine a b class (a == node));
      }
    where
      copy : (n g : ℕ) → (sizes.nodes ≤ n) ⊎ (sizes.nodes ≤ home_of sizes g) → (c : Bool) → (n == node) ≡ c → copy_of (cond c share (state.share n)) g ≡ Absent
      copy n g far false e = ranged.copies n g far
      copy n g (inl far) true e = absurd (let same : n ≡ node = grind (arith, nat_tests) in omega arith)
      copy n g (inr far) true e =
          let other : g ≢ line = λ same. let h : home_of sizes g ≡ home_of sizes line = ap (home_of sizes) same in absurd (omega arith) in
          copy-other sizes (node == home_of sizes line) line outcome.done outcome.share (state.share node) g other ∙ ranged.copies node g (inr far)

      mine : (a b : ℕ) (class : Class) (c : Bool) → AreIn sizes (cond c (tag line (addressed b class outcome.sends)) [])
      mine a b class true = are-tagged sizes line b class outcome.sends home_in sends
      mine a b class false = tt

      sent : (a b : ℕ) (class : Class) → (sizes.nodes ≤ a) ⊎ (sizes.nodes ≤ b) → (c : Bool) → (a == node) ≡ c → lane a b class ++ cond c (tag line (addressed b class outcome.sends)) [] ≡ []
      sent a b class far false e = ap (λ xs. xs ++ []) (lanes a b class far)
      sent a b class (inl far) true e = absurd (let same : a ≡ node = grind (arith, nat_tests) in omega arith)
      sent a b class (inr far) true e = ap (λ xs. xs ++ tag line (addressed b class outcome.sends)) (lanes a b class (inr far)) ∙ ap (tag line) (not-sent sizes.nodes b class outcome.sends sends far)
