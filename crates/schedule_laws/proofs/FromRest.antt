-- What a row leaves where nothing is under way: of what the nodes have begun and, where a line leaves a cache, of the places and the copies.
use Rattle.std.proofs.Common.{◌≡◌, ◌≢◌, ℕ, suc, ◌<◌, inl, inr, Bool, false, cond, nat_lt, ◌==◌, ◌&&◌, not, List, [], refl, arith, ap, sym, ◌∙◌, subst, None, is_some}
use Rattle.std.proofs.lemmas.Bool.Decides.{nat_tests}
use Rattle.line_map.specs.Sizes.{Sizes, home_of}
use Rattle.op_model.specs.declared.messages.Msg.{Msg}
use Rattle.op_model.specs.Events.Step.{departures, has_room}
use Rattle.op_model.specs.Lines.{Absent, Outcome}
use Rattle.op_model.specs.Shares.{Lanes, Share, State, copy_of, put_share, want_after}
use Rattle.one_history.proofs.Public.{copy-other, copy-same, put-stays}
use Rattle.lane_bounds.proofs.Public.{after_row_of}
use Rattle.schedule_laws.proofs.Settling.{GoesOn, IsTracked, IsUnderway, at-share}

-- an empty lane has room for a message that leaves
pub open-gate : (sizes : Sizes) (lane : List Msg) (leaves : Bool) → lane ≡ [] → 0 < sizes.evicts → (leaves && not (has_room sizes lane)) ≡ false
open-gate sizes lane leaves empty some = go (departures lane) sizes.evicts (ap departures empty) some
  where
    go : (n limit : ℕ) → n ≡ 0 → 0 < limit → (leaves && not (nat_lt n limit)) ≡ false
    go n limit none most = grind (arith, nat_tests)

module _ (sizes : Sizes) (state : State) (p line : ℕ) (outcome : Outcome) where
  abbrev row : Share
  row = put_share sizes (p == home_of sizes line) line outcome.done outcome.share (state.share p)

  -- what a row of p leaves begun or done, while the others have begun nothing
  pub tracked-first : ((n : ℕ) → (state.share n).want ≡ None) → (lane : Lanes) → GoesOn outcome → IsTracked p (λ n. (state.share n).place) (after_row_of sizes p line outcome (record state { lane = lane }))
  unfolding put_share
  tracked-first free lane goes =
      record {
        others = λ n apart. at-share sizes state lane p line outcome (λ s. (s.want ≡ None) × (s.place ≡ (state.share n).place)) n (λ _. (free n, refl)) (λ same. absurd (apart same));
        own = at-share sizes state lane p line outcome (IsUnderway (state.share p).place) p (λ apart. absurd (apart refl)) (λ _. mine goes);
      }
    where
      want-is : row.want ≡ outcome.share.want
      want-is = ap (λ w. want_after sizes w line outcome.share.want) (free p)

      place-is : row.place ≡ cond outcome.done (suc (state.share p).place) (state.share p).place
      place-is = refl

      mine : GoesOn outcome → IsUnderway (state.share p).place row
      mine (inl done) = inr (want-is ∙ done.1, place-is ∙ ap (λ d. cond d (suc (state.share p).place) (state.share p).place) done.0)
      mine (inr begun) = inl (ap is_some want-is ∙ begun.1, place-is ∙ ap (λ d. cond d (suc (state.share p).place) (state.share p).place) begun.0)

  -- a row that completes nothing, as where a line leaves a cache
  module _ (after : State) (at : after ≡ after_row_of sizes p line outcome state) where
    share-after : (P : Share → Type 0) (n : ℕ) → (n ≢ p → P (state.share n)) → (n ≡ p → P row) → P (after.share n)
    share-after P n was is = subst (λ (s : State). P (s.share n)) (sym at) (at-share sizes state state.lane p line outcome P n was is)

    pub places-after : outcome.done ≡ false → (n : ℕ) → (after.share n).place ≡ (state.share n).place
    places-after undone n = share-after (λ s. s.place ≡ (state.share n).place) n (λ _. refl) (λ same. put-stays sizes (p == home_of sizes line) line outcome.done outcome.share (state.share p) undone ∙ ap (λ k. (state.share k).place) (sym same))

    pub copies-after : (x : ℕ) → x ≢ line → copy_of (after.share p) x ≡ copy_of (state.share p) x
    copies-after x other = share-after (λ s. copy_of s x ≡ copy_of (state.share p) x) p (λ far. absurd (far refl)) (λ _. copy-other sizes (p == home_of sizes line) line outcome.done outcome.share (state.share p) x other)

    pub gone-after : outcome.share.copy ≡ Absent → copy_of (after.share p) line ≡ Absent
    gone-after gone = share-after (λ s. copy_of s line ≡ Absent) p (λ far. absurd (far refl)) (λ _. copy-same sizes (p == home_of sizes line) line outcome.done outcome.share (state.share p) ∙ gone)
