-- What an event served, read from the shares after it.
use Rattle.std.proofs.Common.{◌≡◌, ℕ, Bool, true, false, cond, ◌==◌, refl, ap, arith, sym, ◌∙◌, Option}
use Rattle.std.proofs.lemmas.Bool.Decides.{nat_tests}
use Rattle.line_map.specs.Sizes.{Sizes}
use Rattle.op_model.specs.declared.messages.Msg.{Msg}
use Rattle.op_model.specs.Operations.{Words}
use Rattle.op_model.specs.Lines.{Service, NoService, Own, For}
use Rattle.op_model.specs.Messages.{msg_line}
use Rattle.op_model.specs.Shares.{Lanes, Share, want_on}
use Rattle.op_model.specs.Events.Node.{NodeOutcome}
use Rattle.op_model.specs.Run.Runs.{entries_of, entry_for}
use Rattle.cpu_cache.specs.Effects.{served_of}
use Rattle.machine.specs.Acts.{entries_after, IsRead}

module _ (sizes : Sizes) (share share' : ℕ → Share) (node : ℕ) (out : NodeOutcome) (taken : Option Msg) (after : (q : ℕ) → share' q ≡ cond (q == node) out.share (share q)) where
  -- a node that is sent words stands where it stood, and wants what it wanted
  spot : IsRead (share node) out taken → (q : ℕ) → (share' q).place ≡ (share q).place
  spot read q = ap (λ (s : Share). s.place) (after q) ∙ at-node (q == node) refl
    where
      at-node : (b : Bool) → (q == node) ≡ b → (cond b out.share (share q)).place ≡ (share q).place
      at-node true test = let here : node ≡ q = grind (arith, nat_tests) in read.place ∙ ap (λ n. (share n).place) here
      at-node false test = refl

  wish : IsRead (share node) out taken → (q : ℕ) → (share' q).want ≡ (share q).want
  wish read q = ap (λ (s : Share). s.want) (after q) ∙ at-node (q == node) refl
    where
      at-node : (b : Bool) → (q == node) ≡ b → (cond b out.share (share q)).want ≡ (share q).want
      at-node true test = let here : node ≡ q = grind (arith, nat_tests) in read.want ∙ ap (λ n. (share n).want) here
      at-node false test = refl

  pub served-after : (lane : Lanes) → ((reader : ℕ) (on : Words) → out.served ≡ For reader on → IsRead (share node) out taken) →
      entries_after sizes share' taken (served_of node (share node).place out.served) ≡ entries_of sizes (record { share = share; lane = lane }) node out.line out.served
  served-after lane reads = go out.served refl
    where
      go : (s : Service) → out.served ≡ s → entries_after sizes share' taken (served_of node (share node).place s) ≡ entries_of sizes (record { share = share; lane = lane }) node out.line s
      go NoService at = refl
      go (Own op on) at = refl
      go (For reader on) at =
          let read = reads reader on at in
          let same : (share' reader).place ≡ (share reader).place = spot read reader in
          let wants : (share' reader).want ≡ (share reader).want = wish read reader in
          ap (λ t. entries_after sizes share' t (served_of node (share node).place (For reader on))) read.taken_is
          ∙ (λ i. entry_for reader (same i) on (want_on sizes (wants i) (msg_line read.m)))
          ∙ ap (λ l. entry_for reader (share reader).place on (want_on sizes (share reader).want l)) (sym read.line)
