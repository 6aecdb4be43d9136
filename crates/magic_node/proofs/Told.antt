-- What an act over the parts tells, in the words of one node's act.
use Rattle.std.proofs.Common.{◌≡◌, ℕ, Bool, true, false, cond, not, ◌&&◌, ◌==◌, List, [], Option, Some, Result, Ok, Err, refl, sym, ap, ◌∙◌, subst, inl, inr}
use Rattle.line_map.specs.Sizes.{Sizes, home_of}
use Rattle.op_model.specs.declared.events.Cause.{Cause}
use Rattle.op_model.specs.declared.events.Cause.TheVariants.{LaneGate}
use Rattle.op_model.specs.declared.events.EvictKind.{EvictKind}
use Rattle.op_model.specs.declared.operations.Op.{Op}
use Rattle.op_model.specs.Lines.{LineShare, NoService, Outcome}
use Rattle.op_model.specs.Shares.{Charge, Share, header_of, line_share, room_of, Copies}
use Rattle.op_model.specs.Events.Node.{NodeOutcome, EvictLine, ReclaimLine, bind, by_row, departs, evict_line, local, map_ok, permit}
use Rattle.op_model.specs.Tables.Processor.{evict, reclaim, call_in}
use Rattle.op_model.proofs.Public.{err-ok}
use Rattle.cpu_cache.specs.Effects.{nothing}
use Rattle.line_invariant.proofs.Public.{if-either}
use Rattle.one_history.proofs.Public.{evict-quiet}
use Rattle.cpu_cache.specs.Processors.{ProcView}
use Rattle.dir_header.specs.HomeSides.{HomeView, header_at, room_in}
use Rattle.msg_words.specs.SendList.{SendList}
use Rattle.node_share.specs.Parts.{share_of, row_at, Did, DoesRow}
use Rattle.node_share.specs.Effects.{Acts}
use Rattle.node_share.proofs.Public.{effect-none}

-- an eviction serves nothing
module _ (sizes : Sizes) (node : ℕ) (share : Share) where
  abbrev Quiet : Result NodeOutcome Cause → Type 0
  Quiet r = (out : NodeOutcome) → r ≡ Ok out → (out.served ≡ NoService) × (out.done ≡ false)

  quiet-error : (c : Cause) → Quiet (Err c)
  quiet-error c out e = absurd (err-ok c out e)

  quiet-ok : (x : NodeOutcome) → (x.served ≡ NoService) × (x.done ≡ false) → Quiet (Ok x)
  quiet-ok x q out e = let is : x ≡ out = cc in subst (λ y. (y.served ≡ NoService) × (y.done ≡ false)) is q

  leaving-quiet : (line : ℕ) (kind : EvictKind) (gate : Bool) → Quiet (evict_line sizes node share line kind gate)
  leaving-quiet line kind gate = go (evict node (home_of sizes line) kind (line_share sizes share line)) refl
    where
      go : (r : Result Outcome Cause) → evict node (home_of sizes line) kind (line_share sizes share line) ≡ r → Quiet (bind r (λ outcome. cond (departs (node == home_of sizes line) kind && not gate) (Err LaneGate) (Ok (by_row sizes node share line outcome))))
      go (Err c) e = quiet-error c
      go (Ok o) e =
          let q = evict-quiet (line_share sizes share line) o node (home_of sizes line) kind e in
          if-either Quiet (departs (node == home_of sizes line) kind && not gate) _ _ (λ _. quiet-error _) (λ _. quiet-ok (by_row sizes node share line o) (q.0, q.2))

module _ (charge : Charge) (sizes : Sizes) (node : ℕ) (program : List Op) (place : ℕ) (share : Share) where
  pub leaves : (line : ℕ) (kind : EvictKind) (gate : Bool) (new : Share) (out out' : SendList) → Did (evict_line sizes node share line kind gate) new out out' → Acts node program place [] (local charge sizes node program share (EvictLine line kind gate)) new out out' nothing
  unfolding local
  leaves line kind gate new out out' did =
      let q = leaving-quiet sizes node share line kind gate did.outcome did.is in
      record { outcome = did.outcome; is = did.is; share = did.share; sends = did.sends; told = effect-none node program place [] did.outcome q.0 q.1 }

  pub stays : (line : ℕ) (kind : EvictKind) (gate : Bool) (cause : Cause) → evict_line sizes node share line kind gate ≡ Err cause → local charge sizes node program share (EvictLine line kind gate) ≡ Err cause
  unfolding local
  stays line kind gate cause e = e

  pub calls : (line : ℕ) (new : Share) (out out' : SendList) → DoesRow sizes node share new out out' line call_in → reclaim (room_of charge sizes share) (line_share sizes share line) ≡ Ok (call_in (line_share sizes share line)) →
      Acts node program place [] (local charge sizes node program share (ReclaimLine line)) new out out' nothing
  unfolding local
  calls line new out out' row is = record {
    outcome = row_at sizes node share line call_in;
    is = ap (map_ok (by_row sizes node share line)) is;
    share = row.share;
    sends = row.sends;
    told = effect-none node program place [] (row_at sizes node share line call_in) refl refl;
  }

  pub refuses : (line : ℕ) (cause : Cause) → reclaim (room_of charge sizes share) (line_share sizes share line) ≡ Err cause → local charge sizes node program share (ReclaimLine line) ≡ Err cause
  unfolding local
  refuses line cause is = ap (map_ok (by_row sizes node share line)) is

-- whether an eviction and a reclaim are done
module _ (charge : Charge) (sizes : Sizes) (node : ℕ) (program : List Op) (share : Share) where
  pub leaves-may : (line : ℕ) (kind : EvictKind) (gate : Bool) → permit (evict_line sizes node share line kind gate) ≡ permit (local charge sizes node program share (EvictLine line kind gate))
  unfolding local
  leaves-may line kind gate = refl

  pub called-may : (line : ℕ) → permit (reclaim (room_of charge sizes share) (line_share sizes share line)) ≡ permit (local charge sizes node program share (ReclaimLine line))
  unfolding local
  called-may line = by (reclaim (room_of charge sizes share) (line_share sizes share line))
    where
      by : (r : Result Outcome Cause) → permit r ≡ permit (map_ok (by_row sizes node share line) r)
      by (Ok o) = refl
      by (Err c) = refl
