-- A forward that is the only message under way finds the owner's copy: what the owner sends settles.
use Rattle.std.proofs.Common.{◌≡◌, ◌≢◌, ℕ, ◌<◌, Bool, true, false, ◌==◌, [], refl, arith, ap, sym, subst, Option}
use Rattle.std.proofs.lemmas.Bool.Decides.{nat_tests}
use Rattle.line_map.specs.Sizes.{Sizes, home_of}
use Rattle.op_model.specs.declared.events.Event.{Event}
use Rattle.op_model.specs.declared.messages.Msg.{Msg}
use Rattle.op_model.specs.Lines.{LineShare, Outcome, Room, is_empty, is_exclusive}
use Rattle.op_model.specs.Messages.{FwdGet, FwdGetX, message, msg_class}
use Rattle.op_model.specs.Run.Runs.{Past}
use Rattle.op_model.specs.Shares.{Charge, State, Trace, copy_of, room_of, share_at}
use Rattle.op_model.specs.Tables.Remote.{meets, on_fwd_get, on_fwd_getx, on_message, row_of}
use Rattle.lane_bounds.proofs.Public.{after_row_of, row_at, taken_of}
use Rattle.schedule_laws.proofs.Completes.{none-naks}
use Rattle.schedule_laws.proofs.Known.{Delivers, IsKnown, IsUsual}
use Rattle.schedule_laws.proofs.Requests.{IsHandedOn, forward-row, forwardx-row}
use Rattle.schedule_laws.proofs.Rounds.{IsRound}
use Rattle.schedule_laws.proofs.Settled.{grants}
use Rattle.schedule_laws.proofs.Settling.{grants_at, still-weight}
use Rattle.schedule_laws.proofs.Single.{OnlyOne, one-taken}
use Rattle.schedule_laws.proofs.Stages.{IsStage, header-away, round-sent, stage-passive}
use Rattle.schedule_laws.proofs.Takes.{round-taken}

-- a forward meets its row elsewhere than at the home
met-forward : (me home src r : ℕ) (alone : Bool) (room : Room) (share : LineShare) → (me == home) ≡ false → on_message me home src alone room (FwdGet r) share ≡ on_fwd_get home r share
unfolding on_message meets row_of
met-forward me home src r alone room share apart = rw apart refl

met-forwardx : (me home src r : ℕ) (alone : Bool) (room : Room) (share : LineShare) → (me == home) ≡ false → on_message me home src alone room (FwdGetX r) share ≡ on_fwd_getx home r share
unfolding on_message meets row_of
met-forwardx me home src r alone room share apart = rw apart refl

module _ (charge : Charge) (trace : Trace) (usual : IsUsual trace) (next : State → Option Event) (delivers : Delivers charge trace usual next) (p line : ℕ) (places : ℕ → ℕ)
    (past : Past) (stage : IsStage charge trace usual next delivers p line places past) (o : ℕ)
    (home_in : home_of trace.sizes line < trace.sizes.nodes) (o_in : o < trace.sizes.nodes) (apart : o ≢ home_of trace.sizes line)
    (has : is_exclusive (copy_of (past.state.share o) line) ≡ true) (waits : grants_at trace.sizes past.state line ≡ 0) where
  abbrev sizes : Sizes
  sizes = trace.sizes

  abbrev home : ℕ
  home = home_of sizes line

  abbrev share : LineShare
  share = share_at sizes past.state o line

  -- what the owner hands on settles
  handed : (m : Msg) (only : OnlyOne home o m past.state.lane) (outcome : Outcome) → IsHandedOn share outcome →
      (then : Past) → IsKnown charge trace then → then.state ≡ after_row_of sizes o line outcome (record past.state { lane = taken_of home o (msg_class m) [] past.state.lane }) → IsRound charge trace usual next delivers p places then 2 0
  handed m only outcome it then known is =
      let after = stage-passive charge trace usual next delivers p line places past.state _ o outcome then known is it.2 stage.tracked stage.granted in
      let away = ap (λ h. grants h.wait) (header-away charge trace usual next delivers p line places past.state _ o outcome then known is apart) in
      let weight = still-weight sizes.nodes outcome.sends in
      let few = it.1 in
      round-sent charge trace usual next delivers p line places past.state _ o outcome then known is 2 (one-taken home o m past.state.lane only) after it.0 (omega arith)

  off : (o == home) ≡ false
  off = grind (arith, nat_tests)

  pub round-forward : (r : ℕ) → OnlyOne home o (message line (FwdGet r)) past.state.lane → IsRound charge trace usual next delivers p places past 3 0
  round-forward r only =
      let row : row_at charge sizes past.state home o line (FwdGet r) ≡ on_fwd_get home r share = met-forward o home home r (is_empty (copy_of (past.state.share o) line)) (room_of charge sizes (past.state.share o)) share off in
      let it : IsHandedOn share (row_at charge sizes past.state home o line (FwdGet r)) = subst (IsHandedOn share) (sym row) (forward-row home r share has) in
      round-taken charge trace usual next delivers past stage.known home o (message line (FwdGet r)) only home_in o_in p places 2 0 refl (none-naks _ it.0)
      (λ then known is. handed (message line (FwdGet r)) only (row_at charge sizes past.state home o line (FwdGet r)) it then known is)

  pub round-forwardx : (r : ℕ) → OnlyOne home o (message line (FwdGetX r)) past.state.lane → IsRound charge trace usual next delivers p places past 3 0
  round-forwardx r only =
      let row : row_at charge sizes past.state home o line (FwdGetX r) ≡ on_fwd_getx home r share = met-forwardx o home home r (is_empty (copy_of (past.state.share o) line)) (room_of charge sizes (past.state.share o)) share off in
      let it : IsHandedOn share (row_at charge sizes past.state home o line (FwdGetX r)) = subst (IsHandedOn share) (sym row) (forwardx-row home r share has) in
      round-taken charge trace usual next delivers past stage.known home o (message line (FwdGetX r)) only home_in o_in p places 2 0 refl (none-naks _ it.0)
      (λ then known is. handed (message line (FwdGetX r)) only (row_at charge sizes past.state home o line (FwdGetX r)) it then known is)
