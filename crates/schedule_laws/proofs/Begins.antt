-- What a processor's event does where it isn't refused: the row of the whole machine, for a Hit, an Issue and an eviction.
use Rattle.std.proofs.Common.{◌≡◌, ◌≢◌, ℕ, Bool, true, false, cond, ◌==◌, ◌&&◌, not, slice_get, refl, arith, ap, sym, ◌∙◌, subst, Some, Result, Ok, Err}
use Rattle.std.proofs.lemmas.Bool.Decides.{nat_tests}
use Rattle.line_map.specs.Sizes.{Sizes, home_of, line_of}
use Rattle.op_model.specs.declared.events.Cause.{Cause}
use Rattle.op_model.specs.declared.events.Cause.TheVariants.{Conflict, HitFirst, LaneGate, Miss, Outstanding}
use Rattle.op_model.specs.declared.events.Class.TheVariants.{Request}
use Rattle.op_model.specs.declared.events.Event.{Event}
use Rattle.op_model.specs.declared.events.Event.TheVariants.{Evict, Hit, Issue}
use Rattle.op_model.specs.declared.events.EvictKind.{EvictKind}
use Rattle.op_model.specs.declared.operations.Op.{Op}
use Rattle.op_model.specs.Events.Node.{NodeOutcome, bind, by_row, departs, hit_next, is_outstanding, issue_next, local, map_ok, with_next}
use Rattle.op_model.specs.Events.Step.{Done, act, effect, has_room, none_off}
use Rattle.op_model.specs.Lines.{Header, LineShare, Outcome}
use Rattle.op_model.specs.Run.Runs.{Past}
use Rattle.op_model.specs.Shares.{Charge, Share, State, Trace, conflicts, copy_of, header_of, line_share, program, room_of, share_at}
use Rattle.op_model.specs.Tables.Processor.{begin_op, evict, hit, serves}
use Rattle.line_invariant.specs.Rows.{with_header, with_header_ok}
use Rattle.line_invariant.proofs.Public.{away-begin, away-evict}
use Rattle.one_history.proofs.Public.{IsOwn, at-home, hit-away, own-row}
use Rattle.lane_bounds.proofs.Public.{IsActOf, just, row-just}
use Rattle.schedule_laws.proofs.Known.{IsKnown, IsUsual}

-- what a row does by the home's header, it does by the node's own share
own-back : (sizes : Sizes) (state : State) (node line : ℕ) (f : LineShare → Result Outcome Cause) → (node ≢ home_of sizes line → (s : LineShare) (h : Header) → f (record s { header = h }) ≡ with_header_ok h (f s)) →
    (x : Outcome) → f (share_at sizes state node line) ≡ Ok x → (o : Outcome) × (f (line_share sizes (state.share node) line) ≡ Ok o) × IsOwn sizes node line o x
own-back sizes state node line f free x is = go (node == home_of sizes line) refl
  where
    go : (c : Bool) → (node == home_of sizes line) ≡ c → (o : Outcome) × (f (line_share sizes (state.share node) line) ≡ Ok o) × IsOwn sizes node line o x
    go true e = (x, ap f (at-home sizes state node line e) ∙ is, (x.share.header, refl, λ t. refl))
    go false e =
        let apart : node ≢ home_of sizes line = grind (arith, nat_tests) in
        let h : Header = header_of sizes (state.share node) line in
        (with_header h x, free apart (share_at sizes state node line) h ∙ ap (with_header_ok h) is, (h, refl, λ t. absurd (let d : true ≡ false = sym t ∙ e in cc)))

-- an event does this row of a line at a node, and nothing else
abbrev pub IsMade : Charge → Trace → Past → Event → ℕ → ℕ → Outcome → Type 0
IsMade charge trace past event node line outcome =
    (done : Done) × (effect charge trace.sizes (program trace) past.state event ≡ Ok done) × IsActOf trace.sizes past.state done (just past.state node line outcome)

module _ (charge : Charge) (trace : Trace) (usual : IsUsual trace) (past : Past) (known : IsKnown charge trace past) where
  abbrev sizes : Sizes
  sizes = trace.sizes

  abbrev share : ℕ → Share
  share node = past.state.share node

  made : (event : Event) (node line : ℕ) (own o : Outcome) → IsOwn sizes node line own o →
      effect charge sizes (program trace) past.state event ≡ Ok (record { node = node; out = by_row sizes node (share node) line own; off = none_off }) → IsMade charge trace past event node line o
  made event node line own o is e =
      let met = row-just charge trace usual.words past known.sound (λ a. a ≡ just past.state node line o) node line own o is refl in
      (record { node = node; out = by_row sizes node (share node) line own; off = none_off }, e, subst (λ a. IsActOf sizes past.state (record { node = node; out = by_row sizes node (share node) line own; off = none_off }) a) met.1 met.2)

  module _ (p : ℕ) (op : Op) (next : slice_get (program trace p) (share p).place ≡ Some op) (free : is_outstanding (share p).want ≡ false) where
    abbrev line : ℕ
    line = line_of sizes op.word

    with-op : (f : Op → Result NodeOutcome Cause) → with_next (share p) (slice_get (program trace p) (share p).place) f ≡ f op
    with-op f = ap (λ o. with_next (share p) o f) next ∙ ap (λ b. cond b (Err Outstanding) (f op)) free

    pub hit-made : serves op (copy_of (share p) line) ≡ true → IsMade charge trace past (Hit p) p line (hit op (share_at sizes past.state p line))
    unfolding local
    hit-made serve =
        made (Hit p) p line (hit op (line_share sizes (share p) line)) _ (own-row sizes past.state p line (hit op) (λ apart s h. hit-away op s h))
        (ap (act p none_off) (with-op (hit_next sizes p (share p))) ∙ ap (λ b. act p none_off (cond b (Ok (by_row sizes p (share p) line (hit op (line_share sizes (share p) line)))) (Err Miss))) serve)

    -- where the copy doesn't serve, a Hit is refused
    pub hit-missed : serves op (copy_of (share p) line) ≡ false → effect charge sizes (program trace) past.state (Hit p) ≡ Err Miss
    unfolding local
    hit-missed serve =
        ap (act p none_off) (with-op (hit_next sizes p (share p))) ∙ ap (λ b. act p none_off (cond b (Ok (by_row sizes p (share p) line (hit op (line_share sizes (share p) line)))) (Err Miss))) serve

    pub issue-made : serves op (copy_of (share p) line) ≡ false → conflicts sizes (share p) line ≡ false → (o : Outcome) → begin_op p (home_of sizes line) (room_of charge sizes (share p)) op (share_at sizes past.state p line) ≡ Ok o →
        IsMade charge trace past (Issue p) p line o
    unfolding local
    issue-made serve alone o is =
        let own = own-back sizes past.state p line (begin_op p (home_of sizes line) (room_of charge sizes (share p)) op) (λ apart s h. away-begin p (home_of sizes line) apart s h (room_of charge sizes (share p)) op) o is in
        let begin : Result NodeOutcome Cause = map_ok (by_row sizes p (share p) line) (begin_op p (home_of sizes line) (room_of charge sizes (share p)) op (line_share sizes (share p) line)) in
        made (Issue p) p line own.0 o own.2
        (ap (act p none_off) (with-op (issue_next charge sizes p (share p)))
        ∙ ap (λ b. act p none_off (cond b (Err HitFirst) (cond (conflicts sizes (share p) line) (Err Conflict) begin))) serve
        ∙ ap (λ b. act p none_off (cond b (Err Conflict) begin)) alone
        ∙ ap (λ r. act p none_off (map_ok (by_row sizes p (share p) line) r)) own.1)

  pub evict-made : (p g : ℕ) (kind : EvictKind) (o : Outcome) → evict p (home_of sizes g) kind (share_at sizes past.state p g) ≡ Ok o →
      (departs (p == home_of sizes g) kind && not (has_room sizes (past.state.lane p (home_of sizes g) Request))) ≡ false → IsMade charge trace past (Evict p g kind) p g o
  unfolding local
  evict-made p g kind o is gate =
      let own = own-back sizes past.state p g (evict p (home_of sizes g) kind) (λ apart s h. away-evict p (home_of sizes g) apart s h kind) o is in
      let room : Bool = has_room sizes (past.state.lane p (home_of sizes g) Request) in
      made (Evict p g kind) p g own.0 o own.2
      (ap (λ r. act p none_off (bind r (λ outcome. cond (departs (p == home_of sizes g) kind && not room) (Err LaneGate) (Ok (by_row sizes p (share p) g outcome))))) own.1
      ∙ ap (λ b. act p none_off (cond b (Err LaneGate) (Ok (by_row sizes p (share p) g own.0)))) gate)
