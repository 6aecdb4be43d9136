-- Each turn keeps one entry more, if its operation is completed.
use Rattle.std.proofs.Common.{◌≡◌, ◌++◌, ◌∷◌, [], ℕ, ◌+◌, ◌<◌, Bool, true, false, cond, List, filter, get_or, length, take, append-nil, ap, sym, ◌∙◌, arith}
use Rattle.std.specs.Vec.{vec_capacity}
use Rattle.std.proofs.lemmas.List.{length_push, take_all}
use Rattle.std.proofs.lemmas.List.Elements.{filter_more}
use Rattle.line_map.specs.Sizes.{Sizes}
use Rattle.op_model.specs.Run.History.{is_completed}
use Rattle.eager_report.specs.declared.aged.AgedEntry.{AgedEntry}
use Rattle.eager_machine.specs.Kept.{state_of}
use Rattle.eager_machine.specs.Lanes.{UnderWay}
use Rattle.eager_machine.proofs.text.completed.Goals as goal
use Rattle.eager_machine.proofs.text.completed.Goals.{then-is_done, else-is_done}

kept-one : (p : AgedEntry → Bool) (ks items items' : List AgedEntry) (i : ℕ) (d : AgedEntry) → i < length ks → items ≡ filter p (take i ks) → true ≡ p (get_or ks i d) → items' ≡ items ++ get_or ks i d ∷ [] → items' ≡ filter p (take (i + 1) ks)
kept-one p ks items items' i d within so_far passes more =
    more ∙ (λ j. so_far j ++ cond (passes j) (get_or ks i d ∷ []) []) ∙ sym (filter_more p ks i d within)

kept-none : (p : AgedEntry → Bool) (ks items items' : List AgedEntry) (i : ℕ) (d : AgedEntry) → i < length ks → items ≡ filter p (take i ks) → false ≡ p (get_or ks i d) → items' ≡ items → items' ≡ filter p (take (i + 1) ks)
kept-none p ks items items' i d within so_far fails same =
    same ∙ sym (append-nil items) ∙ (λ j. so_far j ++ cond (fails j) (get_or ks i d ∷ []) []) ∙ sym (filter_more p ks i d within)

pub loop-aged-preserved : goal.loop-aged-preserved
loop-aged-preserved c =
    let inv = c.loop-aged.invariant in
    let done : Sizes → UnderWay → AgedEntry → Bool = λ sizes way aged. is_completed (state_of sizes c.args.nodes.now.items way) aged.entry in
    elim c.if-is_done.branch [
      | then-is_done w ↦ record {
        kept = λ sizes way. kept-one (done sizes way) c.args.served.now c.loop-aged.entries.items c.if-is_done.entries.items c.loop-aged.aged-index _ c.loop-aged-test.true (inv.kept sizes way) (w.if-is_done.ensures sizes way) (ap (λ v. v.items) w.entries-is ∙ w.push_reserved.ensures.items);
        fits = let long = ap (λ v. length v.items) w.entries-is ∙ ap length w.push_reserved.ensures.items ∙ length_push c.loop-aged.entries.items _ in omega (arith, long, inv.fits);
        room = let same = ap vec_capacity w.entries-is ∙ w.push_reserved.ensures.capacity in omega (arith, same, inv.room);
      }
      | else-is_done w ↦ record {
        kept = λ sizes way. kept-none (done sizes way) c.args.served.now c.loop-aged.entries.items c.if-is_done.entries.items c.loop-aged.aged-index _ c.loop-aged-test.true (inv.kept sizes way) (w.if-is_done.ensures sizes way) (ap (λ v. v.items) w.entries-is);
        fits = let long = ap (λ v. length v.items) w.entries-is in omega (arith, long, inv.fits);
        room = let same = ap vec_capacity w.entries-is in omega (arith, same, inv.room);
      }
    ]

pub returns : goal.returns
returns c = λ sizes way.
    c.loop-aged.invariant.kept sizes way
    ∙ ap (λ (ks : List AgedEntry). filter (λ (aged : AgedEntry). is_completed (state_of sizes c.args.nodes.now.items way) aged.entry) ks) (take_all c.loop-aged.aged-index c.args.served.now c.loop-aged-test.false)
