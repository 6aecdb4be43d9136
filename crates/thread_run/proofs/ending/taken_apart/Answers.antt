-- Each box is taken apart into its node, its log and its seat.
use Rattle.std.proofs.Common.{◌≡◌, ◌∷◌, [], ◌++◌, List, ap, sym, subst, ◌∙◌}
use Rattle.std.specs.Prelude.{All, map}
use Rattle.std.proofs.lemmas.List.{map_push}
use Rattle.std.proofs.lemmas.List.Elements.{All-push, All-head, All-tail}
use Rattle.step_journal.specs.Logs.{LogList}
use Rattle.node_box.specs.Boxes.{BoxView}
use Rattle.thread_run.specs.Closed.{IsDone, IsSoundNode, IsClosed, box_node, box_entries, box_seat}
use Rattle.thread_run.proofs.Starting.{moved_on}
use Rattle.thread_run.proofs.ending.taken_apart.Goals as goal

pushed : {A B : Type 0} (f : A → B) (now old : List B) (y : B) (xs : List A) (x : A) → now ≡ old ++ y ∷ [] → old ≡ map f xs → y ≡ f x → now ≡ map f (xs ++ x ∷ [])
pushed f now old y xs x e same is = e ∙ ((λ k. same k ++ is k ∷ []) ∙ sym (map_push f xs x))

pushed_by : {A B C : Type 0} (g : B → C) (f : A → C) (now old : List B) (y : B) (xs : List A) (x : A) → now ≡ old ++ y ∷ [] → map g old ≡ map f xs → g y ≡ f x → map g now ≡ map f (xs ++ x ∷ [])
pushed_by g f now old y xs x e same is = ap (map g) e ∙ (map_push g old y ∙ ((λ k. same k ++ is k ∷ []) ∙ sym (map_push f xs x)))

pub loop-one-preserved : goal.loop-one-preserved
loop-one-preserved g c =
    let inv = c.loop-one.invariant in
    let box : BoxView = c.in-Some.one in
    let rest = c.next.new.self.rest.items in
    let parts = c.into_parts-node.ensures in
    let left = subst (All (λ (b : BoxView). IsDone b.node)) c.in-Some.ensures.steps.0 inv.left in
    let done = All-head (λ (b : BoxView). IsDone b.node) box rest left in
    record {
      split = moved_on c.args.boxes.items c.loop-one.yielded c.loop-one.one-iterator.rest.items rest box inv.split c.in-Some.ensures.steps.0;
      nodes = pushed box_node c.push.new.self.items c.loop-one.nodes.items c.into_parts-node.result.0 c.loop-one.yielded box c.in_ok-push.ensures.items inv.nodes parts.node;
      logs = pushed_by (λ (log : LogList). log.entries) box_entries c.push-in-loop-one.new.self.items c.loop-one.logs.items c.into_parts-node.result.1 c.loop-one.yielded box c.in_ok-push-2.ensures.items inv.logs (parts.log ∙ sym parts.kept.log);
      seats = pushed box_seat c.push-in-loop-one-2.new.self.items c.loop-one.seats.items c.into_parts-node.result.2 c.loop-one.yielded box c.in_ok-push-3.ensures.items inv.seats parts.seat;
      closed = All-push (IsClosed g.K.Named.table) c.loop-one.yielded box inv.closed (record { kept = parts.kept; done = done; sound = subst IsSoundNode parts.node c.told.ensures });
      left = All-tail (λ (b : BoxView). IsDone b.node) box rest left;
    }
