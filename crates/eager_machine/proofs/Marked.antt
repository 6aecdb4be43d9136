-- The set of busy lanes: it follows one lane's change, and its first lane is the first one that isn't empty.
use Rattle.std.proofs.Common.{◌≡◌, ◌↔◌, ℕ, suc, ◌<◌, ◌≤◌, Bool, true, false, cond, ◌==◌, ◌&&◌, not, refl, ap, sym, ◌∙◌, arith, List, [], ◌∷◌, ◌++◌, drop, length, map, set, get_or, Option, Some, None, IsNone, IfSome}
use Rattle.std.specs.Prelude.{nat_lt}
use Rattle.std.specs.Option.{option_map}
use Rattle.std.proofs.lemmas.Bool.Decides.{nat_tests}
use Rattle.std.proofs.lemmas.List.{length-set}
use Rattle.line_map.specs.Sizes.{Sizes}
use Rattle.op_model.specs.declared.events.Class.{Class}
use Rattle.op_model.specs.Shares.{Lanes}
use Rattle.op_model.specs.Run.Schedules.{Lane, first_busy_in, is_no_message}
use Rattle.lane_queues.specs.BusyLanes.{marks_of, Remarks}
use Rattle.lane_queues.specs.FirstBusy.{AnswersFirst, busy_in, lane_named}
use Rattle.lane_queues.specs.LaneStates.{same_lane}
use Rattle.lane_queues.specs.Queues.{lane_count, lane_number}
use Rattle.lane_queues.proofs.Public.{answer_defined, narrowed}
use Rattle.machine_face.specs.Reads.{IsLane}
use Rattle.eager_machine.specs.declared.queue.AgedMsg.{AgedMsg}
use Rattle.eager_machine.specs.Lanes.{AgedQueues, UnderWay, lane_in, messages_of, msg_of, with_lane, IsBetween, IsSilent}
use Rattle.eager_machine.specs.Marks.{AreMarked}
use Rattle.eager_machine.proofs.Queues.{lane-read, lane-dropped, lane-pushed, lane-kept}

-- whether a lane holds a message, by its length
some-is : (messages : List AgedMsg) → not (length messages == 0) ≡ not (is_no_message (map msg_of messages))
some-is [] = refl
some-is (m ∷ messages) = above (length messages)
  where
    above : (n : ℕ) → not (suc n == 0) ≡ true
    above n = grind (arith, nat_tests)

pushed-some : (messages : List AgedMsg) (aged : AgedMsg) → true ≡ not (is_no_message (map msg_of (messages ++ aged ∷ [])))
pushed-some [] aged = refl
pushed-some (m ∷ messages) aged = refl

-- no message, and so no message with its age
none-aged : (messages : List AgedMsg) → not (is_no_message (map msg_of messages)) ≡ false → messages ≡ []
none-aged [] e = refl
none-aged (m ∷ messages) e = cc

-- lanes as they are made
pub marked-new : (sizes : Sizes) (lists : List (List AgedMsg)) (masks : List ℕ) → length lists ≡ lane_count sizes.nodes → sizes.nodes ≤ 64 → lane_in (record { sizes = sizes; lists = lists }) ≡ (λ src dst class. []) → ((src dst : ℕ) (class : Class) → marks_of masks src dst class ≡ false) →
    AreMarked (record { sizes = sizes; lists = lists }) masks
marked-new sizes lists masks count few empty quiet = record {
  count = count;
  few = few;
  marks = λ a b k x y. quiet a b k ∙ ap (λ (w : UnderWay). busy_in (messages_of w) a b k) (sym empty);
}

-- the lanes after one of them has changed, with its mark put as it is then
marked-set : (old new : AgedQueues) (masks after : List ℕ) → AreMarked old masks → new.sizes ≡ old.sizes → length new.lists ≡ length old.lists → (src dst : ℕ) (class : Class) (messages : List AgedMsg) → lane_in new ≡ with_lane (lane_in old) src dst class messages →
    (mark : Bool) → mark ≡ not (is_no_message (map msg_of messages)) → Remarks masks after src dst class mark → AreMarked new after
marked-set old new masks after are sized long src dst class messages lanes mark is remarks = record {
  count = long ∙ are.count ∙ ap (λ (s : Sizes). lane_count s.nodes) (sym sized);
  few = (let same = ap (λ (s : Sizes). s.nodes) sized in let few = are.few in omega (arith, same, few));
  marks = λ a b k x y. remarks a b k x y ∙ chosen a b k x y (same_lane src dst class a b k) ∙ ap (λ (w : UnderWay). busy_in (messages_of w) a b k) (sym lanes);
}
  where
    chosen : (a b : ℕ) (k : Class) → a < 64 → b < 64 → (same : Bool) → cond same mark (marks_of masks a b k) ≡ not (is_no_message (map msg_of (cond same messages (lane_in old a b k))))
    chosen a b k x y true = is
    chosen a b k x y false = are.marks a b k x y

-- a message less, and one more
module _ (queues : AgedQueues) (masks : List ℕ) (are : AreMarked queues masks) (src dst : ℕ) (class : Class) (from : src < queues.sizes.nodes) (to : dst < queues.sizes.nodes) (n : ℕ) (number : n ≡ lane_number queues.sizes.nodes src dst class) (queue new : List AgedMsg) (is : queue ≡ get_or queues.lists n queue) where
  abbrev with_new : AgedQueues
  with_new = record queues { lists = set queues.lists n new }

  read : queue ≡ lane_in queues src dst class
  read = lane-read queues are.count src dst class from to n number queue queue is

  pub marked-dropped : new ≡ drop 1 queue → (empty : Bool) → empty ≡ (length new == 0) → (after : List ℕ) → Remarks masks after src dst class (not empty) → AreMarked with_new after
  marked-dropped less empty test after remarks =
      marked-set queues with_new masks after are refl (length-set queues.lists n new) src dst class (drop 1 (lane_in queues src dst class)) (lane-dropped queues are.count src dst class from to n number queue new is less) (not empty)
      (ap not test ∙ some-is new ∙ ap (λ ms. not (is_no_message (map msg_of ms))) (less ∙ ap (drop 1) read)) remarks

  pub marked-pushed : (aged : AgedMsg) → new ≡ queue ++ aged ∷ [] → (after : List ℕ) → Remarks masks after src dst class true → AreMarked with_new after
  marked-pushed aged more after remarks =
      marked-set queues with_new masks after are refl (length-set queues.lists n new) src dst class (lane_in queues src dst class ++ aged ∷ []) (lane-pushed queues are.count src dst class from to n number queue new aged is more) true
      (pushed-some (lane_in queues src dst class) aged) remarks

  pub marked-kept : new ≡ queue → AreMarked with_new masks
  marked-kept same = record {
    count = length-set queues.lists n new ∙ are.count;
    few = are.few;
    marks = λ a b k x y. are.marks a b k x y ∙ ap (λ (w : UnderWay). busy_in (messages_of w) a b k) (sym (lane-kept queues n queue new is same));
  }

-- the answer as the lane that it names
lane-of : (answer : Option (ℕ × ℕ × Class)) (found : Option Lane) → option_map lane_named answer ≡ found → IsLane answer found
lane-of None found e = sym e
lane-of (Some lane) found e = sym e

module _ (queues : AgedQueues) (masks : List ℕ) (are : AreMarked queues masks) where
  abbrev nodes : ℕ
  nodes = queues.sizes.nodes

  abbrev lanes : Lanes
  lanes = messages_of (lane_in queues)

  -- nothing is under way from or to a node that isn't there
  within-nodes : (src dst : ℕ) (class : Class) (inside : Bool) → (nat_lt src nodes && nat_lt dst nodes) ≡ inside → (messages : List AgedMsg) → not (is_no_message (map msg_of (cond inside messages []))) ≡ true → (src < nodes) × (dst < nodes)
  within-nodes src dst class true test messages busy = (grind (arith, nat_tests), grind (arith, nat_tests))
  within-nodes src dst class false test messages busy = cc

  abbrev First : Option (ℕ × ℕ × Class) → Type 0
  First answer = AnswersFirst nodes (busy_in lanes) answer

  first-marked : (answer : Option (ℕ × ℕ × Class)) → AnswersFirst 64 (marks_of masks) answer → First answer
  first-marked answer is =
      narrowed nodes (marks_of masks) (busy_in lanes) are.few are.marks
      (λ a b k busy. within-nodes a b k (nat_lt a nodes && nat_lt b nodes) refl (get_or queues.lists (lane_number nodes a b k) []) busy) answer is

  pub first-is : (answer : Option (ℕ × ℕ × Class)) → AnswersFirst 64 (marks_of masks) answer → IsLane answer (first_busy_in queues.sizes lanes)
  first-is answer is = lane-of answer (first_busy_in queues.sizes lanes) (answer_defined queues.sizes lanes answer (first-marked answer is))

  between : (answer : Option (ℕ × ℕ × Class)) → First answer → IfSome answer (IsBetween queues.sizes)
  between None quiet = tt
  between (Some lane) is = (is.from, is.first.to)

  pub first-between : (answer : Option (ℕ × ℕ × Class)) → AnswersFirst 64 (marks_of masks) answer → IfSome answer (IsBetween queues.sizes)
  first-between answer is = between answer (first-marked answer is)

  silent : (answer : Option (ℕ × ℕ × Class)) → First answer → IsNone answer ↔ ((src : ℕ) → IsSilent (lane_in queues) src)
  silent None quiet = (λ none src dst class. at src dst class (nat_lt src nodes && nat_lt dst nodes) refl, λ empty. refl)
    where
      at : (src dst : ℕ) (class : Class) (inside : Bool) → (nat_lt src nodes && nat_lt dst nodes) ≡ inside → lane_in queues src dst class ≡ []
      at src dst class true test =
          let from : src < nodes = grind (arith, nat_tests) in
          let to : dst < nodes = grind (arith, nat_tests) in
          none-aged (lane_in queues src dst class) (quiet src from dst class to)
      at src dst class false test = ap (λ b. cond b (get_or queues.lists (lane_number nodes src dst class) []) []) test
  silent (Some lane) is = (
    λ none. absurd (let never : true ≡ false = none in cc),
    λ empty. absurd (let never : false ≡ true = sym (ap (λ ms. not (is_no_message (map msg_of ms))) (empty lane.0 lane.1 lane.2)) ∙ is.first.marked in cc),
  )

  pub first-silent : (answer : Option (ℕ × ℕ × Class)) → AnswersFirst 64 (marks_of masks) answer → IsNone answer ↔ ((src : ℕ) → IsSilent (lane_in queues) src)
  first-silent answer is = silent answer (first-marked answer is)
