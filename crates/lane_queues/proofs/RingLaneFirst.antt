-- The first marked lane is the first busy one: a lane from or to a node that isn't there holds nothing, and so isn't marked. Also lanes as they are made.
use Rattle.std.proofs.Common.{◌≡◌, ℕ, ◌*◌, ◌^◌, ◌<◌, ◌≤◌, ◌⊎◌, inl, inr, true, false, ◌&&◌, not, ap, sym, ◌∙◌, arith, List, [], get_or, Option, Some, None, IfSome, replicate}
use Rattle.std.proofs.lemmas.Bool.{cases_lt, and_parts}
use Rattle.std.proofs.lemmas.List.{get_or-replicate, length-replicate}
use Rattle.std.proofs.Math.ListN.{get_or-eq_default}
use Rattle.line_map.specs.Sizes.{Sizes}
use Rattle.op_model.specs.declared.events.Class.{Class}
use Rattle.op_model.specs.declared.events.Class.TheVariants.{Request}
use Rattle.op_model.specs.declared.messages.Msg.{Msg}
use Rattle.op_model.specs.Events.Step.{departures}
use Rattle.op_model.specs.Run.Schedules.{Lane, is_no_message, lane_before}
use Rattle.lane_queues.specs.LaneStates.{no_messages}
use Rattle.lane_queues.specs.FirstBusy.{Marks, behind, busy_in, lane_named, AnswersFirst, IsBusy}
use Rattle.lane_queues.specs.BusyLanes.{marks_of}
use Rattle.lane_queues.specs.Queues.{Queues, lane_count, lane_in, meaning_of}
use Rattle.lane_queues.specs.Counted.{pair_number, AreCounted}
use Rattle.lane_queues.proofs.Meaning.{lane_in-outside, nothing_under_way, same_lanes}

below_nodes : (queues : Queues) (src dst : ℕ) (class : Class) → busy_in (lane_in queues) src dst class ≡ true → (src < queues.sizes.nodes) × (dst < queues.sizes.nodes)
below_nodes queues src dst class busy = (from (cases_lt src queues.sizes.nodes), to (cases_lt dst queues.sizes.nodes))
  where
    never : lane_in queues src dst class ≡ [] → ⊥
    never e = let none : false ≡ true = rw e at busy in cc

    from : (src < queues.sizes.nodes) ⊎ (queues.sizes.nodes ≤ src) → src < queues.sizes.nodes
    from (inl below) = below
    from (inr out) = absurd (never (lane_in-outside queues src dst class (inl out)))

    to : (dst < queues.sizes.nodes) ⊎ (queues.sizes.nodes ≤ dst) → dst < queues.sizes.nodes
    to (inl below) = below
    to (inr out) = absurd (never (lane_in-outside queues src dst class (inr out)))

pub first_of_marks : (queues : Queues) (counts masks : List ℕ) → AreCounted queues counts masks → (answer : Option (ℕ × ℕ × Class)) → AnswersFirst 64 (marks_of masks) answer → AnswersFirst queues.sizes.nodes (busy_in (lane_in queues)) answer
first_of_marks queues counts masks are None quiet = λ src from dst class to.
    sym (are.marks src dst class (omega (arith, from, are.few)) (omega (arith, to, are.few))) ∙ quiet src (omega (arith, from, are.few)) dst class (omega (arith, to, are.few))
first_of_marks queues counts masks are (Some lane) is = record {
  from = inside.0;
  first = record {
    to = inside.1;
    marked = busy;
    before = λ other k less. sym (are.marks lane.0 other k is.from (omega (arith, less, is.first.to))) ∙ is.first.before other k less;
    requests = λ e. sym (are.marks lane.0 lane.1 Request is.from is.first.to) ∙ is.first.requests e;
  };
  before = λ other dst k less to. sym (are.marks other dst k (omega (arith, less, is.from)) (omega (arith, to, are.few))) ∙ is.before other dst k less (omega (arith, to, are.few));
}
  where
    busy : busy_in (lane_in queues) lane.0 lane.1 lane.2 ≡ true
    busy = sym (are.marks lane.0 lane.1 lane.2 is.from is.first.to) ∙ is.first.marked

    inside : (lane.0 < queues.sizes.nodes) × (lane.1 < queues.sizes.nodes)
    inside = below_nodes queues lane.0 lane.1 lane.2 busy

-- marks that agree below 64, and with which no lane is marked outside of the machine
pub narrowed : (nodes : ℕ) (marks busy : Marks) → nodes ≤ 64 → ((a b : ℕ) (k : Class) → a < 64 → b < 64 → marks a b k ≡ busy a b k) → ((a b : ℕ) (k : Class) → busy a b k ≡ true → (a < nodes) × (b < nodes)) → (answer : Option (ℕ × ℕ × Class)) →
    AnswersFirst 64 marks answer → AnswersFirst nodes busy answer
narrowed nodes marks busy few agree inside None quiet = λ src from dst class to.
    sym (agree src dst class (omega (arith, from, few)) (omega (arith, to, few))) ∙ quiet src (omega (arith, from, few)) dst class (omega (arith, to, few))
narrowed nodes marks busy few agree inside (Some lane) is = record {
  from = within.0;
  first = record {
    to = within.1;
    marked = found;
    before = λ other k less. sym (agree lane.0 other k is.from (omega (arith, less, is.first.to))) ∙ is.first.before other k less;
    requests = λ e. sym (agree lane.0 lane.1 Request is.from is.first.to) ∙ is.first.requests e;
  };
  before = λ other dst k less to. sym (agree other dst k (omega (arith, less, is.from)) (omega (arith, to, few))) ∙ is.before other dst k less (omega (arith, to, few));
}
  where
    found : busy lane.0 lane.1 lane.2 ≡ true
    found = sym (agree lane.0 lane.1 lane.2 is.from is.first.to) ∙ is.first.marked

    within : (lane.0 < nodes) × (lane.1 < nodes)
    within = inside lane.0 lane.1 lane.2 found

pub next_of_marks : (queues : Queues) (counts masks : List ℕ) → AreCounted queues counts masks → (here : Lane) (answer : Option (ℕ × ℕ × Class)) → AnswersFirst 64 (behind here (marks_of masks)) answer → AnswersFirst queues.sizes.nodes (behind here (busy_in (lane_in queues))) answer
next_of_marks queues counts masks are here answer is =
    narrowed queues.sizes.nodes (behind here (marks_of masks)) (behind here (busy_in (lane_in queues))) are.few
    (λ a b k from to. ap (λ t. lane_before here (lane_named (a, b, k)) && t) (are.marks a b k from to))
    (λ a b k found. below_nodes queues a b k (and_parts (lane_before here (lane_named (a, b, k))) (busy_in (lane_in queues) a b k) found).1) answer is

pub answer_busy : (queues : Queues) (answer : Option (ℕ × ℕ × Class)) → AnswersFirst queues.sizes.nodes (busy_in (lane_in queues)) answer → IfSome answer (IsBusy (meaning_of queues))
answer_busy queues None quiet = tt
answer_busy queues (Some lane) is = record { from = is.from; to = is.first.to; some = λ e. let busy = is.first.marked in let never : false ≡ true = rw e at busy in cc }

-- lanes as they are made
made_empty : (count n : ℕ) → get_or (replicate {A = List Msg} count []) n [] ≡ []
made_empty count n = go (cases_lt n count)
  where
    go : (n < count) ⊎ (count ≤ n) → get_or (replicate {A = List Msg} count []) n [] ≡ []
    go (inl below) = get_or-replicate count n [] [] below
    go (inr past) = get_or-eq_default (replicate {A = List Msg} count []) [] (let long = length-replicate {A = List Msg} count [] in omega (arith, long, past))

made_zero : (count n : ℕ) → get_or (replicate {A = ℕ} count 0) n 0 ≡ 0
made_zero count n = go (cases_lt n count)
  where
    go : (n < count) ⊎ (count ≤ n) → get_or (replicate {A = ℕ} count 0) n 0 ≡ 0
    go (inl below) = get_or-replicate count n 0 0 below
    go (inr past) = get_or-eq_default (replicate {A = ℕ} count 0) 0 (let long = length-replicate {A = ℕ} count 0 in omega (arith, long, past))

pub counted_new : (sizes : Sizes) (requests replies : ℕ) (queues : Queues) (counts masks : List ℕ) (nodes : ℕ) → queues ≡ record { sizes = sizes; requests = requests; replies = replies; lists = replicate (lane_count sizes.nodes) [] } → nodes ≡ sizes.nodes → nodes ≤ 64 → requests < 2 ^ 32 → counts ≡ replicate (nodes * nodes) 0
    → ((src dst : ℕ) (class : Class) → marks_of masks src dst class ≡ false) → AreCounted queues counts masks
counted_new sizes requests replies queues counts masks nodes is same few fits zeros quiet =
    rw (is, zeros, same) (record {
      are = record { count = length-replicate {A = List Msg} (lane_count sizes.nodes) []; each = λ a b k x y. rw (made_empty (lane_count sizes.nodes) _) (record { fit = λ i d below. absurd (omega (arith, below)); room = omega arith }) };
      few = omega (arith, few, same);
      fits = fits;
      pairs = length-replicate (sizes.nodes * sizes.nodes) 0;
      evictions = λ a b x y. made_zero (sizes.nodes * sizes.nodes) (pair_number sizes.nodes a b) ∙ ap departures (sym (empty a b Request));
      marks = λ a b k x y. quiet a b k ∙ ap (λ (ms : List Msg). not (is_no_message ms)) (sym (empty a b k));
    })
  where
    made : Queues
    made = record { sizes = sizes; requests = requests; replies = replies; lists = replicate (lane_count sizes.nodes) [] }

    empty : (a b : ℕ) (k : Class) → lane_in made a b k ≡ []
    empty a b k = nothing_under_way made (made_empty (lane_count sizes.nodes)) a b k

pub meaning_new : (sizes : Sizes) (requests replies : ℕ) (queues : Queues) → queues ≡ record { sizes = sizes; requests = requests; replies = replies; lists = replicate (lane_count sizes.nodes) [] } → meaning_of queues ≡ no_messages sizes requests replies
meaning_new sizes requests replies queues is =
    ap meaning_of is
    ∙ same_lanes sizes requests replies (lane_in (record { sizes = sizes; requests = requests; replies = replies; lists = replicate (lane_count sizes.nodes) [] })) (λ a b k. [])
    (nothing_under_way (record { sizes = sizes; requests = requests; replies = replies; lists = replicate (lane_count sizes.nodes) [] }) (made_empty (lane_count sizes.nodes)))
