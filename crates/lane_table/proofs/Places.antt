-- The words of two lanes lie apart, and all of them in the table.
use Rattle.std.proofs.Common.{◌≡◌, ℕ, suc, ◌+◌, ◌*◌, ◌/◌, ◌%◌, ◌<◌, ◌≤◌, sym, ap, ◌∙◌, arith, suc-mul}
use Rattle.std.proofs.Math.Nat.{mul-le-mul_right}
use Rattle.std.proofs.lemmas.Nat.{div-mul-add, mod-mul-add, mul-le}
use Rattle.line_map.specs.Sizes.{Sizes, AreSizes}
use Rattle.line_map.proofs.Public.{few-nodes}
use Rattle.op_model.specs.declared.events.Class.{Class}
use Rattle.lane_queues.specs.Queues.{lane_number, lane_count}
use Rattle.lane_queues.proofs.Public.{lane_number-lt, lane_number-one, same_lane-is}
use Rattle.lane_table.specs.Layout.{cell_word, word_count}

pub one_place : (sizes : Sizes) (a b : ℕ) (c : Class) (i a' b' : ℕ) (c' : Class) (j : ℕ) → b < sizes.nodes → b' < sizes.nodes → i ≤ sizes.words → j ≤ sizes.words
    → cell_word sizes a b c i ≡ cell_word sizes a' b' c' j → (a ≡ a') × (b ≡ b') × (c ≡ c') × (i ≡ j)
one_place sizes a b c i a' b' c' j lt lt' le le' e =
    let k : ℕ = 1 + sizes.words in
    let here : ℕ = lane_number sizes.nodes a b c in
    let there : ℕ = lane_number sizes.nodes a' b' c' in
    let word : here * k + i ≡ there * k + j = omega arith in
    let lane : here ≡ there = sym (div-mul-add here k i (omega arith)) ∙ ap (λ n. n / k) word ∙ div-mul-add there k j (omega arith) in
    let at : i ≡ j = sym (mod-mul-add here k i (omega arith)) ∙ ap (λ n. n % k) word ∙ mod-mul-add there k j (omega arith) in
    let same = same_lane-is a' b' c' a b c (lane_number-one sizes.nodes a' b' c' a b c lt' lt lane) in
    (same.0, same.1, same.2, at)

pub word_along : (sizes : Sizes) (a b : ℕ) (c : Class) (i : ℕ) → cell_word sizes a b c 0 + i ≡ cell_word sizes a b c i
word_along sizes a b c i = omega arith

pub in_table : (sizes : Sizes) (a b : ℕ) (c : Class) (i : ℕ) → a < sizes.nodes → b < sizes.nodes → i ≤ sizes.words → cell_word sizes a b c i < word_count sizes
in_table sizes a b c i lt lt' le =
    let k : ℕ = 1 + sizes.words in
    let number : ℕ = lane_number sizes.nodes a b c in
    let below : number < lane_count sizes.nodes = lane_number-lt sizes.nodes a b c lt lt' in
    let all : suc number * k ≤ lane_count sizes.nodes * k = mul-le-mul_right k (omega (arith, below)) in
    omega (arith, suc-mul number k)

-- a table is small
pub few_words_in : (sizes : Sizes) → AreSizes sizes → sizes.words ≤ 16 → word_count sizes ≤ 139265
few_words_in sizes are most =
    let nodes = few-nodes sizes are in
    let pairs = mul-le sizes.nodes sizes.nodes 64 64 nodes nodes in
    let all = mul-le (lane_count sizes.nodes) (1 + sizes.words) 8192 17 (omega (arith, pairs)) (omega arith) in
    omega (arith, all)
