-- The programs of a trace are programs of its machine's nodes.
use Rattle.std.proofs.Common.{◌≡◌, ℕ, zero, suc, ◌+◌, ◌<◌, ◌≤◌, List, [], take, map, refl, sym, ap, ◌∙◌, arith, subst, Some, None, ◌⊎◌, inl, inr, ◌==◌}
use Rattle.std.specs.Prelude.{slice_get, count_by, unwrap_or}
use Rattle.std.specs.List.{range_with_len}
use Rattle.std.proofs.lemmas.Bool.{cases_lt}
use Rattle.std.proofs.lemmas.Bool.Decides.{nat_tests}
use Rattle.std.proofs.lemmas.List.FromFn.{length-map-range_with_len}
use Rattle.op_model.specs.declared.operations.Op.{Op}
use Rattle.op_model.specs.Shares.{Trace, program}
use Rattle.trace_text.specs.Traces.{IsTrace, IsOp, programs_of}
use Rattle.op_model.specs.Programs.{IsOpOf, IsProgramOf, ArePrograms, programs_of as program_in}
use Rattle.commands.proofs.Filters.{IsKeptAt, kept_at, filter-none}

-- the list of a function's values from a number on
at-range : {A : Type 0} (f : ℕ → A) (from count k : ℕ) → k < count → slice_get (map f (range_with_len from count)) k ≡ Some (f (from + k))
at-range f from zero k below = absurd (omega arith)
at-range f from (suc count) zero below = let e : from + 0 ≡ from = omega arith in ap (λ n. Some (f n)) (sym e)
at-range f from (suc count) (suc k) below =
    at-range f (from + 1) count k (omega arith) ∙ (let e : from + 1 + k ≡ from + suc k = omega arith in ap (λ n. Some (f n)) e)

past-range : {A : Type 0} (f : ℕ → A) (from count k : ℕ) → count ≤ k → slice_get (map f (range_with_len from count)) k ≡ None
past-range f from zero k past = refl
past-range f from (suc count) zero past = absurd (omega arith)
past-range f from (suc count) (suc k) past = past-range f (from + 1) count k (omega arith)

-- a node past the last one has no operation
no-program : (t : Trace) → IsTrace t → (node : ℕ) → t.sizes.nodes ≤ node → program t node ≡ []
no-program t is node past = filter-none (λ op. op.node == node) t.ops (λ i op at. let low : op.node < t.sizes.nodes = (is.ops i op at).node in grind (arith, nat_tests))

-- the list of all programs has the program of each node
pub programs-in : (t : Trace) → IsTrace t → (node : ℕ) → program_in (programs_of t) node ≡ program t node
programs-in t is node = go (cases_lt node t.sizes.nodes)
  where
    go : (node < t.sizes.nodes) ⊎ (t.sizes.nodes ≤ node) → program_in (programs_of t) node ≡ program t node
    go (inl below) = ap (λ o. unwrap_or o []) (at-range (program t) 0 t.sizes.nodes node below) ∙ (let e : 0 + node ≡ node = omega arith in ap (program t) e)
    go (inr past) = ap (λ o. unwrap_or o []) (past-range (program t) 0 t.sizes.nodes node past) ∙ sym (no-program t is node past)

pub all-programs : (t : Trace) → IsTrace t → program_in (programs_of t) ≡ program t
all-programs t is = λ i node. programs-in t is node i

own-op : (t : Trace) → IsTrace t → (node i : ℕ) (op : Op) → IsKeptAt (λ (o : Op). o.node == node) t.ops i op → IsOpOf t.sizes node i op
own-op t is node i op kept =
    let fact : IsOp t.sizes t.version (take kept.place t.ops) op = is.ops kept.place op kept.here in
    let same : op.node ≡ node = grind (arith, nat_tests, kept.passes) in
    record {
      of_node = same;
      at_index = fact.index ∙ ap (λ n. count_by (λ (o : Op). o.node == n) (take kept.place t.ops)) same ∙ kept.before;
      word = fact.word;
    }

own-program : (t : Trace) → IsTrace t → (node : ℕ) → IsProgramOf t.sizes node (program t node)
own-program t is node i op at = own-op t is node i op (kept_at (λ (o : Op). o.node == node) t.ops i op at)

pub own-programs : (t : Trace) → IsTrace t → ArePrograms t.sizes (programs_of t)
own-programs t is = record { count = length-map-range_with_len (program t) 0 t.sizes.nodes; each = each }
  where
    each : (node : ℕ) (ops : List Op) → slice_get (programs_of t) node ≡ Some ops → IsProgramOf t.sizes node ops
    each node ops at = subst (IsProgramOf t.sizes node) (sym (programs-in t is node) ∙ ap (λ o. unwrap_or o []) at) (own-program t is node)
