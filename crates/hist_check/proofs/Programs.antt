-- The list of a trace's programs has the program of each node.
use Rattle.std.proofs.Common.{◌≡◌, ◌≢◌, ℕ, suc, ◌<◌, ◌≤◌, ◌==◌, List, [], ◌∷◌, length, refl, arith, sym, subst, ◌∙◌, slice_get, Some, ◌⊎◌, inl, inr}
use Rattle.std.specs.Prelude.{filter}
use Rattle.std.proofs.lemmas.Bool.{ne_eqb, cases_lt}
use Rattle.std.proofs.lemmas.Bool.Decides.{nat_tests}
use Rattle.std.proofs.lemmas.List.{get_or_past}
use Rattle.std.proofs.lemmas.Option.{unwrap_or-slice_get}
use Rattle.std.proofs.lemmas.List.FromFn.{length-map-range_with_len, get_or-map-range_with_len}
use Rattle.op_model.specs.declared.operations.Op.{Op}
use Rattle.op_model.specs.declared.operations.Entry.{Entry}
use Rattle.op_model.specs.declared.events.Event.{Event}
use Rattle.op_model.specs.Shares.{Trace, program, Charge}
use Rattle.op_model.specs.Events.Step.{Programs}
use Rattle.op_model.specs.Run.Runs.{Past, run}
use Rattle.op_model.specs.Run.History.{history, entries_by, Follows}
use Rattle.one_history.proofs.Public.{one_history}
use Rattle.trace_text.specs.Traces.{IsTrace, programs_of as program_list}
use Rattle.op_model.specs.Programs.{programs_of}
use Rattle.hist_check.specs.Good.{IsGood}

none-of : (node : ℕ) (ops : List Op) → ((i : ℕ) (op : Op) → slice_get ops i ≡ Some op → op.node ≢ node) → filter (λ (op : Op). op.node == node) ops ≡ []
none-of node [] other = refl
none-of node (op ∷ ops) other = let no = ne_eqb op.node node (other 0 op refl) in rw no (none-of node ops (λ i. other (suc i)))

pub same-program : (trace : Trace) (node : ℕ) → IsTrace trace → programs_of (program_list trace) node ≡ program trace node
same-program trace node is = go (cases_lt node trace.sizes.nodes)
  where
    long : length (program_list trace) ≡ trace.sizes.nodes
    long = length-map-range_with_len (program trace) 0 trace.sizes.nodes

    go : (node < trace.sizes.nodes) ⊎ (trace.sizes.nodes ≤ node) → programs_of (program_list trace) node ≡ program trace node
    go (inl lt) = unwrap_or-slice_get (program_list trace) node [] ∙ get_or-map-range_with_len (program trace) 0 trace.sizes.nodes node node [] lt (omega arith)
    go (inr le) =
        unwrap_or-slice_get (program_list trace) node []
        ∙ get_or_past (program_list trace) node [] (omega (arith, long))
        ∙ sym (none-of node trace.ops (λ i op at same. absurd (let below = (is.ops i op at).node in omega arith)))

pub good-run : (charge : Charge) (trace : Trace) (events : List Event) (past : Past) → 0 < trace.sizes.words → run charge trace events ≡ Some past → IsGood (program trace) (history past)
good-run charge trace events past positive ran =
    let one = one_history charge trace events past positive ran in
    record { legal = one.legal; order = one.order }

same-good : (programs others : Programs) (entries : List Entry) → ((node : ℕ) → others node ≡ programs node) → IsGood programs entries → IsGood others entries
same-good programs others entries same good =
    record { legal = good.legal; order = λ node. subst (λ (ops : List Op). Follows ops 0 (entries_by node entries)) (sym (same node)) (good.order node) }

pub good-listed : (charge : Charge) (trace : Trace) (events : List Event) (past : Past) → IsTrace trace → run charge trace events ≡ Some past → IsGood (programs_of (program_list trace)) (history past)
good-listed charge trace events past is ran =
    same-good (program trace) (programs_of (program_list trace)) (history past) (λ node. same-program trace node is) (good-run charge trace events past (let words = is.sizes.words in grind (arith, nat_tests)) ran)
