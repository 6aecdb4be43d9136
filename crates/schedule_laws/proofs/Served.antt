-- What a run serves: entries are added at the end alone, so that no place at rest is below an earlier one, and no place is beyond the end of
-- its program.
use Rattle.std.proofs.Common.{◌≡◌, ℕ, suc, ◌+◌, ◌≤◌, ◌⊎◌, inl, inr, List, [], ◌∷◌, ◌++◌, append_assoc, append-nil, length, length-append, slice_get, refl, arith, ap, sym, ◌∙◌, Option, Some, None, Result, Ok, Err}
use Rattle.std.proofs.lemmas.Option.{slice_get_within}
use Rattle.line_map.specs.Sizes.{Sizes}
use Rattle.op_model.specs.declared.events.Cause.{Cause}
use Rattle.op_model.specs.declared.events.Event.{Event}
use Rattle.op_model.specs.declared.operations.Entry.{Entry}
use Rattle.op_model.specs.declared.operations.Op.{Op}
use Rattle.op_model.specs.Events.Step.{Done, Programs, and_then, effect}
use Rattle.op_model.specs.Run.History.{Follows, IsNext, entries_by}
use Rattle.op_model.specs.Run.Rest.{IsAtRest}
use Rattle.op_model.specs.Run.Runs.{Past, entries_of, past_after, run_by}
use Rattle.op_model.specs.Shares.{Charge, Trace, program}
use Rattle.one_history.specs.Sound.{IsSound}
use Rattle.one_history.proofs.Public.{by-append}

-- the entries that a run adds
abbrev pub Adds : Past → Past → Type 0
Adds past end = (more : List Entry) × (end.served ≡ past.served ++ more)

pub served-prefix : (charge : Charge) (sizes : Sizes) (programs : Programs) (past end : Past) (events : List Event) → run_by charge sizes programs past events ≡ Some end → Adds past end
served-prefix charge sizes programs past end [] ran =
    let same : past ≡ end = let s : ◌≡◌ {A = Option Past} (Some past) (Some end) = ran in cc in
    ([], ap (λ (p : Past). p.served) (sym same) ∙ sym (append-nil past.served))
served-prefix charge sizes programs past end (event ∷ events) ran = go (effect charge sizes programs past.state event) ran (λ next. served-prefix charge sizes programs next end events)
  where
    go : (r : Result Done Cause) → and_then r (λ done. run_by charge sizes programs (past_after sizes past done) events) ≡ Some end →
        ((next : Past) → run_by charge sizes programs next events ≡ Some end → Adds next end) → Adds past end
    go (Err cause) ran later = absurd (let n : ◌≡◌ {A = Option Past} None (Some end) = ran in cc)
    go (Ok done) ran later =
        let rest = later (past_after sizes past done) ran in
        (entries_of sizes past.state done.node done.out.line done.out.served ++ rest.0, rest.1 ∙ append_assoc past.served (entries_of sizes past.state done.node done.out.line done.out.served) rest.0)

-- entries that follow a program are no more than it has
follows-within : (ops : List Op) (index : ℕ) (entries : List Entry) → Follows ops index entries → index ≤ length ops → index + length entries ≤ length ops
follows-within ops index [] follows below = omega arith
follows-within ops index (e ∷ entries) follows below = go (slice_get ops index) refl follows.0 (follows-within ops (suc index) entries follows.1)
  where
    go : (o : Option Op) → slice_get ops index ≡ o → IsNext index o e → (suc index ≤ length ops → suc index + length entries ≤ length ops) → index + length (e ∷ entries) ≤ length ops
    go None at next later = absurd next
    go (Some op) at next later = let within = slice_get_within ops index op at in let more = later (omega arith) in omega arith

grown : (a b c d n : ℕ) → (a ≡ b) ⊎ (a ≡ suc b) → c ≡ a + n → c ≡ d → b ≤ d
grown a b c d n (inl e) f g = omega arith
grown a b c d n (inr e) f g = omega arith

module _ (trace : Trace) (past : Past) (sound : IsSound trace past) where
  -- how many entries a node has at rest
  pub rest-count : IsAtRest past.state → (node : ℕ) → length (entries_by node past.served) ≡ (past.state.share node).place
  rest-count rests node = (sound.ordered node).rests (rests.wants node)

  -- at rest no place is beyond the end of its program
  pub rest-within : IsAtRest past.state → (node : ℕ) → (past.state.share node).place ≤ length (program trace node)
  rest-within rests node =
      let within = follows-within (program trace node) 0 (entries_by node past.served) (sound.ordered node).order (omega arith) in
      let count = rest-count rests node in
      omega arith

-- the entries of a node that a run adds
pub more-by : (past end : Past) (adds : Adds past end) (node : ℕ) → entries_by node end.served ≡ entries_by node past.served ++ entries_by node adds.0
more-by past end adds node = ap (entries_by node) adds.1 ∙ by-append node past.served adds.0

pub more-count : (past end : Past) (adds : Adds past end) (node : ℕ) → length (entries_by node end.served) ≡ length (entries_by node past.served) + length (entries_by node adds.0)
more-count past end adds node = ap length (more-by past end adds node) ∙ length-append (entries_by node past.served) (entries_by node adds.0)

-- no place at rest is below an earlier one
pub places-rise : (trace : Trace) (past end : Past) → IsSound trace past → IsSound trace end → IsAtRest end.state → Adds past end → (node : ℕ) → (past.state.share node).place ≤ (end.state.share node).place
places-rise trace past end sound later rests adds node =
    grown (length (entries_by node past.served)) (past.state.share node).place (length (entries_by node end.served)) (end.state.share node).place (length (entries_by node adds.0))
    (sound.ordered node).count (more-count past end adds node) (rest-count trace end later rests node)
