-- What an event does to operations, as it is told by what the definitions say of its node.
use Rattle.std.specs.Prelude.{ℕ, Bool, if◌then◌else◌, List, [], slice_get, Option, Some, None}
use Rattle.op_model.specs.declared.operations.Entry.{Entry}
use Rattle.op_model.specs.declared.operations.Op.{Op}
use Rattle.op_model.specs.Operations.{Words, entry_of}
use Rattle.op_model.specs.Lines.{Service, NoService, Own, For}
use Rattle.op_model.specs.Events.Node.{NodeOutcome}
use Rattle.cpu_cache.specs.declared.effects.Effect.{Effect}
use Rattle.cpu_cache.specs.declared.effects.Served.{Served}
use Rattle.cpu_cache.specs.declared.effects.Served.TheVariants as served

-- which operation a row serves, where the node's own is at this place of its program
abbrev pub served_of : ℕ → ℕ → Service → Served
served_of node place NoService = served.Nothing
served_of node place (Own op words) = served.Own (entry_of node place op words)
served_of node place (For other words) = served.LoadBy other words

-- the words on which a row does the node's own operation: those on which it serves it, or, where it was served before, those that the message brings
abbrev pub words_done : Service → Words → Words
words_done (Own op words) brought = words
words_done _ brought = brought

-- the entry of the operation at this place, done on these words
abbrev pub entry_at : ℕ → ℕ → Words → Option Op → Option Entry
entry_at node place words None = None
entry_at node place words (Some op) = Some (entry_of node place op words)

abbrev pub done_of : ℕ → List Op → ℕ → Bool → Words → Option Entry
done_of node program place done words = if done then entry_at node place words (slice_get program place) else None

-- what a row serves, and the entry of the node's own operation where the row does it. The message brings these words
abbrev pub effect_of : ℕ → List Op → ℕ → Words → NodeOutcome → Effect
effect_of node program place brought out = record { served = served_of node place out.served; done = done_of node program place out.done (words_done out.served brought) }

-- nothing is served and nothing done; the node's own operation is served and done at once
abbrev pub nothing : Effect
nothing = record { served = served.Nothing; done = None }

abbrev pub own_effect : Entry → Effect
own_effect entry = record { served = served.Own entry; done = Some entry }

-- the load of another node is served, which is sent these words
abbrev pub load_by : ℕ → Words → Effect
load_by other words = record { served = served.LoadBy other words; done = None }
