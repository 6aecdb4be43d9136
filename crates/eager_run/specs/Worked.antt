-- A run of which no one order of all operations can be told: two nodes store to two lines that both share, and each then loads the line of the other's store.
-- The words 0 and 1 are the lines 0 and 1, and both are at node 0.
use Rattle.std.specs.Prelude.{ℕ, ◌==◌, if◌then◌else◌, List, [], ◌∷◌, ◌++◌, None, unwrap_or}
use Rattle.op_model.specs.Shares.{Trace}
use Rattle.row_examples.specs.Machines.{machine}
use Rattle.row_examples.specs.Situations.{operation}
use Rattle.row_examples.specs.Types.{Kind, Load, Store, Reply}
use Rattle.eager_model.specs.Types.{Entry, Event, Hit, Issue, Request, Take}
use Rattle.eager_model.specs.Runs.{AgedEntry, Past, run, start}

-- the first request, and the first reply, from the one node to the other is taken
abbrev pub request : ℕ → ℕ → Event
request src dst = Take src dst Request None

abbrev pub reply : ℕ → ℕ → Event
reply src dst = Take src dst Reply None

-- a node loads a line of node 0 that it has no copy of
abbrev pub loading : ℕ → List Event
loading node = Issue node ∷ request node 0 ∷ reply 0 node ∷ []

-- First the nodes 1 and 2 load both lines. Then each asks for the line that it stores to, has it granted, stores, and loads its old copy of the other line; only then do they take the invalidations
unfoldable pub steps : List Event
steps =
    loading 1 ++ loading 1 ++ loading 2 ++ loading 2
    ++ (Issue 1 ∷ Issue 2 ∷ request 1 0 ∷ request 2 0 ∷ reply 0 1 ∷ Hit 1 ∷ reply 0 2 ∷ Hit 2
    ∷ request 0 1 ∷ request 0 2 ∷ reply 1 0 ∷ reply 2 0 ∷ [])

abbrev pub worked : Trace
worked =
    record {
      version = 1;
      sizes = machine 3 2 1 2 2 2 1;
      ops =
          operation 1 0 Load 0 0 ∷ operation 1 1 Load 1 0 ∷ operation 2 0 Load 0 0 ∷ operation 2 1 Load 1 0
          ∷ operation 1 2 Store 0 1 ∷ operation 1 3 Load 1 0 ∷ operation 2 2 Store 1 1 ∷ operation 2 3 Load 0 0 ∷ [];
      steps = steps;
    }

-- what the run comes to
unfoldable pub end : Past
end = unwrap_or (run worked steps) (start worked.sizes)

-- an operation of this node that is done, and the same with its age
abbrev pub done : ℕ → ℕ → Kind → ℕ → ℕ → Entry
done node index kind word value = record { node = node; index = index; kind = kind; word = word; value = value; old = 0 }

abbrev pub done_at : ℕ → Entry → AgedEntry
done_at age entry = record { age = age; entry = entry }

-- the four operations of a node that stores to the one line and then loads the other one, as they were done
abbrev pub done_by : ℕ → ℕ → ℕ → List Entry
done_by node own other = done node 0 Load 0 0 ∷ done node 1 Load 1 0 ∷ done node 2 Store own 1 ∷ done node 3 Load other 0 ∷ []

-- the operations of each node, in the order of its program
abbrev pub done_of : ℕ → List Entry
done_of node = if node == 1 then done_by 1 0 1 else (if node == 2 then done_by 2 1 0 else [])
