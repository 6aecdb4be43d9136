-- At first a line is clean and every node at rest: each fact of the invariant is there by computation.
use Rattle.std.proofs.Common.{◌≡◌, ℕ, [], refl, arith}
use Rattle.line_invariant.specs.Types.{Class, Request, Reply}
use Rattle.op_model.specs.Nodes.{listed-none}
use Rattle.op_model.specs.Operations.{Words}
use Rattle.line_invariant.specs.Line.{first_line}
use Rattle.line_invariant.specs.Good.{Status, Resting, NotLeaving, NoDuty, Clean, IsGood, expected}

abbrev at_rest : ℕ → Status
at_rest node = record { carrier = Resting; leaving = NotLeaving; duty = NoDuty }

quiet : (home a b : ℕ) (class : Class) → [] ≡ expected home at_rest a b class
quiet home a b Request = grind arith
quiet home a b Reply = grind arith

pub good-first : (home : ℕ) (words : Words) → IsGood home (first_line words)
good-first home words =
    record {
      phase = Clean;
      status = at_rest;
      lanes = λ a b class. quiet home a b class;
      header = (refl, refl, refl, tt, tt);
      local = refl;
      unlisted = listed-none home;
      at_home = record { carried = refl; stays = refl; off_duty = refl; carrier = refl };
      nodes = λ node far. record { carried = refl; left = tt; duty = refl; waiting = tt; one_holds = refl; fresh_copy = tt; fresh_answer = tt; fresh_leaving = tt };
      answered = λ node. refl;
    }
