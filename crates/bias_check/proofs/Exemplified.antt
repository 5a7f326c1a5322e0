-- The example: its text has its program, and its logs are those of a run.
use Rattle.std.proofs.Common.{◌≡◌, ◌++◌, Ok, Some, None, true, IsSome, refl, sym, subst, arith}
use Rattle.std.specs.List.{AllByRecursion}
use Rattle.object_program.specs.Valid.{IsProgram}
use Rattle.plain_monitor.specs.Order.{order}
use Rattle.plain_machine.specs.Legal.{IsLegal, machine_after}
use Rattle.plain_machine.specs.Machine.{PlainMachine, new_machine}
use Rattle.plain_machine.specs.Running.{run_on}
use Rattle.program_syntax.specs.Refusal.{program_of}
use Rattle.program_syntax.proofs.Allowed.{allowed_law}
use Rattle.lock_journal.specs.RunText.{newline}
use Rattle.bias_check.specs.Example.{example_lines, example_logs, example_program}
use Rattle.bias_check.specs.Parts.{lines_are_terminated}
use Rattle.bias_check.specs.Printed.{IsTellable, journal_of}
use Rattle.bias_check.specs.Steps.{IsRun}
use Rattle.bias_check.proofs.JournalsRun.{journal_run}

pub text_has : program_of (example_lines ++ newline) ≡ Ok example_program
text_has = refl

pub terminated : lines_are_terminated (example_lines ++ newline) ≡ true
terminated = refl

pub is_program : IsProgram example_program
is_program = allowed_law (example_lines ++ newline) example_program text_has

pub machine : (m : PlainMachine) × (machine_after example_program 8 example_logs ≡ Some m)
unfolding run_on
machine = (_, refl)

pub legal : IsLegal example_program 8 example_logs
legal = record {
  rises = ((omega arith, (omega arith, (omega arith, (omega arith, tt)))), tt);
  taken = subst IsSome (sym machine.1) refl;
}

-- each number is below its bound
pub tellable : AllByRecursion (IsTellable example_program) (order example_logs)
tellable = (
  record { thread = omega arith; above_zero = omega arith; below = omega arith; entry = omega arith },
  (
    record { thread = omega arith; above_zero = omega arith; below = omega arith; entry = (omega arith, tt) },
    (
      record { thread = omega arith; above_zero = omega arith; below = omega arith; entry = omega arith },
      (record { thread = omega arith; above_zero = omega arith; below = omega arith; entry = tt }, tt),
    ),
  ),
)

pub runs : (m : PlainMachine) × IsRun example_program None (new_machine example_program 8) (journal_of example_program example_logs) (order example_logs) m
runs = (machine.0, journal_run example_program 8 example_logs machine.0 legal.rises machine.1 tellable)
