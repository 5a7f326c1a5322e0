-- The logs of two threads that ask for one hash, as those of a run; and a machine that is stuck.
use Rattle.std.proofs.Common.{◌≡◌, ℕ, ◌≤◌, true, [], ◌∷◌, Some, None, refl, arith}
use Rattle.std.specs.List.{AllByRecursion}
use Rattle.hash_laws.specs.HashExample.{hash_end, hash_fuel, hash_logs, hash_program, hashing_end}
use Rattle.hash_laws.proofs.HashExample.{fit, legal, program, stamps, under}
use Rattle.lock_journal.specs.Hashes.{hash_fits}
use Rattle.object_program.specs.Valid.{IsProgram}
use Rattle.plain_history.specs.ExactStamps.{StampsAreExact}
use Rattle.plain_machine.specs.Legal.{IsLegal, machine_after}
use Rattle.plain_machine.specs.Machine.{PlainMachine, is_stuck}
use Rattle.plain_machine.specs.Thread.{ThreadState}
use Rattle.plain_machine.specs.declared.monitor_call.Mode.TheVariants.{Waiting}
use Rattle.plain_monitor.specs.History.{RisesAbove}
use Rattle.plain_monitor.specs.Limits.{most_fuel}
use Rattle.plain_monitor.specs.Order.{order}

pub rises : AllByRecursion (RisesAbove 0) hash_logs × StampsAreExact hash_logs
rises = (legal.rises, stamps)

pub run : IsProgram hash_program × (hash_fuel ≤ most_fuel) × IsLegal hash_program hash_fuel hash_logs × StampsAreExact hash_logs
    × ((o : ℕ) → hash_fits 0 (order hash_logs) o ≡ true) × (machine_after hash_program hash_fuel hash_logs ≡ Some hash_end)
run = (program, omega arith, legal, stamps, fit, under)

-- a thread that waits, alone
abbrev waiter : ThreadState
waiter = record hashing_end { holds = 1 ∷ []; mode = Waiting 0 }

abbrev waiting : PlainMachine
waiting =
    record {
      program = hash_program;
      objects = record {
        monitor = record { owner = None; count = 0; waits = (0, 1) ∷ []; called = [] };
        slots = [];
        hash = None;
      } ∷ [];
      made = [] ∷ [];
      threads = waiter ∷ [];
    }

pub stuck : (m : PlainMachine) × (s : ThreadState) × (m.threads ≡ s ∷ []) × (s.mode ≡ Waiting 0) × (is_stuck m ≡ true)
stuck = (waiting, waiter, refl, refl, refl)
