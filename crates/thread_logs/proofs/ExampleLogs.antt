-- Why the printing program is one, and its logs follow their threads' code.
use Rattle.std.proofs.Common.{◌≡◌, ℕ, zero, suc, ◌<◌, true, List, [], ◌∷◌, slice_get, Option, Some, None, IsSome, refl, arith, rules, lit<}
use Rattle.std.specs.List.{AllByRecursion}
use Rattle.plain_monitor.specs.declared.entry.Value.TheVariants.{Ref}
use Rattle.plain_monitor.specs.declared.entry.Logged.{Logged}
use Rattle.plain_monitor.specs.History.{RisesAbove, log_of}
use Rattle.plain_history.specs.Cuts.{IsCutInOrder}
use Rattle.plain_history.specs.Joined.{run_log}
use Rattle.object_program.specs.Valid.{IsProgram, IsThread}
use Rattle.plain_machine.specs.declared.monitor_call.MonitorCall.TheVariants as call
use Rattle.plain_machine.specs.declared.monitor_call.Mode.TheVariants.{Calling}
use Rattle.plain_machine.specs.declared.monitor_call.NextEntry.{NextEntry}
use Rattle.plain_machine.specs.declared.monitor_call.NextEntry.TheVariants.{Calls}
use Rattle.plain_machine.specs.Asking.{ask, fits, thread_after}
use Rattle.plain_machine.specs.Legal.{machine_after}
use Rattle.plain_machine.specs.Machine.{PlainMachine, code_of, new_machine}
use Rattle.plain_machine.specs.Running.{run_on}
use Rattle.plain_machine.specs.Thread.{ThreadState, local}
use Rattle.thread_logs.specs.Examples.{thread, printing, printers, entered, printed, prints_from, in_turn}
use Rattle.thread_logs.specs.Followed.{FollowsCode, HasFollowed, HaveFollowed, HaveValues}

-- what is there
found : {A : Type 0} (o : Option A) → IsSome o → (a : A) × (o ≡ Some a)
found None h = absurd (cc h)
found (Some a) h = (a, refl)

printer_is_thread : (name : List ℕ) → IsThread 1 1 (thread name printing)
printer_is_thread name = record {
  locals = search;
  locals_few = omega arith;
  labels = search;
  targets = search arith;
  code = search (arith, lit<);
  code_few = omega arith;
  ends = search rules;
}

pub printers_is_program : IsProgram printers
printers_is_program = record {
  class_names = search;
  class_slots = (omega arith, tt);
  classes_few = omega arith;
  object_names = search;
  objects = ((omega arith, refl, omega arith, λ e. refl), tt);
  objects_few = omega arith;
  thread_names = search;
  threads = (printer_is_thread _, (printer_is_thread _, tt));
  threads_some = omega arith;
  threads_few = omega arith;
}

-- the state that each log begins with, and the one after its first entry
abbrev begun : ThreadState
begun = record { place = 1; locals = Ref 0 ∷ []; fuel = 7; holds = 0 ∷ []; dumps = 0; made = 0; mode = Calling (call.Enter 0) }

abbrev inside : ThreadState
inside = record { place = 2; locals = Ref 0 ∷ []; fuel = 6; holds = 1 ∷ []; dumps = 0; made = 0; mode = Calling (call.Print (Ref 0)) }

pub begins : (s : ThreadState) × (slice_get (new_machine printers 8).threads 0 ≡ Some s)
unfolding run_on
begins = (begun, refl)

followed : (t : ℕ) (log : List Logged) → slice_get (new_machine printers 8).threads t ≡ Some begun
    → IsSome (run_log (thread_after printers (code_of printers t)) begun log) → HasFollowed printers 8 t log
followed t log there takes =
    let last = found (run_log (thread_after printers (code_of printers t)) begun log) takes in
    record { now = last.0; follows = record { first = begun; there = there; leads = last.1 } }

first_followed : HasFollowed printers 8 0 (prints_from 1)
unfolding run_on
first_followed = followed 0 (prints_from 1) refl refl

second_followed : HasFollowed printers 8 1 (prints_from 4)
unfolding run_on
second_followed = followed 1 (prints_from 4) refl refl

pub log_follows : HaveValues printers (prints_from 1) × HasFollowed printers 8 0 (prints_from 1)
log_follows = ((tt, (tt, (tt, (tt, tt)))), first_followed)

once_entered : FollowsCode printers 8 0 (entered 1 ∷ []) inside
unfolding run_on
once_entered = record { first = begun; there = refl; leads = refl }

pub takes_next : (s after : ThreadState) × FollowsCode printers 8 0 (entered 1 ∷ []) s
    × (thread_after printers (code_of printers 0) s (printed 2).entry ≡ Some after)
unfolding run_on
takes_next = let next = found (thread_after printers (code_of printers 0) inside (printed 2).entry) refl in (inside, next.0, once_entered, next.1)

pub asks_print : (s : ThreadState) × (a : NextEntry) × FollowsCode printers 8 0 (entered 1 ∷ []) s
    × (ask s ≡ Some a) × (fits a (printed 2).entry ≡ true) × (local s 0 ≡ Ref 0)
asks_print = (inside, Calls (call.Print (Ref 0)), once_entered, refl, refl, refl)

pub cut_is_met : AllByRecursion (RisesAbove 0) in_turn × IsCutInOrder (1 ∷ 0 ∷ []) in_turn
    × ((last : PlainMachine) × (machine_after printers 8 in_turn ≡ Some last))
unfolding run_on
cut_is_met = (search (arith, lit<), search rules, found (machine_after printers 8 in_turn) refl)

each_followed : (t : ℕ) → t < 2 → HasFollowed printers 8 t (log_of in_turn t)
each_followed zero h = first_followed
each_followed (suc zero) h = second_followed
each_followed (suc (suc t)) h = absurd (omega (arith, h))

pub both_followed : HaveFollowed printers 8 in_turn
both_followed =
    record { objects = record { rises = search (arith, lit<); taken = refl }; made = refl; count = refl; each = each_followed }
