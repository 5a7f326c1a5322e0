-- Machines of the example programs, and why they are reached.
use Rattle.std.proofs.Common.{◌≡◌, ℕ, ◌<◌, ◌≤◌, ◌^◌, true, false, not, List, [], ◌∷◌, length, slice_get, Some, None, refl, subst, arith, lit<}
use Rattle.std.specs.List.{list_all}
use Rattle.std.proofs.lemmas.Option.{same_Some}
use Rattle.plain_monitor.specs.declared.entry.Ending.TheVariants as ending
use Rattle.plain_monitor.specs.declared.entry.Entry.TheVariants.{Done, Enter}
use Rattle.plain_monitor.specs.declared.entry.Entry.TheVariants as entry
use Rattle.plain_monitor.specs.declared.entry.Logged.{Logged}
use Rattle.plain_monitor.specs.declared.entry.Path.TheVariants.{StackFirst}
use Rattle.plain_monitor.specs.declared.entry.Value.{Value}
use Rattle.plain_monitor.specs.declared.entry.Value.TheVariants.{Nil, Ref}
use Rattle.plain_monitor.specs.History.{log_of}
use Rattle.plain_monitor.specs.Objects.{new_object}
use Rattle.plain_monitor.specs.Order.{order}
use Rattle.object_program.specs.Valid.{IsProgram}
use Rattle.plain_machine.specs.declared.monitor_call.MonitorCall.TheVariants.{Dump}
use Rattle.plain_machine.specs.declared.monitor_call.MonitorCall.TheVariants as call
use Rattle.plain_machine.specs.declared.monitor_call.Mode.{Mode}
use Rattle.plain_machine.specs.declared.monitor_call.Mode.TheVariants.{Waiting, Ended}
use Rattle.plain_machine.specs.declared.monitor_call.NextEntry.TheVariants.{Calls}
use Rattle.plain_machine.specs.declared.offer.Offer.TheVariants.{Next, NextHash}
use Rattle.plain_machine.specs.Thread.{ThreadState, local}
use Rattle.plain_machine.specs.Asking.{ask}
use Rattle.plain_machine.specs.Legal.{IsLegal, after_all, machine_after}
use Rattle.plain_machine.specs.Machine.{PlainMachine, new_machine, take, monitor_at, slot_at, is_live, is_stuck}
use Rattle.plain_machine.specs.Offering.{offered, is_next}
use Rattle.plain_machine.specs.Running.{run_on}
use Rattle.machine_laws.specs.Examples.{askers, logged, printed, printers, waited, waiter}
use Rattle.machine_laws.specs.LogEnds.{ending_said, HaveEnded}
use Rattle.machine_laws.specs.Reached.{IsReached}
use Rattle.machine_laws.proofs.Ended.{first_taken}
use Rattle.machine_laws.proofs.ExamplePrograms.{printers_is, waiter_is, askers_is}
use Rattle.machine_laws.proofs.ReachedEntries.{progress}
use Rattle.machine_laws.proofs.ReachedFirst.{first_is_reached}
use Rattle.machine_laws.proofs.ReachedOver.{stuck_offers_nothing, ended_offers_nothing}

abbrev state : ℕ → Value → ℕ → ℕ → Mode → ThreadState
state place v fuel held mode = record { place = place; locals = v ∷ []; fuel = fuel; holds = held ∷ []; dumps = 0; made = 0; mode = mode }

-- where both threads have ended
abbrev pub ended : PlainMachine
ended = record {
  program = printers;
  objects = new_object 1 ∷ [];
  made = [] ∷ [] ∷ [];
  threads = state 4 (Ref 0) 3 0 (Ended ending.Done) ∷ state 1 Nil 6 0 (Ended ending.Done) ∷ [];
}

pub ended_after : machine_after printers 8 printed ≡ Some ended
unfolding run_on
ended_after = refl

-- where the only thread waits
abbrev pub stuck : PlainMachine
stuck = record {
  program = waiter;
  objects = record { monitor = record { owner = None; count = 0; waits = (0, 1) ∷ []; called = [] }; slots = Ref 0 ∷ []; hash = None } ∷ [];
  made = [] ∷ [];
  threads = state 4 (Ref 0) 4 1 (Waiting 0) ∷ [];
}

pub stuck_after : machine_after waiter 8 waited ≡ Some stuck
unfolding run_on
stuck_after = refl

led_reached : (xs : List (ℕ × Logged)) (m n : PlainMachine) → IsReached m → after_all m xs ≡ Some n → IsReached n
led_reached [] m n h same = subst IsReached (same_Some m n same) h
led_reached (x ∷ xs) m n h takes =
    let f = first_taken m x xs n takes in led_reached xs f.mid n (progress m f.mid x.0 x.1.entry h f.first).reached f.rest

-- the first machines
printers_reached : IsReached (new_machine printers 8)
printers_reached = first_is_reached printers 8 printers_is

askers_reached : IsReached (new_machine askers 8)
askers_reached = first_is_reached askers 8 askers_is

pub enters : (n : PlainMachine) × IsProgram printers × IsReached (new_machine printers 8) × (offered (new_machine printers 8) 0 ≡ Next (Enter 0 StackFirst))
    × (take (new_machine printers 8) 0 (Enter 0 StackFirst) ≡ Some n)
unfolding run_on
enters = (_, printers_is, printers_reached, refl, refl)

pub hashes : IsReached (new_machine askers 8) × (offered (new_machine askers 8) 0 ≡ NextHash 0) × (1 ≤ 7) × (7 < 2 ^ 31)
unfolding run_on
hashes = (askers_reached, refl, omega arith, search (arith, lit<))

pub refers : (m : PlainMachine) × (s : ThreadState) × IsReached m × (slice_get m.threads 0 ≡ Some s) × (local s 0 ≡ Ref 0) × (slot_at m 0 0 ≡ Ref 0)
refers = (
  stuck,
  state 4 (Ref 0) 4 1 (Waiting 0),
  led_reached (order waited) (new_machine waiter 8) stuck (first_is_reached waiter 8 waiter_is) stuck_after,
  refl,
  refl,
  refl,
)

pub owns : (m n : PlainMachine) × IsReached m × (take m 0 (Enter 0 StackFirst) ≡ Some n) × IsReached n × ((monitor_at n 0).owner ≡ Some 0)
unfolding run_on
owns =
    (new_machine printers 8, _, printers_reached, refl, (progress (new_machine printers 8) _ 0 (Enter 0 StackFirst) printers_reached refl).reached, refl)

pub dumps : (m n : PlainMachine) × (s : ThreadState) × IsReached m × (slice_get m.threads 2 ≡ Some s) × (ask s ≡ Some (Calls (Dump 1)))
    × (take m 2 (entry.Dump 1) ≡ Some n)
unfolding run_on
dumps = (new_machine askers 8, _, _, askers_reached, refl, refl, refl)

pub asks : (m : PlainMachine) × (s : ThreadState) × IsReached m × (slice_get m.threads 1 ≡ Some s) × (ask s ≡ Some (Calls (call.New 0 0)))
unfolding run_on
asks = (new_machine askers 8, _, askers_reached, refl, refl)

pub ends : (m : PlainMachine) × IsLegal printers 8 printed × (machine_after printers 8 printed ≡ Some m) × (length printed ≡ length printers.threads)
    × HaveEnded printed × (slice_get (log_of printed 0) 3 ≡ Some (logged 4 Done)) × (ending_said Done ≡ Some ending.Done)
unfolding run_on
ends = (ended, record { rises = search (arith, lit<); taken = refl }, ended_after, refl, (refl, (refl, tt)), refl, refl)

pub all_ended : (m : PlainMachine) × (machine_after printers 8 printed ≡ Some m) × (list_all (λ s. not (is_live s)) m.threads ≡ true)
    × ((t : ℕ) → t < length m.threads → is_next (offered m t) ≡ false)
all_ended = (ended, ended_after, refl, λ t h. ended_offers_nothing ended t refl)

pub is_now_stuck : (m : PlainMachine) × (machine_after waiter 8 waited ≡ Some m) × (is_stuck m ≡ true)
    × ((t : ℕ) → t < length m.threads → is_next (offered m t) ≡ false)
is_now_stuck = (stuck, stuck_after, refl, λ t h. stuck_offers_nothing stuck t refl)
