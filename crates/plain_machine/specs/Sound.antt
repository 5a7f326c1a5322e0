-- What is kept true of a machine, so that no count and no room of a monitor gives out.
use Rattle.std.specs.Prelude.{◌≡◌, ℕ, ◌+◌, ◌≤◌, if◌then◌else◌, List, length, replicate, sum, slice_index_or, Option, Some, None}
use Rattle.std.specs.List.{All, sum_by}
use Rattle.plain_monitor.specs.Limits.{most_threads, most_holds}
use Rattle.plain_monitor.specs.declared.entry.Value.TheVariants.{Nil}
use Rattle.plain_monitor.specs.declared.entry.Ending.TheVariants.{Done}
use Rattle.plain_monitor.specs.Monitor.{PlainMonitor}
use Rattle.plain_monitor.specs.Objects.{PlainObject, new_object}
use Rattle.object_program.specs.Program.{objects_total}
use Rattle.object_program.specs.Valid.{IsProgram}
use Rattle.plain_machine.specs.declared.monitor_call.Mode.{Mode}
use Rattle.plain_machine.specs.declared.monitor_call.Mode.TheVariants.{Calling, Unwinding}
use Rattle.plain_machine.specs.Thread.{ThreadState, holds_of}
use Rattle.plain_machine.specs.Machine.{PlainMachine}
use Rattle.plain_monitor.specs.Listed.{times_in, counts_in}
use Rattle.plain_machine.specs.Ready.{IsReadyToCall, waits_on}

-- a thread that has not run: its locals are nil, and it holds nothing
abbrev pub unrun : ℕ → ℕ → ℕ → ThreadState
unrun locals objects fuel =
    record {
      place = 0;
      locals = replicate locals Nil;
      fuel = fuel;
      holds = replicate objects 0;
      dumps = 0;
      made = 0;
      mode = Unwinding Done;
    }

abbrev pub IsReadyIn : ThreadState → Mode → Type 0
IsReadyIn s (Calling c) = IsReadyToCall s c
IsReadyIn s m = Unit {0}

abbrev pub ThreadIsReady : ThreadState → Type 0
ThreadIsReady s = IsReadyIn s s.mode

-- the monitor of object o
abbrev pub monitor_in : List PlainObject → ℕ → PlainMonitor
monitor_in objects o = (slice_index_or objects o (new_object 0)).monitor

abbrev pub thread_in : List ThreadState → ℕ → ThreadState
thread_in threads t = slice_index_or threads t (unrun 0 0 0)

-- how often the owner of object o holds it; no owner holds it no times
abbrev pub owner_holds : List ThreadState → ℕ → Option ℕ → ℕ
owner_holds threads o None = 0
owner_holds threads o (Some t) = holds_of (thread_in threads t) o

-- the monitor of object o counts no more than its owner's holds
abbrev pub IsCounted : List ThreadState → ℕ → PlainMonitor → Type 0
IsCounted threads o m = m.count ≤ owner_holds threads o m.owner

-- the number, for a thread that waits on object o; 0 for each other
abbrev pub while_waiting : ThreadState → ℕ → ℕ → ℕ
while_waiting s o n = if waits_on s.mode o then n else 0

-- thread t, in this state, waits or was called at most once at object o, and only while it waits on it; it gets no higher count
-- back than its holds
pub record IsListed (s : ThreadState) (o t : ℕ) (m : PlainMonitor) : Type 0 where
  pub once : times_in m.waits t + times_in m.called t ≤ while_waiting s o 1
  pub due : counts_in m.waits t + counts_in m.called t ≤ while_waiting s o (holds_of s o)

abbrev pub AreListed : List ThreadState → ℕ → PlainMonitor → Type 0
AreListed threads o m = (t : ℕ) → IsListed (thread_in threads t) o t m

-- how many threads wait on object o
abbrev pub waiting_on : List ThreadState → ℕ → ℕ
waiting_on threads o = sum_by (λ s. while_waiting s o 1) threads

-- no more are listed than wait
abbrev pub AreWaiting : List ThreadState → ℕ → PlainMonitor → Type 0
AreWaiting threads o m = length m.waits + length m.called ≤ waiting_on threads o

-- the monitor of object o beside these threads
pub record IsBeside (threads : List ThreadState) (o : ℕ) (m : PlainMonitor) : Type 0 where
  pub counted : IsCounted threads o m
  pub listed : AreListed threads o m
  pub waiting : AreWaiting threads o m

-- a thread of a machine of n objects: it has at most 64 holds in all
pub record IsKept (n : ℕ) (s : ThreadState) : Type 0 where
  pub objects : length s.holds ≡ n
  pub few : sum s.holds ≤ most_holds
  pub ready : ThreadIsReady s

abbrev pub AreKept : ℕ → List ThreadState → Type 0
AreKept n threads = All (IsKept n) threads

pub record IsSound (m : PlainMachine) : Type 0 where
  pub program : IsProgram m.program
  pub total : length m.objects ≡ objects_total m.program
  pub threads : length m.threads ≡ length m.program.threads
  pub few : length m.threads ≤ most_threads
  pub kept : AreKept (length m.objects) m.threads
  pub monitors : (o : ℕ) → IsBeside m.threads o (monitor_in m.objects o)
