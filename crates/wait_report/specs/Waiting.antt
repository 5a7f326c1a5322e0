-- Who waits for whom: a thread that asks to have a monitor waits for the other thread that has it. And who waits to be notified.
use Rattle.std.specs.Prelude.{◌≡◌, ◌≢◌, ℕ, ◌<◌, true, false, if◌then◌else◌, length, slice_get, Option, Some, None, option_and_then}
use Rattle.plain_monitor.specs.Monitor.{is_listed}
use Rattle.plain_machine.specs.declared.monitor_call.MonitorCall.TheVariants as call
use Rattle.plain_machine.specs.declared.monitor_call.NextEntry.{NextEntry}
use Rattle.plain_machine.specs.declared.monitor_call.NextEntry.TheVariants.{Calls, Resumes}
use Rattle.plain_machine.specs.Asking.{ask}
use Rattle.plain_machine.specs.Machine.{PlainMachine, monitor_at}

-- the object that thread u asks to enter or to resume; one that waits and was not notified asks for none
abbrev pub wish_of : PlainMachine → ℕ → Option NextEntry → Option ℕ
wish_of m u (Some (Calls (call.Enter o))) = Some o
wish_of m u (Some (Resumes o)) = if is_listed (monitor_at m o).waits u then None else Some o
wish_of m u asked = None

-- thread u waits for thread w by object o: it asks for o, and w, another thread, has it
pub record WaitsFor (m : PlainMachine) (u w o : ℕ) : Type 0 where
  pub asks : wish_of m u (option_and_then ask (slice_get m.threads u)) ≡ Some o
  pub owner : (monitor_at m o).owner ≡ Some w
  pub other : w ≢ u

-- thread t of the machine waits on object o and nobody has notified it: it is in the wait set, and not among those who were called
pub record WaitsUnnotified (m : PlainMachine) (t o : ℕ) : Type 0 where
  pub thread : t < length m.threads
  pub waits : is_listed (monitor_at m o).waits t ≡ true
  pub uncalled : is_listed (monitor_at m o).called t ≡ false
