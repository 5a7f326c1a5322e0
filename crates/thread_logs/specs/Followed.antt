-- Logs that follow the code of their threads.
use Rattle.std.specs.Prelude.{◌≡◌, ℕ, ◌+◌, ◌<◌, ◌^◌, ◌||◌, Bool, true, false, List, [], ◌∷◌, length, slice_get, Some}
use Rattle.std.specs.List.{AllByRecursion}
use Rattle.plain_monitor.specs.declared.entry.Entry.{Entry}
use Rattle.plain_monitor.specs.declared.entry.Entry.TheVariants as entry
use Rattle.plain_monitor.specs.declared.entry.Logged.{Logged}
use Rattle.plain_monitor.specs.History.{LegalObjects, log_of}
use Rattle.plain_monitor.specs.Made.{IsMadeInTime}
use Rattle.plain_history.specs.Joined.{run_log}
use Rattle.object_program.specs.Program.{ProgramText, shape_of, objects_total, numbering_of}
use Rattle.plain_machine.specs.Thread.{ThreadState}
use Rattle.plain_machine.specs.Asking.{thread_after}
use Rattle.plain_machine.specs.Machine.{code_of, new_machine}
use Rattle.plain_machine.specs.Values.{IsValueOf}

-- the log follows the code of thread t from its first state, and leads to this one
pub record FollowsCode (p : ProgramText) (fuel t : ℕ) (log : List Logged) (s : ThreadState) : Type 0 where
  pub first : ThreadState
  pub there : slice_get (new_machine p fuel).threads t ≡ Some first
  pub leads : run_log (thread_after p (code_of p t)) first log ≡ Some s

-- it leads to some state
pub record HasFollowed (p : ProgramText) (fuel t : ℕ) (log : List Logged) : Type 0 where
  pub now : ThreadState
  pub follows : FollowsCode p fuel t log now

-- the objects take the logs, of which there is one for each thread, and each follows its thread's code; and each entry finds what it needs
pub record HaveFollowed (p : ProgramText) (fuel : ℕ) (logs : List (List Logged)) : Type 0 where
  pub objects : LegalObjects (shape_of p) logs
  pub made : IsMadeInTime (numbering_of p) logs
  pub count : length logs ≡ length p.threads
  pub each : (t : ℕ) → t < length p.threads → HasFollowed p fuel t (log_of logs t)

-- what was read from a slot is a value of the program, a hash has 32 bits, and what was made is one of the program's objects
abbrev pub HasValue : ℕ → Entry → Type 0
HasValue n (entry.Get object slot value) = IsValueOf n value
HasValue n (entry.Hash object value drawn) = value < 2 ^ 32
HasValue n (entry.New object class) = object < n
HasValue n _ = Unit {0}

abbrev pub HaveValues : ProgramText → List Logged → Type 0
HaveValues p log = AllByRecursion (λ (l : Logged). HasValue (objects_total p) l.entry) log

-- the entry ends its thread
abbrev pub is_end : Entry → Bool
is_end (entry.Trap fault index) = true
is_end entry.Spent = true
is_end entry.Done = true
is_end _ = false

abbrev pub ends_by : List Logged → Bool
ends_by [] = false
ends_by (l ∷ log) = is_end l.entry || ends_by log

-- how many dumps the entry is, and the log has
abbrev pub dumps_with : Entry → ℕ → ℕ
dumps_with (entry.Dump number) n = n + 1
dumps_with _ n = n

abbrev pub dumps_by : List Logged → ℕ
dumps_by [] = 0
dumps_by (l ∷ log) = dumps_with l.entry (dumps_by log)
