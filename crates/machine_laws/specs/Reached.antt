-- What holds of each machine that a program's entries lead to.
use Rattle.std.specs.Prelude.{◌≡◌, ℕ, ◌<◌, ◌≤◌, ◌^◌, List, length, slice_get, Some, MatchOption}
use Rattle.std.specs.List.{AllByRecursion}
use Rattle.plain_monitor.specs.Objects.{PlainObject}
use Rattle.plain_monitor.specs.Limits.{most_made}
use Rattle.plain_monitor.specs.Made.{made_by}
use Rattle.object_program.specs.Program.{ProgramText, objects_total, slots_of}
use Rattle.object_program.specs.Valid.{IsProgram}
use Rattle.plain_machine.specs.Thread.{ThreadState}
use Rattle.plain_machine.specs.Machine.{PlainMachine}
use Rattle.plain_machine.specs.Values.{IsValueOf}
use Rattle.machine_laws.specs.References.{IsThere, ThreadRefersTo, SlotsReferTo}
use Rattle.machine_laws.specs.ReachedThread.{IsThreadOf}
use Rattle.machine_laws.specs.ReachedMonitor.{IsMonitorOf, StandsAt}

-- what holds of each element and its place
abbrev pub AtEach : {X : Type 0} → (ℕ → X → Type 0) → List X → Type 0
AtEach P xs = (k : ℕ) (x : _) → slice_get xs k ≡ Some x → P k x

-- object o has as many slots as its class says, and each has a value that may stand beside the program's objects
pub record HasSlots (p : ProgramText) (o : ℕ) (x : PlainObject) : Type 0 where
  pub count : length x.slots ≡ slots_of p o
  pub values : AllByRecursion (IsValueOf (objects_total p)) x.slots

-- a hash has 31 bits and isn't 0
abbrev pub IsHash : ℕ → Type 0
IsHash value = (1 ≤ value) × (value < 2 ^ 31)

-- where an object has a hash, it is one of these
abbrev pub HasHash : ℕ → PlainObject → Type 0
HasHash o x = MatchOption x.hash (Unit {0}) IsHash

-- the object's monitor is as it may be in a machine of n threads
abbrev pub HasMonitor : ℕ → ℕ → PlainObject → Type 0
HasMonitor n o x = IsMonitorOf n x.monitor

-- each thread's holds and mode agree with the monitor of object o
abbrev pub HasThreads : List ThreadState → ℕ → PlainObject → Type 0
HasThreads threads o x = AtEach (λ t s. StandsAt o t x.monitor s) threads

-- the classes of the objects that a thread has made are the program's, and they are no more than it may make
abbrev pub IsRow : ProgramText → List ℕ → Type 0
IsRow p row = AllByRecursion (λ c. c < length p.classes) row × (length row ≤ most_made)

-- the thread has made as many objects as its row has classes
abbrev pub HasMade : List (List ℕ) → ℕ → ThreadState → Type 0
HasMade made t s = s.made ≡ length (made_by made t)

pub record IsReached (m : PlainMachine) : Type 0 where
  pub program : IsProgram m.program
  pub thread_count : length m.threads ≡ length m.program.threads
  pub object_count : length m.objects ≡ objects_total m.program
  pub threads : AllByRecursion (IsThreadOf m.program) m.threads
  pub slots : AtEach (HasSlots m.program) m.objects
  pub hashes : AtEach HasHash m.objects
  pub monitors : AtEach (HasMonitor (length m.threads)) m.objects
  pub standing : AtEach (HasThreads m.threads) m.objects
  -- the classes of what each thread has made; and each object is there to which a thread or a slot refers
  pub row_count : length m.made ≡ length m.program.threads
  pub rows : AllByRecursion (IsRow m.program) m.made
  pub made : AtEach (HasMade m.made) m.threads
  pub references : AllByRecursion (ThreadRefersTo (IsThere m.program m.made)) m.threads
  pub slot_references : AllByRecursion (SlotsReferTo (IsThere m.program m.made)) m.objects
