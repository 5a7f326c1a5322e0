-- When a thread of a program with blocks stands where a thread of its code does.
use Rattle.std.specs.Prelude.{◌≡◌, ℕ, ◌+◌, List, [], ◌∷◌, slice_get, Option, Some, None}
use Rattle.plain_monitor.specs.declared.entry.Ending.TheVariants as ending
use Rattle.object_program.specs.declared.program.Code.{Code}
use Rattle.object_program.specs.declared.program.Code.TheVariants as instr
use Rattle.object_program.specs.declared.program.ThreadDef.{ThreadDef}
use Rattle.object_program.specs.Program.{most_in}
use Rattle.plain_machine.specs.declared.monitor_call.Mode.{Mode}
use Rattle.plain_machine.specs.declared.monitor_call.Mode.TheVariants.{Calling, Waiting, Unwinding, Ended}
use Rattle.plain_machine.specs.Thread.{ThreadState}
use Rattle.plain_machine.specs.Running.{instruction_at}
use Rattle.plain_machine.specs.Machine.{PlainMachine, code_of}
use Rattle.sync_source.specs.Source.{Statements, Nothing, Plain, Sync, If, While}
use Rattle.sync_source.specs.Valid.{IsPlain}
use Rattle.sync_source.specs.SyncThread.{Left, Over, Runs, Exits, Pays, SyncState, unplaced}
use Rattle.sync_source.specs.SyncMachine.{SyncMachine}
use Rattle.sync_source.specs.Compiled.{size, code_at}

-- the instructions of statements and of the blocks in them are plain
abbrev pub ArePlain : Statements → Type 0
ArePlain Nothing = Unit {0}
ArePlain (Plain c rest) = IsPlain c × ArePlain rest
ArePlain (Sync x body rest) = ArePlain body × ArePlain rest
ArePlain (If t body other rest) = ArePlain body × ArePlain other × ArePlain rest
ArePlain (While t body rest) = ArePlain body × ArePlain rest

-- these instructions stand in the code, after this many
abbrev pub HasAt : List Code → ℕ → List Code → Type 0
HasAt code at [] = Unit {0}
HasAt code at (c ∷ cs) = (instruction_at code at ≡ c) × HasAt code (at + 1) cs

-- the code after this many instructions does what is left
abbrev pub StandsInCode : List Code → ℕ → Left → Type 0
StandsInCode code at Over = instruction_at code at ≡ instr.End
StandsInCode code at (Runs b left) = ArePlain b × HasAt code at (code_at at b) × StandsInCode code (at + size b) left
StandsInCode code at (Exits x left) = (instruction_at code at ≡ instr.Exit x) × StandsInCode code (at + 1) left
StandsInCode code at (Pays left) = (to : ℕ) × (instruction_at code at ≡ instr.Jump (to + 1)) × StandsInCode code to left

abbrev pub unplaced_mode : Mode → Mode
unplaced_mode (Unwinding e) = Unwinding (unplaced e)
unplaced_mode (Ended e) = Ended (unplaced e)
unplaced_mode m = m

-- a thread without its place, and without the index of its trap
abbrev pub erased : ThreadState → ThreadState
erased s = record s { place = 0; mode = unplaced_mode s.mode }

-- where a thread in this mode goes on, the code does what is left: after the call that it stands before, or where it waits
abbrev pub StandsIn : List Code → Mode → ℕ → Left → Type 0
StandsIn code (Calling c) at left = StandsInCode code (at + 1) left
StandsIn code (Waiting o) at left = StandsInCode code at left
StandsIn code m at left = Unit {0}

-- the two threads are alike, the index of a trap aside
pub record AreAlike (code : List Code) (a : SyncState) (s : ThreadState) : Type 0 where
  pub same : a.thread ≡ erased s
  pub stands : StandsIn code s.mode s.place a.left

-- both are there and alike, or neither is there
abbrev pub OptionAlike : List Code → Option SyncState → Option ThreadState → Type 0
OptionAlike code None None = Unit {0}
OptionAlike code None (Some s) = ⊥
OptionAlike code (Some a) None = ⊥
OptionAlike code (Some a) (Some s) = AreAlike code a s

-- the index of the trap that a thread in this mode ends with
abbrev pub index_in : Mode → ℕ
index_in (Unwinding (ending.Trap f i)) = i
index_in m = 0

-- the two machines are alike, the indexes of traps aside: the same objects, and as many are made, and alike threads. The threads of the world are
-- these, and the largest class that a `new` of theirs names has as many slots as that of the code
pub record MachinesAlike (in_world : List ThreadDef) (a : SyncMachine) (m : PlainMachine) : Type 0 where
  pub world : a.world ≡ record (m.program) { threads = in_world }
  pub slots : most_in m.program.classes m.program.threads ≡ most_in m.program.classes in_world
  pub objects : a.objects ≡ m.objects
  pub made : a.made ≡ m.made
  pub threads : (t : ℕ) → OptionAlike (code_of m.program t) (slice_get a.threads t) (slice_get m.threads t)
