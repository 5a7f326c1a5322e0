-- The machine of a program with blocks, which is the plain machine but for how its threads run; and which logs are legal for the program.
use Rattle.std.specs.Prelude.{ℕ, List, [], ◌∷◌, ◌++◌, map, length, replicate, slice_get, slice_set, Option, Some, None, IsSome, option_and_then}
use Rattle.std.specs.List.{AllByRecursion}
use Rattle.plain_monitor.specs.declared.entry.Value.TheVariants.{Nil}
use Rattle.plain_monitor.specs.declared.entry.Ending.TheVariants.{Done}
use Rattle.plain_monitor.specs.declared.entry.Entry.{Entry}
use Rattle.plain_monitor.specs.declared.entry.Logged.{Logged}
use Rattle.plain_monitor.specs.Objects.{PlainObject, new_objects, take_entry}
use Rattle.plain_monitor.specs.Made.{nothing_made, take_made}
use Rattle.plain_monitor.specs.Order.{order}
use Rattle.plain_monitor.specs.History.{RisesAbove}
use Rattle.object_program.specs.declared.program.Code.{Code}
use Rattle.object_program.specs.declared.program.ThreadDef.{ThreadDef}
use Rattle.object_program.specs.Program.{ProgramText, objects_total, shape_of, numbering_of}
use Rattle.plain_machine.specs.declared.monitor_call.Mode.TheVariants.{Unwinding}
use Rattle.plain_machine.specs.Thread.{ThreadState}
use Rattle.sync_source.specs.Source.{Statements, Nothing, Plain, Sync, If, While, SyncText, SyncThreadText}
use Rattle.sync_source.specs.SyncThread.{Over, Runs, SyncState, sync_run, sync_thread_after}

-- the instructions of statements and of the blocks in them, in the order of their lines
abbrev pub instructions_of : Statements → List Code
instructions_of Nothing = []
instructions_of (Plain c rest) = c ∷ instructions_of rest
instructions_of (Sync x body rest) = instructions_of body ++ instructions_of rest
instructions_of (If t body other rest) = instructions_of body ++ instructions_of other ++ instructions_of rest
instructions_of (While t body rest) = instructions_of body ++ instructions_of rest

abbrev pub without_blocks : SyncThreadText → ThreadDef
without_blocks t = record { name = t.name; locals = t.locals; labels = []; code = instructions_of t.body }

-- the program that the plain machine looks at for what an instruction means: the classes, the objects, and each thread without its blocks
abbrev pub world_of : SyncText → ProgramText
world_of p = record { classes = p.classes; objects = p.objects; threads = map without_blocks p.threads }

pub record SyncMachine : Type 0 where
  pub world : ProgramText
  pub objects : List PlainObject
  -- the classes of the objects that each thread has made
  pub made : List (List ℕ)
  pub threads : List SyncState

-- the thread before its first unit: locals are nil, and it holds nothing
abbrev pub first_thread : ProgramText → ℕ → ℕ → ThreadState
first_thread p locals fuel =
    record {
      place = 0;
      locals = replicate locals Nil;
      fuel = fuel;
      holds = replicate (objects_total p) 0;
      dumps = 0;
      made = 0;
      mode = Unwinding Done;
    }

-- the thread before its first call
abbrev pub first_sync_state : ProgramText → SyncThreadText → ℕ → SyncState
first_sync_state p t fuel = sync_run p fuel (Runs t.body Over) (first_thread p (length t.locals) fuel)

-- before the first entry
abbrev pub new_sync_machine : SyncText → ℕ → SyncMachine
new_sync_machine p fuel =
    record {
      world = world_of p;
      objects = new_objects (shape_of (world_of p));
      made = nothing_made (numbering_of (world_of p));
      threads = map (λ t. first_sync_state (world_of p) t fuel) p.threads;
    }

-- the thread, what is made, and the objects move on, where all do
abbrev pub sync_moved : SyncMachine → ℕ → Option SyncState → Option (List (List ℕ)) → Option (List PlainObject) → Option SyncMachine
sync_moved m t None made objects = None
sync_moved m t (Some s) None objects = None
sync_moved m t (Some s) (Some made) None = None
sync_moved m t (Some s) (Some made) (Some objects) =
    Some (record m { objects = objects; made = made; threads = slice_set m.threads t s })

-- the machine after an entry of thread t, where it takes it
abbrev pub sync_take : SyncMachine → ℕ → Entry → Option SyncMachine
sync_take m t e =
    option_and_then
    (λ s. sync_moved m t (sync_thread_after m.world s e) (take_made (numbering_of m.world) m.made t e)
    (take_entry m.objects t e))
    (slice_get m.threads t)

-- the machine after these entries, each with its thread, where it takes each
abbrev pub sync_after_all : SyncMachine → List (ℕ × Logged) → Option SyncMachine
sync_after_all m [] = Some m
sync_after_all m (x ∷ xs) = option_and_then (λ next. sync_after_all next xs) (sync_take m x.0 x.1.entry)

-- the machine under the logs: the one after all their entries in stamped order
abbrev pub sync_machine_after : SyncText → ℕ → List (List Logged) → Option SyncMachine
sync_machine_after p fuel logs = sync_after_all (new_sync_machine p fuel) (order logs)

-- each log's stamps rise strictly from above 0, and the machine takes every entry
pub record IsSyncLegal (p : SyncText) (fuel : ℕ) (logs : List (List Logged)) : Type 0 where
  pub rises : AllByRecursion (RisesAbove 0) logs
  pub taken : IsSome (sync_machine_after p fuel logs)
