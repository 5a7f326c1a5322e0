-- The numbers by which C is told.
use Rattle.std.specs.Prelude.{ℕ, pos, Bool, true, false, Option, Some, None, if◌then◌else◌, ◌==◌}
use Rattle.plain_monitor.specs.declared.entry.Entry.{Entry}
use Rattle.plain_monitor.specs.declared.entry.Entry.TheVariants as entry
use Rattle.plain_monitor.specs.declared.entry.Fault.{Fault}
use Rattle.plain_monitor.specs.declared.entry.Fault.TheVariants as fault
use Rattle.plain_monitor.specs.declared.entry.Logged.{Logged}
use Rattle.plain_monitor.specs.declared.entry.Path.{Path}
use Rattle.plain_monitor.specs.declared.entry.Path.TheVariants.{BiasOwn, BiasTaken, StackFirst, StackAgain, MonitorFirst, MonitorAgain}
use Rattle.plain_monitor.specs.declared.entry.Value.{Value}
use Rattle.plain_monitor.specs.declared.entry.Value.TheVariants.{Nil, Int, Ref}
use Rattle.core_world.specs.declared.answer.PendingCause.{PendingCause}
use Rattle.core_world.specs.declared.answer.PendingCause.TheVariants.{Owned, NotNotified, Raced, Inflating, Stopping, Requested, Halted}
use Rattle.core_world.specs.declared.heap_call.Operation.{Operation}
use Rattle.core_world.specs.declared.heap_call.Operation.TheVariants as op
use Rattle.lock_runtime_c.specs.declared.answers.Answer.{Answer}
use Rattle.lock_runtime_c.specs.declared.numbers.Cell.{Cell}
use Rattle.lock_runtime_c.specs.declared.numbers.Row.{Row}
use Rattle.lock_runtime_c.specs.declared.outcome.Misuse.{Misuse}
use Rattle.lock_runtime_c.specs.declared.outcome.Misuse.TheVariants as misuse
use Rattle.lock_runtime_c.specs.declared.outcome.Outcome.{Outcome}
use Rattle.lock_runtime_c.specs.declared.outcome.Outcome.TheVariants as outcome
use Rattle.lock_runtime_c.specs.declared.outcome.Refusal.{Refusal}
use Rattle.lock_runtime_c.specs.declared.outcome.Refusal.TheVariants as refusal
use Rattle.lock_runtime_c.specs.declared.outcome.Said.{Said}
use Rattle.lock_runtime_c.specs.declared.outcome.Said.TheVariants as said

abbrev pub bool_number : Bool → ℕ
bool_number false = 0
bool_number true = 1

abbrev pub path_number : Path → ℕ
path_number BiasOwn = 1
path_number BiasTaken = 2
path_number StackFirst = 3
path_number StackAgain = 4
path_number MonitorFirst = 5
path_number MonitorAgain = 6

abbrev pub cause_number : PendingCause → ℕ
cause_number (Owned word) = 1
cause_number (NotNotified word) = 2
cause_number (Raced expected found) = 3
cause_number Inflating = 4
cause_number (Stopping word) = 5
cause_number (Requested word) = 6
cause_number Halted = 7

-- the word that was found
abbrev pub cause_word : PendingCause → ℕ
cause_word (Owned word) = word
cause_word (NotNotified word) = word
cause_word (Raced expected found) = found
cause_word Inflating = 0
cause_word (Stopping word) = word
cause_word (Requested word) = word
cause_word Halted = 0

abbrev pub op_number : Operation → ℕ
op_number op.Enter = 1
op_number op.Exit = 2
op_number op.Wait = 3
op_number op.Notify = 4
op_number op.NotifyAll = 5
op_number op.Hash = 6
op_number op.Dump = 7
op_number op.Create = 8

abbrev pub fault_number : Fault → ℕ
fault_number fault.IllegalMonitorState = 1
fault_number fault.Unguarded = 2
fault_number fault.NotRef = 3
fault_number fault.NotInt = 4
fault_number fault.Range = 5
fault_number fault.Overflow = 6
fault_number fault.TooDeep = 7
fault_number fault.TooManyDumps = 8
fault_number fault.TooMany = 9

-- VALUES
abbrev pub value_kind : Value → ℕ
value_kind Nil = 0
value_kind (Int i) = 1
value_kind (Ref o) = 2

abbrev pub cell_of : Value → Cell
cell_of Nil = record { kind = 0; object = 0; number = pos 0 }
cell_of (Int i) = record { kind = 1; object = 0; number = i }
cell_of (Ref o) = record { kind = 2; object = o; number = pos 0 }

abbrev pub value_of : Cell → Option Value
value_of c = if c.kind == 0 then Some Nil else (if c.kind == 1 then Some (Int c.number) else (if c.kind == 2 then Some (Ref c.object) else None))

-- ENTRIES
abbrev pub parts_of : Entry → ℕ × ℕ × ℕ × ℕ
parts_of (entry.Enter o path) = (1, o, path_number path, 0)
parts_of (entry.Exit o) = (2, o, 0, 0)
parts_of (entry.Get o slot value) = (3, o, slot, 0)
parts_of (entry.Put o slot value) = (4, o, slot, 0)
parts_of (entry.Wait o) = (5, o, 0, 0)
parts_of (entry.Resume o) = (6, o, 0, 0)
parts_of (entry.Notify o None) = (7, o, 0, 0)
parts_of (entry.Notify o (Some t)) = (7, o, 1, t)
parts_of (entry.NotifyAll o woken) = (8, o, 0, woken)
parts_of (entry.Hash o value None) = (9, o, 0, value)
parts_of (entry.Hash o value (Some number)) = (9, o, number, value)
parts_of (entry.New o c) = (10, o, c, 0)
parts_of (entry.Print value) = (11, 0, 0, 0)
parts_of (entry.Dump number) = (12, 0, 0, number)
parts_of (entry.Trap f index) = (13, 0, fault_number f, index)
parts_of entry.Spent = (14, 0, 0, 0)
parts_of entry.Done = (15, 0, 0, 0)

abbrev pub value_in : Entry → Value
value_in (entry.Get o slot value) = value
value_in (entry.Put o slot value) = value
value_in (entry.Print value) = value
value_in _ = Nil

abbrev pub row_of : Logged → Row
row_of l = record {
  stamp = l.stamp;
  kind = (parts_of l.entry).0;
  object = (parts_of l.entry).1;
  detail = (parts_of l.entry).2;
  number = (parts_of l.entry).3;
  value = cell_of (value_in l.entry);
}

-- ANSWERS
abbrev pub with_kind : ℕ → ℕ → ℕ → Answer
with_kind kind detail word = record { kind = kind; detail = detail; word = word }

abbrev pub plain : ℕ → Answer
plain kind = with_kind kind 0 0

abbrev pub done : Said → Answer
done said.Nothing = with_kind 0 0 0
done (said.Entered path) = with_kind 0 (path_number path) 0
done (said.Woke None) = with_kind 0 0 0
done (said.Woke (Some t)) = with_kind 0 1 t
done (said.WokeAll n) = with_kind 0 0 n
done (said.Hash value) = with_kind 0 0 value
done (said.Read value) = with_kind 0 (value_kind value) 0
done (said.Dump n) = with_kind 0 0 n
done (said.Stuck b) = with_kind 0 (bool_number b) 0
done (said.Handed n) = with_kind 0 0 n

abbrev pub pending : PendingCause → Answer
pending why = with_kind 1 (cause_number why) (cause_word why)

abbrev pub refused : Refusal → Answer
refused refusal.TooDeep = with_kind 2 1 0
refused refusal.NotOwner = with_kind 2 2 0
refused refusal.Unguarded = with_kind 2 3 0
refused refusal.TooManyDumps = with_kind 2 4 0

abbrev pub misuse_number : Misuse → ℕ
misuse_number misuse.Empty = 1
misuse_number misuse.OtherKind = 2
misuse_number misuse.Taken = 3
misuse_number misuse.NoThread = 4
misuse_number misuse.PassTaken = 5
misuse_number misuse.TooManyEntries = 6
misuse_number misuse.TooManyClasses = 7
misuse_number misuse.TooManySlots = 8
misuse_number misuse.TooManyObjects = 9
misuse_number misuse.NoClass = 10
misuse_number misuse.NoEntry = 11
misuse_number misuse.Ended = 12
misuse_number misuse.CheckIsUnfinished = 13
misuse_number (misuse.IsUnfinished o) = 14
misuse_number misuse.IsAsking = 15
misuse_number misuse.IsStopped = 16
misuse_number misuse.IsRunning = 17
misuse_number misuse.NoObject = 18
misuse_number misuse.NoSlot = 19
misuse_number misuse.NoValue = 20
misuse_number misuse.IsHolding = 21
misuse_number misuse.InUse = 22
misuse_number misuse.PassLost = 23
misuse_number misuse.NoDump = 24

-- the operation that is unfinished, or 0
abbrev pub misuse_word : Misuse → ℕ
misuse_word (misuse.IsUnfinished o) = op_number o
misuse_word _ = 0

abbrev pub misused : Misuse → Answer
misused m = with_kind 3 (misuse_number m) (misuse_word m)

abbrev pub answered : Outcome → Answer
answered (outcome.Done said) = done said
answered (outcome.Pending why) = pending why
answered (outcome.Refused refusal) = refused refusal
answered (outcome.Misused misuse) = misused misuse
answered outcome.Full = plain 4
answered outcome.NoMemory = plain 5
