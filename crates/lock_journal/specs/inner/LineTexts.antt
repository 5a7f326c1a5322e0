-- Single lines of a run's text, and what an entry prints.
use Rattle.std.specs.Prelude.{ℕ, List, [], ◌∷◌, ◌++◌, codes, decimal, slice_index_or, Option, Some, None, Bool, is_some}
use Rattle.plain_monitor.specs.declared.entry.Value.{Value}
use Rattle.plain_monitor.specs.declared.entry.Entry.{Entry}
use Rattle.plain_monitor.specs.declared.entry.Logged.{Logged}
use Rattle.plain_monitor.specs.declared.entry.Entry.TheVariants as entry
use Rattle.object_program.specs.Program.{ProgramText}
use Rattle.plain_machine.specs.Machine.{PlainMachine, ending_of}
use Rattle.lock_journal.specs.declared.record.Shot.{Shot}
use Rattle.lock_journal.specs.declared.cells.Held.{Held}
use Rattle.lock_journal.specs.declared.prints.Printed.{Printed}
use Rattle.lock_journal.specs.declared.prints.Printed.TheVariants.{Print, Dump}
use Rattle.machine_laws.specs.LogEnds.{last_said}
use Rattle.lock_journal.specs.EndedLines.{said_text}
use Rattle.lock_journal.specs.Words.{object_text, thread_text, value_text}
use Rattle.lock_journal.specs.RunText.{newline, dump_lines, state_text}

-- the line of a print of thread t
abbrev pub print_line : ProgramText → ℕ → Value → List ℕ
print_line p t value = thread_text p t ++ codes ": " ++ value_text p value ++ newline

-- the first line of a dump of thread t
abbrev pub dump_line : ProgramText → ℕ → ℕ → List ℕ
dump_line p t number = codes "dump " ++ thread_text p t ++ codes " " ++ decimal number ++ newline

-- the line on thread t
abbrev pub thread_line : PlainMachine → ℕ → List ℕ
thread_line m t = codes "thread " ++ thread_text m.program t ++ codes " " ++ state_text m t (ending_of m t) ++ newline

-- the line on thread t with this log, by its last entry
abbrev pub ended_line : ProgramText → ℕ → List Logged → List ℕ
ended_line p t log = codes "thread " ++ thread_text p t ++ codes " " ++ said_text (last_said log) ++ newline

-- what an entry prints, where it does
abbrev pub printed_in : Entry → Option Printed
printed_in (entry.Print value) = Some (Print value)
printed_in (entry.Dump number) = Some (Dump number)
printed_in e = None

-- the entry prints or dumps
abbrev pub prints : Entry → Bool
prints e = is_some (printed_in e)

-- the lines of a print or a dump of thread t
abbrev pub lines_of : ProgramText → List (List Shot) → ℕ → Printed → List (List ℕ)
lines_of p shots t (Print value) = print_line p t value ∷ []
lines_of p shots t (Dump number) = dump_lines p t (slice_index_or shots t []) number

-- the line of an object that has an owner
abbrev pub held_line : ProgramText → Held → List ℕ
held_line p h =
    object_text p h.object ++ codes " held by " ++ thread_text p h.owner ++ codes " " ++ decimal h.count
    ++ newline
