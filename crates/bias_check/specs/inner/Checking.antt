-- How lines are checked one after the other.
use Rattle.std.specs.Prelude.{ℕ, ◌+◌, Bool, ◌&&◌, ◌||◌, ◌==◌, nat_lt, if◌then◌else◌, List, [], ◌∷◌, position}
use Rattle.std.specs.Prelude.{Option, Some, None, option_map, option_and_then, Result, Ok, Err}
use Rattle.plain_monitor.specs.declared.entry.Entry.{Entry}
use Rattle.object_program.specs.Program.{ProgramText}
use Rattle.plain_machine.specs.Machine.{PlainMachine, new_machine, take}
use Rattle.bias_check.specs.declared.names.Names.{Names}
use Rattle.bias_check.specs.declared.entries.EntryRead.{EntryRead}
use Rattle.bias_check.specs.declared.entries.LineRead.{LineRead}
use Rattle.bias_check.specs.declared.check.Check.{Check}
use Rattle.bias_check.specs.declared.answer.Checked.{Checked}
use Rattle.bias_check.specs.declared.answer.Checked.TheVariants.{Legal, NoStep, BadHash}
use Rattle.bias_check.specs.declared.answer.CheckFault.{CheckFault}
use Rattle.bias_check.specs.declared.answer.CheckFault.TheVariants.{Unreadable}
use Rattle.bias_check.specs.Answer.{state_of}
use Rattle.bias_check.specs.inner.Marks.{new_hashes, noted, is_bad}
use Rattle.bias_check.specs.inner.Table.{read_line}

abbrev pub is_above : Option (ℕ × ℕ) → ℕ → ℕ → Bool
is_above None stamp thread = nat_lt 0 stamp
is_above (Some last) stamp thread = nat_lt last.0 stamp || ((last.0 == stamp) && nat_lt last.1 thread)

-- the entry and the machine after it, where it takes the entry
abbrev pub taken_by : PlainMachine → ℕ → Entry → Option (Entry × PlainMachine)
taken_by m t e = option_map (λ n. (e, n)) (take m t e)

abbrev pub or_else : Option (Entry × PlainMachine) → Option (Entry × PlainMachine) → Option (Entry × PlainMachine)
or_else None second = second
or_else (Some first) second = Some first

-- the same of the entry that the words tell, or else of their second reading
abbrev pub taken : PlainMachine → ℕ → EntryRead → Option (Entry × PlainMachine)
taken m t read = or_else (taken_by m t read.plain) (option_and_then (λ e. taken_by m t e) read.other)

-- before the first line
abbrev pub first_check : ProgramText → ℕ → ℕ → Check
first_check p fuel start =
    record { machine = new_machine p fuel; hashes = new_hashes p start; last = None; stopped = None }

-- after a line that tells this, where the machine takes it
abbrev pub after : ℕ → Check → LineRead → Option (Entry × PlainMachine) → Check
after number c read None = record c { stopped = Some number }
after number c read (Some x) =
    record c { machine = x.1; hashes = noted c.hashes read.thread x.0; last = Some (read.stamp, read.thread) }

abbrev pub stepped : ℕ → Check → LineRead → Check
stepped number c read = after number c read (taken c.machine read.thread read.entry)

abbrev pub gone_by : Option ℕ → ℕ → Check → LineRead → Check
gone_by (Some line) number c read = c
gone_by None number c read =
    if is_above c.last read.stamp read.thread then stepped number c read else record c { stopped = Some number }

-- after the line with this number, which tells this; after a line that was no step nothing is taken
abbrev pub gone : ℕ → Check → LineRead → Check
gone number c read = gone_by c.stopped number c read

-- goes on where the line tells an entry, and else gives its number
abbrev pub next_check : ℕ → Option LineRead → (LineRead → Result Check ℕ) → Result Check ℕ
next_check number None go_on = Err number
next_check number (Some read) go_on = go_on read

-- the check after these lines, where so many stand before them, or the number of the first that tells no entry
abbrev pub checked_from : Names → ℕ → Check → List (List ℕ) → Result Check ℕ
checked_from t n c [] = Ok c
checked_from t n c (line ∷ lines) =
    next_check (n + 1) (read_line t line) (λ read. checked_from t (n + 1) (gone (n + 1) c read) lines)

abbrev pub hash_verdict : Check → ℕ → Option ℕ → Checked
hash_verdict c lines (Some object) = BadHash object
hash_verdict c lines None = Legal lines (state_of c.machine)

abbrev pub verdict_by : Check → ℕ → Option ℕ → Checked
verdict_by c lines (Some line) = NoStep line
verdict_by c lines None = hash_verdict c lines (position is_bad c.hashes.marks)

-- the answer after the last line
abbrev pub verdict_of : Check → ℕ → Checked
verdict_of c lines = verdict_by c lines c.stopped

abbrev pub answer_of : Result Check ℕ → ℕ → Result Checked CheckFault
answer_of (Ok c) lines = Ok (verdict_of c lines)
answer_of (Err number) lines = Err (Unreadable number)
