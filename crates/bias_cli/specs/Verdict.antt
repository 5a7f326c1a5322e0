-- What is written of a journal that was checked, and the status.
use Rattle.std.specs.Prelude.{◌≢◌, ℕ, if◌then◌else◌, List, [], ◌++◌, codes, decimal, length, Result, Ok, Err}
use Rattle.plain_monitor.specs.declared.entry.Logged.{Logged}
use Rattle.plain_monitor.specs.Order.{order}
use Rattle.object_program.specs.Program.{ProgramText}
use Rattle.lock_journal.specs.Words.{object_text}
use Rattle.lock_journal.specs.RunText.{newline, text_of_lines}
use Rattle.lock_journal.specs.declared.record.RunRecord.{RunRecord}
use Rattle.bias_check.specs.declared.answer.Checked.{Checked}
use Rattle.bias_check.specs.declared.answer.Checked.TheVariants.{Legal, NoStep, BadHash}
use Rattle.bias_check.specs.declared.answer.Reached.{Reached}
use Rattle.bias_check.specs.declared.answer.Reached.TheVariants.{Ended, Stuck, Open}
use Rattle.bias_check.specs.declared.answer.CheckFault.{CheckFault}
use Rattle.bias_check.specs.declared.answer.CheckFault.TheVariants.{Unreadable, NoMemory}
use Rattle.bias_check.specs.Answer.{IsTrueOf}
use Rattle.bias_check.specs.Parts.{marker}
use Rattle.bias_check.specs.Printed.{journal_of}

abbrev pub reached_text : Reached → List ℕ
reached_text Ended = codes "ended"
reached_text Stuck = codes "stuck"
reached_text Open = codes "open"

-- the line of an answer; want of memory has none
abbrev pub verdict_text : ProgramText → Result Checked CheckFault → List ℕ
verdict_text p (Ok (Legal count state)) = codes "legal " ++ decimal count ++ codes " " ++ reached_text state ++ newline
verdict_text p (Ok (NoStep number)) = codes "journal " ++ decimal number ++ codes ": no step\n"
verdict_text p (Ok (BadHash object)) = codes "hash " ++ object_text p object ++ newline
verdict_text p (Err (Unreadable number)) = codes "journal " ++ decimal number ++ codes ": unreadable\n"
verdict_text p (Err NoMemory) = []

abbrev pub verdict_status : Result Checked CheckFault → ℕ
verdict_status (Ok (Legal count state)) = 0
verdict_status (Ok (NoStep number)) = 1
verdict_status (Ok (BadHash object)) = 1
verdict_status (Err (Unreadable number)) = 3
verdict_status (Err NoMemory) = 7

-- the answer is the one that holds of these lines
pub record IsVerdict (p : ProgramText) (fuel start : ℕ) (lines : List (List ℕ))
    (answer : Result Checked CheckFault) : Type 0 where
  pub holds : IsTrueOf p fuel start lines answer
  pub given : answer ≢ Err NoMemory

-- what a check answers to the journal of this run: it is legal, with all entries that were logged, and its threads have ended, or are stuck where
-- the run was halted
abbrev pub answer_to : RunRecord → Result Checked CheckFault
answer_to r = Ok (Legal (length (order r.logs)) (if r.halted then Stuck else Ended))

-- the text that a check reads: that of the program, the marker, and the journal of these logs
abbrev pub with_journal : List ℕ → ProgramText → List (List Logged) → List ℕ
with_journal text p logs = text ++ (marker ++ text_of_lines (journal_of p logs))
