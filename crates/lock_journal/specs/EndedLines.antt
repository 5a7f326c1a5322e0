-- The lines on threads that have ended, by their logs.
use Rattle.std.specs.Prelude.{ℕ, ◌+◌, List, [], ◌∷◌, ◌++◌, codes, Option, Some, None}
use Rattle.plain_monitor.specs.declared.entry.Ending.{Ending}
use Rattle.plain_monitor.specs.declared.entry.Logged.{Logged}
use Rattle.object_program.specs.Program.{ProgramText}
use Rattle.machine_laws.specs.LogEnds.{last_said}
use Rattle.lock_journal.specs.Words.{thread_text}
use Rattle.lock_journal.specs.RunText.{newline, ending_text}

abbrev pub said_text : Option Ending → List ℕ
said_text None = []
said_text (Some e) = ending_text e

-- the lines on threads that have ended, by their logs, where the first log is that of thread t
abbrev pub ended_lines : ProgramText → ℕ → List (List Logged) → List (List ℕ)
ended_lines p t [] = []
ended_lines p t (log ∷ logs) =
    (codes "thread " ++ thread_text p t ++ codes " " ++ said_text (last_said log) ++ newline) ∷ ended_lines p (t + 1) logs
