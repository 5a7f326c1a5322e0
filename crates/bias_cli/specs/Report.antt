-- What is reported of a run: who waits for whom where it is stuck, and how each object was locked and passed on.
use Rattle.std.specs.Prelude.{◌≡◌, ℕ, Bool, true, false, List, [], ◌∷◌, ◌++◌, codes, decimal, map}
use Rattle.std.specs.List.{flat_map}
use Rattle.plain_monitor.specs.Order.{order}
use Rattle.object_program.specs.Program.{ProgramText}
use Rattle.plain_machine.specs.Machine.{PlainMachine, is_stuck}
use Rattle.lock_journal.specs.Words.{object_text, thread_text}
use Rattle.lock_journal.specs.RunText.{newline, only_where}
use Rattle.lock_journal.specs.declared.record.RunRecord.{RunRecord}
use Rattle.wait_report.specs.Cycles.{AreCycles}
use Rattle.wait_report.specs.Counts.{counts_of}
use Rattle.wait_report.specs.declared.cycles.Link.{Link}
use Rattle.wait_report.specs.declared.cycles.Cycle.{Cycle}
use Rattle.wait_report.specs.declared.counts.ObjectCount.{ObjectCount}

-- a thread of a cycle, and the object by which it waits for the next one
abbrev pub link_text : ProgramText → Link → List ℕ
link_text p l = codes " " ++ thread_text p l.thread ++ codes " " ++ object_text p l.object

abbrev pub cycle_line : ProgramText → Cycle → List ℕ
cycle_line p c = codes "cycle" ++ flat_map (link_text p) c.links ++ newline

-- the cycles of a machine that is stuck
abbrev pub cycle_lines : ProgramText → List Cycle → List (List ℕ)
cycle_lines p [] = codes "cycle none\n" ∷ []
cycle_lines p (c ∷ cs) = map (cycle_line p) (c ∷ cs)

abbrev pub number_text : ℕ → List ℕ
number_text n = codes " " ++ decimal n

abbrev pub count_line : ProgramText → ObjectCount → List ℕ
count_line p c =
    codes "object " ++ object_text p c.object ++ flat_map number_text c.paths ++ codes " handovers"
    ++ number_text c.handovers
    ++ newline

-- the lines of a report; the machine is the one under the record
pub record IsReport (r : RunRecord) (m : PlainMachine) (lines : List (List ℕ)) : Type 0 where
  pub cycles : List Cycle
  pub are_all : AreCycles m cycles
  pub lines_are : lines ≡ only_where (is_stuck m) (cycle_lines r.program cycles)
      ++ map (count_line r.program) (counts_of r.program (order r.logs))

-- no lines, where no report is asked for
abbrev pub IsReportWhere : Bool → RunRecord → PlainMachine → List (List ℕ) → Type 0
IsReportWhere false r m lines = lines ≡ []
IsReportWhere true r m lines = IsReport r m lines
