-- A run whose machine need not be at hand.
use Rattle.std.specs.Prelude.{◌≡◌, ℕ, Bool, false, if◌then◌else◌, List, [], Option, Some, None}
use Rattle.std.specs.List.{list_any}
use Rattle.plain_monitor.specs.declared.entry.Logged.{Logged}
use Rattle.object_program.specs.Program.{ProgramText}
use Rattle.plain_machine.specs.Machine.{PlainMachine}
use Rattle.plain_machine.specs.Legal.{machine_after}
use Rattle.heap_table.specs.Seen.{ClosedSeen}
use Rattle.machine_laws.specs.LogEnds.{HaveEnded, last_said}
use Rattle.lock_journal.specs.LinesLeft.{IsShown, IsShownEnded, lines_left, lines_left_ended, lines_of_ended}
use Rattle.lock_journal.specs.RunText.{lines_of_run}
use Rattle.lock_journal.specs.declared.lines.Lines.{Lines}
use Rattle.lock_journal.specs.declared.record.RunRecord.{RunRecord}
use Rattle.program_run.specs.Ran.{IsRan}
use Rattle.cli_args.specs.declared.options.Options.{Options}
use Rattle.bias_cli.specs.Asked.{settings_of}
use Rattle.bias_cli.specs.Finish.{is_cut_short, status_of}
use Rattle.bias_cli.specs.Report.{IsReportWhere}

-- the machine at hand is the one under the record; or there is none, each log ends with its thread's ending, and neither a report nor
-- statistics are asked for
abbrev pub IsToldBy : Options → RunRecord → Option PlainMachine → Type 0
IsToldBy o r None = HaveEnded r.logs × (o.report ≡ false) × (o.stats ≡ false)
IsToldBy o r (Some m) = machine_after r.program r.fuel r.logs ≡ Some m

-- a run of the program under these options left the record and the closed heap, and this is the machine at hand
pub record IsRunBy (o : Options) (p : ProgramText) (r : RunRecord) (c : ClosedSeen) (at : Option PlainMachine) : Type 0 where
  pub ran : IsRan (settings_of o) p r c
  pub told : IsToldBy o r at

-- the lines of the run can be given, by the machine or by the logs
abbrev pub IsShownBy : RunRecord → Option PlainMachine → Type 0
IsShownBy r None = IsShownEnded r
IsShownBy r (Some m) = IsShown r m

abbrev pub lines_by : Bool → Bool → RunRecord → Option PlainMachine → List (List ℕ)
lines_by stats journal r None = lines_of_ended journal r
lines_by stats journal r (Some m) = lines_of_run stats journal r m

abbrev pub left_by : RunRecord → Option PlainMachine → Lines → List (List ℕ)
left_by r None lines = lines_left_ended r lines
left_by r (Some m) lines = lines_left r m lines

abbrev pub IsReportBy : Bool → RunRecord → Option PlainMachine → List (List ℕ) → Type 0
IsReportBy asked r None lines = lines ≡ []
IsReportBy asked r (Some m) lines = IsReportWhere asked r m lines

-- some of these logs ends with an entry that says that its thread was cut short
abbrev pub logs_cut_short : List (List Logged) → Bool
logs_cut_short logs = list_any (λ log. is_cut_short (last_said log)) logs

abbrev pub status_by : RunRecord → Option PlainMachine → ℕ
status_by r None = if logs_cut_short r.logs then 1 else 0
status_by r (Some m) = status_of m
