-- What a call of `biasrun` reads, writes and answers.
use Rattle.std.specs.Prelude.{◌≡◌, ◌⊎◌, ℕ, ◌+◌, Bool, true, false, nat_lt, if◌then◌else◌, List, [], ◌++◌}
use Rattle.std.specs.Prelude.{codes, decimal, length, IsTrue, Option, Some, None, Result, Ok, Err}
use Rattle.std.specs.List.{list_any}
use Rattle.run_io.specs.Faults.{rose}
use Rattle.run_io.specs.declared.source.Source as of_source
use Rattle.plain_monitor.specs.declared.entry.Ending.{Ending}
use Rattle.plain_monitor.specs.declared.entry.Ending.TheVariants.{Done}
use Rattle.program_syntax.specs.declared.error.ProgramError.{ProgramError}
use Rattle.object_program.specs.Program.{ProgramText}
use Rattle.program_syntax.specs.Refusal.{program_of}
use Rattle.program_syntax.specs.Canonical.{canonical}
use Rattle.sync_source.specs.Source.{SyncText}
use Rattle.sync_source.specs.Compiled.{compiled}
use Rattle.sync_source.specs.SyncMachine.{IsSyncLegal}
use Rattle.sync_syntax.specs.declared.error.SyncError.{SyncError}
use Rattle.sync_syntax.specs.Refusal.{sync_program_of}
use Rattle.plain_machine.specs.Machine.{PlainMachine, ending_in, is_stuck}
use Rattle.plain_machine.specs.Legal.{machine_after}
use Rattle.bias_check.specs.declared.answer.Checked.{Checked}
use Rattle.bias_check.specs.declared.answer.CheckFault.{CheckFault}
use Rattle.bias_check.specs.Parts.{has_journal, program_part, journal_part}
use Rattle.bias_cli.specs.Seen.{SourceSeen, SinkSeen}
use Rattle.program_syntax.specs.Text.{most_bytes}
use Rattle.bias_cli.specs.Input.{most_of_journal, Took, TookSome}
use Rattle.bias_cli.specs.Output.{Wrote, WroteFront}
use Rattle.bias_cli.specs.Asked.{settings_of}
use Rattle.bias_cli.specs.Report.{IsReportWhere}
use Rattle.bias_cli.specs.Verdict.{IsVerdict, verdict_status, verdict_text}
use Rattle.outcome_search.specs.declared.outcome.Outcomes as of_search
use Rattle.outcome_search.specs.Outcomes.{has_hash}
use Rattle.bias_cli.specs.Outcomes.{IsSearched, outcome_lines, outcome_status}
use Rattle.lock_journal.specs.RunText.{text_of_run, text_of_lines}
use Rattle.cli_args.specs.declared.options.Options.{Options}
use Rattle.cli_args.specs.declared.options.Command.{Command}
use Rattle.cli_args.specs.declared.options.Command.TheVariants.{Run, Sync, Compile, Check, Make, Outcomes}
use Rattle.handover_program.specs.HandoverText.{handover_text}
use Rattle.bias_cli.specs.Refused.{refusal_text, sync_refusal_text}
use Rattle.lock_journal.specs.declared.record.RunRecord.{RunRecord}
use Rattle.heap_table.specs.Seen.{ClosedSeen}
use Rattle.program_run.specs.Ran.{IsRan}
use Rattle.bias_cli.specs.declared.finish.Finish.{Finish}

-- how many bytes the text may have that the arguments ask to read, where they ask for one
abbrev pub most_asked : Option Command → Option ℕ
most_asked None = None
most_asked (Some (Run o)) = Some most_bytes
most_asked (Some (Sync o)) = Some most_bytes
most_asked (Some Compile) = Some most_bytes
most_asked (Some (Check fuel start)) = Some most_of_journal
most_asked (Some (Make items)) = None
most_asked (Some (Outcomes states witness)) = Some most_bytes

-- where no text is asked for, the source is as it was; else at most one byte more is taken of it than the text may have
abbrev pub TakesAtMost : {S : Type 0} → of_source.Ghosts S → Option ℕ → S → S → Type 0
TakesAtMost tells None before after = after ≡ before
TakesAtMost tells (Some most) before after = TookSome (most + 1) (tells.left before) (tells.left after)

-- what became of the source: it wasn't read, a read failed, or its text was read
pub data Reading : Type 0 where
  Unread : Reading
  ReadFault : Reading
  Text : List ℕ → Reading

-- where no text is asked for, the source is left alone; else it is read to its end or up to the limit, unless a read fails
abbrev pub IsReading : Option ℕ → SourceSeen → SourceSeen → Reading → Type 0
IsReading None before after Unread = after ≡ before
IsReading None before after ReadFault = ⊥
IsReading None before after (Text bytes) = ⊥
IsReading (Some most) before after Unread = ⊥
IsReading (Some most) before after ReadFault = IsTrue (rose before.faults after.faults)
IsReading (Some most) before after (Text bytes) = Took most before.left after.left bytes

-- what is due: to tell a text with its status, where something is refused, or a program is made or compiled; a run of a program, or of a
-- program with blocks, under options; or a check of a journal's lines, by the program, the fuel and what the generators of hashes start from;
-- or a search for every end of a program, which keeps at most so many states, with a witness or without
pub data Due : Type 0 where
  Tells : ℕ → List ℕ → Due
  Runs : Options → ProgramText → Due
  RunsBlocks : Options → SyncText → Due
  Checks : ProgramText → ℕ → ℕ → List (List ℕ) → Due
  Finds : ProgramText → ℕ → Bool → Due

abbrev pub words_refused : Due
words_refused = Tells 2 (codes "words refused\n")

abbrev pub read_fault : Due
read_fault = Tells 5 (codes "read fault\n")

-- the handover program for so many items
abbrev pub program_made : ℕ → Due
program_made items = Tells 0 (handover_text items)

abbrev pub no_program : ProgramError → Due
no_program e = Tells 3 (refusal_text e)

-- a text that has no program is refused with its line and cause
abbrev pub run_due : Options → Result ProgramText ProgramError → Due
run_due o (Ok p) = Runs o p
run_due o (Err e) = no_program e

abbrev pub no_sync_program : SyncError → Due
no_sync_program e = Tells 3 (sync_refusal_text e)

abbrev pub sync_due : Options → Result SyncText SyncError → Due
sync_due o (Ok s) = RunsBlocks o s
sync_due o (Err e) = no_sync_program e

-- the canonical text of the code
abbrev pub compile_due : Result SyncText SyncError → Due
compile_due (Ok s) = Tells 0 (canonical (compiled decimal s))
compile_due (Err e) = no_sync_program e

abbrev pub journal_due : ℕ → ℕ → List (List ℕ) → Result ProgramText ProgramError → Due
journal_due fuel start lines (Ok p) = Checks p fuel start lines
journal_due fuel start lines (Err e) = no_program e

-- the limit goes first, then the marker, then the program before it
abbrev pub check_due : ℕ → ℕ → List ℕ → Due
check_due fuel start bytes =
    if nat_lt most_of_journal (length bytes) then Tells 3 (codes "program: Limit\n")
    else if has_journal bytes then journal_due fuel start (journal_part bytes) (program_of (program_part bytes))
    else Tells 3 (codes "program: NoJournal\n")

-- the ends of a program that asks for a hash aren't searched for
abbrev pub finds_due : ℕ → Bool → Result ProgramText ProgramError → Due
finds_due states witness (Ok p) = if has_hash p then Tells 3 (codes "program: Hash\n") else Finds p states witness
finds_due states witness (Err e) = no_program e

-- what is due of the arguments and the text that they ask for; those that are not accepted, and those that ask for a program to be made,
-- ask for none, and what is due of them is due whatever the text is
abbrev pub text_due : Option Command → List ℕ → Due
text_due None bytes = words_refused
text_due (Some (Run o)) bytes = run_due o (program_of bytes)
text_due (Some (Sync o)) bytes = sync_due o (sync_program_of bytes)
text_due (Some Compile) bytes = compile_due (sync_program_of bytes)
text_due (Some (Check fuel start)) bytes = check_due fuel start bytes
text_due (Some (Make items)) bytes = program_made items
text_due (Some (Outcomes states witness)) bytes = finds_due states witness (program_of bytes)

abbrev pub due_of : Option Command → Reading → Due
due_of c Unread = text_due c []
due_of c ReadFault = read_fault
due_of c (Text bytes) = text_due c bytes

-- the text was written and the status is its own; or a write failed, the status is 6, and a prefix of the text was written
abbrev pub IsWritten : SinkSeen → SinkSeen → ℕ → ℕ → List ℕ → Type 0
IsWritten before after status due text =
    ((status ≡ due) × Wrote before.held after.held text)
    ⊎ ((status ≡ 6) × IsTrue (rose before.faults after.faults) × WroteFront before.held after.held text)

-- a thread that ended by a fault, or for want of fuel
abbrev pub is_cut_short : Option Ending → Bool
is_cut_short None = false
is_cut_short (Some Done) = false
is_cut_short (Some e) = true

-- 4 where the machine is stuck, else 1 where a thread was cut short, else 0
abbrev pub status_of : PlainMachine → ℕ
status_of m =
    if is_stuck m then 4
    else if list_any (λ s. is_cut_short (ending_in s.mode)) m.threads then 1
    else 0

-- a run of the program under these options left the record and the closed heap, and this is the machine under it: the one after
-- all logged entries in stamped order
pub record IsRunOf (o : Options) (p : ProgramText) (r : RunRecord) (c : ClosedSeen)
    (machine : PlainMachine) : Type 0 where
  pub ran : IsRan (settings_of o) p r c
  pub under : machine_after p o.fuel r.logs ≡ Some machine

-- a run: its status is that of the machine under the record, and its text is written, and after it the report where it is
-- asked for
pub record IsRun (o : Options) (p : ProgramText) (before after : SinkSeen) (status : ℕ) (r : RunRecord)
    (c : ClosedSeen) : Type 0 where
  pub machine : PlainMachine
  pub run : IsRunOf o p r c machine
  pub report : List (List ℕ)
  pub reported : IsReportWhere o.report r machine report
  pub written : IsWritten before after status (status_of machine)
      (text_of_run o.stats o.journal r machine ++ text_of_lines report)

-- a check: the answer that holds of the lines is written, with its status
pub record IsCheck (p : ProgramText) (fuel start : ℕ) (lines : List (List ℕ)) (before after : SinkSeen)
    (status : ℕ) : Type 0 where
  pub answer : Result Checked CheckFault
  pub verdict : IsVerdict p fuel start lines answer
  pub written : IsWritten before after status (verdict_status answer) (verdict_text p answer)

-- a search for every end: its counts are written, and after them the way to an end where it is asked for, with the status by the counts
pub record HasSearched (p : ProgramText) (states : ℕ) (witness : Bool) (before after : SinkSeen) (status : ℕ) : Type 0 where
  pub counts : of_search.Outcomes
  pub lines : List (List ℕ)
  pub searched : IsSearched p states witness counts lines
  pub written : IsWritten before after status (outcome_status counts) (text_of_lines (outcome_lines counts ++ lines))

-- there is neither a record nor a closed heap
abbrev pub LeavesNothing : Finish → Type 0
LeavesNothing finish = (finish.run ≡ None) × (finish.closed ≡ None)

-- a run of the program was written, and left its record, and the closed heap with it
abbrev pub LeavesRun : SinkSeen → SinkSeen → Finish → Options → ProgramText → Type 0
LeavesRun before after finish o p =
    (r : RunRecord) × (c : ClosedSeen) × (finish.run ≡ Some r) × (finish.closed ≡ Some c)
    × IsRun o p before after finish.status r c

-- the logs of the record are legal for the program with blocks itself, whose threads do what their statements say. The indexes of traps
-- are those of the code, and are not looked at
abbrev pub FollowsBlocks : Finish → ℕ → SyncText → Type 0
FollowsBlocks finish fuel s = (r : RunRecord) → finish.run ≡ Some r → IsSyncLegal s fuel r.logs

-- what was due was done; only a run leaves a record. Of a program with blocks it is a run of its code
abbrev pub Meets : SinkSeen → SinkSeen → Finish → Due → Type 0
Meets before after finish (Tells status text) = LeavesNothing finish × IsWritten before after finish.status status text
Meets before after finish (Runs o p) = LeavesRun before after finish o p
Meets before after finish (RunsBlocks o s) =
    LeavesRun before after finish o (compiled decimal s) × FollowsBlocks finish o.fuel s
Meets before after finish (Checks p fuel start lines) =
    LeavesNothing finish × IsCheck p fuel start lines before after finish.status
Meets before after finish (Finds p states witness) = LeavesNothing finish × HasSearched p states witness before after finish.status

-- out of memory: nothing is left, and the sink is as it was
pub record IsGivenUp {K : Type 0} (before after : K) (finish : Finish) : Type 0 where
  pub status : finish.status ≡ 7
  pub left : LeavesNothing finish
  pub unwritten : after ≡ before

-- the source was read as the command asks, and what was due then was done; arguments that are not accepted are no command
pub record IsFinish (c : Option Command) (source_before source_after : SourceSeen)
    (sink_before sink_after : SinkSeen) (finish : Finish) : Type 0 where
  pub reading : Reading
  pub read : IsReading (most_asked c) source_before source_after reading
  pub met : Meets sink_before sink_after finish (due_of c reading)
