-- What a run may write, whatever its settings are.
use Rattle.std.proofs.Common.{◌≡◌, ℕ, Bool, true, false, List, [], ◌++◌, append-nil, Some, refl, sym, ap, ◌∙◌, subst}
use Rattle.heap_table.specs.Seen.{ClosedSeen}
use Rattle.lock_journal.specs.RunText.{text_of_lines, text_of_run}
use Rattle.lock_journal.specs.declared.record.RunRecord.{RunRecord}
use Rattle.single_thread_law.specs.LoneRun.{with_no_paths}
use Rattle.object_program.specs.Program.{ProgramText}
use Rattle.plain_machine.specs.Legal.{machine_after}
use Rattle.plain_machine.specs.Machine.{PlainMachine}
use Rattle.program_run.specs.PlainRun.{plain_text}
use Rattle.program_run.proofs.NoPaths.{after_bare}
use Rattle.program_run.proofs.PlainRuns.{plain_run, plain_text_is}
use Rattle.program_run.proofs.ChosenPaths.{made}
use Rattle.cli_args.specs.declared.options.Options.{Options}
use Rattle.bias_cli.specs.declared.finish.Finish.{Finish}
use Rattle.bias_cli.specs.Asked.{settings_of}
use Rattle.bias_cli.specs.Finish.{IsRunOf, IsWritten, LeavesRun, status_of}
use Rattle.bias_cli.specs.MayBeWritten.{AsksForNoMore, IsAllowedBy, MayBeWritten, WroteAllowed}
use Rattle.bias_cli.specs.Report.{IsReportWhere}
use Rattle.bias_cli.specs.Seen.{SinkSeen}

pub may_be_written : (o : Options) (p : ProgramText) (r : RunRecord) (c : ClosedSeen) (m : PlainMachine) → IsRunOf o p r c m
    → MayBeWritten p o.fuel o.start (status_of m) (text_of_run false false r m)
may_be_written o p r c m is =
    record {
      logs = with_no_paths r.logs;
      shots = r.shots;
      machine = m;
      run = plain_run (settings_of o) p r c m is.ran is.under;
      status_is = refl;
      text_is = plain_text_is (settings_of o) p r c m is.ran is.under;
    }

-- nothing is reported where no report is asked for
none_reported : (asked : Bool) (r : RunRecord) (m : PlainMachine) (lines : List (List ℕ)) → asked ≡ false → IsReportWhere asked r m lines
    → lines ≡ []
none_reported false r m lines unasked is = is
none_reported true r m lines unasked is = absurd (cc unasked)

pub call_wrote_allowed : (o : Options) (p : ProgramText) (before after : SinkSeen) (finish : Finish) → AsksForNoMore o
    → LeavesRun before after finish o p → WroteAllowed p o.fuel o.start before after finish.status
call_wrote_allowed o p before after finish unasked (r, c, is_r, is_c, run) =
    let m = run.machine in
    let none = none_reported o.report r m run.report unasked.2 run.reported in
    let same : text_of_run o.stats o.journal r m ++ text_of_lines run.report ≡ text_of_run false false r m =
    (λ i. text_of_run (unasked.0 i) (unasked.1 i) r m ++ text_of_lines (none i)) ∙ append-nil (text_of_run false false r m) in
    record {
      due = status_of m;
      text = text_of_run false false r m;
      may = may_be_written o p r c m run.run;
      written = subst (IsWritten before after finish.status (status_of m)) same run.written;
    }

pub all_allowed : (o : Options) (p : ProgramText) (status : ℕ) (text : List ℕ) → MayBeWritten p o.fuel o.start status text
    → IsAllowedBy o p status text
all_allowed o p status text may =
    let a = made (settings_of o) p may.logs may.shots may.machine may.run in
    let under : machine_after p o.fuel a.run.logs ≡ Some may.machine =
    sym (after_bare p o.fuel a.run.logs) ∙ ap (machine_after p o.fuel) a.logs_are ∙ may.run.under in
    record {
      record_of = a.run;
      closed = a.closed;
      machine = may.machine;
      run = record { ran = a.ran; under = under };
      status_is = may.status_is;
      text_is = may.text_is ∙ (λ i. plain_text p (sym a.logs_are i) (sym a.shots_are i) may.machine)
          ∙ sym (plain_text_is (settings_of o) p a.run a.closed may.machine a.ran under);
    }

pub allowed_under_others : (o q : Options) (p : ProgramText) (status : ℕ) (text : List ℕ) → o.fuel ≡ q.fuel → o.start ≡ q.start
    → IsAllowedBy o p status text → IsAllowedBy q p status text
allowed_under_others o q p status text fuel start a =
    let may : MayBeWritten p o.fuel o.start status text =
    subst (λ (x : ℕ × List ℕ). MayBeWritten p o.fuel o.start x.0 x.1) (λ i. (sym a.status_is i, sym a.text_is i))
    (may_be_written o p a.record_of a.closed a.machine a.run) in
    all_allowed q p status text
    (subst (λ (x : ℕ × ℕ). MayBeWritten p x.0 x.1 status text) (λ i. (fuel i, start i)) may)
