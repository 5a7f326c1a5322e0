-- A call that no write of failed says the same of any sinks that hold the same.
use Rattle.std.proofs.Common.{◌≡◌, ◌≢◌, inl, inr, ℕ, List, [], ◌++◌, Option, Some, None, refl, sym, ap, ◌∙◌, append-nil}
use Rattle.std.specs.Io.KnownBytes.{append_known}
use Rattle.object_program.specs.Program.{ProgramText}
use Rattle.lock_journal.specs.declared.record.RunRecord.{RunRecord}
use Rattle.heap_table.specs.Seen.{ClosedSeen}
use Rattle.cli_args.specs.declared.options.Options.{Options}
use Rattle.cli_args.specs.declared.options.Command.{Command}
use Rattle.bias_cli.specs.Seen.{SourceSeen, SinkSeen}
use Rattle.bias_cli.specs.Finish.{Due, IsWritten, IsRun, LeavesRun, Meets, IsFinish, due_of}
use Rattle.bias_cli.specs.Finish.Due.{Tells, Runs, RunsBlocks, Checks, Finds}
use Rattle.bias_cli.specs.declared.finish.Finish.{Finish}

-- with nothing pending it is what the sink behind holds
pub nothing_pending : (inner : Option (List ℕ)) (pending : List ℕ) → pending ≡ [] → append_known inner pending ≡ inner
nothing_pending None pending none = refl
nothing_pending (Some x) pending none = ap (λ l. Some (x ++ l)) none ∙ ap Some (append-nil x)

module _ (before after b a : SinkSeen) (from : b.held ≡ before.held) (to : a.held ≡ after.held) where
  written_seen : (status due : ℕ) (text : List ℕ) → status ≢ 6 → IsWritten before after status due text → IsWritten b a status due text
  written_seen status due text ne (inl all) = inl (all.0, λ held e. to ∙ all.1 held (sym from ∙ e))
  written_seen status due text ne (inr failed) = absurd (ne failed.0)

  run_seen : (o : Options) (p : ProgramText) (status : ℕ) (r : RunRecord) (c : ClosedSeen) → status ≢ 6
      → IsRun o p before after status r c → IsRun o p b a status r c
  run_seen o p status r c ne is = record {
    machine = is.machine;
    run = is.run;
    report = is.report;
    reported = is.reported;
    written = written_seen _ _ _ ne is.written;
  }

  leaves_seen : (f : Finish) (o : Options) (p : ProgramText) → f.status ≢ 6 → LeavesRun before after f o p → LeavesRun b a f o p
  leaves_seen f o p ne (r, c, run, closed, is) = (r, c, run, closed, run_seen o p f.status r c ne is)

  meets_seen : (f : Finish) (due : Due) → f.status ≢ 6 → Meets before after f due → Meets b a f due
  meets_seen f (Tells status text) ne met = (met.0, written_seen _ _ _ ne met.1)
  meets_seen f (Runs o p) ne met = leaves_seen f o p ne met
  meets_seen f (RunsBlocks o s) ne met = (leaves_seen f o _ ne met.0, met.1)
  meets_seen f (Checks p fuel start lines) ne met =
      (met.0, record { answer = met.1.answer; verdict = met.1.verdict; written = written_seen _ _ _ ne met.1.written })
  meets_seen f (Finds p states witness) ne met =
      (met.0, record { counts = met.1.counts; lines = met.1.lines; searched = met.1.searched; written = written_seen _ _ _ ne met.1.written })

  pub finish_seen : (c : Option Command) (sb sa : SourceSeen) (f : Finish) → f.status ≢ 6 → IsFinish c sb sa before after f
      → IsFinish c sb sa b a f
  finish_seen c sb sa f ne is = record {
    reading = is.reading;
    read = is.read;
    met = meets_seen f (due_of c is.reading) ne is.met;
  }
