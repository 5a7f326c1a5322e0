-- The record of a call is that of a legal run.
use Rattle.std.proofs.Common.{◌≡◌, ◌⊎◌, length, Option, Some, ap, sym, ◌∙◌, inl, inr, decimal}
use Rattle.std.proofs.lemmas.Option.{same_Some}
use Rattle.plain_machine.specs.Legal.{IsLegal}
use Rattle.lock_journal.specs.declared.record.RunRecord.{RunRecord}
use Rattle.object_program.specs.Program.{ProgramText}
use Rattle.cli_args.specs.declared.options.Options.{Options}
use Rattle.cli_args.specs.declared.options.Command.{Command}
use Rattle.sync_source.specs.Compiled.{compiled}
use Rattle.bias_cli.specs.declared.finish.Finish.{Finish}
use Rattle.bias_cli.specs.Seen.{SourceSeen, SinkSeen}
use Rattle.bias_cli.specs.Finish.{Due, Runs, RunsBlocks, LeavesRun, Meets, IsGivenUp, IsFinish, due_of}

-- what holds of a record that can be replayed
record IsReplayed (r : RunRecord) : Type 0 where
  pub legal : IsLegal r.program r.fuel r.logs
  pub threads : length r.logs ≡ length r.program.threads

run_replayed : (before after : SinkSeen) (f : Finish) (r : RunRecord) (o : Options) (p : ProgramText)
    → LeavesRun before after f o p → f.run ≡ Some r → IsReplayed r
run_replayed before after f r o p met h =
    let same : met.0 ≡ r = same_Some met.0 r (sym met.2 ∙ h) in
    let ran = (rw same at met.4).run.ran in
    record {
      legal = rw (ran.of.program, ran.of.fuel) ran.legal;
      threads = ran.all.logs ∙ ap (λ q. length q.threads) (sym ran.of.program);
    }

-- what was due was done, and left a record
due_replayed : (before after : SinkSeen) (f : Finish) (r : RunRecord) (due : Due) → Meets before after f due → f.run ≡ Some r → IsReplayed r
due_replayed before after f r (Runs o p) met h = run_replayed before after f r o p met h
due_replayed before after f r (RunsBlocks o s) met h = run_replayed before after f r o (compiled decimal s) met.0 h
due_replayed before after f r _ met h = absurd (cc (h, met.0.0))

replayed : (c : Option Command) (source_before source_after : SourceSeen) (sink_before sink_after : SinkSeen) (f : Finish) (r : RunRecord)
    → IsGivenUp sink_before sink_after f ⊎ IsFinish c source_before source_after sink_before sink_after f → f.run ≡ Some r → IsReplayed r
replayed c sb sa kb ka f r (inl g) h = absurd (cc (h, g.left.0))
replayed c sb sa kb ka f r (inr d) h = due_replayed kb ka f r (due_of c d.reading) d.met h

pub replayed_legal : (c : Option Command) (source_before source_after : SourceSeen) (sink_before sink_after : SinkSeen) (f : Finish) (r : RunRecord)
    → IsGivenUp sink_before sink_after f ⊎ IsFinish c source_before source_after sink_before sink_after f → f.run ≡ Some r → IsLegal r.program r.fuel r.logs
replayed_legal c sb sa kb ka f r d h = (replayed c sb sa kb ka f r d h).legal

pub replayed_threads : (c : Option Command) (source_before source_after : SourceSeen) (sink_before sink_after : SinkSeen) (f : Finish) (r : RunRecord)
    → IsGivenUp sink_before sink_after f ⊎ IsFinish c source_before source_after sink_before sink_after f
    → f.run ≡ Some r → length r.logs ≡ length r.program.threads
replayed_threads c sb sa kb ka f r d h = (replayed c sb sa kb ka f r d h).threads
