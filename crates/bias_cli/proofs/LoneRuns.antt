-- Two runs of a program of one thread.
use Rattle.std.proofs.Common.{◌≡◌, false, length, sym, ap, subst}
use Rattle.heap_table.specs.Seen.{ClosedSeen}
use Rattle.lock_journal.specs.RunText.{text_of_run}
use Rattle.lock_journal.specs.declared.record.RunRecord.{RunRecord}
use Rattle.single_thread_law.specs.LoneRun.{AreSameButForPaths, IsLoneRun}
use Rattle.single_thread_law.specs.Shots.{HasShotsOf}
use Rattle.single_thread_law.proofs.OneWay.{same_runs}
use Rattle.single_thread_law.proofs.Texts.{one_text}
use Rattle.object_program.specs.Program.{ProgramText}
use Rattle.plain_machine.specs.Machine.{PlainMachine}
use Rattle.program_run.proofs.Lone.{lone_run, lone_shots}
use Rattle.cli_args.specs.declared.options.Options.{Options}
use Rattle.bias_cli.specs.Asked.{settings_of}
use Rattle.bias_cli.specs.Finish.{IsRunOf, status_of}

module _ (o q : Options) (p : ProgramText) (r s : RunRecord) (c d : ClosedSeen) (m n : PlainMachine) (alone : length p.threads ≡ 1)
    (fuel : o.fuel ≡ q.fuel) (start : o.start ≡ q.start) (first : IsRunOf o p r c m) (other : IsRunOf q p s d n) where
  first_run : IsLoneRun p o.fuel o.start r.logs m
  first_run = lone_run (settings_of o) p r c alone first.ran m first.under

  other_run : IsLoneRun p o.fuel o.start s.logs n
  other_run =
      subst (λ x. IsLoneRun p x o.start s.logs n) (sym fuel)
      (subst (λ x. IsLoneRun p q.fuel x s.logs n) (sym start) (lone_run (settings_of q) p s d alone other.ran n other.under))

  pub same_machines : m ≡ n
  same_machines = (same_runs p o.fuel o.start r.logs s.logs m n first_run other_run).machines

  pub same_logs : AreSameButForPaths r.logs s.logs
  same_logs = (same_runs p o.fuel o.start r.logs s.logs m n first_run other_run).same

  other_shots : HasShotsOf p o.fuel s
  other_shots = subst (λ x. HasShotsOf p x s) (sym fuel) (lone_shots (settings_of q) p s d alone other.ran)

  pub same_texts : text_of_run false false r m ≡ text_of_run false false s n
  same_texts =
      one_text p o.fuel o.start r s m n first.ran.of.program other.ran.of.program first_run other_run
      (lone_shots (settings_of o) p r c alone first.ran) other_shots

  pub same_statuses : status_of m ≡ status_of n
  same_statuses = ap status_of same_machines
