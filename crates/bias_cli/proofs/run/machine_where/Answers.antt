use Rattle.std.proofs.Common.{subst, arith}
use Rattle.object_program.specs.Valid.{IsProgram}
use Rattle.lock_journal.specs.declared.record.RunRecord.{RunRecord}
use Rattle.lock_journal.proofs.Sixteen.{few_of_sixteen}
use Rattle.bias_cli.proofs.Under.{under_logs}
use Rattle.bias_cli.proofs.run.machine_where.Goals as goal

pub returns-clause-shown : goal.returns-clause-shown
returns-clause-shown c =
    let run = c.args.run.now in
    let allowed : IsProgram run.program = subst (λ (r : RunRecord). IsProgram r.program) c.run.view_is c.run.invariant in
    let few = allowed.threads_few in
    let like = under_logs run.program run.fuel run.logs c.in_ok-machine.machine c.in_ok-machine.ensures in
    record {
      rising = c.requires.legal.rises;
      few = few_of_sixteen run.logs (omega (arith, few, c.requires.logs));
      program = like.program;
      threads = like.threads;
    }
