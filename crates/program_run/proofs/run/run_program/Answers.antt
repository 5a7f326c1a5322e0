use Rattle.std.proofs.Common.{subst}
use Rattle.object_program.specs.Valid.{IsProgram}
use Rattle.program_run.proofs.run.run_program.Goals as goal

pub returns : goal.returns
returns g c =
    c.the_record_tells_the_run.ensures.record c.args.settings.now c.args.program c.in_ok-record.record c.in_ok-closed.closed
    (subst IsProgram c.program.view_is c.program.invariant) c.requires.fuel c.in_ok-closed.ensures c.in_ok-record.ensures.of c.in_ok-record.ensures.closed
