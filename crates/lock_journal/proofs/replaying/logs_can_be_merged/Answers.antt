use Rattle.std.proofs.Common.{subst}
use Rattle.object_program.specs.Valid.{IsProgram}
use Rattle.lock_journal.specs.declared.record.RunRecord.{RunRecord}
use Rattle.lock_journal.proofs.replaying.logs_can_be_merged.Goals as goal

pub returns : goal.returns
returns c =
    let run = c.args.run.now in
    let allowed : IsProgram run.program = subst (λ (r : RunRecord). IsProgram r.program) c.run.view_is c.run.invariant in
    c.legal_logs_can_be_merged.ensures run.program run.fuel run.logs allowed c.requires
