use Rattle.std.proofs.Common.{◌<◌, ◌^◌, subst, arith}
use Rattle.plain_monitor.specs.Order.{order}
use Rattle.object_program.specs.Valid.{IsProgram}
use Rattle.plain_machine.specs.Machine.{new_machine}
use Rattle.lock_journal.specs.declared.record.RunRecord.{RunRecord}
use Rattle.wait_report.proofs.Few.{few_entries, objects_take, none_entered}
use Rattle.wait_report.proofs.counts.entries_are_few.Goals as goal

pub returns-clause-few : goal.returns-clause-few
returns-clause-few c =
    let run = c.args.run.now in
    let allowed : IsProgram run.program = subst (λ (r : RunRecord). IsProgram r.program) c.run.view_is c.run.invariant in
    let small : run.fuel < 2 ^ 32 = omega arith in
    few_entries run.program run.fuel (order run.logs)
    (record { reached = c.machines_stay_reached.ensures.each; less = c.each_entry_uses_up_work.ensures }) allowed small
    (c.machines_stay_reached.ensures.first run.program run.fuel allowed) c.requires.legal.taken

pub returns-clause-within : goal.returns-clause-within
returns-clause-within c o past =
    let run = c.args.run.now in
    let allowed : IsProgram run.program = subst (λ (r : RunRecord). IsProgram r.program) c.run.view_is c.run.invariant in
    let reached = c.machines_stay_reached.ensures.first run.program run.fuel allowed in
    none_entered (new_machine run.program run.fuel).objects (order run.logs) o
    (objects_take (new_machine run.program run.fuel) (order run.logs) c.requires.legal.taken)
    (omega (arith, reached.object_count, past))

pub returns-clause-merged : goal.returns-clause-merged
returns-clause-merged c =
    let run = c.args.run.now in
    let allowed : IsProgram run.program = subst (λ (r : RunRecord). IsProgram r.program) c.run.view_is c.run.invariant in
    c.legal_logs_can_be_merged.ensures run.program run.fuel run.logs allowed c.requires.legal
