use Rattle.std.proofs.Common.{sym, subst}
use Rattle.core_world.specs.Trees.BiasSteps.{unbias_swap_steps}
use Rattle.heap_table.specs.Parts.{IsDueOn, HasMadeSteps}
use Rattle.bias_lock.proofs.drops.make_neutral.Goals as goal

pub unbias-requires-clause-due : goal.unbias-requires-clause-due
unbias-requires-clause-due c =
    let a = c.args in
    let h = a.heap.now in
    let p = a.pass.now in
    let e = a.call.now in
    subst (λ w. IsDueOn h p e.task (unbias_swap_steps e a.object a.mark w)) (sym c.encode-neutral.ensures) c.requires.due

pub returns : goal.returns
returns c =
    let a = c.args in
    let h = a.heap.now in
    let p = a.pass.now in
    let e = a.call.now in
    subst (λ w. HasMadeSteps h (unbias_swap_steps e a.object a.mark w) p c.unbias.new.pass c.unbias.result) c.encode-neutral.ensures c.unbias.ensures
