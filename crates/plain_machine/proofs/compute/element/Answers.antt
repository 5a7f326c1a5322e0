use Rattle.std.proofs.Common.{◌≡◌, w64, to_z, of_z, subst, sym, ap, arith, ◌∙◌}
use Rattle.std.proofs.lemmas.Int.{ints}
use Rattle.plain_monitor.specs.declared.entry.Value.TheVariants.{Int}
use Rattle.object_program.specs.Valid.{IsProgram}
use Rattle.plain_machine.proofs.Declared.{declared_at, declared_below, element_some, element_none}
use Rattle.plain_machine.proofs.compute.element.Goals as goal

pub overflow_add-result : goal.overflow_add-result
overflow_add-result g c =
    let l = c.in-Some.ensures.lookup in
    let at = declared_at _ _ _ _ _ c.items.ensures c.program.view_is l.3.0 l.1 in
    let below = declared_below c.args.program.now _ _ (subst IsProgram c.program.view_is c.program.invariant) at in
    omega (arith, below, c.in-Some-place.ensures.some.1)

pub returns-in-Some-place-clause-next : goal.returns-in-Some-place-clause-next
returns-in-Some-place-clause-next g c =
    let l = c.in-Some.ensures.lookup in
    let at = declared_at _ _ _ _ _ c.items.ensures c.program.view_is l.3.0 l.1 in
    let i : to_z w64 (of_z w64 c.in-Int.i) ≡ c.in-Int.i = omega (arith, ints) in
    element_some _ _ _ _ _ _ _ (c.in-Int.is ∙ ap Int (sym i)) at c.in-Some-place.ensures.test c.in-Some-place.ensures.some.0

pub returns-in-None-clause-next : goal.returns-in-None-clause-next
returns-in-None-clause-next g c =
    let l = c.in-Some.ensures.lookup in
    let at = declared_at _ _ _ _ _ c.items.ensures c.program.view_is l.3.0 l.1 in
    let i : to_z w64 (of_z w64 c.in-Int.i) ≡ c.in-Int.i = omega (arith, ints) in
    element_none _ _ _ _ _ _ (c.in-Int.is ∙ ap Int (sym i)) at c.in-None.ensures.test ∙ c.fault-in-None.ensures.next
