use Rattle.std.proofs.Common.{subst, sym, ◌∙◌}
use Rattle.object_program.specs.Valid.{IsProgram}
use Rattle.plain_machine.proofs.Declared.{class_own}
use Rattle.plain_machine.proofs.code.class_of.Goals as goal

pub returns-then-stands_for : goal.returns-then-stands_for
returns-then-stands_for c =
    let l = c.in-Some.ensures.lookup in
    let valid = subst IsProgram c.program.view_is c.program.invariant in
    class_own _ c.args.program.now _ _ _ _ valid c.items.ensures c.program.view_is l.3.0 l.1 (sym c.if-stands_for.true ∙ c.stands_for.ensures)
