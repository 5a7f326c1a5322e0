use Rattle.std.proofs.Common.{arith, ap, subst, ◌∙◌}
use Rattle.object_program.specs.Program.{ProgramText}
use Rattle.object_program.specs.Valid.{IsProgram}
use Rattle.plain_machine.proofs.Declared.{class_at, class_nowhere, declarations_rise}
use Rattle.plain_machine.proofs.code.class_found.Goals as goal

pub begun_by-begun-requires : goal.begun_by-begun-requires
begun_by-begun-requires c =
    let valid = subst IsProgram c.program.view_is c.program.invariant in
    declarations_rise _ _ valid (c.items-definitions.ensures ∙ ap (λ (p : ProgramText). p.objects) c.program.view_is)

pub returns-then-begun-eq0 : goal.returns-then-begun-eq0
returns-then-begun-eq0 c =
    let same = c.items-definitions.ensures ∙ ap (λ (p : ProgramText). p.objects) c.program.view_is in
    class_nowhere c.args.program.now _ _ _ same c.if-begun-eq0.true c.begun_by-begun.ensures.point

pub returns : goal.returns
returns c =
    let valid = subst IsProgram c.program.view_is c.program.invariant in
    let same = c.items-definitions.ensures ∙ ap (λ (p : ProgramText). p.objects) c.program.view_is in
    let begun = c.begun_by-begun.ensures in
    c.class_by.ensures ∙ class_at _ _ _ _ _ valid same (omega (arith, c.if-begun-eq0.false)) begun.bound begun.point c.index-definitions-begun.is
