use Rattle.std.proofs.Common.{◌∙◌, ap, subst, arith}
use Rattle.heap_table.proofs.Resting.{if_ok}
use Rattle.object_program.specs.Program.{ProgramText}
use Rattle.object_program.specs.Valid.{IsProgram}
use Rattle.program_run.proofs.Shaped.{all_there, classes_there, in_limits, shape_is, slots_few}
use Rattle.program_run.proofs.shape.declared_shape.Goals as goal

pub of-requires-clause-counts : goal.of-requires-clause-counts
of-requires-clause-counts c =
    let is = subst IsProgram c.program.view_is c.program.invariant in
    let threads = c.items.ensures ∙ ap (λ (p : ProgramText). p.threads) c.program.view_is in
    let slots = c.as_slice.ensures.value ∙ c.in_ok-slots.ensures in
    let classes = c.as_slice-2.ensures.value ∙ c.in_ok-classes.ensures in
    in_limits c.args.program.now is _ _ _ threads slots classes

pub of-requires-clause-declared : goal.of-requires-clause-declared
of-requires-clause-declared c =
    let is = subst IsProgram c.program.view_is c.program.invariant in
    let threads = c.items.ensures ∙ ap (λ (p : ProgramText). p.threads) c.program.view_is in
    let slots = c.as_slice.ensures.value ∙ c.in_ok-slots.ensures in
    let classes = c.as_slice-2.ensures.value ∙ c.in_ok-classes.ensures in
    let few = all_there c.args.program.now is _ _ _ threads slots classes in
    let declared = c.declared_total-declared.ensures in omega (arith, few, declared)

pub of-requires-clause-slots : goal.of-requires-clause-slots
of-requires-clause-slots c =
    let is = subst IsProgram c.program.view_is c.program.invariant in
    let threads = c.items.ensures ∙ ap (λ (p : ProgramText). p.threads) c.program.view_is in
    let slots = c.as_slice.ensures.value ∙ c.in_ok-slots.ensures in
    let classes = c.as_slice-2.ensures.value ∙ c.in_ok-classes.ensures in
    slots_few c.args.program.now is _ _ _ threads slots classes

pub of-requires-clause-classes : goal.of-requires-clause-classes
of-requires-clause-classes c =
    let is = subst IsProgram c.program.view_is c.program.invariant in
    let threads = c.items.ensures ∙ ap (λ (p : ProgramText). p.threads) c.program.view_is in
    let slots = c.as_slice.ensures.value ∙ c.in_ok-slots.ensures in
    let classes = c.as_slice-2.ensures.value ∙ c.in_ok-classes.ensures in
    classes_there c.args.program.now is _ _ _ threads slots classes

pub returns-clause-shape : goal.returns-clause-shape
returns-clause-shape c =
    let is = subst IsProgram c.program.view_is c.program.invariant in
    let threads = c.items.ensures ∙ ap (λ (p : ProgramText). p.threads) c.program.view_is in
    let slots = c.as_slice.ensures.value ∙ c.in_ok-slots.ensures in
    let classes = c.as_slice-2.ensures.value ∙ c.in_ok-classes.ensures in
    if_ok c.of.result (λ s e. e ∙ shape_is c.args.program.now is _ _ _ threads slots classes _ c.declared_total-declared.ensures) c.of.ensures

pub returns-clause-program : goal.returns-clause-program
returns-clause-program c = if_ok c.of.result (λ s e. subst IsProgram c.program.view_is c.program.invariant) c.of.ensures
