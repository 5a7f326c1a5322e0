use Rattle.std.proofs.Common.{ap, ◌∙◌}
use Rattle.std.proofs.lemmas.List.{take_all}
use Rattle.object_program.specs.Program.{ProgramText, classes_from}
use Rattle.plain_machine.proofs.NeededObjects.{classes_step}
use Rattle.program_run.proofs.shape.classes_by_object.Goals as goal

pub loop-definition-init : goal.loop-definition-init
loop-definition-init c =
    record {
      items = c.items-definition-items.ensures ∙ ap (λ (p : ProgramText). p.objects) c.program.view_is;
      classes = c.new-classes.ensures.items;
    }

pub loop-definition-preserved : goal.loop-definition-preserved
loop-definition-preserved c =
    let inv = c.loop-definition.invariant in
    record {
      items = inv.items;
      classes = classes_step _ _ _ _ _ c.loop-definition-test.true c.definition-item.is inv.classes c.in_ok-push_class.ensures;
    }

pub returns : goal.returns
returns c =
    let inv = c.loop-definition.invariant in
    inv.classes ∙ ap classes_from (take_all c.loop-definition.definition-index c.items-definition-items.result.now c.loop-definition-test.false ∙ inv.items)
