use Rattle.std.proofs.Common.{ap, ◌∙◌}
use Rattle.std.proofs.lemmas.List.{take_all}
use Rattle.object_program.specs.Program.{classes_from}
use Rattle.plain_machine.proofs.NeededObjects.{classes_step}
use Rattle.plain_machine.proofs.register.classes_of.Goals as goal

pub loop-object-preserved : goal.loop-object-preserved
loop-object-preserved c = classes_step _ _ _ _ _ c.loop-object-test.true c.object-item.is c.loop-object.invariant c.in_ok-push_class.ensures

pub returns : goal.returns
returns c = c.loop-object.invariant ∙ ap classes_from (take_all c.loop-object.object-index c.args.objects.now c.loop-object-test.false)
