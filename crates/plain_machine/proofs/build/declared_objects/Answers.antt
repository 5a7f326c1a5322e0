use Rattle.std.proofs.Common.{◌∙◌}
use Rattle.plain_machine.proofs.Starts.{new_objects_step, total_at_end}
use Rattle.plain_machine.proofs.build.declared_objects.Goals as goal

pub loop-definition-preserved : goal.loop-definition-preserved
loop-definition-preserved c = record {
  items = c.loop-definition.invariant.items;
  objects = new_objects_step _ _ _ _ _ _ c.loop-definition-test.true c.definition-item.is c.loop-definition.invariant.objects
      (rw c.slots_of_class-slots.ensures at c.in_ok-push_objects.ensures);
}

pub returns-clause-total : goal.returns-clause-total
returns-clause-total c =
    c.loop-definition.objects.ok.0 ∙ total_at_end _ _ _ _ _ c.loop-definition.invariant.objects c.loop-definition.invariant.items c.loop-definition-test.false
