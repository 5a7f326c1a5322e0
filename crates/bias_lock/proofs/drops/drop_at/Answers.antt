use Rattle.std.proofs.Common.{Some, ap, ne_eqb}
use Rattle.mark_word.specs.declared.mark.MarkForm.{MarkForm}
use Rattle.core_world.specs.Trees.BiasSteps.{bias_drop_at}
use Rattle.heap_table.proofs.StepsLeft.{all_left, left_as, left_else, never}
use Rattle.bias_lock.proofs.Never.{never_dropped}
use Rattle.bias_lock.proofs.drops.drop_at.Goals as goal

pub make_neutral-requires-clause-due : goal.make_neutral-requires-clause-due
make_neutral-requires-clause-due c =
    let left = left_as (all_left c.requires.heap c.requires.due)
    (ap (λ (f : MarkForm). bias_drop_at (Some f) c.args.epoch c.args.call.now c.args.object c.args.mark) c.in-Biased.is) in
    (left_else _ _ _ left (ne_eqb _ _ c.if-old-epoch.false)).due

pub make_neutral-requires-in-Anonymous-clause-due : goal.make_neutral-requires-in-Anonymous-clause-due
make_neutral-requires-in-Anonymous-clause-due c = (left_as (all_left c.requires.heap c.requires.due)
    (ap (λ (f : MarkForm). bias_drop_at (Some f) c.args.epoch c.args.call.now c.args.object c.args.mark) c.in-Anonymous.is)).due

pub unreachable-requires : goal.unreachable-requires
unreachable-requires c =
    never (all_left c.requires.heap c.requires.due) (never_dropped c.args.form _ _ _ _ c.in_default.not-Biased c.in_default.not-Anonymous)
