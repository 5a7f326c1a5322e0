use Rattle.std.proofs.Common.{Some, refl, ap}
use Rattle.mark_word.specs.declared.mark.MarkForm.{MarkForm}
use Rattle.core_world.specs.Trees.LookSteps.{look_at_monitor}
use Rattle.heap_table.proofs.StepsLeft.{all_left, can_make, left_as, never}
use Rattle.heap_census.proofs.Standing.{never_looked}
use Rattle.heap_census.proofs.stands.look_at_monitor.Goals as goal

pub load-owner-requires : goal.load-owner-requires
load-owner-requires c =
    can_make (left_as (all_left c.requires.heap c.requires.due)
    (ap (λ (f : MarkForm). look_at_monitor (Some f) c.args.call.now c.args.thread) c.in-Inflated.is)) refl refl refl tt

pub unreachable-requires : goal.unreachable-requires
unreachable-requires c =
    never (all_left c.requires.heap c.requires.due) (never_looked c.args.form c.args.call.now c.args.thread c.in_default.not-Inflated)
