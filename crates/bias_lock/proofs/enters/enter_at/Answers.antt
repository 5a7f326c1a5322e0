use Rattle.std.proofs.Common.{◌==◌, if◌then◌else◌, Some, ap, eq-eqb, ne_eqb}
use Rattle.mark_word.specs.declared.mark.MarkForm.{MarkForm}
use Rattle.core_world.specs.Threads.ThreadView.{local_of}
use Rattle.core_world.specs.Trees.BiasSteps.{bias_enter_at, bias_valid_steps, rebias_steps}
use Rattle.heap_table.proofs.StepsLeft.{AreLeft, all_left, left_as, left_then, left_else, never}
use Rattle.bias_lock.proofs.Never.{never_entered}
use Rattle.bias_lock.proofs.enters.enter_at.Goals as goal
use Rattle.bias_lock.proofs.enters.enter_at.Goals.{In-Biased}

-- the mark is biased to a thread
biased : (c : In-Biased) → AreLeft c.args.heap.now c.args.call.now.task c.args.pass.now
    (bias_enter_at (Some c.args.form) c.args.epoch c.args.call.now (local_of c.args.pass.now.known) c.args.object c.args.mark) c.args.pass.now
    (if c.in-Biased.old == c.args.epoch
    then bias_valid_steps c.args.call.now (local_of c.args.pass.now.known) c.args.object c.args.mark c.in-Biased.thread
    else rebias_steps c.args.call.now (local_of c.args.pass.now.known) c.args.object c.args.mark c.args.epoch)
biased c = left_as (all_left c.requires.heap c.requires.due)
    (ap (λ (f : MarkForm). bias_enter_at (Some f) c.args.epoch c.args.call.now (local_of c.args.pass.now.known) c.args.object c.args.mark) c.in-Biased.is)

pub enter_valid-requires-clause-due : goal.enter_valid-requires-clause-due
enter_valid-requires-clause-due c =
    (left_then _ _ _ (biased (goal.at.enter_valid-requires-clause-due c).In-Biased) (eq-eqb _ _ c.if-old-epoch.true)).due

pub rebias-requires-clause-due : goal.rebias-requires-clause-due
rebias-requires-clause-due c = (left_else _ _ _ (biased (goal.at.rebias-requires-clause-due c).In-Biased) (ne_eqb _ _ c.if-old-epoch.false)).due

pub rebias-requires-in-Anonymous-clause-due : goal.rebias-requires-in-Anonymous-clause-due
rebias-requires-in-Anonymous-clause-due c = (left_as (all_left c.requires.heap c.requires.due)
    (ap (λ (f : MarkForm). bias_enter_at (Some f) c.args.epoch c.args.call.now (local_of c.args.pass.now.known) c.args.object c.args.mark)
    c.in-Anonymous.is)).due

pub unreachable-requires : goal.unreachable-requires
unreachable-requires c =
    never (all_left c.requires.heap c.requires.due) (never_entered c.args.form _ _ _ _ _ c.in_default.not-Biased c.in_default.not-Anonymous)

pub returns-then-old-epoch : goal.returns-then-old-epoch
returns-then-old-epoch c =
    (left_then _ _ _ (biased (goal.at.returns-then-old-epoch c).In-Biased) (eq-eqb _ _ c.if-old-epoch.true)).whole _ _ c.enter_valid.ensures

pub returns-else-old-epoch : goal.returns-else-old-epoch
returns-else-old-epoch c =
    (left_else _ _ _ (biased (goal.at.returns-else-old-epoch c).In-Biased) (ne_eqb _ _ c.if-old-epoch.false)).whole _ _ c.rebias.ensures
