use Rattle.std.proofs.Common.{◌≡◌, refl, ap}
use Rattle.core_world.specs.declared.answer.Progress.{Progress}
use Rattle.core_world.specs.Trees.SafepointSteps.{safepoint_steps, then_reached}
use Rattle.heap_table.proofs.StepsLeft.{AreLeft, all_left, left_as, left_then, left_else, part_of, after_part, all_made}
use Rattle.safepoint.proofs.asking.safepoint.Goals as goal
use Rattle.safepoint.proofs.asking.safepoint.Goals.{After-request}

pub reached-requires-clause-due : goal.reached-requires-clause-due
reached-requires-clause-due c = (left_then _ _ _ (all_left c.requires.heap c.requires.due) c.if-requesting.true).due

pub request-requires-clause-due : goal.request-requires-clause-due
request-requires-clause-due c =
    part_of (then_reached c.args.call.now) (left_else _ _ _ (all_left c.requires.heap c.requires.due) c.if-requesting.false)

-- it is asked for
asked : (c : After-request) (a : Progress (Unit {0})) → c.request.result ≡ a → AreLeft c.args.heap.now c.args.call.now.task c.args.pass.now
    (safepoint_steps c.args.call.now c.args.pass.now.known.thread c.args.requesting) c.request.new.pass (then_reached c.args.call.now a)
asked c a is =
    left_as (after_part (then_reached c.args.call.now) c.request.ensures refl
    (left_else _ _ _ (all_left c.requires.heap c.requires.due) c.if-requesting.false)) (ap (then_reached c.args.call.now) is)

pub reached-requires-in-Done-clause-due : goal.reached-requires-in-Done-clause-due
reached-requires-in-Done-clause-due c = (asked (goal.at.reached-requires-in-Done-clause-due c).After-request _ c.in-Done.is).due

pub returns-then-requesting : goal.returns-then-requesting
returns-then-requesting c = (left_then _ _ _ (all_left c.requires.heap c.requires.due) c.if-requesting.true).whole _ _ c.reached.ensures

pub returns-in-Done : goal.returns-in-Done
returns-in-Done c = (asked (goal.at.returns-in-Done c).After-request _ c.in-Done.is).whole _ _ c.reached-in-Done.ensures

pub returns-in-Pending : goal.returns-in-Pending
returns-in-Pending c = all_made (asked (goal.at.returns-in-Pending c).After-request _ c.in-Pending.is)
