use Rattle.std.proofs.Common.{◌≡◌, Bool, ap}
use Rattle.core_world.specs.Trees.DeflateSteps.{deflate_free}
use Rattle.heap_table.proofs.StepsLeft.{AreLeft, all_left, left_as, part_of, all_made}
use Rattle.safepoint_work.proofs.After.{left_after}
use Rattle.safepoint_work.proofs.Deflating.{free_as, freed, untouched_of}
use Rattle.safepoint_work.proofs.deflates.deflate_free.Goals as goal
use Rattle.safepoint_work.proofs.deflates.deflate_free.Goals.{After-all_untouched}

pub all_untouched-requires-clause-due : goal.all_untouched-requires-clause-due
all_untouched-requires-clause-due c =
    let a = c.args in
    let s = a.heap.now.heap.shape in
    part_of (freed s a.call.now a.stage a.object a.monitor)
    (left_as (all_left c.requires.heap c.requires.due) (free_as s a.call.now a.stage a.object a.monitor))

-- all waiting words are looked at
looked : (c : After-all_untouched) (b : Bool) → c.all_untouched.result ≡ b → AreLeft c.args.heap.now c.args.call.now.task c.args.pass.now
    (deflate_free c.args.heap.now.heap.shape c.args.call.now c.args.stage c.args.object c.args.monitor) c.all_untouched.new.pass
    (freed c.args.heap.now.heap.shape c.args.call.now c.args.stage c.args.object c.args.monitor b)
looked c b is =
    let a = c.args in
    let s = a.heap.now.heap.shape in
    left_as (left_after (freed s a.call.now a.stage a.object a.monitor) c.all_untouched.ensures (untouched_of s a.call.now a.stage a.object s.threads)
    (left_as (all_left c.requires.heap c.requires.due) (free_as s a.call.now a.stage a.object a.monitor)))
    (ap (freed s a.call.now a.stage a.object a.monitor) is)

pub give_back-requires-clause-due : goal.give_back-requires-clause-due
give_back-requires-clause-due c = (looked (goal.at.give_back-requires-clause-due c).After-all_untouched _ c.if-all_untouched.true).due

pub returns-then-all_untouched : goal.returns-then-all_untouched
returns-then-all_untouched c =
    (looked (goal.at.returns-then-all_untouched c).After-all_untouched _ c.if-all_untouched.true).whole _ _ c.give_back.ensures

pub returns-else-all_untouched : goal.returns-else-all_untouched
returns-else-all_untouched c = all_made (looked (goal.at.returns-else-all_untouched c).After-all_untouched _ c.if-all_untouched.false)
