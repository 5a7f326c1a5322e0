use Rattle.std.proofs.Common.{ℕ, ap, ◌∙◌}
use Rattle.heap_table.proofs.StepsLeft.{AreLeft, all_left, part_of, class_left}
use Rattle.heap_census.specs.inner.ShotParts.{IsLater, cell_by, lock_by_class, look_at_bias, look_by_class}
use Rattle.heap_census.proofs.Later.{class_later, class_settled, later_than}
use Rattle.heap_census.proofs.shots.look_at_bias.Goals as goal
use Rattle.heap_census.proofs.shots.look_at_bias.Goals.{After-class_of-class}

pub class_of-class-requires-clause-due : goal.class_of-class-requires-clause-due
class_of-class-requires-clause-due c =
    part_of (λ n. look_by_class c.args.call.now n c.args.thread c.args.epoch) (all_left c.requires.heap c.requires.due)

-- the class is found
classed : (c : After-class_of-class) → AreLeft c.args.heap.now c.args.call.now.task c.args.pass.now
    (look_at_bias c.args.call.now c.args.heap.now.heap.shape c.args.object c.args.thread c.args.epoch) c.class_of-class.new.pass
    (look_by_class c.args.call.now c.class_of-class.result c.args.thread c.args.epoch)
classed c =
    class_left _ _ _ (λ n. look_by_class c.args.call.now n c.args.thread c.args.epoch) c.class_of-class.ensures
    (all_left c.requires.heap c.requires.due)

later : (c : After-class_of-class) → IsLater c.args.pass.now.known c.class_of-class.new.pass.known
later c = class_later c.args.call.now c.args.object c.requires.heap c.requires.reached c.class_of-class.ensures

pub look_by_class-requires-clause-due : goal.look_by_class-requires-clause-due
look_by_class-requires-clause-due c = (classed (goal.at.look_by_class-requires-clause-due c).After-class_of-class).due

pub look_by_class-requires-clause-reached : goal.look_by_class-requires-clause-reached
look_by_class-requires-clause-reached c =
    (later (goal.at.look_by_class-requires-clause-reached c).After-class_of-class).reached ∙ c.requires.reached

pub returns-clause-run : goal.returns-clause-run
returns-clause-run c = (classed (goal.at.returns-clause-run c).After-class_of-class).whole _ _ c.look_by_class.ensures.run

pub returns-clause-later : goal.returns-clause-later
returns-clause-later c = later_than (later (goal.at.returns-clause-later c).After-class_of-class) c.look_by_class.ensures.later

pub returns-clause-cell : goal.returns-clause-cell
returns-clause-cell c = λ l since.
    let a = c.args in
    let now = later_than c.look_by_class.ensures.later since in
    let class = class_settled a.call.now a.object c.requires.heap c.requires.reached c.class_of-class.ensures l now in
    ap (λ (m : ℕ). cell_by (lock_by_class m a.thread a.epoch l) a.object l) class ∙ c.look_by_class.ensures.cell l since
