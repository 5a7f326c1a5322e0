use Rattle.std.proofs.Common.{◌≡◌, if◌then◌else◌, Bool, cond, refl, sym, ap, ◌∙◌}
use Rattle.core_world.specs.declared.word_id.WordId.TheVariants.{Prototype}
use Rattle.core_world.specs.Locks.{Open, BiasedTo, has_epoch}
use Rattle.core_world.specs.Steps.{seen_words}
use Rattle.core_world.specs.Trees.LookSteps.{look_at_holds}
use Rattle.core_world.specs.Trees.StepTree.{done}
use Rattle.core_world.specs.Words.Forms.{epoch_in}
use Rattle.heap_table.proofs.StepsLeft.{AreLeft, all_left, can_make, step_made, left_as, left_then, left_else, all_made}
use Rattle.heap_census.specs.inner.ShotParts.{IsLater, IsSettled, cell_by, look_by_class}
use Rattle.heap_census.proofs.Later.{load_later, load_settled, later_than}
use Rattle.heap_census.proofs.shots.look_by_class.Goals as goal
use Rattle.heap_census.proofs.shots.look_by_class.Goals.{After-load-prototype, After-is_valid}

pub load-prototype-requires : goal.load-prototype-requires
load-prototype-requires c = can_make (all_left c.requires.heap c.requires.due) refl refl refl tt

-- the prototype is loaded
loaded : (c : After-is_valid) → AreLeft c.args.heap.now c.args.call.now.task c.args.pass.now
    (look_by_class c.args.call.now c.args.class c.args.thread c.args.epoch) c.load-prototype.new.pass
    (if c.is_valid.result then look_at_holds c.args.call.now c.args.thread else done tt)
loaded c =
    left_as (step_made (all_left c.requires.heap c.requires.due) refl refl refl c.load-prototype.ensures)
    (λ i. if sym c.is_valid.ensures i then look_at_holds c.args.call.now c.args.thread else done tt)

later : (c : After-load-prototype) → IsLater c.args.pass.now.known c.load-prototype.new.pass.known
later c = load_later c.args.call.now (Prototype c.args.class) c.requires.heap c.requires.reached c.load-prototype.ensures

-- and stays what it was, so that the epoch is valid or not
settled : (c : After-is_valid) (b : Bool) → c.is_valid.result ≡ b
    → IsSettled c.load-prototype.new.pass.known (λ l. has_epoch (epoch_in (seen_words l (Prototype c.args.class))) c.args.epoch) b
settled c b is = λ l since.
    ap (λ m. has_epoch (epoch_in m) c.args.epoch)
    (load_settled c.args.call.now (Prototype c.args.class) c.requires.heap c.requires.reached c.load-prototype.ensures l since)
    ∙ sym c.is_valid.ensures ∙ is

pub look_at_biased-requires-clause-due : goal.look_at_biased-requires-clause-due
look_at_biased-requires-clause-due c =
    (left_then _ _ _ (loaded (goal.at.look_at_biased-requires-clause-due c).After-is_valid) c.if-is_valid.true).due

pub look_at_biased-requires-clause-reached : goal.look_at_biased-requires-clause-reached
look_at_biased-requires-clause-reached c =
    (later (goal.at.look_at_biased-requires-clause-reached c).After-load-prototype).reached ∙ c.requires.reached

pub returns-then-is_valid-clause-run : goal.returns-then-is_valid-clause-run
returns-then-is_valid-clause-run c =
    (left_then _ _ _ (loaded (goal.at.returns-then-is_valid-clause-run c).After-is_valid) c.if-is_valid.true).whole _ _ c.look_at_biased.ensures.run

pub returns-then-is_valid-clause-later : goal.returns-then-is_valid-clause-later
returns-then-is_valid-clause-later c =
    later_than (later (goal.at.returns-then-is_valid-clause-later c).After-load-prototype) c.look_at_biased.ensures.later

pub returns-then-is_valid-clause-cell : goal.returns-then-is_valid-clause-cell
returns-then-is_valid-clause-cell c = λ l since.
    let z = (goal.at.returns-then-is_valid-clause-cell c).After-is_valid in
    let valid = settled z _ c.if-is_valid.true l (later_than c.look_at_biased.ensures.later since) in
    ap (λ (b : Bool). cell_by (cond b (BiasedTo c.args.thread) Open) c.args.object l) valid ∙ c.look_at_biased.ensures.cell l since

pub returns-else-is_valid-clause-run : goal.returns-else-is_valid-clause-run
returns-else-is_valid-clause-run c =
    all_made (left_else _ _ _ (loaded (goal.at.returns-else-is_valid-clause-run c).After-is_valid) c.if-is_valid.false)

pub returns-else-is_valid-clause-later : goal.returns-else-is_valid-clause-later
returns-else-is_valid-clause-later c = later (goal.at.returns-else-is_valid-clause-later c).After-load-prototype

pub returns-else-is_valid-clause-cell : goal.returns-else-is_valid-clause-cell
returns-else-is_valid-clause-cell c = λ l since.
    let z = (goal.at.returns-else-is_valid-clause-cell c).After-is_valid in
    ap (λ (b : Bool). cell_by (cond b (BiasedTo c.args.thread) Open) c.args.object l) (settled z _ c.if-is_valid.false l since)
