use Rattle.std.proofs.Common.{◌≡◌, ℕ, ◌+◌, refl, arith}
use Rattle.plain_monitor.specs.declared.entry.Entry.TheVariants.{New}
use Rattle.core_world.specs.declared.word_id.WordId.TheVariants.{Prototype, Mark, Class}
use Rattle.core_world.specs.declared.stage.Stage.TheVariants.{Settled}
use Rattle.core_world.specs.declared.heap_call.HeapCall.TheVariants.{Create}
use Rattle.core_world.specs.Trees.CreateSteps.{class_plan, make_plan, creating, make_steps}
use Rattle.core_world.specs.Trees.Plans.{CallContext, load}
use Rattle.core_world.specs.Trees.StepTree.{done, ◌>>=◌, ask}
use Rattle.heap_table.specs.StepPlans.{store_plan, log_store_plan}
use Rattle.heap_table.proofs.StepsLeft.{AreLeft, all_left, can_make, step_made, all_made, room_after}
use Rattle.lock_runtime.proofs.making.make.Goals as goal
use Rattle.lock_runtime.proofs.making.make.Goals.{After-store}

pub load-prototype-requires : goal.load-prototype-requires
load-prototype-requires c = can_make (all_left c.requires.heap c.requires.due) (λ i. load (c.alone.ensures i) (Prototype c.args.class)) refl refl tt

-- The store of the class word, as the code says it. That the word is the class and one more is left to `omega`, which cites no name: one of the edits renames
-- the sum, and would be refused for the name alone.
storing : {e w : CallContext} {word : ℕ} (o class : ℕ) → w ≡ e → word ≡ class + 1 → store_plan w Settled (Class o) word ≡ class_plan e o class
storing o class same is = λ i. store_plan (same i) Settled (Class o) (is i)

pub store-requires : goal.store-requires
store-requires c =
    can_make
    (step_made (all_left c.requires.heap c.requires.due) (λ i. load (c.alone.ensures i) (Prototype c.args.class)) refl refl c.load-prototype.ensures)
    (storing c.args.object c.args.class c.unfinished-context.ensures (omega arith)) refl refl tt

-- after it the first mark is left
stored : (c : After-store) → let a = c.args in
    AreLeft a.heap.now (Create a.class) a.pass.now (make_steps a.object a.class) c.store.new.pass
    (ask (make_plan (creating a.object a.class) a.object a.class c.load-prototype.result) >>= (λ _. done a.object))
stored c =
    step_made
    (step_made (all_left c.requires.heap c.requires.due) (λ i. load (c.alone.ensures i) (Prototype c.args.class)) refl refl c.load-prototype.ensures)
    (storing c.args.object c.args.class c.unfinished-context.ensures (omega arith)) refl refl c.store.ensures

-- the steps before log nothing
pub log_store-requires : goal.log_store-requires
log_store-requires c =
    can_make (stored (goal.at.log_store-requires c).After-store)
    (λ i. log_store_plan (c.unfinished-context.ensures i) Settled (Mark c.args.object) c.load-prototype.result (New c.args.object c.args.class)) refl refl
    (room_after c.store.ensures refl refl refl (room_after c.load-prototype.ensures refl refl refl c.requires.room))

pub returns : goal.returns
returns c =
    all_made (step_made (stored (goal.at.returns c).After-store)
    (λ i. log_store_plan (c.unfinished-context.ensures i) Settled (Mark c.args.object) c.load-prototype.result (New c.args.object c.args.class)) refl refl
    c.log_store.ensures)
