use Rattle.std.proofs.Common.{◌≡◌, ℕ, Option, true, if◌then◌else◌, refl, sym, ◌∙◌}
use Rattle.mark_word.specs.Mark.{read_mark}
use Rattle.core_world.specs.declared.stage.Stage.TheVariants.{Settled}
use Rattle.core_world.specs.Locks.{is_valid_bias}
use Rattle.core_world.specs.Threads.Stages.{Revocation}
use Rattle.core_world.specs.Trees.Plans.{class_steps}
use Rattle.core_world.specs.Trees.RevocationSteps.{decided_steps, revoke_at_safepoint_steps, RevocationOutcome}
use Rattle.core_world.specs.Trees.StepTree.{StepTree, unreachable, ◌>>=◌}
use Rattle.core_world.specs.Words.Forms.{epoch_in}
use Rattle.heap_table.proofs.Ruled.{chosen}
use Rattle.heap_table.proofs.StepsLeft.{AreLeft, all_left, can_make, step_made, left_as, left_then, part_of, class_left, thread_stays}
use Rattle.safepoint_work.specs.inner.RevokeParts.{decide_steps}
use Rattle.safepoint_work.proofs.After.{same_runner}
use Rattle.safepoint_work.proofs.RevokeWords.{no_bias, epoch_range}
use Rattle.safepoint_work.proofs.verdicts.revoke_at_safepoint.Goals as goal
use Rattle.safepoint_work.proofs.verdicts.revoke_at_safepoint.Goals.{After-load, After-class_of-class, After-load-last}

-- the revocation that is asked for, and the steps after the mark, by the object's class
abbrev asked : (c : After-load) → Revocation
asked c = record { object = c.args.object; rebias = c.args.rebias; now = c.args.now }

abbrev decides : (c : After-load) → ℕ → StepTree RevocationOutcome
decides c class = decide_steps c.args.heap.now.heap.shape c.args.pass.now.known.thread c.args.call.now (asked c) c.load.result class

-- WHAT IS LEFT: after the mark, after the class, and after its three words
marked : (c : After-load) → AreLeft c.args.heap.now c.args.call.now.task c.args.pass.now
    (revoke_at_safepoint_steps c.args.heap.now.heap.shape c.args.pass.now.known.thread c.args.call.now (asked c)) c.load.new.pass
    (class_steps c.args.call.now Settled c.args.heap.now.heap.shape c.args.object >>= decides c)
marked c = step_made (all_left c.requires.heap c.requires.due) refl refl refl c.load.ensures

classed : (c : After-class_of-class) → AreLeft c.args.heap.now c.args.call.now.task c.args.pass.now
    (revoke_at_safepoint_steps c.args.heap.now.heap.shape c.args.pass.now.known.thread c.args.call.now (asked c.before.before))
    c.class_of-class.new.pass (decides c.before.before c.class_of-class.result)
classed c = class_left _ _ _ (decides c.before.before) c.class_of-class.ensures (marked c.before.before)

abbrev decided : (c : After-load-last) → ℕ → Option ℕ → StepTree RevocationOutcome
decided c t epoch = decided_steps c.args.heap.now.heap.shape t c.class_of-class.result c.args.call.now
    (record { object = c.args.object; rebias = c.args.rebias; now = c.args.now }) epoch c.load-count.result c.load-last.result

loaded : (c : After-load-last) → AreLeft c.args.heap.now c.args.call.now.task c.args.pass.now
    (revoke_at_safepoint_steps c.args.heap.now.heap.shape c.args.pass.now.known.thread c.args.call.now
    (record { object = c.args.object; rebias = c.args.rebias; now = c.args.now })) c.load-last.new.pass
    (if is_valid_bias (read_mark c.load.result) c.load-prototype.result then decided c c.args.pass.now.known.thread (epoch_in c.load-prototype.result)
    else unreachable)
loaded c =
    step_made (step_made (step_made (classed c.before.before.before.before.before.before) refl refl refl c.load-prototype.ensures)
    refl refl refl c.load-count.ensures) refl refl refl c.load-last.ensures

-- the mark has a valid bias still, and the thread is the same
valid : (c : After-load-last) → is_valid_bias (read_mark c.load.result) c.load-prototype.result ≡ true
valid c = chosen _ _ _ _ (decided c c.args.pass.now.known.thread (epoch_in c.load-prototype.result)) (loaded c).heap (loaded c).due

by_epoch : (c : After-load-last) (epoch : Option ℕ) → epoch_in c.load-prototype.result ≡ epoch
    → AreLeft c.args.heap.now c.args.call.now.task c.args.pass.now
    (revoke_at_safepoint_steps c.args.heap.now.heap.shape c.args.pass.now.known.thread c.args.call.now
    (record { object = c.args.object; rebias = c.args.rebias; now = c.args.now }))
    c.load-last.new.pass (decided c c.load-last.new.pass.known.thread epoch)
by_epoch c epoch is =
    let same = thread_stays c.load-last.ensures ∙ thread_stays c.load-count.ensures ∙ thread_stays c.load-prototype.ensures
    ∙ same_runner c.class_of-class.ensures ∙ thread_stays c.load.ensures in
    left_as (left_then _ _ _ (loaded c) (valid c)) (λ i. decided c (sym same i) (is i))

pub load-requires : goal.load-requires
load-requires c = can_make (all_left c.requires.heap c.requires.due) refl refl refl tt

pub class_of-class-requires-clause-due : goal.class_of-class-requires-clause-due
class_of-class-requires-clause-due c =
    let z = (goal.at.class_of-class-requires-clause-due c).After-load in
    part_of (decides z) (marked z)

pub load-prototype-requires : goal.load-prototype-requires
load-prototype-requires c = can_make (classed (goal.at.load-prototype-requires c).After-class_of-class) refl refl refl tt

pub load-count-requires : goal.load-count-requires
load-count-requires c =
    can_make (step_made (classed (goal.at.load-count-requires c).After-class_of-class) refl refl refl c.load-prototype.ensures) refl refl refl tt

pub load-last-requires : goal.load-last-requires
load-last-requires c =
    can_make (step_made (step_made (classed (goal.at.load-last-requires c).After-class_of-class) refl refl refl c.load-prototype.ensures)
    refl refl refl c.load-count.ensures) refl refl refl tt

pub decide_and_revoke-requires-clause-epoch : goal.decide_and_revoke-requires-clause-epoch
decide_and_revoke-requires-clause-epoch c = epoch_range c.load-prototype.result c.in-Some.epoch (sym c.class_epoch.ensures ∙ c.in-Some.is)

pub decide_and_revoke-requires-clause-due : goal.decide_and_revoke-requires-clause-due
decide_and_revoke-requires-clause-due c =
    (by_epoch (goal.at.decide_and_revoke-requires-clause-due c).After-load-last _ (sym c.class_epoch.ensures ∙ c.in-Some.is)).due

pub unreachable-requires : goal.unreachable-requires
unreachable-requires c =
    let valid = valid (goal.at.unreachable-requires c).After-load-last in
    let none = no_bias (read_mark c.load.result) c.load-prototype.result (sym c.class_epoch.ensures ∙ c.in-None.is) in
    cc (valid, none)

pub returns : goal.returns
returns c = (by_epoch (goal.at.returns c).After-load-last _ (sym c.class_epoch.ensures ∙ c.in-Some.is)).whole _ _ c.decide_and_revoke.ensures
