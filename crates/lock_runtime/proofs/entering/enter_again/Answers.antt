use Rattle.std.proofs.Common.{◌≡◌, ℕ, refl, sym}
use Rattle.mark_word.specs.Mark.{read_mark}
use Rattle.core_world.specs.Threads.ThreadView.{local_of}
use Rattle.core_world.specs.Trees.BiasSteps.{bias_after_steps}
use Rattle.core_world.specs.Trees.Operations.{enter_at, enter_unbiased}
use Rattle.heap_table.specs.Resting.{start_now}
use Rattle.lock_runtime.proofs.Entered.{enters_alike}
use Rattle.lock_runtime.proofs.KeptAmid.{keeps, after_keeps}
use Rattle.lock_runtime.proofs.PartMade.{PartMade, first_due, next_due, next_made, last_made, never_next, room_after}
use Rattle.lock_runtime.proofs.entering.enter_again.Goals as goal
use Rattle.lock_runtime.proofs.entering.enter_again.Goals.{After-bias_after}

pub bias_after-requires-clause-due : goal.bias_after-requires-clause-due
bias_after-requires-clause-due c =
    let a = c.args in
    first_due (λ tried. enter_unbiased tried a.heap.now.heap.shape a.context.now (start_now a.heap.now a.pass.now) a.object) c.requires.due

-- the bias was looked at again, and its answer tells what comes next
tried : (c : After-bias_after) → let a = c.args in let h = a.heap.now in let k = start_now h a.pass.now in
    PartMade h a.pass.now c.bias_after.new.pass a.context.now.task (bias_after_steps a.context.now k.local a.object a.took)
    (λ tried. enter_unbiased tried h.heap.shape a.context.now k a.object) c.bias_after.result
tried c = record { due = c.requires.due; first = refl; made = c.bias_after.ensures.run }

-- where no bias was taken, an enter by the mark is the same from what the thread knows now
marked : (c : After-bias_after) (m : ℕ) → local_of c.bias_after.new.pass.known ≡ local_of c.args.pass.now.known
    → let a = c.args in let s = a.heap.now.heap.shape in
    enter_at (read_mark m) s a.context.now (start_now a.heap.now a.pass.now) a.object m
    ≡ enter_at (read_mark m) s a.context.now (start_now a.heap.now c.bias_after.new.pass) a.object m
marked c m local =
    let a = c.args in
    let h = a.heap.now in
    let k = start_now h a.pass.now in
    let kept = keeps _ _ _ _ _ (after_keeps a.context.now k.local a.object a.took) (tried c).made in
    enters_alike h.heap.shape a.context.now k (start_now h c.bias_after.new.pass) a.object (sym local) (sym kept) (read_mark m) m

pub enter_marked-requires-clause-due : goal.enter_marked-requires-clause-due
enter_marked-requires-clause-due c =
    let z = (goal.at.enter_marked-requires-clause-due c).After-bias_after in
    next_due (tried z) c.in-Unbiased.is (marked z c.in-Unbiased.mark c.in-Unbiased.ensures.kept)

pub enter_marked-requires-clause-room : goal.enter_marked-requires-clause-room
enter_marked-requires-clause-room c =
    room_after (tried (goal.at.enter_marked-requires-clause-room c).After-bias_after) c.in-Unbiased.ensures.kept c.requires.room

pub unreachable-requires : goal.unreachable-requires
unreachable-requires c = never_next (tried (goal.at.unreachable-requires c).After-bias_after) c.in-Valid.is refl

pub returns-in-Took : goal.returns-in-Took
returns-in-Took c = last_made (tried (goal.at.returns-in-Took c).After-bias_after) c.in-Took.is refl

pub returns-in-Raced : goal.returns-in-Raced
returns-in-Raced c = last_made (tried (goal.at.returns-in-Raced c).After-bias_after) c.in-Raced.is refl

pub returns-in-Unbiased : goal.returns-in-Unbiased
returns-in-Unbiased c =
    let z = (goal.at.returns-in-Unbiased c).After-bias_after in
    next_made (tried z) c.in-Unbiased.is (marked z c.in-Unbiased.mark c.in-Unbiased.ensures.kept) c.enter_marked.ensures
