use Rattle.std.proofs.Common.{if◌then◌else◌, refl, sym, ap, ◌∙◌, arith}
use Rattle.core_world.specs.Locks.{hold_count}
use Rattle.core_world.specs.Threads.ThreadView.{Local, local_of}
use Rattle.core_world.specs.Trees.BiasSteps.{bias_exit_steps}
use Rattle.core_world.specs.Trees.Plans.{done_with, top_place}
use Rattle.heap_table.proofs.Ruled.{few_objects}
use Rattle.lock_runtime.specs.inner.Parts.{exit_unbiased}
use Rattle.lock_runtime.proofs.LeftNothing.{first_under_bias}
use Rattle.lock_runtime.proofs.PartMade.{PartMade, first_due, next_due, next_made, last_made, room_after}
use Rattle.lock_runtime.proofs.leaving.leave_held.Goals as goal
use Rattle.lock_runtime.proofs.leaving.leave_held.Goals.{After-bias_exit}

pub bias_exit-requires-clause-due : goal.bias_exit-requires-clause-due
bias_exit-requires-clause-due c =
    let a = c.args in
    first_due (λ biased. if biased then done_with (tt {0}) else exit_unbiased a.context.now (local_of a.pass.now.known) a.object) c.requires.due

-- the exit under a bias
left : (c : After-bias_exit) → let a = c.args in let l = local_of a.pass.now.known in
    PartMade a.heap.now a.pass.now c.bias_exit.new.pass a.context.now.task (bias_exit_steps a.context.now l a.object)
    (λ biased. if biased then done_with (tt {0}) else exit_unbiased a.context.now l a.object) c.bias_exit.result
left c =
    let a = c.args in
    record { due = c.requires.due; first = first_under_bias a.context.now (local_of a.pass.now.known) a.object; made = c.bias_exit.ensures.run }

pub returns-then-bias_exit : goal.returns-then-bias_exit
returns-then-bias_exit c = last_made (left (goal.at.returns-then-bias_exit c).After-bias_exit) c.if-bias_exit.true refl

pub place_at_depth-place-requires-clause-object : goal.place_at_depth-place-requires-clause-object
place_at_depth-place-requires-clause-object c =
    let few = few_objects c.args.heap.now c.args.pass.now c.requires.heap in omega (arith, few, c.requires.object)

pub leave_unbiased-requires-clause-depth : goal.leave_unbiased-requires-clause-depth
leave_unbiased-requires-clause-depth c =
    c.requires.depth ∙ ap (λ (x : Local). hold_count c.args.object x.holds) (sym (c.bias_exit.ensures.kept c.if-bias_exit.false))

pub leave_unbiased-requires-clause-place : goal.leave_unbiased-requires-clause-place
leave_unbiased-requires-clause-place c =
    c.place_at_depth-place.ensures.place ∙ ap (λ (x : Local). top_place c.args.object x.holds) (sym (c.bias_exit.ensures.kept c.if-bias_exit.false))

pub leave_unbiased-requires-clause-due : goal.leave_unbiased-requires-clause-due
leave_unbiased-requires-clause-due c =
    next_due (left (goal.at.leave_unbiased-requires-clause-due c).After-bias_exit) c.if-bias_exit.false
    (ap (λ (l : Local). exit_unbiased c.args.context.now l c.args.object) (sym (c.bias_exit.ensures.kept c.if-bias_exit.false)))

pub leave_unbiased-requires-clause-room : goal.leave_unbiased-requires-clause-room
leave_unbiased-requires-clause-room c =
    room_after (left (goal.at.leave_unbiased-requires-clause-room c).After-bias_exit) (c.bias_exit.ensures.kept c.if-bias_exit.false) c.requires.room

pub returns : goal.returns
returns c =
    next_made (left (goal.at.returns c).After-bias_exit) c.if-bias_exit.false
    (ap (λ (l : Local). exit_unbiased c.args.context.now l c.args.object) (sym (c.bias_exit.ensures.kept c.if-bias_exit.false))) c.leave_unbiased.ensures
