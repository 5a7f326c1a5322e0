use Rattle.std.proofs.Common.{refl, sym, ap, ◌∙◌}
use Rattle.core_world.specs.Threads.ThreadView.{Local, local_of}
use Rattle.core_world.specs.Trees.BiasSteps.{bias_exit_steps}
use Rattle.core_world.specs.Trees.Plans.{top_place}
use Rattle.heap_table.proofs.StepsLeft.{AreLeft, all_left, left_as, part_of, choice_left}
use Rattle.bias_lock.specs.inner.Parts.{marked_exit}
use Rattle.bias_lock.proofs.exits.bias_exit.Goals as goal
use Rattle.bias_lock.proofs.exits.bias_exit.Goals.{After-raise}

pub raise-requires-clause-due : goal.raise-requires-clause-due
raise-requires-clause-due c =
    part_of (λ _. marked_exit c.args.call.now (local_of c.args.pass.now.known) c.args.object) (all_left c.requires.heap c.requires.due)

raised : (c : After-raise) → AreLeft c.args.heap.now c.args.call.now.task c.args.pass.now
    (bias_exit_steps c.args.call.now (local_of c.args.pass.now.known) c.args.object) c.raise.new.pass
    (marked_exit c.args.call.now (local_of c.raise.new.pass.known) c.args.object)
raised c =
    let rest = choice_left _ _ _ _ (λ _. marked_exit c.args.call.now (local_of c.args.pass.now.known) c.args.object) c.raise.ensures.run refl
    (all_left c.requires.heap c.requires.due) in
    left_as rest (λ i. marked_exit c.args.call.now (sym c.raise.ensures.kept i) c.args.object)

pub leave_marked-requires-clause-due : goal.leave_marked-requires-clause-due
leave_marked-requires-clause-due c = (raised (goal.at.leave_marked-requires-clause-due c).After-raise).due

pub leave_marked-requires-clause-place : goal.leave_marked-requires-clause-place
leave_marked-requires-clause-place c =
    c.requires.place ∙ ap (λ (l : Local). top_place c.args.object l.holds) (sym c.raise.ensures.kept)

pub returns-clause-run : goal.returns-clause-run
returns-clause-run c = (raised (goal.at.returns-clause-run c).After-raise).whole _ _ c.leave_marked.ensures.run

pub returns-clause-kept : goal.returns-clause-kept
returns-clause-kept c = λ none. c.leave_marked.ensures.kept none ∙ c.raise.ensures.kept
