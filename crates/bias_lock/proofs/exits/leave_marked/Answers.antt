use Rattle.std.proofs.Common.{if◌then◌else◌, true, false, refl, sym, ap, ◌∙◌}
use Rattle.core_world.specs.Threads.ThreadView.{local_of}
use Rattle.core_world.specs.Words.Forms.{is_biased}
use Rattle.core_world.specs.Trees.StepTree.{done, ◌>>=◌}
use Rattle.stack_lock.specs.Parts.{leave_at}
use Rattle.bias_lock.specs.inner.Parts.{marked_exit}
use Rattle.heap_table.proofs.StepsLeft.{AreLeft, all_left, can_make, step_made, left_as, left_then, left_else, all_made, part_of, last_made, thread_stays}
use Rattle.bias_lock.proofs.exits.leave_marked.Goals as goal
use Rattle.bias_lock.proofs.exits.leave_marked.Goals.{After-load-mark}

pub load-mark-requires : goal.load-mark-requires
load-mark-requires c = can_make (all_left c.requires.heap c.requires.due) refl refl refl tt

loaded : (c : After-load-mark) → AreLeft c.args.heap.now c.args.call.now.task c.args.pass.now
    (marked_exit c.args.call.now (local_of c.args.pass.now.known) c.args.object) c.load-mark.new.pass
    (if is_biased c.load-mark.result
    then leave_at c.args.call.now c.load-mark.new.pass.known.thread c.args.object c.args.place >>= (λ _. done true)
    else done false)
loaded c =
    let thread = thread_stays c.load-mark.ensures in
    left_as (step_made (all_left c.requires.heap c.requires.due) refl refl refl c.load-mark.ensures)
    (λ i. if is_biased c.load-mark.result
    then leave_at c.args.call.now (sym thread i) c.args.object (sym c.requires.place i) >>= (λ _. done true)
    else done false)

pub leave-requires-clause-due : goal.leave-requires-clause-due
leave-requires-clause-due c = part_of (λ _. done true)
    (left_then _ _ _ (loaded (goal.at.leave-requires-clause-due c).After-load-mark) (sym c.is_biased.ensures ∙ c.if-is_biased.true))

pub returns-then-is_biased-clause-run : goal.returns-then-is_biased-clause-run
returns-then-is_biased-clause-run c = last_made (λ _. done true) c.leave.ensures refl
    (left_then _ _ _ (loaded (goal.at.returns-then-is_biased-clause-run c).After-load-mark) (sym c.is_biased.ensures ∙ c.if-is_biased.true))

pub returns-clause-run : goal.returns-clause-run
returns-clause-run c = all_made (left_else _ _ _ (loaded (goal.at.returns-clause-run c).After-load-mark) (sym c.is_biased.ensures ∙ c.if-is_biased.false))

pub returns-then-is_biased-clause-kept : goal.returns-then-is_biased-clause-kept
returns-then-is_biased-clause-kept c = λ other. absurd (cc other)

pub returns-clause-kept : goal.returns-clause-kept
returns-clause-kept c = λ none. let s = c.load-mark.ensures in ap local_of s.known
