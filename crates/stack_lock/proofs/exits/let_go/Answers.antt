use Rattle.std.proofs.Common.{◌==◌, if◌then◌else◌, refl, sym, ap, eq-eqb, ne_eqb}
use Rattle.core_world.specs.declared.answer.StackOut.TheVariants.{Left, Not}
use Rattle.core_world.specs.declared.answer.PendingCause.TheVariants as why
use Rattle.core_world.specs.Threads.ThreadView.{local_of}
use Rattle.core_world.specs.Trees.LockSteps.{let_go_plan, stack_exit_by}
use Rattle.core_world.specs.Trees.StepTree.{done, ◌>>=◌}
use Rattle.stack_lock.specs.Parts.{clear_at}
use Rattle.heap_table.proofs.StepsLeft.{AreLeft, all_left, can_make, step_made, left_as, left_then, left_else, all_made, part_of, last_made, thread_stays}
use Rattle.stack_lock.proofs.exits.let_go.Goals as goal
use Rattle.stack_lock.proofs.exits.let_go.Goals.{After-log_exchange-found}

pub log_exchange-found-requires : goal.log_exchange-found-requires
log_exchange-found-requires c = can_make (all_left c.requires.heap c.requires.due)
    (ap (λ p. let_go_plan c.args.call.now c.args.object c.args.mark c.args.header p) c.requires.place) refl refl c.requires.room

exchanged : (c : After-log_exchange-found) → AreLeft c.args.heap.now c.args.call.now.task c.args.pass.now
    (stack_exit_by c.args.call.now (local_of c.args.pass.now.known) c.args.object c.args.header c.args.mark) c.log_exchange-found.new.pass
    (if c.log_exchange-found.result == c.args.mark
    then clear_at c.args.call.now c.log_exchange-found.new.pass.known.thread c.args.place >>= (λ _. done Left)
    else done (Not (why.Raced c.args.mark c.log_exchange-found.result)))
exchanged c =
    let left = step_made (all_left c.requires.heap c.requires.due)
    (ap (λ p. let_go_plan c.args.call.now c.args.object c.args.mark c.args.header p) c.requires.place) refl refl c.log_exchange-found.ensures in
    let thread = thread_stays c.log_exchange-found.ensures in
    left_as left (λ i. if c.log_exchange-found.result == c.args.mark
    then clear_at c.args.call.now (sym thread i) (sym c.requires.place i) >>= (λ _. done Left)
    else done (Not (why.Raced c.args.mark c.log_exchange-found.result)))

pub returns-then-found-mark : goal.returns-then-found-mark
returns-then-found-mark c =
    all_made (left_else _ _ _ (exchanged (goal.at.returns-then-found-mark c).After-log_exchange-found) (ne_eqb _ _ c.if-found-mark.true))

pub clear-requires-clause-due : goal.clear-requires-clause-due
clear-requires-clause-due c =
    part_of (λ _. done Left) (left_then _ _ _ (exchanged (goal.at.clear-requires-clause-due c).After-log_exchange-found) (eq-eqb _ _ c.if-found-mark.false))

pub returns : goal.returns
returns c = last_made (λ _. done Left) c.clear.ensures refl
    (left_then _ _ _ (exchanged (goal.at.returns c).After-log_exchange-found) (eq-eqb _ _ c.if-found-mark.false))
