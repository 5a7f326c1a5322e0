use Rattle.std.proofs.Common.{refl, sym, ap, ◌∙◌, subst}
use Rattle.mark_word.specs.Owner.{read_owner}
use Rattle.core_world.specs.declared.answer.Progress.TheVariants.{Done}
use Rattle.core_world.specs.Threads.ThreadView.{Local, local_of}
use Rattle.core_world.specs.Trees.Plans.{CallContext, done_with, top_place}
use Rattle.core_world.specs.Trees.StepTree.{◌>>=◌}
use Rattle.heap_table.specs.ExitParts.{owned_exit}
use Rattle.heap_table.specs.Parts.{IsDueOn, HasMadeSteps}
use Rattle.lock_runtime.proofs.PartMade.{first_due, then_ends}
use Rattle.lock_runtime.proofs.Quickly.{exit_alike, exit_rests, is_exited, left_due, left_room, left_made}
use Rattle.lock_runtime.proofs.leaving.exit_from_owner.Goals as goal

pub monitor_exit_found-requires-clause-heap : goal.monitor_exit_found-requires-clause-heap
monitor_exit_found-requires-clause-heap c = c.requires.1.came.1.left.heap

pub monitor_exit_found-requires-clause-place : goal.monitor_exit_found-requires-clause-place
monitor_exit_found-requires-clause-place c =
    let b = c.requires.1.came in b.0 ∙ ap (λ (l : Local). top_place c.args.object l.holds) (sym b.1.local)

pub monitor_exit_found-requires-clause-due : goal.monitor_exit_found-requires-clause-due
monitor_exit_found-requires-clause-due c =
    let a = c.args in
    first_due (λ _. done_with (tt {0}))
    (subst (λ (e : CallContext). IsDueOn a.heap.now a.pass.now e.task
    (owned_exit (read_owner a.owner) e (local_of a.pass.now.known) a.object a.monitor >>= (λ _. done_with (tt {0}))))
    (sym c.unfinished-call.ensures) (left_due (exit_alike a.object a.monitor a.owner) c.requires.1.came.1))

pub monitor_exit_found-requires-clause-room : goal.monitor_exit_found-requires-clause-room
monitor_exit_found-requires-clause-room c =
    let a = c.args in left_room (exit_alike a.object a.monitor a.owner) c.requires.1.came.1 c.requires.1.may

pub returns : goal.returns
returns c =
    let a = c.args in
    let h = a.heap.now in
    let made = subst (λ (e : CallContext). HasMadeSteps h
    (owned_exit (read_owner a.owner) e (local_of a.pass.now.known) a.object a.monitor >>= (λ _. done_with (tt {0}))) a.pass.now
    c.monitor_exit_found.new.pass (Done (tt {0}))) c.unfinished-call.ensures (then_ends (λ _. done_with (tt {0})) refl c.monitor_exit_found.ensures) in
    let alike = exit_alike a.object a.monitor a.owner in
    let b = c.requires in
    record {
      rests = exit_rests h b.0 a.object b.1.may (left_made alike b.1.came.1 made);
      whole = λ p begun. is_exited h p a.object begun.may (left_made alike begun.came.1 made);
    }
