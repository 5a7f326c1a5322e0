use Rattle.std.proofs.Common.{◌≡◌, ℕ, ◌==◌, refl, sym, ap}
use Rattle.plain_monitor.specs.declared.entry.Entry.TheVariants as entry
use Rattle.core_world.specs.Threads.ThreadView.{Local, local_of}
use Rattle.core_world.specs.Trees.Plans.{done_with}
use Rattle.core_world.specs.Trees.SafepointSteps.{release_safepoint, reached_word}
use Rattle.core_world.specs.Trees.StepTree.{done, unreachable, ◌>>=◌}
use Rattle.core_world.specs.Trees.WaitSteps.{publish_steps}
use Rattle.heap_table.proofs.Aside.{StartsAlike, either_aside}
use Rattle.lock_runtime.proofs.PartMade.{PartMade, first_due, next_due, next_made, then_ends, alike_after, room_after}
use Rattle.lock_runtime.proofs.looking.tell_dump.Goals as goal
use Rattle.lock_runtime.proofs.looking.tell_dump.Goals.{After-release}

pub release-requires-clause-due : goal.release-requires-clause-due
release-requires-clause-due c =
    let a = c.args in
    first_due (λ _. publish_steps (entry.Dump a.number) a.context.now (local_of a.pass.now.known) >>= (λ _. done_with a.number)) c.requires.due

-- the safepoint ended
released : (c : After-release) → let a = c.args in let e = a.context.now in let l = local_of a.pass.now.known in
    PartMade a.heap.now a.pass.now c.release.new.pass e.task (release_safepoint e l.thread)
    (λ _. publish_steps (entry.Dump a.number) e l >>= (λ _. done_with a.number)) tt
released c = record { due = c.requires.due; first = refl; made = c.release.ensures }

-- and left the thread's log and own words,
alike : (c : After-release) → StartsAlike c.args.pass.now.known c.release.new.pass.known
alike c =
    let ends = λ (n : ℕ). either_aside (n == reached_word c.args.pass.now.known.thread) (done (tt {0})) unreachable tt tt in
    alike_after (released c) (record { quiet = refl; words = refl; keeps = refl }, ends)

-- so the dump is told from what the thread knew before
telling : (c : After-release) → let a = c.args in let e = a.context.now in
    (publish_steps (entry.Dump a.number) e (local_of a.pass.now.known) >>= (λ _. done_with a.number))
    ≡ (publish_steps (entry.Dump a.number) e (local_of c.release.new.pass.known) >>= (λ _. done_with a.number))
telling c =
    let a = c.args in ap (λ (l : Local). publish_steps (entry.Dump a.number) a.context.now l >>= (λ _. done_with a.number)) (sym (alike c).local)

pub publish-requires-clause-due : goal.publish-requires-clause-due
publish-requires-clause-due c =
    let z = (goal.at.publish-requires-clause-due c).After-release in first_due (λ _. done_with c.args.number) (next_due (released z) refl (telling z))

pub publish-requires-clause-room : goal.publish-requires-clause-room
publish-requires-clause-room c =
    let z = (goal.at.publish-requires-clause-room c).After-release in room_after (released z) (alike z).local c.requires.room

pub returns : goal.returns
returns c =
    let z = (goal.at.returns c).After-release in
    next_made (released z) refl (telling z) (then_ends (λ _. done_with c.args.number) refl c.publish.ensures)
