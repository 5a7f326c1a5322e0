use Rattle.std.proofs.Common.{◌≡◌, refl, sym, ap, ◌∙◌}
use Rattle.core_world.specs.declared.stage.Stage.TheVariants.{Settled}
use Rattle.core_world.specs.Threads.ThreadView.{Local, local_of}
use Rattle.core_world.specs.Trees.DeflateSteps.{deflate_steps}
use Rattle.core_world.specs.Trees.LookSteps.{take_shot_steps}
use Rattle.core_world.specs.Trees.StepTree.{◌>>=◌}
use Rattle.lock_runtime.specs.inner.LookParts.{told_dump}
use Rattle.lock_runtime.proofs.Dumped.{bare, bare_run, dumped_of, of_shot, first_shot, first_deflation}
use Rattle.lock_runtime.proofs.PartMade.{PartMade, first_due, next_due, next_made, room_after}
use Rattle.lock_runtime.proofs.looking.dump_reached.Goals as goal
use Rattle.lock_runtime.proofs.looking.dump_reached.Goals.{After-take_shot, After-deflate_idle}

pub take_shot-requires-clause-due : goal.take_shot-requires-clause-due
take_shot-requires-clause-due c =
    let a = c.args in
    let e = a.context.now in
    first_due (λ _. deflate_steps a.heap.now.heap.shape e Settled >>= (λ _. told_dump e (local_of a.pass.now.known) a.number)) c.requires.due

-- the shot is taken
shot : (c : After-take_shot) → let a = c.args in let e = a.context.now in let s = a.heap.now.heap.shape in
    PartMade a.heap.now (bare a.pass.now) (bare c.take_shot.new.pass) e.task (take_shot_steps e s)
    (λ _. deflate_steps s e Settled >>= (λ _. told_dump e (local_of a.pass.now.known) a.number)) tt
shot c = record { due = c.requires.due; first = first_shot c.args.context.now c.args.heap.now.heap.shape; made = of_shot c.take_shot.ensures.run }

pub deflate_idle-requires-clause-due : goal.deflate_idle-requires-clause-due
deflate_idle-requires-clause-due c =
    let a = c.args in
    first_due (λ _. told_dump a.context.now (local_of a.pass.now.known) a.number)
    (next_due (shot (goal.at.deflate_idle-requires-clause-due c).After-take_shot) refl refl)

-- and idle monitors are given back
deflated : (c : After-deflate_idle) → let a = c.args in let e = a.context.now in
    PartMade a.heap.now (bare c.take_shot.new.pass) (bare c.deflate_idle.new.pass) e.task (deflate_steps a.heap.now.heap.shape e Settled)
    (λ _. told_dump e (local_of a.pass.now.known) a.number) tt
deflated c = record {
  due = next_due (shot c.before.before) refl refl;
  first = first_deflation c.args.heap.now.heap.shape c.args.context.now Settled;
  made = bare_run c.deflate_idle.ensures.run;
}

-- the thread's log and own words are as before
telling : (c : After-deflate_idle) → let a = c.args in
    told_dump a.context.now (local_of a.pass.now.known) a.number ≡ told_dump a.context.now (local_of c.deflate_idle.new.pass.known) a.number
telling c =
    ap (λ (l : Local). told_dump c.args.context.now l c.args.number) (sym (c.deflate_idle.ensures.local ∙ c.take_shot.ensures.local))

pub tell_dump-requires-clause-due : goal.tell_dump-requires-clause-due
tell_dump-requires-clause-due c =
    let z = (goal.at.tell_dump-requires-clause-due c).After-deflate_idle in next_due (deflated z) refl (telling z)

pub tell_dump-requires-clause-room : goal.tell_dump-requires-clause-room
tell_dump-requires-clause-room c =
    let z = goal.at.tell_dump-requires-clause-room c in
    room_after (deflated z.After-deflate_idle) c.deflate_idle.ensures.local
    (room_after (shot z.After-take_shot) c.take_shot.ensures.local c.requires.room)

pub returns : goal.returns
returns c =
    let z = goal.at.returns c in
    let last = next_made (deflated z.After-deflate_idle) refl (telling z.After-deflate_idle) (bare_run c.tell_dump.ensures) in
    dumped_of (next_made (shot z.After-take_shot) refl refl last)
