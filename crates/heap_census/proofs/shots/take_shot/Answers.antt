use Rattle.std.proofs.Common.{ap, ◌≡◌, refl, sym, ◌∙◌, subst}
use Rattle.mark_word.specs.Mark.{read_mark}
use Rattle.core_world.specs.declared.word_id.WordId.TheVariants.{Mark, Length}
use Rattle.core_world.specs.Threads.ThreadView.{local_of}
use Rattle.core_world.specs.Trees.LookSteps.{keep_shot_plan, look_at_named, take_shot_steps}
use Rattle.core_world.specs.Trees.Plans.{CallContext, load}
use Rattle.core_world.specs.Trees.StepTree.{StepTree, done, ◌>>=◌, ask}
use Rattle.core_world.proofs.CallRests.{next_due}
use Rattle.heap_table.specs.Parts.{HasMadeSteps}
use Rattle.heap_table.specs.Seen.{PassSeen}
use Rattle.heap_table.proofs.StepsLeft.{AreLeft, all_left, part_of}
use Rattle.heap_census.specs.inner.ShotParts.{look_at_lengths}
use Rattle.heap_census.proofs.After.{left_after}
use Rattle.heap_census.proofs.Later.{later_itself}
use Rattle.heap_census.proofs.Parting.{bare, bare_of, run_of_shot, shot_of_run, all_of_task}
use Rattle.heap_census.proofs.shots.take_shot.Goals as goal
use Rattle.heap_census.proofs.shots.take_shot.Goals.{After-begin_shot, After-look_at_objects, After-look_at_lengths}

-- what is left after the objects, and after the lengths
abbrev counted : CallContext → Unit {0} → StepTree (Unit {0})
counted e u = ask (keep_shot_plan e) >>= (λ n. done tt)

-- WHAT IS LEFT of the steps of the pass without its draft: where it begins a new one, after the objects, and after the lengths
begun : (c : After-begin_shot) → AreLeft c.args.heap.now c.args.call.now.task (bare c.args.pass.now)
    (take_shot_steps c.args.call.now c.args.heap.now.heap.shape) (bare c.begin_shot.new.self)
    (take_shot_steps c.args.call.now c.args.heap.now.heap.shape)
begun c =
    let d = take_shot_steps c.args.call.now c.args.heap.now.heap.shape in
    let same : c.begin_shot.new.self ≡ bare c.args.pass.now = c.begin_shot.ensures in
    subst (λ (z : PassSeen). AreLeft c.args.heap.now c.args.call.now.task (bare c.args.pass.now) d (bare z) d) (sym same)
    (all_left (bare_of c.args.pass.now c.requires.heap) c.requires.due)

looked : (c : After-look_at_objects) → AreLeft c.args.heap.now c.args.call.now.task (bare c.args.pass.now)
    (take_shot_steps c.args.call.now c.args.heap.now.heap.shape) (bare c.look_at_objects.new.pass)
    (look_at_lengths c.args.call.now c.args.heap.now.heap.shape >>= counted c.args.call.now)
looked c =
    let e = c.args.call.now in
    let s = c.args.heap.now.heap.shape in
    left_after (λ _. look_at_lengths e s >>= counted e) (run_of_shot c.begin_shot.new.self c.look_at_objects.new.pass c.look_at_objects.ensures.run)
    (all_of_task 0 _ e.task (λ o. load e (Mark o)) (λ o n. look_at_named (read_mark n) e s o) (λ j. refl)) (begun c.before.before)

measured : (c : After-look_at_lengths) → AreLeft c.args.heap.now c.args.call.now.task (bare c.args.pass.now)
    (take_shot_steps c.args.call.now c.args.heap.now.heap.shape) (bare c.look_at_lengths.new.pass) (counted c.args.call.now tt)
measured c =
    let e = c.args.call.now in
    left_after (counted e) (run_of_shot c.look_at_objects.new.pass c.look_at_lengths.new.pass c.look_at_lengths.ensures.run)
    (all_of_task 0 _ e.task (λ t. load e (Length t)) (λ t n. done tt) (λ j. refl)) (looked c.before.before)

pub look_at_objects-requires-clause-due : goal.look_at_objects-requires-clause-due
look_at_objects-requires-clause-due c =
    part_of (λ _. look_at_lengths c.args.call.now c.args.heap.now.heap.shape >>= counted c.args.call.now)
    (begun (goal.at.look_at_objects-requires-clause-due c).After-begin_shot)

pub look_at_lengths-requires-clause-due : goal.look_at_lengths-requires-clause-due
look_at_lengths-requires-clause-due c =
    part_of (counted c.args.call.now) (looked (goal.at.look_at_lengths-requires-clause-due c).After-look_at_objects)

pub load_and_keep-requires : goal.load_and_keep-requires
load_and_keep-requires c =
    let h = c.args.heap.now in
    let r = c.look_at_lengths.new.pass in
    let lengths = c.look_at_lengths.ensures in
    record {
      heap = lengths.run.heap;
      next = next_due h.heap.shape h.heap.start h.heap.biasing r.known c.args.call.now.task (keep_shot_plan c.args.call.now) (λ n. done tt)
          (measured (goal.at.load_and_keep-requires c).After-look_at_lengths).due refl;
      room = tt;
      drafted = (sym (lengths.cut r.known (later_itself r.known)), lengths.cells ∙ sym (c.look_at_objects.ensures.cells r.known lengths.later));
    }

pub returns-clause-run : goal.returns-clause-run
returns-clause-run c =
    let z = c.load_and_keep.new.pass in
    let step = c.load_and_keep.ensures in
    let kept : HasMadeSteps c.args.heap.now (counted c.args.call.now tt) (bare c.look_at_lengths.new.pass) (bare z) tt = record {
      heap = bare_of z step.heap;
      limit = step.limit;
      cut = refl;
      cells = refl;
      ran = record { by = (c.load_and_keep.result, (step.known, refl)) };
    } in
    shot_of_run c.args.pass.now z ((measured (goal.at.returns-clause-run c).After-look_at_lengths).whole _ _ kept)

pub returns-clause-local : goal.returns-clause-local
returns-clause-local c =
    let same : c.begin_shot.new.self ≡ bare c.args.pass.now = c.begin_shot.ensures in
    ap local_of c.load_and_keep.ensures.known ∙ c.look_at_lengths.ensures.later.local
    ∙ c.look_at_objects.ensures.later.local ∙ ap (λ (z : PassSeen). local_of z.known) same
