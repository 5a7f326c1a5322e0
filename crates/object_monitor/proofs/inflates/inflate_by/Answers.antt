use Rattle.std.proofs.Common.{◌≡◌, ℕ, refl, sym, ap, ◌∙◌, Option, Some, None, arith}
use Rattle.mark_word.specs.Mark.{read_mark}
use Rattle.core_world.specs.Threads.ThreadView.{ThreadView}
use Rattle.core_world.specs.Trees.MonitorSteps.{inflate_with, inflate_by}
use Rattle.heap_table.proofs.StepsLeft.{AreLeft, all_left, can_make, step_made, left_as}
use Rattle.object_monitor.proofs.Inflating.{fits, kept_in}
use Rattle.object_monitor.proofs.inflates.inflate_by.Goals as goal
use Rattle.object_monitor.proofs.inflates.inflate_by.Goals.{In-None, After-fetch-claimed}

pub overflow_cast-kept : goal.overflow_cast-kept
overflow_cast-kept c =
    let a = c.args in
    let within = kept_in a.heap.now a.pass.now c.in-Some.kept c.requires.heap (sym c.kept.ensures ∙ c.in-Some.is) in
    let small = fits a.heap.now a.pass.now c.in-Some.kept c.requires.heap within in
    omega (arith, small)

-- the thread keeps no monitor
none_kept : (c : In-None) → AreLeft c.args.heap.now c.args.call.now.task c.args.pass.now
    (inflate_by c.args.pass.now.known.kept c.args.heap.now.heap.shape c.args.call.now c.args.object c.args.mark) c.args.pass.now
    (inflate_by None c.args.heap.now.heap.shape c.args.call.now c.args.object c.args.mark)
none_kept c = left_as (all_left c.requires.heap c.requires.due)
    (ap (λ (k : Option ℕ). inflate_by k c.args.heap.now.heap.shape c.args.call.now c.args.object c.args.mark) (sym c.kept.ensures ∙ c.in-None.is))

pub claim-position-requires : goal.claim-position-requires
claim-position-requires c = can_make (none_kept (goal.at.claim-position-requires c).In-None) refl refl refl tt

pub fetch-claimed-requires : goal.fetch-claimed-requires
fetch-claimed-requires c =
    can_make (step_made (none_kept (goal.at.fetch-claimed-requires c).In-None) refl refl refl c.claim-position.ensures) refl refl refl tt

pub overflow_cast-claimed : goal.overflow_cast-claimed
overflow_cast-claimed c =
    let a = c.args in
    let q = c.fetch-claimed.new.pass in
    let m = c.fetch-claimed.result in
    let s = c.fetch-claimed.ensures in
    let keeps : q.known.kept ≡ Some m = ap (λ (k : ThreadView). k.kept) s.known in
    let small = fits a.heap.now q m s.heap (kept_in a.heap.now q m s.heap keeps) in
    omega (arith, small)

-- it has claimed one
claimed : (c : After-fetch-claimed) → AreLeft c.args.heap.now c.args.call.now.task c.args.pass.now
    (inflate_by c.args.pass.now.known.kept c.args.heap.now.heap.shape c.args.call.now c.args.object c.args.mark) c.fetch-claimed.new.pass
    (inflate_with (read_mark c.args.mark) c.args.call.now c.args.object c.args.mark c.fetch-claimed.result)
claimed c =
    let at = step_made (none_kept c.before.before.before.before) refl refl refl c.claim-position.ensures in
    step_made at refl refl refl c.fetch-claimed.ensures

pub inflate_with-requires-in-None-clause-due : goal.inflate_with-requires-in-None-clause-due
inflate_with-requires-in-None-clause-due c = (claimed (goal.at.inflate_with-requires-in-None-clause-due c).After-fetch-claimed).due

pub returns-in-None : goal.returns-in-None
returns-in-None c = (claimed (goal.at.returns-in-None c).After-fetch-claimed).whole _ _ c.inflate_with-in-None.ensures
