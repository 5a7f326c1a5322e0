use Rattle.std.proofs.Common.{rules, ◌≡◌, ◌+◌, ◌<◌, ◌≤◌, ◌∷◌, [], length, ap, ◌∙◌, sym, arith}
use Rattle.plain_monitor.specs.Limits.{most_holds}
use Rattle.mark_word.specs.declared.mark.MarkForm.TheVariants.{Locked}
use Rattle.mark_word.specs.Mark.{mark_of}
use Rattle.core_world.specs.declared.word_id.WordId.TheVariants.{Mark}
use Rattle.core_world.specs.RevocationRules.{write, first_place}
use Rattle.core_world.specs.Trees.RevocationSteps.{store_steps}
use Rattle.heap_table.proofs.Forms.{in_limits}
use Rattle.heap_table.proofs.StepsLeft.{AreLeft, all_left, left_as, part_of}
use Rattle.safepoint_work.specs.inner.RevokeParts.{mark_locked, locked_steps}
use Rattle.safepoint_work.proofs.After.{left_after}
use Rattle.safepoint_work.proofs.RevokeSteps.{records_left, record_first, records_none, stores_of}
use Rattle.safepoint_work.proofs.RevokeWords.{locked_place}
use Rattle.safepoint_work.proofs.revokes.lock_by_records.Goals as goal
use Rattle.safepoint_work.proofs.revokes.lock_by_records.Goals.{After-first_place-place, After-encode-mark}

pub loop-i-init : goal.loop-i-init
loop-i-init c = all_left c.requires.heap c.requires.due

pub store_record-requires-clause-heap : goal.store_record-requires-clause-heap
store_record-requires-clause-heap c = c.loop-i.invariant.heap

pub store_record-requires-clause-due : goal.store_record-requires-clause-due
store_record-requires-clause-due c =
    let a = c.args in
    let l = c.loop-i in
    let many : length a.holds.now ≡ most_holds = search rules in
    let ys = mark_locked a.object a.thread a.holds.now in
    part_of (λ _. records_left a.call.now a.revocation.now a.object a.thread a.holds.now ys (l.i + 1)) (left_as l.invariant
    (record_first a.call.now a.revocation.now a.object a.thread a.holds.now ys l.i (omega (arith, many, c.loop-i-test.true))))

pub loop-i-preserved : goal.loop-i-preserved
loop-i-preserved c =
    let a = c.args in
    let l = c.loop-i in
    let many : length a.holds.now ≡ most_holds = search rules in
    let ys = mark_locked a.object a.thread a.holds.now in
    left_after (λ _. records_left a.call.now a.revocation.now a.object a.thread a.holds.now ys (l.i + 1)) c.store_record.ensures
    (stores_of a.call.now a.revocation.now _) (left_as l.invariant
    (record_first a.call.now a.revocation.now a.object a.thread a.holds.now ys l.i (omega (arith, many, c.loop-i-test.true))))

-- all records are stored: the mark is left, in the tree's words and in the code's
recorded : (c : After-first_place-place) → AreLeft c.args.heap.now c.args.call.now.task c.args.pass.now
    (locked_steps c.args.call.now c.args.revocation.now c.args.object c.args.thread c.args.holds.now) c.loop-i.pass
    (store_steps c.args.call.now c.args.revocation.now (mark_locked c.args.object c.args.thread c.args.holds.now))
recorded c =
    let a = c.args in
    let many : length a.holds.now ≡ most_holds = search rules in
    left_as c.loop-i.invariant (records_none a.call.now a.revocation.now a.object a.thread a.holds.now
    (mark_locked a.object a.thread a.holds.now) c.loop-i.i (omega (arith, many, c.loop-i-test.false)))

marked : (c : After-encode-mark) → AreLeft c.args.heap.now c.args.call.now.task c.args.pass.now
    (locked_steps c.args.call.now c.args.revocation.now c.args.object c.args.thread c.args.holds.now) c.loop-i.pass
    (store_steps c.args.call.now c.args.revocation.now (write (Mark c.args.object) c.encode-mark.result ∷ []))
marked c =
    let word = c.encode-mark.ensures ∙ ap (λ p. mark_of (Locked c.args.thread p)) c.first_place-place.ensures.place in
    left_as (recorded c.before.before) (λ i. store_steps c.args.call.now c.args.revocation.now (write (Mark c.args.object) (sym word i) ∷ []))

pub encode-mark-requires : goal.encode-mark-requires
encode-mark-requires c =
    let a = c.args in
    let left = recorded (goal.at.encode-mark-requires c).After-first_place-place in
    let limits = in_limits a.heap.now c.loop-i.pass left.heap in
    let thread : a.thread < 32 = omega (arith, c.requires.thread, limits.threads) in
    let place = c.first_place-place.ensures in
    let most : first_place a.object a.holds.now ≤ most_holds = omega (arith, place.place, place.few) in
    let within = locked_place a.heap.now c.loop-i.pass a.call.now a.revocation.now a.object a.thread _ _ left.heap left.due thread most in
    (thread, omega (arith, place.place, within))

pub store_one-requires-clause-due : goal.store_one-requires-clause-due
store_one-requires-clause-due c = (marked (goal.at.store_one-requires-clause-due c).After-encode-mark).due

pub returns : goal.returns
returns c = (marked (goal.at.returns c).After-encode-mark).whole _ _ c.store_one.ensures
