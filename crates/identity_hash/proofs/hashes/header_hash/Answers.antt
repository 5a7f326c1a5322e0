use Rattle.std.proofs.Common.{◌≡◌, ◌==◌, ◌<◌, length, if◌then◌else◌, Option, Some, refl, sym, ap, ◌∙◌, eq-eqb, ne_eqb}
use Rattle.mark_word.specs.declared.mark.MarkForm.{MarkForm}
use Rattle.mark_word.specs.declared.mark.MarkForm.TheVariants.{Locked}
use Rattle.mark_word.specs.Mark.{read_mark}
use Rattle.core_world.specs.declared.word_id.WordId.TheVariants.{Mark}
use Rattle.core_world.specs.Threads.ThreadView.{local_of}
use Rattle.core_world.specs.Trees.HashSteps.{hash_inflate_steps, hash_mark_steps, hash_header_steps}
use Rattle.core_world.specs.Words.Forms.{hash_in, hash_form}
use Rattle.identity_hash.specs.inner.Parts.{hash_owned_steps}
use Rattle.heap_table.proofs.StepsLeft.{AreLeft, all_left, can_make, step_made, left_as, left_then, left_else, all_made, never, thread_stays}
use Rattle.identity_hash.proofs.Finding.{room_left, same_local, same_kept}
use Rattle.identity_hash.proofs.Marks.{never_hashed}
use Rattle.identity_hash.proofs.hashes.header_hash.Goals as goal
use Rattle.identity_hash.proofs.hashes.header_hash.Goals.{After-find_hash-mark, In-Locked}

pub find_hash-mark-requires : goal.find_hash-mark-requires
find_hash-mark-requires c = can_make (all_left c.requires.heap c.requires.due) refl refl refl c.requires.room

-- what is left once the mark is loaded, by its form
by_form : (c : After-find_hash-mark) (f : Option MarkForm) → read_mark c.find_hash-mark.result ≡ f
    → AreLeft c.args.heap.now c.args.call.now.task c.args.pass.now
    (hash_header_steps c.args.heap.now.heap.shape c.args.call.now (local_of c.args.pass.now.known) c.args.pass.now.known.kept
    (record { number = c.args.number; value = c.args.value }) c.args.object) c.find_hash-mark.new.pass
    (hash_mark_steps f c.args.heap.now.heap.shape c.args.call.now (local_of c.args.pass.now.known) c.args.pass.now.known.kept
    (record { number = c.args.number; value = c.args.value }) c.args.object c.find_hash-mark.result)
by_form c f form = left_as (step_made (all_left c.requires.heap c.requires.due) refl refl refl c.find_hash-mark.ensures)
    (ap (λ (f : Option MarkForm). hash_mark_steps f c.args.heap.now.heap.shape c.args.call.now (local_of c.args.pass.now.known) c.args.pass.now.known.kept
    (record { number = c.args.number; value = c.args.value }) c.args.object c.find_hash-mark.result) form)

-- where that has no hash, the load logged nothing
room : (c : After-find_hash-mark) → hash_in c.find_hash-mark.result ≡ 0 → length c.find_hash-mark.new.pass.known.log < c.find_hash-mark.new.pass.limit
room c none = room_left c.args.heap.now c.args.pass.now c.find_hash-mark.new.pass c.args.call.now (Mark c.args.object) c.args.object c.find_hash-mark.result
    c.find_hash-mark.ensures (ap (λ n. n == 0) none) c.requires.room

pub returns-in-Inflating : goal.returns-in-Inflating
returns-in-Inflating c =
    all_made (by_form (goal.at.returns-in-Inflating c).After-find_hash-mark _ (sym c.mark_of_word.ensures ∙ c.in-Some.is ∙ ap Some c.in-Inflating.is))

-- NEUTRAL
pub returns-then-hash-ne0 : goal.returns-then-hash-ne0
returns-then-hash-ne0 c =
    all_made (left_else _ _ _ (by_form (goal.at.returns-then-hash-ne0 c).After-find_hash-mark _
    (sym c.mark_of_word.ensures ∙ c.in-Some.is ∙ ap Some c.in-Neutral.is)) (ne_eqb _ _ c.if-hash-ne0.true))

pub draw-requires-clause-due : goal.draw-requires-clause-due
draw-requires-clause-due c =
    (left_then _ _ _ (by_form (goal.at.draw-requires-clause-due c).After-find_hash-mark _
    (sym c.mark_of_word.ensures ∙ c.in-Some.is ∙ ap Some c.in-Neutral.is)) (eq-eqb _ _ c.if-hash-ne0.false)).due

pub draw-requires-clause-room : goal.draw-requires-clause-room
draw-requires-clause-room c = room (goal.at.draw-requires-clause-room c).After-find_hash-mark
    (ap hash_form (sym c.mark_of_word.ensures ∙ c.in-Some.is ∙ ap Some c.in-Neutral.is) ∙ c.if-hash-ne0.false)

pub returns-else-hash-ne0 : goal.returns-else-hash-ne0
returns-else-hash-ne0 c =
    (left_then _ _ _ (by_form (goal.at.returns-else-hash-ne0 c).After-find_hash-mark _
    (sym c.mark_of_word.ensures ∙ c.in-Some.is ∙ ap Some c.in-Neutral.is)) (eq-eqb _ _ c.if-hash-ne0.false)).whole _ _ c.draw.ensures

-- LOCKED: who has the lock says what is left
locked_form : (c : In-Locked) → read_mark c.find_hash-mark.result ≡ Some (Locked c.in-Locked.thread c.in-Locked.place)
locked_form c = sym c.mark_of_word.ensures ∙ c.in-Some.is ∙ ap Some c.in-Locked.is

locked : (c : In-Locked) → AreLeft c.args.heap.now c.args.call.now.task c.args.pass.now
    (hash_header_steps c.args.heap.now.heap.shape c.args.call.now (local_of c.args.pass.now.known) c.args.pass.now.known.kept
    (record { number = c.args.number; value = c.args.value }) c.args.object) c.find_hash-mark.new.pass
    (if c.in-Locked.thread == c.find_hash-mark.new.pass.known.thread
    then hash_owned_steps c.args.heap.now.heap.shape c.args.call.now (local_of c.find_hash-mark.new.pass.known) c.find_hash-mark.new.pass.known.kept
    (record { number = c.args.number; value = c.args.value }) c.args.object
    else hash_inflate_steps c.args.heap.now.heap.shape c.args.call.now c.find_hash-mark.new.pass.known.kept
    (record { number = c.args.number; value = c.args.value }) c.args.object)
locked c =
    let s = c.find_hash-mark.ensures in
    let thread = thread_stays s in
    let kept = same_kept c.args.heap.now c.args.pass.now c.find_hash-mark.new.pass c.args.call.now (Mark c.args.object) c.args.object _ s in
    let local = same_local c.args.heap.now c.args.pass.now c.find_hash-mark.new.pass c.args.call.now c.args.object _ s (ap hash_form (locked_form c)) in
    left_as (by_form c.before.before.before _ (locked_form c))
    (λ i. if c.in-Locked.thread == sym thread i
    then hash_owned_steps c.args.heap.now.heap.shape c.args.call.now (sym local i) (sym kept i)
    (record { number = c.args.number; value = c.args.value }) c.args.object
    else hash_inflate_steps c.args.heap.now.heap.shape c.args.call.now (sym kept i) (record { number = c.args.number; value = c.args.value }) c.args.object)

pub hash_inflate-requires-clause-due : goal.hash_inflate-requires-clause-due
hash_inflate-requires-clause-due c =
    (left_else _ _ _ (locked (goal.at.hash_inflate-requires-clause-due c).In-Locked)
    (ne_eqb _ _ (λ same. c.if-thread.true (same ∙ sym c.thread.ensures.same)))).due

pub hash_inflate-requires-clause-room : goal.hash_inflate-requires-clause-room
hash_inflate-requires-clause-room c =
    let z = goal.at.hash_inflate-requires-clause-room c in room z.After-find_hash-mark (ap hash_form (locked_form z.In-Locked))

pub returns-then-thread : goal.returns-then-thread
returns-then-thread c =
    (left_else _ _ _ (locked (goal.at.returns-then-thread c).In-Locked)
    (ne_eqb _ _ (λ same. c.if-thread.true (same ∙ sym c.thread.ensures.same)))).whole _ _ c.hash_inflate.ensures

pub hash_owned-requires-clause-due : goal.hash_owned-requires-clause-due
hash_owned-requires-clause-due c =
    (left_then _ _ _ (locked (goal.at.hash_owned-requires-clause-due c).In-Locked) (eq-eqb _ _ (c.if-thread.false ∙ c.thread.ensures.same))).due

pub hash_owned-requires-clause-room : goal.hash_owned-requires-clause-room
hash_owned-requires-clause-room c =
    let z = goal.at.hash_owned-requires-clause-room c in room z.After-find_hash-mark (ap hash_form (locked_form z.In-Locked))

pub returns-else-thread : goal.returns-else-thread
returns-else-thread c =
    (left_then _ _ _ (locked (goal.at.returns-else-thread c).In-Locked) (eq-eqb _ _ (c.if-thread.false ∙ c.thread.ensures.same))).whole _ _
    c.hash_owned.ensures

-- INFLATED, and marks that no valid world comes with
pub hash_monitor-requires-clause-due : goal.hash_monitor-requires-clause-due
hash_monitor-requires-clause-due c = (by_form (goal.at.hash_monitor-requires-clause-due c).After-find_hash-mark _
    (sym c.mark_of_word.ensures ∙ c.in-Some.is ∙ ap Some c.in-Inflated.is)).due

pub hash_monitor-requires-clause-room : goal.hash_monitor-requires-clause-room
hash_monitor-requires-clause-room c = room (goal.at.hash_monitor-requires-clause-room c).After-find_hash-mark
    (ap hash_form (sym c.mark_of_word.ensures ∙ c.in-Some.is ∙ ap Some c.in-Inflated.is))

pub returns-in-Inflated : goal.returns-in-Inflated
returns-in-Inflated c = (by_form (goal.at.returns-in-Inflated c).After-find_hash-mark _
    (sym c.mark_of_word.ensures ∙ c.in-Some.is ∙ ap Some c.in-Inflated.is)).whole _ _ c.hash_monitor.ensures

pub unreachable-requires : goal.unreachable-requires
unreachable-requires c = never (by_form (goal.at.unreachable-requires c).After-find_hash-mark _ (sym c.mark_of_word.ensures ∙ c.in-Some.is))
    (never_hashed c.in-Some.form _ _ _ _ _ _ _
    c.in_default.not-Inflating c.in_default.not-Neutral c.in_default.not-Locked c.in_default.not-Inflated)

pub unreachable-requires-in-None : goal.unreachable-requires-in-None
unreachable-requires-in-None c =
    never (by_form (goal.at.unreachable-requires-in-None c).After-find_hash-mark _ (sym c.mark_of_word.ensures ∙ c.in-None.is)) refl
