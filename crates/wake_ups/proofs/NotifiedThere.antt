-- Small heaps come to worlds in which a thread was notified, by computing.
use Rattle.std.proofs.Common.{◌≡◌, ℕ, true, false, List, [], ◌∷◌, ◌++◌, Some, refl, sym, ◌∙◌, subst, arith}
use Rattle.mark_word.specs.Mark.{read_mark}
use Rattle.mark_word.specs.Safe.{read_safe}
use Rattle.mark_word.specs.Owner.{read_owner}
use Rattle.mark_word.specs.Wait.{read_wait}
use Rattle.mark_word.specs.Hold.{read_hold}
use Rattle.plain_monitor.specs.Monitor.{free_monitor, is_listed}
use Rattle.plain_monitor.specs.Objects.{PlainObject, new_object}
use Rattle.core_world.specs.declared.heap_call.HeapCall.{HeapCall}
use Rattle.core_world.specs.declared.word_id.WordId.TheVariants.{Safepoint, Waiting}
use Rattle.core_world.specs.Due.{steps_due}
use Rattle.core_world.specs.Locks.{owner_at, waits_at, notified_at}
use Rattle.core_world.specs.Opening.{opening}
use Rattle.core_world.specs.Steps.{is_idle}
use Rattle.core_world.specs.Threads.ThreadView.{StepMade}
use Rattle.core_world.specs.Trees.Calls.{steps_of}
use Rattle.core_world.specs.Words.Forms.{waits_on, says_notified, is_halted}
use Rattle.core_world.specs.Words.Shape.{IsInLimits, ring_bits}
use Rattle.core_world.specs.World.{World}
use Rattle.core_law.specs.Reached.{IsReachable}
use Rattle.step_history.specs.Examples.{world_of, owns_beside}
use Rattle.step_history.specs.Leads.{Leads}
use Rattle.step_history.specs.Race.{rivals}
use Rattle.step_history.specs.Turns.{next_of, after_turn, after_turns, all_step}
use Rattle.step_history.proofs.Exemplified.{by_turns}
use Rattle.step_history.proofs.Turned.{turns_lead}
use Rattle.wake_ups.specs.Examples.{notifies, leaving, leaves, pair, halts_owned}
use Rattle.wake_ups.specs.WakeUps.{AreAfterLogs, resumes_of}

-- turns after other turns
turns_after : (xs ys : List (ℕ × HeapCall)) (w : World) → after_turns (xs ++ ys) w ≡ after_turns ys (after_turns xs w)
turns_after [] ys w = refl
turns_after (x ∷ xs) ys w = turns_after xs ys (after_turn (next_of w x.0 x.1) x.0 w)

limits : IsInLimits rivals.shape
limits =
    record { threads = omega arith; classes = omega arith; declared = omega arith; objects = omega arith; each = ((omega arith, omega arith), tt) }

abbrev first : World
first = opening rivals.shape rivals.start rivals.biasing

-- WHERE THREAD 0 WAITS beside thread 1, which owns the object
abbrev owned : List PlainObject
owned = record (new_object 0) { monitor = record free_monitor { owner = Some 1; count = 1; waits = (0, 1) ∷ [] } } ∷ []

comes_beside : IsReachable rivals (world_of rivals owns_beside)
unfolding steps_due is_idle steps_of read_safe read_mark read_hold read_wait read_owner ring_bits
comes_beside = by_turns rivals owns_beside refl

logs_beside : AreAfterLogs (world_of rivals owns_beside) owned
unfolding steps_due is_idle steps_of read_safe read_mark read_hold read_wait read_owner ring_bits
logs_beside = refl

waits_beside : waits_on ((world_of rivals owns_beside).words (Waiting 0)) 0 ≡ true
unfolding steps_due is_idle steps_of read_safe read_mark read_hold read_wait read_owner ring_bits
waits_beside = refl

pub waits_there : (objects : List PlainObject) × IsInLimits rivals.shape × IsReachable rivals (world_of rivals owns_beside)
    × AreAfterLogs (world_of rivals owns_beside) objects
    × (waits_on ((world_of rivals owns_beside).words (Waiting 0)) 0 ≡ true) × (owner_at objects 0 1 ≡ true)
waits_there = (owned, limits, comes_beside, logs_beside, waits_beside, refl)

-- WHERE IT WAS NOTIFIED
abbrev called : List PlainObject
called = record (new_object 0) { monitor = record free_monitor { owner = Some 1; count = 1; called = (0, 1) ∷ [] } } ∷ []

comes_notified : IsReachable rivals (world_of rivals notifies)
unfolding steps_due is_idle steps_of read_safe read_mark read_hold read_wait read_owner ring_bits
comes_notified = by_turns rivals notifies refl

logs_notified : AreAfterLogs (world_of rivals notifies) called
unfolding steps_due is_idle steps_of read_safe read_mark read_hold read_wait read_owner ring_bits
logs_notified = refl

pub notified_there : (objects : List PlainObject) × IsInLimits rivals.shape × IsReachable rivals (world_of rivals notifies)
    × AreAfterLogs (world_of rivals notifies) objects × (is_listed (notified_at objects 0) 0 ≡ true)
notified_there = (called, limits, comes_notified, logs_notified, refl)

pub told_there : says_notified ((world_of rivals notifies).words (Waiting 0)) 0 ≡ true
unfolding steps_due is_idle steps_of read_safe read_mark read_hold read_wait read_owner ring_bits
told_there = refl

-- AND WHERE IT WAS LEFT, as thread 1 went on
abbrev left : List PlainObject
left = record (new_object 0) { monitor = record free_monitor { called = (0, 1) ∷ [] } } ∷ []

leaving_steps : all_step leaving (world_of rivals notifies) ≡ true
unfolding steps_due is_idle steps_of read_safe read_mark read_hold read_wait read_owner ring_bits
leaving_steps = refl

leads : (xs : List (ℕ × StepMade)) × Leads (world_of rivals notifies) xs (world_of rivals leaves)
leads =
    subst (λ (v : World). (xs : List (ℕ × StepMade)) × Leads (world_of rivals notifies) xs v) (sym (turns_after notifies leaving first))
    (turns_lead (world_of rivals notifies) leaving leaving_steps)

logs_left : AreAfterLogs (world_of rivals leaves) left
unfolding steps_due is_idle steps_of read_safe read_mark read_hold read_wait read_owner ring_bits
logs_left = refl

none_resumed : resumes_of 0 ((world_of rivals notifies).known 0).log ≡ 0
unfolding steps_due is_idle steps_of read_safe read_mark read_hold read_wait read_owner ring_bits
none_resumed = refl

none_resumed_since : resumes_of 0 ((world_of rivals leaves).known 0).log ≡ 0
unfolding steps_due is_idle steps_of read_safe read_mark read_hold read_wait read_owner ring_bits
none_resumed_since = refl

pub left_there : (xs : List (ℕ × StepMade)) × (before after : List PlainObject) × IsInLimits rivals.shape
    × IsReachable rivals (world_of rivals notifies) × Leads (world_of rivals notifies) xs (world_of rivals leaves)
    × AreAfterLogs (world_of rivals notifies) before × AreAfterLogs (world_of rivals leaves) after
    × (is_listed (notified_at before 0) 0 ≡ true) × (owner_at before 0 1 ≡ true) × (owner_at after 0 1 ≡ false)
    × (resumes_of 0 ((world_of rivals leaves).known 0).log ≡ resumes_of 0 ((world_of rivals notifies).known 0).log)
left_there =
    (leads.0, called, left, limits, comes_notified, leads.1, logs_notified, logs_left, refl, refl, refl, none_resumed_since ∙ sym none_resumed)

-- A HALTED RUN in which thread 1 keeps the object from which it notified thread 0, and waits on another one
pair_limits : IsInLimits pair.shape
pair_limits =
    record {
      threads = omega arith;
      classes = omega arith;
      declared = omega arith;
      objects = omega arith;
      each = ((omega arith, omega arith), ((omega arith, omega arith), tt));
    }

abbrev kept : List PlainObject
kept =
    record (new_object 0) { monitor = record free_monitor { owner = Some 1; count = 1; called = (0, 1) ∷ [] } }
    ∷ record (new_object 0) { monitor = record free_monitor { waits = (1, 1) ∷ [] } } ∷ []

comes_halted : IsReachable pair (world_of pair halts_owned)
unfolding steps_due is_idle steps_of read_safe read_mark read_hold read_wait read_owner ring_bits
comes_halted = by_turns pair halts_owned refl

logs_halted : AreAfterLogs (world_of pair halts_owned) kept
unfolding steps_due is_idle steps_of read_safe read_mark read_hold read_wait read_owner ring_bits
logs_halted = refl

halted : is_halted ((world_of pair halts_owned).words Safepoint) ≡ true
unfolding steps_due is_idle steps_of read_safe read_mark read_hold read_wait read_owner ring_bits
halted = refl

pub halted_there : (objects : List PlainObject) × IsInLimits pair.shape × IsReachable pair (world_of pair halts_owned)
    × AreAfterLogs (world_of pair halts_owned) objects × (is_halted ((world_of pair halts_owned).words Safepoint) ≡ true)
    × (is_listed (notified_at objects 0) 0 ≡ true) × (owner_at objects 0 1 ≡ true) × (is_listed (waits_at objects 1) 1 ≡ true)
halted_there = (kept, pair_limits, comes_halted, logs_halted, halted, refl, refl, refl)
