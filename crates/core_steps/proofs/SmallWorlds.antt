-- The small heap comes to its worlds, by its calls.
use Rattle.std.proofs.Common.{◌≡◌, ℕ, ◌<◌, true, false, refl, sym, subst, arith}
use Rattle.mark_word.specs.Mark.{read_mark}
use Rattle.mark_word.specs.Safe.{read_safe}
use Rattle.mark_word.specs.Owner.{read_owner, owner_of}
use Rattle.mark_word.specs.declared.owner.OwnerForm.TheVariants.{ByRecord}
use Rattle.mark_word.specs.Wait.{read_wait}
use Rattle.mark_word.specs.Hold.{read_hold}
use Rattle.plain_monitor.specs.declared.entry.Path.TheVariants.{StackFirst}
use Rattle.core_world.specs.declared.word_id.WordId.TheVariants.{Safepoint, Mark, Displaced, Owner, Recursions, Header, Object}
use Rattle.core_world.specs.declared.stage.Stage.TheVariants.{RecordLocked, Settled}
use Rattle.core_world.specs.Trees.Calls.{steps_of}
use Rattle.core_world.specs.Due.{steps_due}
use Rattle.core_world.specs.Words.Shape.{ring_bits}
use Rattle.core_world.specs.Opening.{opening}
use Rattle.core_world.specs.Threads.ThreadView.{local_of}
use Rattle.core_world.specs.World.{World}
use Rattle.core_world.specs.Trees.Plans.{CallContext, load, load_plan}
use Rattle.core_world.specs.declared.heap_call.HeapCall.TheVariants.{Request, Reached}
use Rattle.core_world.specs.Steps.{world_after}
use Rattle.core_world.specs.Trees.Operations.{lone_context}
use Rattle.core_world.specs.Trees.HashSteps.{find_hash_plan, draw_plan}
use Rattle.core_world.specs.Trees.MonitorSteps.{claim_plan, fetch_plan, inflate_plan, prepare_plan, name_plan}
use Rattle.core_world.specs.Trees.SafepointSteps.{resume_plan, request_plan, released_word, stop_steps}
use Rattle.core_world.specs.Steps.{is_idle}
use Rattle.core_world.specs.Trees.LockSteps.{hold_plan, log_enter_plan, seize_plan, displace_plan}
use Rattle.core_law.specs.Logic.{Heap, heap_of, SoundWorldWith, DoesSteps}
use Rattle.core_steps.specs.Weakened.{late_displaced_steps, early_clearing_steps, stop_at_stage_steps}
use Rattle.core_steps.specs.Weakened.{always_claiming_steps, early_mark_steps, any_object_steps, early_cleaning_steps}
use Rattle.core_law.proofs.NextSteps.{stands_here}
use Rattle.core_steps.proofs.ReachedWorlds.{reached_worlds_valid}
use Rattle.core_steps.proofs.Refuted.{late_displaced_fails, early_clearing_fails, stop_at_stage_fails}
use Rattle.core_steps.proofs.Refuted.{always_claiming_fails, early_mark_fails, any_object_fails, early_cleaning_fails}
use Rattle.core_steps.proofs.safepoint.RefutedStops.{stop_between_fails}
use Rattle.core_law.specs.Reached.{IsReachable, opens, moves}
use Rattle.core_steps.specs.SmallWorlds.{small, resuming, looked, running, neutral, entering, displaced, seized, held, entered}
use Rattle.core_steps.specs.SmallWorlds.{hashing, unbiased, unfound, claimed, keeping, locked, inflating, copied, headed, owned}
use Rattle.core_steps.specs.SmallWorlds.{counted, prepared, named, drawing, drawn, requested, reached, known_in}

comes_looked : IsReachable small looked
unfolding steps_due is_idle steps_of
comes_looked = moves (opening small.shape small.start small.biasing) 0 (load resuming Safepoint) opens (omega arith) refl

pub comes_running : IsReachable small running
unfolding steps_due is_idle steps_of read_safe
comes_running = moves looked 0 (resume_plan resuming 0 0) comes_looked (omega arith) refl

comes_displaced : IsReachable small displaced
unfolding steps_due is_idle steps_of read_safe read_mark
comes_displaced = moves running 0 (displace_plan entering Settled 0 0 neutral) comes_running (omega arith) refl

pub comes_seized : IsReachable small seized
unfolding steps_due is_idle steps_of read_safe read_mark
comes_seized = moves displaced 0 (seize_plan entering 0 0 neutral 0) comes_displaced (omega arith) refl

comes_held : IsReachable small held
unfolding steps_due is_idle steps_of read_safe read_mark read_hold
comes_held = moves seized 0 (hold_plan entering 0 0 1 0 StackFirst) comes_seized (omega arith) refl

pub comes_entered : IsReachable small entered
unfolding steps_due is_idle steps_of read_safe read_mark read_hold read_wait
comes_entered = moves held 0 (log_enter_plan entering 0 StackFirst) comes_held (omega arith) refl

comes_unbiased : IsReachable small unbiased
unfolding steps_due is_idle steps_of read_safe read_mark read_hold read_wait read_owner ring_bits
comes_unbiased = moves entered 0 (load hashing (Mark 0)) comes_entered (omega arith) refl

comes_sought : IsReachable small (world_after (find_hash_plan hashing (Mark 0) 0) 0 unbiased)
unfolding steps_due is_idle steps_of read_safe read_mark read_hold read_wait read_owner ring_bits
comes_sought = moves unbiased 0 (find_hash_plan hashing (Mark 0) 0) comes_unbiased (omega arith) refl

comes_unfound : IsReachable small unfound
unfolding steps_due is_idle steps_of read_safe read_mark read_hold read_wait read_owner ring_bits
comes_unfound = moves (world_after (find_hash_plan hashing (Mark 0) 0) 0 unbiased) 0 (find_hash_plan hashing (Displaced 0 0) 0) comes_sought (omega arith) refl

comes_marked : IsReachable small (world_after (load hashing (Mark 0)) 0 unfound)
unfolding steps_due is_idle steps_of read_safe read_mark read_hold read_wait read_owner ring_bits
comes_marked = moves unfound 0 (load hashing (Mark 0)) comes_unfound (omega arith) refl

comes_claimed : IsReachable small claimed
unfolding steps_due is_idle steps_of read_safe read_mark read_hold read_wait read_owner ring_bits
comes_claimed = moves (world_after (load hashing (Mark 0)) 0 unfound) 0 (claim_plan hashing) comes_marked (omega arith) refl

pub comes_keeping : IsReachable small keeping
unfolding steps_due is_idle steps_of read_safe read_mark read_hold read_wait read_owner ring_bits
comes_keeping = moves claimed 0 (fetch_plan hashing small.shape 0) comes_claimed (omega arith) refl

comes_zero : IsReachable small (world_after (inflate_plan hashing 0 locked 0 0) 0 keeping)
unfolding steps_due is_idle steps_of read_safe read_mark read_hold read_wait read_owner ring_bits
comes_zero = moves keeping 0 (inflate_plan hashing 0 locked 0 0) comes_keeping (omega arith) refl

comes_copied : IsReachable small copied
unfolding steps_due is_idle steps_of read_safe read_mark read_hold read_wait read_owner ring_bits
comes_copied = moves (world_after (inflate_plan hashing 0 locked 0 0) 0 keeping) 0 (load_plan hashing inflating (Displaced 0 0)) comes_zero (omega arith) refl

comes_headed : IsReachable small headed
unfolding steps_due is_idle steps_of read_safe read_mark read_hold read_wait read_owner ring_bits
comes_headed = moves copied 0 (prepare_plan hashing inflating (Header 0) neutral) comes_copied (omega arith) refl

comes_owned : IsReachable small owned
unfolding steps_due is_idle steps_of read_safe read_mark read_hold read_wait read_owner ring_bits
comes_owned = moves headed 0 (prepare_plan hashing inflating (Owner 0) (owner_of (ByRecord 0 0))) comes_headed (omega arith) refl

comes_counted : IsReachable small counted
unfolding steps_due is_idle steps_of read_safe read_mark read_hold read_wait read_owner ring_bits
comes_counted = moves owned 0 (prepare_plan hashing inflating (Recursions 0) 0) comes_owned (omega arith) refl

comes_prepared : IsReachable small prepared
unfolding steps_due is_idle steps_of read_safe read_mark read_hold read_wait read_owner ring_bits
comes_prepared = moves counted 0 (prepare_plan hashing inflating (Object 0) 0) comes_counted (omega arith) refl

comes_named : IsReachable small named
unfolding steps_due is_idle steps_of read_safe read_mark read_hold read_wait read_owner ring_bits
comes_named = moves prepared 0 (name_plan hashing 0 0) comes_prepared (omega arith) refl

comes_unhashed : IsReachable small (world_after (find_hash_plan hashing (Header 0) 0) 0 named)
unfolding steps_due is_idle steps_of read_safe read_mark read_hold read_wait read_owner ring_bits
comes_unhashed = moves named 0 (find_hash_plan hashing (Header 0) 0) comes_named (omega arith) refl

comes_drawn : IsReachable small drawn
unfolding steps_due is_idle steps_of read_safe read_mark read_hold read_wait read_owner ring_bits
comes_drawn = moves (world_after (find_hash_plan hashing (Header 0) 0) 0 named) 0
    (draw_plan hashing drawing (Header 0) 0 neutral) comes_unhashed (omega arith) refl

comes_asking : IsReachable small (world_after (load (lone_context Request) Safepoint) 0 drawn)
unfolding steps_due is_idle steps_of read_safe read_mark read_hold read_wait read_owner ring_bits
comes_asking = moves drawn 0 (load (lone_context Request) Safepoint) comes_drawn (omega arith) refl

comes_requested : IsReachable small requested
unfolding steps_due is_idle steps_of read_safe read_mark read_hold read_wait read_owner ring_bits
comes_requested = moves (world_after (load (lone_context Request) Safepoint) 0 drawn) 0
    (request_plan (lone_context Request) 0 (released_word 0)) comes_asking (omega arith) refl

pub comes_reached : IsReachable small reached
unfolding steps_due is_idle steps_of read_safe read_mark read_hold read_wait read_owner ring_bits
comes_reached = moves requested 0 (load (lone_context Reached) Safepoint) comes_requested (omega arith) refl

-- they are valid, so that they show what the thread knows there
abbrev shown : (w : World) → heap_of w ≡ small → IsReachable small w → SoundWorldWith (heap_of w) (w.known 0)
shown w is comes = stands_here w 0 (subst (λ (z : Heap). 0 < z.shape.threads) (sym is) (omega arith)) (reached_worlds_valid small w (record {
  threads = omega arith;
  classes = omega arith;
  declared = omega arith;
  objects = omega arith;
  each = ((omega arith, omega arith), tt);
}) comes)

-- WEAKENED TREES there. An enter in the world in which the thread runs,
pub no_late_displaced : (e : CallContext) → DoesSteps small true (late_displaced_steps e (local_of (known_in running)) 0 neutral) (known_in running) → ⊥
unfolding is_idle steps_of read_safe read_mark read_hold
no_late_displaced e does =
    late_displaced_fails small (known_in running) true (shown running refl comes_running) refl e 0 neutral refl
    (omega arith) refl refl (λ same. absurd (omega (arith, same))) does

-- an exit where it has entered the object,
pub no_early_clearing : (e : CallContext) (header mark : ℕ)
    → DoesSteps small true (early_clearing_steps e (local_of (known_in entered)) 0 header mark) (known_in entered) → ⊥
unfolding is_idle steps_of read_safe read_mark read_hold read_wait
no_early_clearing e header mark does =
    early_clearing_fails small (known_in entered) true (shown entered refl comes_entered) refl e 0 header mark refl refl (omega arith) (omega arith) does

-- and a stop where it has exchanged the mark
pub no_stop_between : (e : CallContext) → DoesSteps small false (stop_at_stage_steps e (RecordLocked 0 0) (local_of (known_in seized))) (known_in seized) → ⊥
unfolding is_idle steps_of read_safe read_mark read_hold
no_stop_between e does =
    stop_at_stage_fails small (known_in seized) false (shown seized refl comes_seized) refl e (RecordLocked 0 0) refl (λ same. absurd (cc same)) does

-- also by the steps that every stop makes,
pub no_stop_seized : (e : CallContext) → DoesSteps small false (stop_steps e (local_of (known_in seized))) (known_in seized) → ⊥
unfolding is_idle steps_of read_safe read_mark read_hold
no_stop_seized e does = stop_between_fails small (known_in seized) false (shown seized refl comes_seized) refl e refl does refl

-- an inflation that claims a position where it keeps a monitor,
pub no_always_claiming : (e : CallContext) → DoesSteps small false (always_claiming_steps small.shape e 0 locked) (known_in keeping) → ⊥
unfolding is_idle steps_of read_safe read_mark read_hold read_wait ring_bits
no_always_claiming e does = always_claiming_fails small (known_in keeping) false (shown keeping refl comes_keeping) refl e 0 locked 0 refl refl does

-- a making where it runs, that stores the first mark first, or is of another object than its next one,
pub no_early_mark : (e : CallContext) (o c m : ℕ) → DoesSteps small true (early_mark_steps e o c m) (known_in running) → ⊥
unfolding is_idle steps_of read_safe read_mark read_hold
no_early_mark e o c m does =
    early_mark_fails small (known_in running) true (shown running refl comes_running) refl e o c m refl (λ is. absurd (cc is)) does

pub no_other_object : (c m : ℕ) → DoesSteps small true (any_object_steps 2 c m) (known_in running) → ⊥
unfolding is_idle steps_of read_safe read_mark read_hold
no_other_object c m does =
    any_object_fails small (known_in running) true (shown running refl comes_running) refl 2 c m refl (λ is. absurd (omega (arith, is))) does

-- and a deflation where its safepoint is reached
pub no_early_cleaning : (e : CallContext) (header : ℕ) → DoesSteps small true (early_cleaning_steps e Settled 0 0 header) (known_in reached) → ⊥
unfolding is_idle steps_of read_safe read_mark read_hold read_wait read_owner ring_bits
no_early_cleaning e header does =
    early_cleaning_fails small (known_in reached) true (shown reached refl comes_reached) refl e Settled 0 0 header refl refl refl does
