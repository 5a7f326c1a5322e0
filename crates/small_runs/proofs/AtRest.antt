-- The thread of a small heap at rest: what it holds by its log, that it waits, and its shot.
use Rattle.std.proofs.Common.{◌≡◌, ℕ, zero, suc, ◌<◌, [], ◌∷◌, length, sum, true, refl, sym, arith}
use Rattle.std.specs.Prelude.{slice_index}
use Rattle.mark_word.specs.Mark.{read_mark}
use Rattle.mark_word.specs.Safe.{read_safe}
use Rattle.mark_word.specs.Owner.{read_owner}
use Rattle.mark_word.specs.Wait.{read_wait}
use Rattle.mark_word.specs.Hold.{read_hold}
use Rattle.atomic_table.specs.Seated.{TableId}
use Rattle.plain_monitor.specs.Limits.{most_holds}
use Rattle.plain_history.specs.HeldByLog.{held_by, nothing_held}
use Rattle.core_world.specs.Due.{steps_due}
use Rattle.core_world.specs.Steps.{is_idle}
use Rattle.core_world.specs.Trees.Calls.{steps_of}
use Rattle.core_world.specs.Words.Forms.{waits_on}
use Rattle.core_world.specs.Words.Shape.{ring_bits}
use Rattle.core_world.specs.World.{World}
use Rattle.core_law.specs.Reached.{IsReachable}
use Rattle.heap_table.specs.Resting.{Rests}
use Rattle.heap_table.specs.Seen.{HeapSeen, PassSeen}
use Rattle.own_logs.specs.HoldsByLog.{AreHolds}
use Rattle.step_history.specs.Examples.{lone, world_of, enters, waits}
use Rattle.step_history.proofs.Exemplified.{waiting}
use Rattle.small_runs.specs.Runs.{has_finished, lone_in, pass_in}
use Rattle.small_runs.proofs.Ends.{resting}
use Rattle.small_runs.proofs.Worlds.{limits, finished_comes, finished_over, entered_comes, entered_over, waiting_over}

waits_there : waits_on ((world_of lone (waits 0)).known 0).wait 0 ≡ true
unfolding steps_due is_idle steps_of read_safe read_mark read_hold read_wait read_owner ring_bits
waits_there = refl

one_shot : length (has_finished.known 0).shots ≡ 1
unfolding steps_due is_idle steps_of read_safe read_mark read_hold read_wait read_owner ring_bits
one_shot = refl

entered_holds : 1 ≡ held_by nothing_held ((world_of lone (enters 0)).known 0).log 0
unfolding steps_due is_idle steps_of read_safe read_mark read_hold read_wait read_owner ring_bits
entered_holds = refl

finished_holds : 0 ≡ held_by nothing_held (has_finished.known 0).log 0
unfolding steps_due is_idle steps_of read_safe read_mark read_hold read_wait read_owner ring_bits
finished_holds = refl

-- the holds of the only object, where it has as many by the log
held_alone : (h : HeapSeen) (p : PassSeen) (n : ℕ) → length h.heap.shape.objects ≡ 1 → n ≡ held_by nothing_held p.known.log 0 → AreHolds h p (n ∷ [])
held_alone h p n one same = record { count = sym one; each = each }
  where
    each : (o : ℕ) → o < length h.heap.shape.objects → slice_index (n ∷ []) o ≡ held_by nothing_held p.known.log o
    each zero few = same
    each (suc o) few = absurd (omega (arith, few, one))

module _ (table : TableId) where
  pub rests_in : (w : World) → IsReachable lone w → is_idle lone.shape (w.known 0) ≡ true → Rests (lone_in table) (pass_in (lone_in table) w)
  rests_in w c over = resting (lone_in table) 0 w limits refl (omega arith) c over

  pub holding : Rests (lone_in table) (pass_in (lone_in table) (world_of lone (enters 0)))
      × AreHolds (lone_in table) (pass_in (lone_in table) (world_of lone (enters 0))) (1 ∷ [])
      × (sum (1 ∷ []) < most_holds)
  holding = (
    rests_in (world_of lone (enters 0)) entered_comes entered_over,
    held_alone (lone_in table) (pass_in (lone_in table) (world_of lone (enters 0))) 1 refl entered_holds,
    omega arith,
  )

  pub waits_at_rest : Rests (lone_in table) (pass_in (lone_in table) (world_of lone (waits 0)))
      × (0 < length lone.shape.objects) × (waits_on ((world_of lone (waits 0)).known 0).wait 0 ≡ true)
  waits_at_rest = (rests_in (world_of lone (waits 0)) waiting.0 waiting_over, omega arith, waits_there)

  pub free : Rests (lone_in table) (pass_in (lone_in table) has_finished)
      × AreHolds (lone_in table) (pass_in (lone_in table) has_finished) (0 ∷ [])
      × (sum (0 ∷ []) ≡ 0)
      × (length (has_finished.known 0).shots ≡ 1)
  free = (
    rests_in has_finished finished_comes finished_over,
    held_alone (lone_in table) (pass_in (lone_in table) has_finished) 0 refl finished_holds,
    refl,
    one_shot,
  )
