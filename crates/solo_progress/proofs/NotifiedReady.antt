-- Where a thread was notified, and the one that notified it has left the object and stopped, it is left alone and may go on with its wait.
use Rattle.std.proofs.Common.{◌≡◌, ◌≢◌, ℕ, not, true, false, None, [], ◌∷◌, Some, refl, sym, ap, ◌∙◌, arith}
use Rattle.mark_word.specs.Hold.{read_hold}
use Rattle.mark_word.specs.Mark.{read_mark}
use Rattle.mark_word.specs.Owner.{read_owner}
use Rattle.mark_word.specs.Safe.{read_safe}
use Rattle.mark_word.specs.Wait.{read_wait}
use Rattle.plain_monitor.specs.History.{objects_after}
use Rattle.plain_monitor.specs.Monitor.{is_listed}
use Rattle.core_world.specs.declared.heap_call.HeapCall.TheVariants as task
use Rattle.core_world.specs.declared.stage.Stage.TheVariants.{Settled}
use Rattle.core_world.specs.Due.{steps_due}
use Rattle.core_world.specs.Locks.{monitor_of, notified_at}
use Rattle.core_world.specs.Opening.{first_known}
use Rattle.core_world.specs.Steps.{is_idle}
use Rattle.core_world.specs.Threads.ThreadView.{ThreadView}
use Rattle.core_world.specs.Trees.Calls.{steps_of, may_begin}
use Rattle.core_world.specs.Words.Shape.{IsInLimits, ring_bits}
use Rattle.core_world.specs.World.{World, logs}
use Rattle.core_world.proofs.KnowledgeParts.{by_equal}
use Rattle.core_world.proofs.bias.LookWhileRevoking.{forgotten}
use Rattle.core_world.proofs.enter_exit.OwnersShown.{fits_running}
use Rattle.core_law.specs.Reached.{IsReachable}
use Rattle.core_law.specs.WholeLaw.{LawsHold}
use Rattle.core_steps.proofs.ReachedWorlds.{reached_worlds_valid}
use Rattle.step_history.specs.Examples.{world_of}
use Rattle.step_history.specs.Race.{rivals}
use Rattle.step_history.proofs.Exemplified.{by_turns}
use Rattle.solo_progress.specs.LeftAlone.{IsLeftAlone, MayCallAlone}
use Rattle.solo_progress.specs.Witnesses.{told, notified}

abbrev w : World
w = world_of rivals told

comes : IsReachable rivals w
unfolding steps_due is_idle steps_of read_safe read_mark read_hold read_wait read_owner ring_bits
comes = by_turns rivals told refl

limits : IsInLimits rivals.shape
limits = record { threads = omega arith; classes = omega arith; declared = omega arith; objects = omega arith; each = ((omega arith, omega arith), tt) }

-- what is found by computing
record Found : Type 0 where
  threads : w.shape.threads ≡ 2
  runs : (w.known 0).running ≡ true
  asks_nothing : (w.known 0).requesting ≡ false
  calm : (w.known 0).stage ≡ Settled
  other_stopped : (w.known 1).running ≡ false
  other_asks_nothing : (w.known 1).requesting ≡ false
  idle : is_idle w.shape (w.known 0) ≡ true
  history : objects_after w.shape.objects (logs w) ≡ Some (notified ∷ [])

found : Found
unfolding steps_due is_idle steps_of read_safe read_mark read_hold read_wait read_owner ring_bits
found = record {
  threads = refl;
  runs = refl;
  asks_nothing = refl;
  calm = refl;
  other_stopped = refl;
  other_asks_nothing = refl;
  idle = refl;
  history = refl;
}

may_wait : (now : ℕ) → may_begin w.shape w.biasing (w.known 0) (task.Wait 0 now) ≡ true
unfolding steps_due is_idle steps_of read_safe read_mark read_hold read_wait read_owner ring_bits
may_wait now = refl

none_else : (u : ℕ) → u ≢ 0 → u ≢ 1 → w.known u ≡ first_known u
none_else u d e =
    let v = reached_worlds_valid rivals w limits comes in
    let fits = fits_running w v.objects 0 found.runs (forgotten LawsHold w v.objects v.is) in
    fits.absent u (omega (arith, d, e, found.threads))

left_alone : IsLeftAlone w 0
left_alone = record {
  within = omega (arith, found.threads);
  calm = found.calm;
  runs = found.runs ∙ ap not (sym found.asks_nothing);
  stopped = λ u d. by_equal u 1 (λ e. ap (λ i. (w.known i).running) e ∙ found.other_stopped)
      (λ n. ap (λ (k : ThreadView). k.running) (none_else u d n));
  unasked = λ u d. by_equal u 1 (λ e. ap (λ i. (w.known i).requesting) e ∙ found.other_asks_nothing)
      (λ n. ap (λ (k : ThreadView). k.requesting) (none_else u d n));
}

ready : (now : ℕ) → MayCallAlone rivals w (notified ∷ []) 0 (task.Wait 0 now)
ready now = record {
  call = record { limits = limits; reached = comes; within = omega (arith, found.threads); idle = found.idle; may = may_wait now };
  history = found.history;
  alone = left_alone;
}

pub told_ready : (now : ℕ) → MayCallAlone rivals w (notified ∷ []) 0 (task.Wait 0 now)
    × (is_listed (notified_at (notified ∷ []) 0) 0 ≡ true) × ((monitor_of (notified ∷ []) 0).owner ≡ None)
told_ready now = (ready now, refl, refl)
