-- The heap of two threads comes to its worlds, by computing; and in the last of them thread 1 is left alone.
use Rattle.std.proofs.Common.{◌≡◌, ◌≢◌, ℕ, true, false, [], ◌∷◌, Some, refl, ap, ◌∙◌, arith}
use Rattle.mark_word.specs.Mark.{read_mark}
use Rattle.mark_word.specs.Safe.{read_safe}
use Rattle.mark_word.specs.Wait.{read_wait}
use Rattle.mark_word.specs.Hold.{read_hold}
use Rattle.plain_monitor.specs.declared.entry.Path.TheVariants.{BiasTaken}
use Rattle.core_world.specs.declared.word_id.WordId.TheVariants.{Safepoint, Mark, Prototype}
use Rattle.core_world.specs.declared.heap_call.HeapCall.TheVariants as task
use Rattle.core_world.specs.Due.{steps_due}
use Rattle.core_world.specs.Opening.{opening, first_known}
use Rattle.core_world.specs.Steps.{is_idle}
use Rattle.core_world.specs.Threads.ThreadView.{ThreadView}
use Rattle.core_world.specs.Trees.BiasSteps.{rebias_plan}
use Rattle.core_world.specs.Trees.Calls.{steps_of, may_begin}
use Rattle.core_world.specs.Trees.LockSteps.{hold_plan, log_enter_plan}
use Rattle.core_world.specs.Trees.Plans.{load}
use Rattle.core_world.specs.Trees.SafepointSteps.{resume_plan, publish_log_plan, stop_plan}
use Rattle.core_world.specs.Words.Shape.{IsInLimits}
use Rattle.core_law.specs.Reached.{IsReachable, opens, moves}
use Rattle.plain_monitor.specs.History.{objects_after}
use Rattle.core_world.specs.World.{logs}
use Rattle.core_world.proofs.KnowledgeParts.{by_equal}
use Rattle.core_world.proofs.bias.LookWhileRevoking.{forgotten}
use Rattle.core_world.proofs.enter_exit.OwnersShown.{fits_running}
use Rattle.core_law.specs.WholeLaw.{LawsHold}
use Rattle.core_steps.proofs.ReachedWorlds.{reached_worlds_valid}
use Rattle.solo_progress.specs.Answers.{is_others_bias}
use Rattle.solo_progress.specs.LeftAlone.{IsLeftAlone, MayCallAlone}
use Rattle.solo_progress.specs.PairWorlds.{pair, resuming, entering, stopping, anonymous, looked, running, marked}
use Rattle.solo_progress.specs.PairWorlds.{compared, biased, held, entered, published, stopped, seen, alone}
use Rattle.solo_progress.specs.Witnesses.{owned}

comes_looked : IsReachable pair looked
unfolding steps_due is_idle steps_of
comes_looked = moves (opening pair.shape pair.start pair.biasing) 0 (load resuming Safepoint) opens (omega arith) refl

comes_running : IsReachable pair running
unfolding steps_due is_idle steps_of read_safe
comes_running = moves looked 0 (resume_plan resuming 0 0) comes_looked (omega arith) refl

comes_marked : IsReachable pair marked
unfolding steps_due is_idle steps_of read_safe read_mark
comes_marked = moves running 0 (load entering (Mark 0)) comes_running (omega arith) refl

comes_compared : IsReachable pair compared
unfolding steps_due is_idle steps_of read_safe read_mark
comes_compared = moves marked 0 (load entering (Prototype 0)) comes_marked (omega arith) refl

comes_biased : IsReachable pair biased
unfolding steps_due is_idle steps_of read_safe read_mark
comes_biased = moves compared 0 (rebias_plan entering 0 0 anonymous 0) comes_compared (omega arith) refl

comes_held : IsReachable pair held
unfolding steps_due is_idle steps_of read_safe read_mark read_hold
comes_held = moves biased 0 (hold_plan entering 0 0 1 0 BiasTaken) comes_biased (omega arith) refl

comes_entered : IsReachable pair entered
unfolding steps_due is_idle steps_of read_safe read_mark read_hold read_wait
comes_entered = moves held 0 (log_enter_plan entering 0 BiasTaken) comes_held (omega arith) refl

comes_published : IsReachable pair published
unfolding steps_due is_idle steps_of read_safe read_mark read_hold read_wait
comes_published = moves entered 0 (publish_log_plan stopping 0 1) comes_entered (omega arith) refl

comes_stopped : IsReachable pair stopped
unfolding steps_due is_idle steps_of read_safe read_mark read_hold read_wait
comes_stopped = moves published 0 (stop_plan stopping 0) comes_published (omega arith) refl

comes_seen : IsReachable pair seen
unfolding steps_due is_idle steps_of read_safe read_mark read_hold read_wait
comes_seen = moves stopped 1 (load resuming Safepoint) comes_stopped (omega arith) refl

pub comes_alone : IsReachable pair alone
unfolding steps_due is_idle steps_of read_safe read_mark read_hold read_wait
comes_alone = moves seen 1 (resume_plan resuming 1 0) comes_seen (omega arith) refl

limits : IsInLimits pair.shape
limits = record { threads = omega arith; classes = omega arith; declared = omega arith; objects = omega arith; each = ((omega arith, omega arith), tt) }

thread_1_runs : (alone.known 1).running ≡ true
unfolding read_safe
thread_1_runs = refl

none_else : (u : ℕ) → u ≢ 0 → u ≢ 1 → alone.known u ≡ first_known u
none_else u d e =
    let v = reached_worlds_valid pair alone limits comes_alone in
    let fits = fits_running alone v.objects 1 thread_1_runs (forgotten LawsHold alone v.objects v.is) in
    fits.absent u (omega (arith, d, e))

thread_0_stopped : (alone.known 0).running ≡ false
unfolding read_safe
thread_0_stopped = refl

thread_0_asks_nothing : (alone.known 0).requesting ≡ false
unfolding read_safe
thread_0_asks_nothing = refl

left_alone : IsLeftAlone alone 1
unfolding read_safe
left_alone = record {
  within = omega arith;
  calm = refl;
  runs = refl;
  stopped = λ u d. by_equal u 0 (λ e. ap (λ i. (alone.known i).running) e ∙ thread_0_stopped)
      (λ n. ap (λ (k : ThreadView). k.running) (none_else u n d));
  unasked = λ u d. by_equal u 0 (λ e. ap (λ i. (alone.known i).requesting) e ∙ thread_0_asks_nothing)
      (λ n. ap (λ (k : ThreadView). k.requesting) (none_else u n d));
}

idle : is_idle alone.shape (alone.known 1) ≡ true
unfolding is_idle steps_of read_safe
idle = refl

may_enter : (now : ℕ) → may_begin alone.shape alone.biasing (alone.known 1) (task.Enter 0 now) ≡ true
unfolding read_safe
may_enter now = refl

history : objects_after alone.shape.objects (logs alone) ≡ Some (owned ∷ [])
unfolding read_safe read_mark read_hold read_wait
history = refl

pub ready : (now : ℕ) → MayCallAlone pair alone (owned ∷ []) 1 (task.Enter 0 now)
ready now = record {
  call = record { limits = limits; reached = comes_alone; within = omega arith; idle = idle; may = may_enter now };
  history = history;
  alone = left_alone;
}

pub others_bias : is_others_bias alone.shape alone.words 0 1 ≡ true
unfolding read_safe read_mark read_hold read_wait
others_bias = refl
