-- Calls that may begin in small worlds.
use Rattle.std.proofs.Common.{◌≡◌, ◌≢◌, ℕ, ◌≤◌, sym, ap, subst, true, false, [], ◌∷◌, refl, arith}
use Rattle.mark_word.specs.Mark.{read_mark}
use Rattle.mark_word.specs.Safe.{read_safe}
use Rattle.mark_word.specs.Wait.{read_wait}
use Rattle.mark_word.specs.Hold.{read_hold}
use Rattle.plain_monitor.specs.declared.entry.Ending.{Ending}
use Rattle.plain_monitor.specs.declared.entry.Value.TheVariants.{Nil}
use Rattle.core_world.specs.declared.heap_call.HeapCall.{HeapCall}
use Rattle.core_world.specs.declared.heap_call.HeapCall.TheVariants as task
use Rattle.core_world.specs.declared.word_id.WordId.TheVariants.{Mark}
use Rattle.core_world.specs.Steps.{is_idle}
use Rattle.core_world.specs.Trees.Calls.{may_begin, steps_of}
use Rattle.core_world.specs.Words.Forms.{waits_on}
use Rattle.core_world.specs.Words.Shape.{IsInLimits}
use Rattle.core_world.specs.Opening.{opening, first_known}
use Rattle.core_world.specs.Threads.ThreadView.{ThreadView}
use Rattle.core_world.specs.World.{World}
use Rattle.core_world.proofs.bias.LookWhileRevoking.{forgotten}
use Rattle.core_world.proofs.enter_exit.OwnersShown.{fits_running}
use Rattle.core_law.specs.WholeLaw.{LawsHold}
use Rattle.core_law.specs.Logic.{Heap, heap_of}
use Rattle.core_law.specs.Reached.{IsReachable, opens}
use Rattle.core_steps.proofs.ReachedWorlds.{reached_worlds_valid}
use Rattle.core_steps.specs.SmallWorlds.{small, running, neutral, entered}
use Rattle.core_steps.proofs.SmallWorlds.{comes_running, comes_entered}
use Rattle.solo_progress.specs.LeftAlone.{IsLeftAlone, MayCallAlone, MayCall}
use Rattle.solo_progress.specs.Witnesses.{unowned, owned}

limits : IsInLimits small.shape
limits = record { threads = omega arith; classes = omega arith; declared = omega arith; objects = omega arith; each = ((omega arith, omega arith), tt) }

-- the heap has no other thread
none_else : (w : World) → heap_of w ≡ small → IsReachable small w → (w.known 0).running ≡ true → (u : ℕ) → u ≢ 0 → w.known u ≡ first_known u
none_else w is comes runs u d =
    let v = reached_worlds_valid small w limits comes in
    let fits = fits_running w v.objects 0 runs (forgotten LawsHold w v.objects v.is) in
    fits.absent u (subst (λ (z : Heap). z.shape.threads ≤ u) (sym is) (omega (arith, d)))

running_alone : IsLeftAlone running 0
unfolding read_safe
running_alone = record {
  within = omega arith;
  calm = refl;
  runs = refl;
  stopped = λ u d. ap (λ (k : ThreadView). k.running) (none_else running refl comes_running refl u d);
  unasked = λ u d. ap (λ (k : ThreadView). k.requesting) (none_else running refl comes_running refl u d);
}

running_idle : is_idle running.shape (running.known 0) ≡ true
unfolding is_idle steps_of read_safe
running_idle = refl

-- where the others don't matter
pub running_may : (job : HeapCall) → may_begin running.shape running.biasing (running.known 0) job ≡ true → MayCall small running 0 job
running_may job may = record { limits = limits; reached = comes_running; within = omega arith; idle = running_idle; may = may }

pub running_ready : (job : HeapCall) → may_begin running.shape running.biasing (running.known 0) job ≡ true
    → MayCallAlone small running (unowned ∷ []) 0 job
running_ready job may = record { call = running_may job may; history = refl; alone = running_alone }

entered_alone : IsLeftAlone entered 0
unfolding read_safe read_mark read_hold read_wait
entered_alone = record {
  within = omega arith;
  calm = refl;
  runs = refl;
  stopped = λ u d. ap (λ (k : ThreadView). k.running) (none_else entered refl comes_entered refl u d);
  unasked = λ u d. ap (λ (k : ThreadView). k.requesting) (none_else entered refl comes_entered refl u d);
}

entered_idle : is_idle entered.shape (entered.known 0) ≡ true
unfolding is_idle steps_of read_safe read_mark read_hold read_wait
entered_idle = refl

pub entered_ready : (job : HeapCall) → may_begin entered.shape entered.biasing (entered.known 0) job ≡ true
    → MayCallAlone small entered (owned ∷ []) 0 job
unfolding read_safe read_mark read_hold read_wait
entered_ready job may = record {
  call = record { limits = limits; reached = comes_entered; within = omega arith; idle = entered_idle; may = may };
  history = refl;
  alone = entered_alone;
}

abbrev first : World
first = opening small.shape small.start small.biasing

first_idle : is_idle first.shape (first.known 0) ≡ true
unfolding is_idle steps_of
first_idle = refl

pub first_may : MayCall small first 0 task.Resume
first_may = record { limits = limits; reached = opens; within = omega arith; idle = first_idle; may = refl }

-- THE CALLS' OWN CONDITIONS
abbrev RunningMay : HeapCall → Type 0
RunningMay job = may_begin running.shape running.biasing (running.known 0) job ≡ true

abbrev EnteredMay : HeapCall → Type 0
EnteredMay job = may_begin entered.shape entered.biasing (entered.known 0) job ≡ true

pub may_enter : (now : ℕ) → RunningMay (task.Enter 0 now)
unfolding read_safe
may_enter now = refl

pub may_stack_enter : RunningMay (task.StackEnter 0 neutral)
unfolding read_safe read_mark
may_stack_enter = refl

pub may_hash : (now : ℕ) → RunningMay (task.Hash 0 now)
unfolding read_safe
may_hash now = refl

pub may_dump : RunningMay task.Dump
unfolding read_safe
may_dump = refl

pub may_request : RunningMay task.Request
unfolding read_safe
may_request = refl

pub may_print : RunningMay (task.Print Nil)
unfolding read_safe
may_print = refl

pub may_finish : (ending : Ending) → RunningMay (task.Finish ending)
unfolding read_safe
may_finish ending = refl

pub may_poll : RunningMay task.Poll
unfolding read_safe
may_poll = refl

pub may_stop : RunningMay task.Stop
unfolding read_safe
may_stop = refl

pub may_exit : EnteredMay (task.Exit 0)
unfolding read_safe read_mark read_hold read_wait
may_exit = refl

pub may_stack_exit : EnteredMay (task.StackExit 0)
unfolding read_safe read_mark read_hold read_wait
may_stack_exit = refl

pub may_wait : (now : ℕ) → EnteredMay (task.Wait 0 now)
unfolding read_safe read_mark read_hold read_wait
may_wait now = refl

pub may_notify : (now : ℕ) → EnteredMay (task.Notify 0 now)
unfolding read_safe read_mark read_hold read_wait
may_notify now = refl

pub may_notify_all : (now : ℕ) → EnteredMay (task.NotifyAll 0 now)
unfolding read_safe read_mark read_hold read_wait
may_notify_all now = refl

pub may_check : EnteredMay task.Check
unfolding read_safe read_mark read_hold read_wait
may_check = refl

-- the mark that an enter by a lock record is given, and that the thread waits on nothing
pub neutral_mark : running.words (Mark 0) ≡ neutral
unfolding read_safe
neutral_mark = refl

pub awake : waits_on (entered.known 0).wait 0 ≡ false
unfolding read_safe read_mark read_hold read_wait
awake = refl
