-- What one instruction or one entry does.
use Rattle.std.specs.Prelude.{◌≡◌, ◌⊎◌, ℕ, ◌+◌, ◌<◌, ◌≤◌, Bool, true, false, List, ◌++◌, length, Option, None, Ok}
use Rattle.plain_monitor.specs.declared.entry.Path.{Path}
use Rattle.plain_monitor.specs.declared.entry.Value.{Value}
use Rattle.core_world.specs.declared.answer.Progress.{Progress}
use Rattle.core_world.specs.declared.answer.Progress.TheVariants.{Done, Pending}
use Rattle.core_world.specs.declared.answer.PendingCause.{PendingCause}
use Rattle.core_world.specs.declared.heap_call.HeapCall.{HeapCall}
use Rattle.core_world.specs.declared.heap_call.HeapCall.TheVariants as task
use Rattle.core_world.specs.Trees.Calls.{side_context}
use Rattle.core_world.specs.Trees.Operations.{enter_steps, exit_steps, wait_steps, notify_steps, notify_all_steps, hash_steps}
use Rattle.core_world.specs.Trees.Operations.{get_steps, put_steps, print_steps, finish_steps, dump_steps, create_steps}
use Rattle.core_world.specs.Trees.SafepointSteps.{poll_steps, stop_steps, resume_steps}
use Rattle.core_world.specs.Threads.ThreadView.{StepMade}
use Rattle.core_world.specs.Due.{Ran}
use Rattle.core_world.specs.Trees.StepTree.{StepTree}
use Rattle.heap_table.specs.Kept.{all_holds}
use Rattle.heap_table.specs.Resting.{start_now}
use Rattle.heap_table.specs.Seen.{HeapSeen, PassSeen}
use Rattle.lock_runtime.specs.Standing.{StandsAfterTurn}
use Rattle.object_program.specs.Program.{ProgramText}
use Rattle.thread_calls.specs.declared.came.Went.{Went}
use Rattle.thread_calls.specs.declared.came.Went.TheVariants as went
use Rattle.thread_calls.specs.Between.{IsOn}
use Rattle.thread_frame.specs.Frames.{FrameSeen, unspent, rank_of, has_ended}

-- WHICH CALL WAS MADE. The pass was p, and is q after these steps, with this answer.
abbrev pub RanFrom : {A : Type 0} → HeapSeen → StepTree A → PassSeen → PassSeen → A → Type 0
RanFrom h d p q a = Ran h.heap.shape h.heap.start d p.known q.known a

-- the call of this task, begun by the pass p, was done, and left q
abbrev pub DoneIn : HeapSeen → PassSeen → PassSeen → HeapCall → Type 0
DoneIn h p q (task.Enter o now) =
    (path : Path) × RanFrom h (enter_steps h.heap.shape (start_now h p) o now) p q (Ok (Done path))
DoneIn h p q (task.Exit o) = RanFrom h (exit_steps (start_now h p) o) p q (Ok (Done tt))
DoneIn h p q (task.Wait o now) = RanFrom h (wait_steps h.heap.shape (start_now h p) o now) p q (Ok (Done tt))
DoneIn h p q (task.Notify o now) =
    (woken : Option ℕ) × RanFrom h (notify_steps h.heap.shape (start_now h p) o now) p q (Ok (Done woken))
DoneIn h p q (task.NotifyAll o now) =
    (woken : ℕ) × RanFrom h (notify_all_steps h.heap.shape (start_now h p) o now) p q (Ok (Done woken))
DoneIn h p q (task.Hash o now) =
    (value : ℕ) × RanFrom h (hash_steps h.heap.shape (start_now h p) o now) p q (Done value)
DoneIn h p q (task.Get o slot) = (value : Value) × RanFrom h (get_steps (start_now h p) o slot) p q (Ok value)
DoneIn h p q (task.Put o slot value) = RanFrom h (put_steps (start_now h p) o slot value) p q (Ok tt)
DoneIn h p q (task.Print value) = RanFrom h (print_steps (start_now h p) value) p q tt
DoneIn h p q task.Dump = (number : ℕ) × RanFrom h (dump_steps h.heap.shape (start_now h p)) p q (Ok (Done number))
DoneIn h p q (task.Create c) = (o : ℕ) × RanFrom h (create_steps h.heap.shape (start_now h p) c) p q (Ok o)
DoneIn h p q (task.Finish ending) = RanFrom h (finish_steps (start_now h p) ending) p q tt
DoneIn h p q task.Poll = RanFrom h (poll_steps (side_context task.Poll (start_now h p))) p q (Done tt)
DoneIn h p q task.Stop =
    RanFrom h (stop_steps (side_context task.Stop (start_now h p)) (start_now h p).local) p q tt
DoneIn h p q task.Resume =
    RanFrom h (resume_steps (side_context task.Resume (start_now h p)) (start_now h p).local) p q (Done tt)
DoneIn h p q t = ⊥

-- or it was pending for this
abbrev pub PendedIn : HeapSeen → PendingCause → PassSeen → PassSeen → HeapCall → Type 0
PendedIn h why p q (task.Enter o now) =
    RanFrom h (enter_steps h.heap.shape (start_now h p) o now) p q (Ok (Pending why))
PendedIn h why p q (task.Exit o) = RanFrom h (exit_steps (start_now h p) o) p q (Ok (Pending why))
PendedIn h why p q (task.Wait o now) = RanFrom h (wait_steps h.heap.shape (start_now h p) o now) p q (Ok (Pending why))
PendedIn h why p q (task.Notify o now) =
    RanFrom h (notify_steps h.heap.shape (start_now h p) o now) p q (Ok (Pending why))
PendedIn h why p q (task.NotifyAll o now) =
    RanFrom h (notify_all_steps h.heap.shape (start_now h p) o now) p q (Ok (Pending why))
PendedIn h why p q (task.Hash o now) = RanFrom h (hash_steps h.heap.shape (start_now h p) o now) p q (Pending why)
PendedIn h why p q task.Dump = RanFrom h (dump_steps h.heap.shape (start_now h p)) p q (Ok (Pending why))
PendedIn h why p q task.Poll = RanFrom h (poll_steps (side_context task.Poll (start_now h p))) p q (Pending why)
PendedIn h why p q task.Resume =
    RanFrom h (resume_steps (side_context task.Resume (start_now h p)) (start_now h p).local) p q
    (Pending why)
PendedIn h why p q t = ⊥

-- the thread made steps, one at least, which are now the first of its list
pub record HasStepped (p q : PassSeen) : Type 0 where
  pub steps : List StepMade
  pub added : q.known.steps ≡ steps ++ p.known.steps
  pub some : 1 ≤ length steps

-- one call was made, of which this holds
pub record MadeCall (Is : PassSeen → PassSeen → HeapCall → Type 0) (p q : PassSeen) : Type 0 where
  pub task : HeapCall
  pub is : Is p q task
  pub stepped : HasStepped p q

-- Done: a call that was done, or none for a local instruction. Pending: a call that was pending for just that.
abbrev pub MakesCall : HeapSeen → PassSeen → PassSeen → FrameSeen → Progress Bool → Type 0
MakesCall h p q f (Done b) = ((f.mode ≡ None) × (q ≡ p)) ⊎ MadeCall (DoneIn h) p q
MakesCall h p q f (Pending why) = MadeCall (PendedIn h why) p q

-- what an instruction or an entry came to, as the answer of a call: the cause of one that is pending was written apart
abbrev pub progress_of : Went → PendingCause → Progress Bool
progress_of went.Done why = Done true
progress_of went.On why = Done false
progress_of went.Pending why = Pending why

-- HOW FAR IT CAME. Done, it says whether an instruction was done, for which fuel was spent. Pending, the thread hasn't ended.
abbrev pub HasSpent : FrameSeen → FrameSeen → Progress Bool → Type 0
HasSpent f g (Done true) = unspent f ≡ unspent g + 1
HasSpent f g (Done false) = unspent f ≡ unspent g
HasSpent f g (Pending why) = (unspent f ≡ unspent g) × (has_ended g ≡ false)

-- what falls with each instruction and each entry
abbrev pub rank_with : PassSeen → FrameSeen → ℕ
rank_with q f = rank_of f + all_holds q.known.holds

abbrev pub HasFallen : PassSeen → PassSeen → FrameSeen → FrameSeen → Progress Bool → Type 0
HasFallen p q f g (Done b) = rank_with q g < rank_with p f
HasFallen p q f g (Pending why) = Unit {0}

-- the pass and the frame were p and f, and are q and g
pub record HasAdvanced (h : HeapSeen) (text : ProgramText) (fuel : ℕ) (p q : PassSeen) (f g : FrameSeen)
    (progress : Progress Bool) : Type 0 where
  pub on : IsOn h text fuel q g
  pub unchecked : q.known.checking ≡ false
  pub thread : q.known.thread ≡ p.known.thread
  pub stands : StandsAfterTurn q.known progress
  pub calls : MakesCall h p q f progress
  pub spent : HasSpent f g progress
  pub fallen : HasFallen p q f g progress

-- the thread may make its next call: it runs, or its request stands for just that
pub record MayAdvance (h : HeapSeen) (text : ProgramText) (fuel : ℕ) (p : PassSeen) (f : FrameSeen) : Type 0 where
  pub on : IsOn h text fuel p f
  pub unchecked : p.known.checking ≡ false
  pub goes : (p.known.running ≡ true) ⊎ (p.known.requesting ≡ true)
  pub live : has_ended f ≡ false
