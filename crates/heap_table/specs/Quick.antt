-- What a quick enter or exit does: the whole of its steps, or their beginning, or nothing.
use Rattle.std.specs.Prelude.{◌≡◌, ℕ, true, false, None, Ok}
use Rattle.mark_word.specs.Mark.{read_mark}
use Rattle.mark_word.specs.Owner.{read_owner}
use Rattle.plain_monitor.specs.declared.entry.Path.{Path}
use Rattle.core_world.specs.declared.answer.Progress.{Progress}
use Rattle.core_world.specs.declared.answer.Progress.TheVariants as progress
use Rattle.core_world.specs.declared.answer.PendingCause.TheVariants as why
use Rattle.core_world.specs.declared.heap_call.HeapCall.{HeapCall}
use Rattle.core_world.specs.declared.heap_call.HeapCall.TheVariants as task
use Rattle.core_world.specs.declared.heap_call.Operation.TheVariants as op
use Rattle.core_world.specs.Threads.Stages.{Revocation}
use Rattle.core_world.specs.Threads.ThreadView.{ThreadView, Start, local_of}
use Rattle.core_world.specs.Trees.BiasSteps.{bias_enter_by}
use Rattle.core_world.specs.Trees.MonitorSteps.{monitor_enter_at}
use Rattle.core_world.specs.Trees.Operations.{enter_steps, enter_at, enter_tried, exit_at, exit_steps}
use Rattle.core_world.specs.Trees.Operations as tree
use Rattle.core_world.specs.Trees.Plans.{CallContext, call_context, done_with, top_place}
use Rattle.core_world.specs.Trees.StepTree.{StepTree, ◌>>=◌}
use Rattle.core_world.specs.Words.Shape.{Shape}
use Rattle.heap_table.specs.ExitParts.{owned_exit}
use Rattle.heap_table.specs.Parts.{HasMadeSteps}
use Rattle.heap_table.specs.Resting.{start_now}
use Rattle.heap_table.specs.Seen.{HeapSeen, PassSeen}
use Rattle.heap_table.specs.StepsLeft.{AreLeft}
use Rattle.heap_table.specs.declared.quick.QuickEnter.{QuickEnter}
use Rattle.heap_table.specs.declared.quick.QuickEnter.TheVariants as enters
use Rattle.heap_table.specs.declared.quick.QuickExit.{QuickExit}
use Rattle.heap_table.specs.declared.quick.QuickExit.TheVariants as exits

-- The thread runs, and is in the middle of nothing: it asks for no safepoint, waits for nothing, and nothing is unfinished.
pub record IsFree (k : ThreadView) : Type 0 where
  pub runs : k.running ≡ true
  pub asks : k.requesting ≡ false
  pub waits : k.wait ≡ 0
  pub left : k.unfinished ≡ None
  pub checks : k.checking ≡ false

-- Of the steps d of a call of this task, which began on pass o, the steps x are left, and the pass is p. What those take of their thread's knowledge
-- is still as it was.
pub record IsBegun {A : Type 0} (h : HeapSeen) (t : HeapCall) (o : PassSeen) (d : StepTree A) (p : PassSeen) (x : StepTree A) : Type 0 where
  pub left : AreLeft h t o d p x
  pub limit : p.limit ≡ o.limit
  pub local : local_of p.known ≡ local_of o.known
  pub kept : p.known.kept ≡ o.known.kept

-- THE ENTER. Its context, and what it is about.
abbrev pub entering : ℕ → ℕ → CallContext
entering o now = call_context (task.Enter o now) op.Enter o

abbrev pub entered : ℕ → ℕ → Revocation
entered o now = record { object = o; rebias = true; now = now }

-- What is left of it once the mark was found, which has no bias pattern,
abbrev pub marked_enter : Shape → Start → ℕ → ℕ → ℕ → StepTree (Progress Path)
marked_enter s k o now mark = enter_at (read_mark mark) s (entering o now) k o mark

-- once the mark was, which has it, and the prototype of the class,
abbrev pub prototype_enter : Shape → Start → ℕ → ℕ → ℕ → ℕ → StepTree (Progress Path)
prototype_enter s k o now mark prototype = do
  tried ← bias_enter_by (read_mark prototype) (entering o now) k.local o mark prototype
  enter_tried tried s (entering o now) k (entered o now)

-- and once the exchange of the owner word of monitor m found that.
abbrev pub owner_enter : Start → ℕ → ℕ → ℕ → ℕ → StepTree (Progress Path)
owner_enter k o now m found = monitor_enter_at (read_owner found) (entering o now) k.local o m found

-- THE ANSWER says what was done of an enter's steps, and what is left.
abbrev pub HasEntered : HeapSeen → PassSeen → PassSeen → ℕ → ℕ → QuickEnter → Type 0
HasEntered h p q o now enters.Not = q ≡ p
HasEntered h p q o now (enters.Done path) = HasMadeSteps h (enter_steps h.heap.shape (start_now h p) o now) p q (Ok (progress.Done path))
HasEntered h p q o now (enters.Raced mark found) =
    HasMadeSteps h (enter_steps h.heap.shape (start_now h p) o now) p q (Ok (progress.Pending (why.Raced mark found)))
HasEntered h p q o now (enters.Unbiased mark) =
    IsBegun h (task.Enter o now) p (enter_steps h.heap.shape (start_now h p) o now) q (marked_enter h.heap.shape (start_now h p) o now mark >>= tree.answer)
HasEntered h p q o now (enters.Biased mark prototype) =
    IsBegun h (task.Enter o now) p (enter_steps h.heap.shape (start_now h p) o now) q
    (prototype_enter h.heap.shape (start_now h p) o now mark prototype >>= tree.answer)
HasEntered h p q o now (enters.Taken m found) =
    IsBegun h (task.Enter o now) p (enter_steps h.heap.shape (start_now h p) o now) q (owner_enter (start_now h p) o now m found >>= tree.answer)

-- Where it is done, the thread is in the middle of nothing again.
abbrev pub EntersFree : ThreadView → QuickEnter → Type 0
EntersFree k (enters.Done path) = IsFree k
EntersFree k _ = Unit {0}

-- THE EXIT. What is left of it once the owner word of monitor m was found.
abbrev pub leaving : ℕ → CallContext
leaving o = call_context (task.Exit o) op.Exit o

abbrev pub owner_exit : Start → ℕ → ℕ → ℕ → StepTree (Progress (Unit {0}))
owner_exit k o m owner = do
  _ ← owned_exit (read_owner owner) (leaving o) k.local o m
  done_with tt

abbrev pub HasLeft : HeapSeen → PassSeen → PassSeen → ℕ → QuickExit → Type 0
HasLeft h p q o exits.Not = q ≡ p
HasLeft h p q o exits.Left = HasMadeSteps h (exit_steps (start_now h p) o) p q (Ok (progress.Done tt))
HasLeft h p q o exits.Inflating = HasMadeSteps h (exit_steps (start_now h p) o) p q (Ok (progress.Pending why.Inflating))
HasLeft h p q o (exits.Raced mark found) = HasMadeSteps h (exit_steps (start_now h p) o) p q (Ok (progress.Pending (why.Raced mark found)))
HasLeft h p q o (exits.Owned m owner place) =
    (place ≡ top_place o p.known.holds)
    × IsBegun h (task.Exit o) p (exit_steps (start_now h p) o) q (owner_exit (start_now h p) o m owner >>= tree.answer)

abbrev pub LeavesFree : ThreadView → QuickExit → Type 0
LeavesFree k exits.Left = IsFree k
LeavesFree k _ = Unit {0}
