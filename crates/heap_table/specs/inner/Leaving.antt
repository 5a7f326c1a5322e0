-- How an exit ends whose ways came so far: the hold word is to be cleared, and the mirror lacks that, and may lack the entry, which a step has logged.
use Rattle.std.specs.Prelude.{◌≡◌, ℕ, Bool, true, false, Option, Some, None, Ok}
use Rattle.plain_monitor.specs.declared.entry.Entry.TheVariants as entry
use Rattle.core_world.specs.declared.act.Act.TheVariants.{Load, Store}
use Rattle.core_world.specs.declared.answer.PendingCause.TheVariants as why
use Rattle.core_world.specs.declared.answer.Progress.TheVariants.{Pending}
use Rattle.core_world.specs.declared.plan.StepPlan.{StepPlan}
use Rattle.core_world.specs.declared.stage.Stage.TheVariants.{Settled}
use Rattle.core_world.specs.declared.word_id.WordId.{WordId}
use Rattle.core_world.specs.declared.word_id.WordId.TheVariants.{Stamp}
use Rattle.core_world.specs.Steps.{known_after, with_entry}
use Rattle.core_world.specs.Threads.ThreadView.{ThreadView, Local, local_of}
use Rattle.core_world.specs.Trees.Plans.{CallContext, logging_plan, quiet_plan, with_stage}
use Rattle.core_world.specs.Trees.StepTree.{done}
use Rattle.core_law.specs.Logic.{Heap}
use Rattle.heap_table.specs.Kept.{Mirrors}
use Rattle.heap_table.specs.Ruled.{heap_in}
use Rattle.heap_table.specs.Seen.{HeapSeen, PassSeen}
use Rattle.heap_table.specs.StepsLeft.{AreLeft}
use Rattle.heap_table.specs.declared.mirror.Mirror.{Mirror}
use Rattle.heap_table.specs.declared.quick.QuickExit.{QuickExit}
use Rattle.heap_table.specs.declared.quick.QuickExit.TheVariants as exits
use Rattle.heap_table.specs.declared.quick_exits.ExitPart.{ExitPart}
use Rattle.heap_table.specs.declared.quick_exits.ExitPart.TheVariants as parts
use Rattle.heap_table.specs.declared.setting.Setting.{Setting}
use Rattle.heap_table.specs.inner.Amid.{ExitTree, IsStartOf, Late, clear_end, exit_left, lagging, leave_end, owner_left}

-- the call once its exit was logged: nothing is unfinished any more
abbrev pub logged_call : CallContext → CallContext
logged_call e = record e { unfinished = None }

-- the step that clears the hold word at this place, of which Exit was logged, or which logs it
abbrev pub clear_by : Bool → CallContext → ℕ → WordId → StepPlan
clear_by true e o at = with_stage Settled (quiet_plan (logged_call e) at (Store 0))
clear_by false e o at = with_stage Settled (logging_plan (entry.Exit o) e at (Store 0))

-- WHAT IS LEFT of an exit of object o by how far it came, where the call took this at its beginning.
abbrev pub part_left : CallContext → Local → ℕ → ExitPart → ExitTree
part_left e k o parts.Held = leave_end e k o
part_left e k o parts.Logged = clear_end (logged_call e) k o
part_left e k o parts.Inflating = done (Ok (Pending why.Inflating))
part_left e k o (parts.Raced mark found) = done (Ok (Pending (why.Raced mark found)))
part_left e k o (parts.Owned m owner) = owner_left e k o m owner

-- A step has logged the exit of object o, after which its thread knows j. A mirror shows all but the entry: with it, as if a load had logged it, it would
-- show what the thread knows.
pub record IsUnnoted (g : Heap) (e : CallContext) (o : ℕ) (m : Mirror) (j : ThreadView) : Type 0 where
  pub before : ThreadView
  pub shown : Mirrors (lagging e m) before
  pub log : j.log ≡ with_entry (entry.Exit o) 0 before.log
  pub told : (n : ℕ) (noted : Mirror) → Mirrors noted (known_after g.shape g.start (logging_plan (entry.Exit o) e (Stamp o) Load) n before) → Mirrors noted j

-- WHAT THE MIRROR SHOWS then: all but what is unfinished amid the call, and the entry.
abbrev pub PartShown : Heap → CallContext → ℕ → ExitPart → Mirror → ThreadView → Type 0
PartShown g e o parts.Logged m j = IsUnnoted g e o m j
PartShown g e o _ m j = Mirrors (lagging e m) j

-- Amid an exit of object o that came so far, whose thread knows k, and took l at the beginning.
pub record LatePart (h : HeapSeen) (p : PassSeen) (d : ExitTree) (e : CallContext) (o : ℕ) (r : ExitPart) (l : Local) (m : Mirror) (k : ThreadView)
    : Type 0 where
  pub left : AreLeft h e.task p d (record p { known = k }) (part_left e l o r)
  pub home : m.home ≡ p.home
  pub own : k.thread ≡ m.thread
  pub thread : l.thread ≡ m.thread
  pub holds : l.holds ≡ m.holds.words
  pub shown : PartShown h.heap e o r m k

-- The ways lead there from where the steps x are left,
abbrev pub GoesToPart : Setting → CallContext → ℕ → Mirror → ThreadView → ExitTree → ThreadView → ExitPart → Type 0
GoesToPart g e o m k x j r =
    (h : HeapSeen) (p : PassSeen) (d : ExitTree) → heap_in g ≡ h.heap → Late h e.task p d k x (lagging e m) → LatePart h p d e o r (local_of k) m j

-- and where it isn't the thread's own monitor, the call goes on with what it took at its beginning.
abbrev pub KeepsPart : ExitPart → ThreadView → ThreadView → Type 0
KeepsPart (parts.Owned m owner) k j = IsStartOf k j
KeepsPart _ k j = Unit {0}

-- some exit that came so far
pub record IsAmidPart (g : Setting) (e : CallContext) (o : ℕ) (m : Mirror) (k : ThreadView) (r : ExitPart) : Type 0 where
  pub heap : HeapSeen
  pub begun : PassSeen
  pub due : ExitTree
  pub local : Local
  pub its : heap_in g ≡ heap.heap
  pub late : LatePart heap begun due e o r local m k

-- THE END leads from there to this answer.
abbrev pub PartLeads : Setting → CallContext → ℕ → Mirror → ThreadView → ExitPart → ThreadView → QuickExit → Mirror → Type 0
PartLeads g e o m k r j answer n =
    (h : HeapSeen) (p : PassSeen) (d : ExitTree) (l : Local) → heap_in g ≡ h.heap → LatePart h p d e o r l m k
    → Late h e.task p d j (exit_left e l o answer) n

-- Whether the hold word is left to clear, and then whether Exit was logged,
abbrev pub clears : ExitPart → Option Bool
clears parts.Held = Some false
clears parts.Logged = Some true
clears _ = None

abbrev pub ending_part : Bool → ExitPart
ending_part true = parts.Logged
ending_part false = parts.Held

-- and the answer, where the hold that was left was at this place.
abbrev pub left_by : ℕ → ExitPart → QuickExit
left_by place parts.Held = exits.Left
left_by place parts.Logged = exits.Left
left_by place parts.Inflating = exits.Inflating
left_by place (parts.Raced mark found) = exits.Raced mark found
left_by place (parts.Owned m owner) = exits.Owned m owner place
