-- Amid a call, between two of its steps: the seat has what they made of its thread's knowledge, and the mirror is written after the last.
use Rattle.std.specs.Prelude.{◌≡◌, ℕ, ◌+◌, ◌<◌, Bool, true, false, length, Option, Some, None, Result, Ok}
use Rattle.mark_word.specs.Mark.{read_mark}
use Rattle.mark_word.specs.Owner.{read_owner}
use Rattle.plain_monitor.specs.Limits.{most_holds}
use Rattle.plain_monitor.specs.declared.entry.Entry.{Entry}
use Rattle.plain_monitor.specs.declared.entry.Path.{Path}
use Rattle.plain_monitor.specs.declared.entry.Path.TheVariants.{MonitorFirst, StackFirst}
use Rattle.core_world.specs.declared.answer.IllegalMonitorState.{IllegalMonitorState}
use Rattle.core_world.specs.declared.answer.Progress.{Progress}
use Rattle.core_world.specs.declared.answer.PendingCause.TheVariants as why
use Rattle.core_world.specs.declared.answer.Progress.TheVariants.{Done, Pending}
use Rattle.core_world.specs.declared.answer.TooDeep.{TooDeep}
use Rattle.core_world.specs.declared.heap_call.HeapCall.{HeapCall}
use Rattle.core_world.specs.declared.act.Act.{Act}
use Rattle.core_world.specs.declared.plan.LogEffect.TheVariants.{Log}
use Rattle.core_world.specs.declared.word_id.WordId.{WordId}
use Rattle.core_world.specs.declared.word_id.WordId.TheVariants.{Mark, Prototype}
use Rattle.core_world.specs.Steps.{draws_after, holds_after, published_after, wait_after}
use Rattle.core_world.specs.Locks.{hold_count}
use Rattle.core_world.specs.Threads.Stages.{Revocation}
use Rattle.core_world.specs.declared.stage.Stage.{Stage}
use Rattle.core_world.specs.Threads.ThreadView.{ThreadView, Local, Start, local_of}
use Rattle.core_world.specs.Trees.LockSteps.{clear_plan, displace_plan, hold_plan, leave_plan, log_enter_plan, stack_exit_at, stack_exit_by, stack_exit_steps}
use Rattle.core_world.specs.Trees.LockSteps.{stack_first_steps}
use Rattle.core_world.specs.Trees.MonitorSteps.{monitor_again_steps, monitor_enter_at, monitor_enter_steps, monitor_exit_steps, release_steps}
use Rattle.core_world.specs.Trees.BiasSteps.{bias_enter_by}
use Rattle.core_world.specs.Trees.Operations.{answer, enter_at, enter_tried, exit_at}
use Rattle.core_world.specs.Trees.Plans.{CallContext, free_place, load, top_place}
use Rattle.core_world.specs.Trees.StepTree.{StepTree, done, unreachable, ask, ◌>>=◌}
use Rattle.core_world.specs.Words.Acts.{hits, word_after}
use Rattle.core_world.specs.Words.Forms.{hold_word}
use Rattle.core_world.specs.Words.Shape.{Shape, class_in_shape}
use Rattle.core_law.specs.Logic.{Heap}
use Rattle.heap_table.specs.Cells.{cells_shown}
use Rattle.heap_table.specs.ExitParts.{lowered_exit, owned_exit}
use Rattle.heap_table.specs.Kept.{Mirrors, limit_by}
use Rattle.heap_table.specs.Layout.{place_of}
use Rattle.heap_table.specs.Ruled.{heap_in}
use Rattle.heap_table.specs.declared.setting.Setting.{Setting}
use Rattle.heap_table.specs.Resting.{start_now}
use Rattle.heap_table.specs.Seen.{HeapSeen, PassSeen}
use Rattle.heap_table.specs.StepsLeft.{AreLeft}
use Rattle.heap_table.specs.declared.mirror.Mirror.{Mirror}
use Rattle.heap_table.specs.inner.Kept.{made_after, stand_after}
use Rattle.heap_table.specs.inner.NewestHold.{IsLastOf}
use Rattle.heap_table.specs.declared.quick.QuickEnter.{QuickEnter}
use Rattle.heap_table.specs.declared.quick.QuickEnter.TheVariants as enters
use Rattle.heap_table.specs.declared.quick.QuickExit.{QuickExit}
use Rattle.heap_table.specs.declared.quick.QuickExit.TheVariants as exits

-- Amid a call of task t that began on pass o, whose steps d were due: its thread knows k, the steps x are left, and this mirror would show what it
-- knows.
pub record Late {A : Type 0} (h : HeapSeen) (t : HeapCall) (o : PassSeen) (d : StepTree A) (k : ThreadView) (x : StepTree A) (m : Mirror) : Type 0 where
  pub left : AreLeft h t o d (record o { known = k }) x
  pub home : m.home ≡ o.home
  pub mirrors : Mirrors m k

-- some call of this task, on this heap
pub record IsAmid {A : Type 0} (b : Heap) (t : HeapCall) (k : ThreadView) (x : StepTree A) (m : Mirror) : Type 0 where
  pub heap : HeapSeen
  pub begun : PassSeen
  pub due : StepTree A
  pub its : b ≡ heap.heap
  pub late : Late heap t begun due k x m

-- Whatever call of this task was there, with the steps x left, is here, with the steps y left.
abbrev pub Leads : {A : Type 0} → Heap → HeapCall → ThreadView → StepTree A → Mirror → ThreadView → StepTree A → Mirror → Type 0
Leads {A} b t k x m j y n = (h : HeapSeen) (o : PassSeen) (d : StepTree A) → b ≡ h.heap → Late h t o d k x m → Late h t o d j y n

-- The same of steps that turn on what the call took at its beginning, which its thread still knows.
pub record IsAmidSince {A : Type 0} (b : Heap) (t : HeapCall) (k : ThreadView) (x : Start → StepTree A) (m : Mirror) : Type 0 where
  pub heap : HeapSeen
  pub begun : PassSeen
  pub due : StepTree A
  pub its : b ≡ heap.heap
  pub local : local_of k ≡ local_of begun.known
  pub late : Late heap t begun due k (x (start_now heap begun)) m

abbrev pub LeadsSince : {A : Type 0} → Heap → HeapCall → ThreadView → (Start → StepTree A) → Mirror → ThreadView → (Start → StepTree A) → Mirror → Type 0
LeadsSince {A} b t k x m j y n = (h : HeapSeen) (o : PassSeen) (d : StepTree A) → b ≡ h.heap → local_of k ≡ local_of o.known
    → Late h t o d k (x (start_now h o)) m → Late h t o d j (y (start_now h o)) n

-- the mirror, but for what is unfinished amid the call, which it doesn't say yet
abbrev pub lagging : CallContext → Mirror → Mirror
lagging e m = record m { unfinished = e.unfinished; checking = e.check }

-- THE SAME AS A WAY of the call has it, which only reads the mirror: the steps x are left,
abbrev pub Awaits : {A : Type 0} → Setting → CallContext → Mirror → ThreadView → StepTree A → Type 0
Awaits g e m k x = IsAmid (heap_in g) e.task k x (lagging e m)

abbrev pub AwaitsSince : {A : Type 0} → Setting → CallContext → Mirror → ThreadView → (Start → StepTree A) → Type 0
AwaitsSince g e m k x = IsAmidSince (heap_in g) e.task k x (lagging e m)

-- and the way leads on to where y are.
abbrev pub Goes : {A : Type 0} → Setting → CallContext → Mirror → ThreadView → StepTree A → ThreadView → StepTree A → Type 0
Goes g e m k x j y = Leads (heap_in g) e.task k x (lagging e m) j y (lagging e m)

abbrev pub GoesSince : {A : Type 0} → Setting → CallContext → Mirror → ThreadView → (Start → StepTree A) → ThreadView → (Start → StepTree A) → Type 0
GoesSince g e m k x j y = LeadsSince (heap_in g) e.task k x (lagging e m) j y (lagging e m)

-- a thread that knew k knows j, which is the same of what a call takes at its beginning, and another step may change
pub record IsStartOf (k j : ThreadView) : Type 0 where
  pub local : local_of j ≡ local_of k
  pub kept : j.kept ≡ k.kept

-- the steps of an enter, and of an exit
abbrev pub EnterTree : Type 0
EnterTree = StepTree (Result (Progress Path) TooDeep)

abbrev pub ExitTree : Type 0
ExitTree = StepTree (Result (Progress (Unit {0})) IllegalMonitorState)

-- the end of an enter: where the thread doesn't enter by its waiting word, the hold is stored and Enter is logged
abbrev pub taken : Path → EnterTree
taken path = done (Ok (Done path))

abbrev pub hold_end : CallContext → Local → ℕ → Path → EnterTree
hold_end e k o path = do
  _ ← ask (hold_plan e k.thread o (hold_count o k.holds + 1) (free_place k.holds) path)
  _ ← ask (log_enter_plan e o path)
  taken path

-- before it the place gets its displaced word
abbrev pub recorded_end : CallContext → Stage → Local → ℕ → ℕ → Path → EnterTree
recorded_end e stage k o word path = do
  _ ← ask (displace_plan e stage k.thread (free_place k.holds) word)
  hold_end e k o path

-- THE WAYS OF AN ENTER, by the mark that was found: it is neutral, or names monitor m, which the thread may own.
abbrev pub first_enter : CallContext → Local → ℕ → ℕ → EnterTree
first_enter e k o mark = stack_first_steps e k o mark >>= answer

abbrev pub monitor_enter : CallContext → Local → ℕ → ℕ → EnterTree
monitor_enter e k o m = monitor_enter_steps e k o m >>= answer

abbrev pub again_enter : CallContext → Local → ℕ → ℕ → EnterTree
again_enter e k o m = monitor_again_steps e k o m >>= answer

abbrev pub unbiased_enter : Shape → CallContext → Start → ℕ → ℕ → EnterTree
unbiased_enter s e k o mark = enter_at (read_mark mark) s e k o mark >>= answer

-- The mark could be exchanged, and the hold is left to take; or another mark was found.
abbrev pub record_left : CallContext → Local → ℕ → ℕ → Option ℕ → EnterTree
record_left e k o mark None = hold_end e k o StackFirst
record_left e k o mark (Some found) = done (Ok (Pending (why.Raced mark found)))

-- the exchange of the owner word of monitor m found that it is this
abbrev pub owner_entered : CallContext → Local → ℕ → ℕ → ℕ → EnterTree
owner_entered e k o m found = monitor_enter_at (read_owner found) e k o m found >>= answer

-- It was free, and the hold is left to take, or it was not.
abbrev pub monitor_left : CallContext → Local → ℕ → ℕ → Option ℕ → EnterTree
monitor_left e k o m None = hold_end e k o MonitorFirst
monitor_left e k o m (Some found) = owner_entered e k o m found

abbrev pub prototype_left : Shape → CallContext → Start → Revocation → ℕ → ℕ → EnterTree
prototype_left s e k b mark prototype = do
  tried ← bias_enter_by (read_mark prototype) e k.local b.object mark prototype
  enter_tried tried s e k b >>= answer

-- The mark has the bias pattern: the prototype of its class says whether it is the thread's own.
abbrev pub biased_left : Shape → CallContext → Start → Revocation → ℕ → EnterTree
biased_left s e k b mark = do
  prototype ← ask (load e (Prototype (class_in_shape s b.object)))
  prototype_left s e k b mark prototype

-- Whether the mark has it was found.
abbrev pub mark_left : Bool → Shape → CallContext → Start → Revocation → ℕ → EnterTree
mark_left true s e k b mark = biased_left s e k b mark
mark_left false s e k b mark = unbiased_enter s e k b.object mark

-- What is left of an enter by its answer.
abbrev pub enter_left : Shape → CallContext → Start → Revocation → QuickEnter → EnterTree
enter_left s e k b enters.Not = unreachable
enter_left s e k b (enters.Done path) = taken path
enter_left s e k b (enters.Raced mark found) = done (Ok (Pending (why.Raced mark found)))
enter_left s e k b (enters.Unbiased mark) = unbiased_enter s e k b.object mark
enter_left s e k b (enters.Biased mark prototype) = prototype_left s e k b mark prototype
enter_left s e k b (enters.Taken m found) = owner_entered e k.local b.object m found

-- What is left before its hold is taken, where it has the lock.
abbrev pub seized_left : Shape → CallContext → Start → Revocation → QuickEnter → EnterTree
seized_left s e k b (enters.Done path) = hold_end e k.local b.object path
seized_left s e k b r = enter_left s e k b r

-- where it isn't over, the call goes on with what it took of its thread's knowledge at its beginning
abbrev pub KeepsStart : QuickEnter → ThreadView → ThreadView → Type 0
KeepsStart (enters.Done path) k j = Unit {0}
KeepsStart _ k j = IsStartOf k j

-- Between two calls the mirror says that nothing is unfinished, and so it stays, where no more than the call's own steps lag.
pub record IsIdle (e : CallContext) (m : Mirror) : Type 0 where
  pub left : m.unfinished ≡ None
  pub check : m.checking ≡ e.check

abbrev pub EntersIdle : QuickEnter → CallContext → Mirror → Type 0
EntersIdle (enters.Done path) e m = IsIdle e m
EntersIdle _ e m = Unit {0}

abbrev pub LeavesIdle : QuickExit → CallContext → Mirror → Type 0
LeavesIdle exits.Left e m = IsIdle e m
LeavesIdle _ e m = Unit {0}

-- The thread may make an object its own: it enters none by its waiting word, and the lowest free place for a hold is after those in use.
pub record MaySeize (m : Mirror) : Type 0 where
  pub waits : m.wait ≡ 0
  pub place : free_place m.holds.words ≡ m.holds.used
  pub few : m.holds.used < most_holds

-- It may take one more hold of this object, too, whose words begin at this place, by this hold word: the log has room.
pub record MayHold (s : Shape) (e : CallContext) (m : Mirror) (o w n : ℕ) : Type 0 where
  pub seizes : MaySeize m
  pub at : n ≡ place_of s (Mark o)
  pub room : m.keeps ≡ true → length m.log.items < m.room
  pub word : w ≡ hold_word o (hold_count o m.holds.words + 1)
  pub low : n < 1000000
  pub idle : IsIdle e m

-- THE END OF AN EXIT: the hold word is cleared, which logs Exit,
abbrev pub exit_over : ExitTree
exit_over = done (Ok (Done tt))

abbrev pub leave_end : CallContext → Local → ℕ → ExitTree
leave_end e k o = do
  _ ← ask (leave_plan e k.thread o (top_place o k.holds))
  exit_over

-- or was logged before.
abbrev pub clear_end : CallContext → Local → ℕ → ExitTree
clear_end e k o = do
  _ ← ask (clear_plan e k.thread (top_place o k.holds))
  exit_over

-- The record's displaced word is a header, and the mark names a record, or both are still to be found.
abbrev pub record_exit : CallContext → Local → ℕ → ℕ → ℕ → ExitTree
record_exit e k o header mark = do
  out ← stack_exit_by e k o header mark
  exit_at out e k o >>= answer

abbrev pub marked_exit : CallContext → Local → ℕ → ℕ → ℕ → ExitTree
marked_exit e k o header mark = do
  out ← stack_exit_at (read_mark mark) e k o header mark
  exit_at out e k o >>= answer

abbrev pub unbiased_exit : CallContext → Local → ℕ → ExitTree
unbiased_exit e k o = do
  out ← stack_exit_steps e k o
  exit_at out e k o >>= answer

-- Whether the mark has the bias pattern was found.
abbrev pub exit_found : Bool → CallContext → Local → ℕ → ExitTree
exit_found true e k o = leave_end e k o
exit_found false e k o = unbiased_exit e k o

-- The mark names monitor m, whose owner word is to be found, or was.
abbrev pub monitor_exit : CallContext → Local → ℕ → ℕ → ExitTree
monitor_exit e k o m = do
  _ ← monitor_exit_steps e k o m
  exit_over

abbrev pub owner_left : CallContext → Local → ℕ → ℕ → ℕ → ExitTree
owner_left e k o m owner = do
  _ ← owned_exit (read_owner owner) e k o m
  exit_over

-- The thread owns it, with so many recursions.
abbrev pub recursions_exit : CallContext → Local → ℕ → ℕ → ℕ → ExitTree
recursions_exit e k o m recursions = do
  _ ← lowered_exit e k o m recursions
  exit_over

-- It owns it, with none.
abbrev pub release_exit : CallContext → Local → ℕ → ℕ → ExitTree
release_exit e k o m = do
  _ ← release_steps e k o m
  exit_over

-- What is left of an exit by its answer.
abbrev pub exit_left : CallContext → Local → ℕ → QuickExit → ExitTree
exit_left e k o exits.Not = unreachable
exit_left e k o exits.Left = exit_over
exit_left e k o exits.Inflating = done (Ok (Pending why.Inflating))
exit_left e k o (exits.Raced mark found) = done (Ok (Pending (why.Raced mark found)))
exit_left e k o (exits.Owned m owner place) = owner_left e k o m owner

-- where it isn't over, the place is that of the newest hold, and the call goes on with what it took of its thread's knowledge at its beginning
abbrev pub KeepsExit : ℕ → QuickExit → ThreadView → ThreadView → Type 0
KeepsExit o (exits.Owned m owner place) k j = (place ≡ top_place o k.holds) × IsStartOf k j
KeepsExit o _ k j = Unit {0}

-- The thread may clear the hold word at this place, of its newest hold of the object. The test says whether that is known to be the last in use.
pub record MayClear (e : CallContext) (m : Mirror) (o p : ℕ) (last : Bool) : Type 0 where
  pub place : p ≡ top_place o m.holds.words
  pub ends : last ≡ true → IsLastOf m.holds.stacked m.holds.used p
  pub idle : IsIdle e m

-- So it may leave the hold: the log has room.
pub record MayLeave (e : CallContext) (m : Mirror) (o p : ℕ) (last : Bool) : Type 0 where
  pub clears : MayClear e m o p last
  pub room : m.keeps ≡ true → length m.log.items < m.room

-- what stays of a pass, whatever its thread comes to know
pub record IsSameFrame (m n : Mirror) : Type 0 where
  pub room : n.room ≡ m.room
  pub home : n.home ≡ m.home
  pub limit : limit_by n.keeps n.given n.room ≡ limit_by m.keeps m.given m.room
  pub classes : n.classes ≡ m.classes
  pub first : n.first ≡ m.first
  pub threads : n.shots.threads ≡ m.shots.threads
  pub objects : n.shots.objects ≡ m.shots.objects
  pub cut : n.shots.draft.cut.items ≡ m.shots.draft.cut.items
  pub cells : cells_shown n.shots.draft.cells.items ≡ cells_shown m.shots.draft.cells.items
  pub stand : n.stand ≡ m.stand
  pub wait : n.wait ≡ m.wait

-- a step that hits and logs this entry, of which, as of its word, a mirror shows nothing but the entry
pub record IsAside (entry : Entry) (at : WordId) (act : Act) (found : ℕ) (m : Mirror) : Type 0 where
  pub hit : hits act found ≡ true
  pub stand : stand_after at act (word_after act found) m.thread m.stand ≡ m.stand
  pub holds : (k : ThreadView) → holds_after at act k ≡ k.holds
  pub wait : (k : ThreadView) → wait_after at act k ≡ k.wait
  pub published : (k : ThreadView) → published_after at act k ≡ k.published
  pub draws : (n : ℕ) → draws_after (Log entry) n ≡ n
  pub made : (n : ℕ) → made_after (Log entry) n ≡ n
