-- What a thread makes of its pass by one call.
use Rattle.std.specs.Prelude.{◌≡◌, ℕ, ◌+◌, ◌<◌, ◌≤◌, ◌++◌, ◌∷◌, [], Bool, true, false, length, Option, None, is_some}
use Rattle.core_calls.specs.CallsSay.{is_full}
use Rattle.core_world.specs.declared.answer.Progress.{Progress}
use Rattle.core_world.specs.declared.answer.Progress.TheVariants.{Done, Pending}
use Rattle.core_world.specs.declared.answer.PendingCause.{PendingCause}
use Rattle.core_world.specs.declared.heap_call.HeapCall.TheVariants as task
use Rattle.core_world.specs.declared.heap_call.Unfinished.{Unfinished}
use Rattle.heap_table.specs.Resting.{Rests, MayOperate, start_now}
use Rattle.heap_table.specs.Seen.{HeapSeen, PassSeen}
use Rattle.lock_runtime.specs.Standing.{IsRunning, StandsAfterTurn}
use Rattle.plain_history.specs.HeldByLog.{held_by, nothing_held}
use Rattle.plain_history.specs.Known.{news}
use Rattle.plain_machine.specs.Asking.{is_call}
use Rattle.plain_machine.specs.declared.monitor_call.MonitorCall.{MonitorCall}
use Rattle.plain_machine.specs.declared.monitor_call.MonitorCall.TheVariants as call
use Rattle.plain_monitor.specs.declared.entry.Entry.{Entry}
use Rattle.plain_monitor.specs.Limits.{most_made}
use Rattle.thread_calls.specs.Advances.{DoneIn, PendedIn, MadeCall}
use Rattle.thread_calls.specs.Asked.{unfinished_of_call}
use Rattle.thread_frame.specs.Frames.{FrameSeen, before_call, frame_after_call}
use Rattle.thread_logs.specs.Followed.{HasValue}

-- WHEN IT MAY. The thread holds the object by its own log.
abbrev pub Holds : PassSeen → ℕ → Type 0
Holds p o = 1 ≤ held_by nothing_held p.known.log o

-- a call on the heap that may begin, at whatever moment, and isn't refused; a wait is not one of these, since it makes two entries. A thread that makes
-- an object has made fewer than it may, by its own log.
abbrev pub MayMake : HeapSeen → PassSeen → MonitorCall → Type 0
MayMake h p (call.Enter o) = ((now : ℕ) → MayOperate h p (task.Enter o now)) × (is_full (start_now h p) o ≡ false)
MayMake h p (call.Exit o) = MayOperate h p (task.Exit o) × Holds p o
MayMake h p (call.Wait o) = ⊥
MayMake h p (call.Notify o) = ((now : ℕ) → MayOperate h p (task.Notify o now)) × Holds p o
MayMake h p (call.NotifyAll o) = ((now : ℕ) → MayOperate h p (task.NotifyAll o now)) × Holds p o
MayMake h p (call.Get x o k) = MayOperate h p (task.Get o k) × Holds p o
MayMake h p (call.Put o k v) = MayOperate h p (task.Put o k v) × Holds p o
MayMake h p (call.Hash x o) = (now : ℕ) → MayOperate h p (task.Hash o now)
MayMake h p (call.New x c) = MayOperate h p (task.Create c) × (length (news p.known.log) < most_made)
MayMake h p (call.Print v) = MayOperate h p (task.Print v)
MayMake h p (call.Dump n) = MayOperate h p task.Dump × (n ≡ length p.known.shots + 1) × (n ≤ 4)

-- a call that isn't one of those that nearly all instructions are, nor a wait
abbrev pub IsRare : MonitorCall → Type 0
IsRare (call.Enter o) = ⊥
IsRare (call.Exit o) = ⊥
IsRare (call.Wait o) = ⊥
IsRare (call.Get x o k) = ⊥
IsRare (call.Put o k v) = ⊥
IsRare c = Unit {0}

-- WHAT IT LEAVES. The pass was p, and is q: it rests again, on the same heap and with as much room.
pub record IsAfter (h : HeapSeen) (p q : PassSeen) : Type 0 where
  pub rests : Rests h q
  pub limit : q.limit ≡ p.limit
  pub thread : q.known.thread ≡ p.known.thread
  pub unchecked : q.known.checking ≡ false

-- it was done and logged this entry, nothing is unfinished, and the thread runs
pub record HasLogged (h : HeapSeen) (p q : PassSeen) (e : Entry) : Type 0 where
  pub is_after : IsAfter h p q
  pub stamp : ℕ
  pub log : q.known.log ≡ p.known.log ++ record { stamp = stamp; entry = e } ∷ []
  pub unfinished : q.known.unfinished ≡ None
  pub runs : IsRunning q.known
  pub call : MadeCall (DoneIn h) p q

-- it was pending for this, logged nothing, and left this unfinished
pub record HasLeft (h : HeapSeen) (p q : PassSeen) (u : Option Unfinished) (why : PendingCause) : Type 0 where
  pub is_after : IsAfter h p q
  pub log : q.known.log ≡ p.known.log
  pub unfinished : q.known.unfinished ≡ u
  pub stands : StandsAfterTurn {A = Bool} q.known (Pending why)
  pub call : MadeCall (PendedIn h why) p q

-- an entry that is the call, with a value that may stand beside so many objects
pub record IsEntryOf (objects : ℕ) (c : MonitorCall) (e : Entry) : Type 0 where
  pub is : is_call c e ≡ true
  pub value : HasValue objects e

-- the call was made, and tells a frame the same as this entry: whether a hash was drawn is in the log alone
pub record HasTold (h : HeapSeen) (p q : PassSeen) (c : MonitorCall) (e : Entry) : Type 0 where
  pub logged : Entry
  pub is : HasLogged h p q logged
  pub of : IsEntryOf (length h.heap.shape.objects) c logged
  pub same : (f : FrameSeen) → frame_after_call f c e ≡ frame_after_call f c logged

abbrev pub HasMade : HeapSeen → PassSeen → PassSeen → MonitorCall → Progress Entry → Type 0
HasMade h p q c (Done e) = HasTold h p q c e
HasMade h p q c (Pending why) = HasLeft h p q (unfinished_of_call c) why × (is_some (unfinished_of_call c) ≡ true)

-- the frame was f, and is g: after the call, by the entry that it made, or before it, where it is pending; and that is what it came to
abbrev pub IsAfterCall : FrameSeen → FrameSeen → MonitorCall → Progress Entry → Progress Bool → Type 0
IsAfterCall f g c (Done e) came = (g ≡ frame_after_call f c e) × (came ≡ Done true)
IsAfterCall f g c (Pending why) came = (g ≡ before_call f c) × (came ≡ Pending why)
