-- Why a turn of a thread that is left alone is blocked.
use Rattle.std.specs.Prelude.{◌≡◌, ℕ, Bool, true, false, List, Option, Some, None}
use Rattle.mark_word.specs.declared.owner.OwnerForm.{OwnerForm}
use Rattle.mark_word.specs.declared.owner.OwnerForm.TheVariants.{ByThread, ByRecord}
use Rattle.mark_word.specs.Owner.{read_owner}
use Rattle.plain_monitor.specs.History.{objects_after}
use Rattle.plain_monitor.specs.Objects.{PlainObject}
use Rattle.plain_monitor.specs.declared.entry.Path.{Path}
use Rattle.core_world.specs.declared.answer.Progress.TheVariants.{Pending}
use Rattle.core_world.specs.declared.answer.PendingCause.{PendingCause}
use Rattle.core_world.specs.declared.answer.PendingCause.TheVariants.{Owned, Halted}
use Rattle.core_world.specs.declared.word_id.WordId.TheVariants.{Safepoint, Waiting}
use Rattle.core_world.specs.declared.heap_call.HeapCall.{HeapCall}
use Rattle.core_world.specs.declared.heap_call.HeapCall.TheVariants as task
use Rattle.core_world.specs.Locks.{monitor_of}
use Rattle.core_world.specs.Words.Forms.{waits_on, is_halted}
use Rattle.core_world.specs.World.{World, logs}
use Rattle.heap_table.specs.Seen.{HeapSeen}
use Rattle.thread_calls.specs.Advances.{PendedIn}
use Rattle.thread_interp.specs.Moves.{LastCall}
use Rattle.thread_interp.specs.Runners.{RunnerSeen}
use Rattle.solo_progress.specs.Answers.{is_other, is_told, PendsWhere, WaitsWhere, LetsGo}
use Rattle.solo_progress.specs.Moves.{Moves}

-- Why a wait is pending: one that begins has let go, and is to be notified; and one that goes on wasn't notified, or another thread owns the object.
abbrev pub WaitBars : Bool → Bool → Bool → PendingCause → Type 0
WaitBars false told owned why = LetsGo {A = Unit {0}} (Pending why)
WaitBars true told owned why = WaitsWhere {A = Unit {0}} told owned (Pending why)

-- the thread that an owner word names, by itself or by a lock record
abbrev pub named_by : Option OwnerForm → Option ℕ
named_by (Some (ByThread thread)) = Some thread
named_by (Some (ByRecord thread place)) = Some thread
named_by _ = None

-- where it is pending for an owner, the owner word that it found names this one
abbrev pub NamesOwner : Option ℕ → PendingCause → Type 0
NamesOwner owner (Owned word) = named_by (read_owner word) ≡ owner
NamesOwner owner why = Unit {0}

-- Thread t's call in world w, with these plain objects, is pending for this: an enter for the other thread that owns its object, a wait for its notify
-- or for that owner, and a resume for the halt. No other call is pending, and none for anything else.
abbrev pub Bars : World → List PlainObject → ℕ → HeapCall → PendingCause → Type 0
Bars w objects t (task.Enter o now) why =
    PendsWhere {A = Path} (is_other (monitor_of objects o).owner t) (Pending why)
    × NamesOwner (monitor_of objects o).owner why
Bars w objects t (task.Wait o now) why =
    WaitBars (waits_on (w.known t).wait o) (is_told (w.words (Waiting t))) (is_other (monitor_of objects o).owner t) why
    × NamesOwner (monitor_of objects o).owner why
Bars w objects t task.Resume why = (why ≡ Halted) × (is_halted (w.words Safepoint) ≡ true)
Bars w objects t task why = ⊥

-- In the turn that thread t began in world w, and that made the runner q of r, the last call was pending for this, as the turn's contract says it
-- (`LastCall`). The steps before that call led the thread alone from w to a world in which it knew what it knew as the call began; and there just that
-- call is barred.
pub record IsBarred (h : HeapSeen) (w : World) (t : ℕ) (why : PendingCause) (r q : RunnerSeen) : Type 0 where
  pub last : LastCall (PendedIn h why) h r.pass q.pass
  pub world : World
  pub moves : Moves w t last.called.earlier world
  pub knew : world.known t ≡ last.called.before.known
  -- the plain objects after the logs there
  pub objects : List PlainObject
  pub history : objects_after world.shape.objects (logs world) ≡ Some objects
  pub bars : Bars world objects t last.called.call.task why
