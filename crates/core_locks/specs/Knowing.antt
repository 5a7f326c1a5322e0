-- What the laws ask of a thread's knowledge, whatever the kind of step, and what a step that logs an entry gives.
use Rattle.std.specs.Prelude.{◌≡◌, ◌⊎◌, ℕ, ◌<◌, ◌≤◌, true, false, List, Option, Some, None, ◌+◌, length}
use Rattle.plain_monitor.specs.declared.entry.Entry.{Entry}
use Rattle.plain_monitor.specs.declared.entry.Entry.TheVariants as entry
use Rattle.plain_monitor.specs.Objects.{PlainObject, take_entry}
use Rattle.core_world.specs.declared.plan.StepPlan.{StepPlan}
use Rattle.core_world.specs.declared.word_id.WordId.{WordId}
use Rattle.core_world.specs.declared.word_id.WordId.TheVariants.{Mark, Owner, Prototype}
use Rattle.mark_word.specs.declared.mark.MarkForm.{MarkForm}
use Rattle.mark_word.specs.declared.mark.MarkForm.TheVariants.{Biased}
use Rattle.mark_word.specs.Mark.{read_mark}
use Rattle.mark_word.specs.Owner.{owner_of}
use Rattle.mark_word.specs.declared.owner.OwnerForm.TheVariants.{ByThread}
use Rattle.core_world.specs.declared.heap_call.Operation.TheVariants as op
use Rattle.core_world.specs.declared.heap_call.Unfinished.{Unfinished}
use Rattle.core_world.specs.Words.Shape.{Shape}
use Rattle.core_world.specs.Threads.AtRest.{SawClass}
use Rattle.core_world.specs.Shots.{dumps_from}
use Rattle.core_world.specs.Words.Forms.{epoch_in, is_biased, waits_on, says_notified, monitor_in}
use Rattle.core_world.specs.Threads.ThreadView.{ThreadView, last_seen}
use Rattle.core_world.specs.Locks.{has_epoch, hold_count}
use Rattle.core_world.specs.Trees.Plans.{CallContext}
use Rattle.core_world.specs.Steps.{world_after}
use Rattle.core_world.specs.Valid.{IsValid}
use Rattle.core_world.specs.World.{World}

-- The steps of a call leave unfinished what the thread has unfinished; where that is nothing, they may begin an operation.
abbrev pub GoesOn : ThreadView → CallContext → Type 0
GoesOn k e = (e.unfinished ≡ k.unfinished) ⊎ (k.unfinished ≡ None)

-- the operation that a step works for which logs this entry; none where the entry's one step is all there is to do
abbrev pub operation_of : Entry → Option Unfinished
operation_of (entry.Enter o path) = Some (record { op = op.Enter; object = o })
operation_of (entry.Exit o) = Some (record { op = op.Exit; object = o })
operation_of (entry.Wait o) = Some (record { op = op.Wait; object = o })
operation_of (entry.Resume o) = Some (record { op = op.Wait; object = o })
operation_of (entry.Notify o woken) = Some (record { op = op.Notify; object = o })
operation_of (entry.NotifyAll o woken) = Some (record { op = op.NotifyAll; object = o })
operation_of (entry.Hash o value drawn) = Some (record { op = op.Hash; object = o })
operation_of (entry.Dump number) = Some (record { op = op.Dump; object = 0 })
operation_of (entry.New o class) = Some (record { op = op.Create; object = o })
operation_of _ = None

-- What the thread has unfinished is nothing, or the operation of this entry.
abbrev pub WorksFor : ThreadView → Entry → Type 0
WorksFor k e = (k.unfinished ≡ None) ⊎ (k.unfinished ≡ operation_of e)

-- The thread's waiting word, as it last stored it, says neither that it waits nor that it was notified. So it is at every step of an operation
-- but those of a wait that has logged its Wait.
abbrev pub IsOut : ThreadView → Type 0
IsOut k = (o : ℕ) → (waits_on k.wait o ≡ false) × (says_notified k.wait o ≡ false)

-- it has a hold word for o
abbrev pub HasHold : ThreadView → ℕ → Type 0
HasHold k o = 1 ≤ hold_count o k.holds

-- in this call it has seen a mark of o that names the monitor m
abbrev pub SawInflated : ThreadView → ℕ → ℕ → Type 0
SawInflated k o m = (v : ℕ) × (last_seen (Mark o) k.seen ≡ Some v) × (monitor_in v ≡ Some m)

-- in this call it has seen, or stored, that it is itself the owner of m
abbrev pub SawOwn : ThreadView → ℕ → ℕ → Type 0
SawOwn k t m = last_seen (Owner m) k.seen ≡ Some (owner_of (ByThread t))

-- the mark is biased to thread t, in the epoch of its class
abbrev pub IsBiasTo : ℕ → Option MarkForm → Option ℕ → Type 0
IsBiasTo t (Some (Biased thread epoch age)) e = (thread ≡ t) × (has_epoch e epoch ≡ true)
IsBiasTo t _ e = ⊥

-- in this call it has seen, or stored, a mark of o that is validly biased to itself, by the prototype of its class that it saw
abbrev pub SawOwnBias : Shape → ThreadView → ℕ → Type 0
SawOwnBias s k o =
    (v p c : ℕ) × (last_seen (Mark o) k.seen ≡ Some v) × SawClass s k.seen o c × (last_seen (Prototype c) k.seen ≡ Some p)
    × IsBiasTo k.thread (read_mark v) (epoch_in p)

-- in this call it has seen, or stored, a mark of o with the bias pattern. Where it has the lock of o, that bias is valid and its own
abbrev pub SawBiased : ThreadView → ℕ → Type 0
SawBiased k o = (v : ℕ) × (last_seen (Mark o) k.seen ≡ Some v) × (is_biased v ≡ true)

-- a dump is that of the last shot that the thread keeps, which has its number, and which no entry of its log stands for yet
abbrev pub IsOfLastShot : ThreadView → Entry → Type 0
IsOfLastShot k (entry.Dump number) = (number ≡ length k.shots) × (length k.shots ≡ length (dumps_from 0 k.log) + 1)
IsOfLastShot k _ = Unit {0}

-- The entry is its own: of the operation that it has unfinished, if it has one, and a dump of its last shot.
pub record IsOwnEntry (k : ThreadView) (e : Entry) : Type 0 where
  pub operation : WorksFor k e
  pub shot : IsOfLastShot k e

-- The world after thread t's step is valid, and its plain objects are those that took the entry.
pub record Logs (w : World) (objects : List PlainObject) (t : ℕ) (p : StepPlan) (e : Entry) : Type 0 where
  pub now : List PlainObject
  pub taken : take_entry objects t e ≡ Some now
  pub valid : IsValid (world_after p t w) now

-- In each valid world in which thread t may, its step leads to a valid world with the same plain objects.
abbrev pub KeepsValid : (World → ℕ → Type 0) → (World → ℕ → StepPlan) → Type 0
KeepsValid may plan =
    (w : World) (objects : List PlainObject) (t : ℕ) → t < w.shape.threads → may w t → IsValid w objects
    → IsValid (world_after (plan w t) t w) objects

-- In each valid world in which thread t may, its step logs the entry that is made of the word that it finds; and logs this entry.
abbrev pub LogsFound : (World → ℕ → Type 0) → (World → ℕ → StepPlan) → (ℕ → Entry) → Type 0
LogsFound may plan entry =
    (w : World) (objects : List PlainObject) (t : ℕ) → t < w.shape.threads → may w t → IsValid w objects
    → Logs w objects t (plan w t) (entry (w.words (plan w t).at))

abbrev pub LogsValid : (World → ℕ → Type 0) → (World → ℕ → StepPlan) → Entry → Type 0
LogsValid may plan e = LogsFound may plan (λ n. e)

-- In each valid world in which thread t may, this word is the one that it expects.
abbrev pub FindsWord : (World → ℕ → Type 0) → WordId → (ℕ → ℕ) → Type 0
FindsWord may at word =
    (w : World) (objects : List PlainObject) (t : ℕ) → may w t → IsValid w objects → w.words at ≡ word t
