-- What calls that are left alone answer, by the words that they begin with.
use Rattle.std.specs.Prelude.{◌≡◌, ℕ, ◌==◌, ◌&&◌, not, cond, if◌then◌else◌, Bool, true, false, List, Option, Some, None, Result, Ok, Err}
use Rattle.mark_word.specs.declared.mark.MarkForm.{MarkForm}
use Rattle.mark_word.specs.declared.mark.MarkForm.TheVariants.{Biased, Neutral, Inflated}
use Rattle.mark_word.specs.declared.wait.WaitForm.{WaitForm}
use Rattle.mark_word.specs.declared.wait.WaitForm.TheVariants as wait
use Rattle.mark_word.specs.Mark.{read_mark}
use Rattle.mark_word.specs.Wait.{read_wait}
use Rattle.plain_monitor.specs.Objects.{PlainObject}
use Rattle.plain_monitor.specs.declared.entry.Path.{Path}
use Rattle.plain_monitor.specs.declared.entry.Path.TheVariants.{StackFirst, StackAgain}
use Rattle.core_world.specs.declared.answer.StackOut.{StackOut}
use Rattle.core_world.specs.declared.answer.StackOut.TheVariants.{Left, Monitor}
use Rattle.core_world.specs.declared.answer.TooMany.{TooMany}
use Rattle.core_world.specs.declared.answer.Progress.{Progress}
use Rattle.core_world.specs.declared.answer.Progress.TheVariants.{Done, Pending}
use Rattle.core_world.specs.declared.answer.Unguarded.{Unguarded}
use Rattle.core_world.specs.declared.answer.PendingCause.TheVariants.{Owned, NotNotified}
use Rattle.core_world.specs.declared.word_id.WordId.{WordId}
use Rattle.core_world.specs.declared.word_id.WordId.TheVariants.{Mark, Prototype, Owner, Displaced}
use Rattle.core_world.specs.Words.Forms.{epoch_in}
use Rattle.core_world.specs.Words.Shape.{Shape}
use Rattle.core_world.specs.Words.Names.{class_by}
use Rattle.core_world.specs.Locks.{has_epoch, lock_form, holder, hold_count, hash_at}
use Rattle.core_world.specs.RevocationRules.{holds_in}
use Rattle.core_world.specs.Threads.ThreadView.{Local, Start}
use Rattle.core_world.specs.Trees.CreateSteps.{next_made}
use Rattle.core_world.specs.Trees.Plans.{top_place}
use Rattle.core_calls.specs.CallsSay.{has_none, has_made_all}

-- WHO HAS A LOCK. A thread other than t.
abbrev pub is_other : Option ℕ → ℕ → Bool
is_other None t = false
is_other (Some u) t = not (u == t)

-- who has the lock of o by these words, where no object is being inflated
abbrev pub who_in : Shape → (WordId → ℕ) → ℕ → Option ℕ
who_in s f o =
    holder (lock_form (read_mark (f (Mark o))) (f (Prototype (class_by s f o))) (λ m. f (Owner m)) None)
    (λ u. hold_count o (holds_in f u))

-- by these words a thread other than t has it
abbrev pub is_anothers : Shape → (WordId → ℕ) → ℕ → ℕ → Bool
is_anothers s f o t = is_other (who_in s f o) t

-- the mark is validly biased to a thread other than t
abbrev pub is_others_form : Option MarkForm → ℕ → ℕ → Bool
is_others_form (Some (Biased thread epoch age)) prototype t = has_epoch (epoch_in prototype) epoch && not (thread == t)
is_others_form _ prototype t = false

abbrev pub is_others_bias : Shape → (WordId → ℕ) → ℕ → ℕ → Bool
is_others_bias s f o t = is_others_form (read_mark (f (Mark o))) (f (Prototype (class_by s f o))) t

-- the waiting word says Notified
abbrev pub is_told_form : Option WaitForm → Bool
is_told_form (Some (wait.Notified object)) = true
is_told_form _ = false

abbrev pub is_told : ℕ → Bool
is_told word = is_told_form (read_wait word)

-- TURNS. It isn't pending.
abbrev pub IsDone : {A : Type 0} → Progress A → Type 0
IsDone (Done a) = Unit {0}
IsDone (Pending why) = ⊥

-- it is pending, for whatever cause
abbrev pub is_pending : {A : Type 0} → Progress A → Bool
is_pending (Done a) = false
is_pending (Pending why) = true

-- pending exactly where the lock is another's, and then for that
abbrev pub PendsWhere : {A : Type 0} → Bool → Progress A → Type 0
PendsWhere owned (Done a) = owned ≡ false
PendsWhere owned (Pending (Owned word)) = owned ≡ true
PendsWhere owned (Pending _) = ⊥

-- pending for an owner, if at all
abbrev pub PendsForOwner : {A : Type 0} → Progress A → Type 0
PendsForOwner (Done a) = Unit {0}
PendsForOwner (Pending (Owned word)) = Unit {0}
PendsForOwner (Pending _) = ⊥

-- of a wait: done exactly where its thread was told and the lock isn't another's; else pending for the notify, or for the owner
abbrev pub WaitsWhere : {A : Type 0} → Bool → Bool → Progress A → Type 0
WaitsWhere told owned (Done a) = (told ≡ true) × (owned ≡ false)
WaitsWhere told owned (Pending (NotNotified word)) = told ≡ false
WaitsWhere told owned (Pending (Owned word)) = (told ≡ true) × (owned ≡ true)
WaitsWhere told owned (Pending _) = ⊥

-- pending for a notify
abbrev pub LetsGo : {A : Type 0} → Progress A → Type 0
LetsGo (Pending (NotNotified word)) = Unit {0}
LetsGo _ = ⊥

-- What an exit from a lock record by a thread that knows k answers, by these words: a recursive record is left, as is one that the mark names; and
-- where the mark names a monitor, the lock is to be left by that.
abbrev pub out_by : Option MarkForm → StackOut
out_by (Some (Inflated monitor)) = Monitor monitor
out_by _ = Left

abbrev pub out_due : Local → ℕ → (WordId → ℕ) → StackOut
out_due k o f = if f (Displaced k.thread (top_place o k.holds)) == 0 then Left else out_by (read_mark (f (Mark o)))

-- the path of an enter by a lock record that is given a mark of this form: neutral, or else one that names the thread's own record
abbrev pub path_by : Option MarkForm → Path
path_by (Some (Neutral hash age)) = StackFirst
path_by _ = StackAgain

-- RESULTS. A refusal exactly where it is to be refused, and else a progress of which P holds.
abbrev pub RefusedWhere : {A E : Type 0} → Bool → (Progress A → Type 0) → Result (Progress A) E → Type 0
RefusedWhere refused P (Ok progress) = (refused ≡ false) × P progress
RefusedWhere refused P (Err e) = refused ≡ true

-- of a get or a put by a thread that knows k: refused without a hold on o, and else this answer
abbrev pub guarded : {A : Type 0} → Start → ℕ → A → Result A Unguarded
guarded {A} k o answer = cond {A = Result A Unguarded} (has_none k o) (Err record {}) (Ok answer)

-- of a create by a thread that knows k: refused where it has made as many objects as a thread may, and else its next object
abbrev pub created : Shape → Start → Result ℕ TooMany
created s k = cond {A = Result ℕ TooMany} (has_made_all k) (Err record {}) (Ok (next_made s k.local))

-- what a hash of o is to answer a thread that knows k: the hash of the plain object, where it has one, and else the thread's next draw
abbrev pub hash_due : List PlainObject → ℕ → Start → ℕ
hash_due objects o k = if hash_at objects o == 0 then k.draw else hash_at objects o
