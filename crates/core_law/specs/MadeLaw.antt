-- The law of what is there: which objects are there the logs say, and what the words of an object say then, and while it isn't there.
use Rattle.std.specs.Prelude.{◌≡◌, ◌⊎◌, ℕ, ◌+◌, ◌≤◌, Bool, true, false, List, length, slice_get, Option, Some, None}
use Rattle.mark_word.specs.Mark.{mark_of}
use Rattle.mark_word.specs.declared.mark.MarkForm.TheVariants.{Neutral}
use Rattle.plain_monitor.specs.declared.entry.Logged.{Logged}
use Rattle.plain_monitor.specs.History.{objects_after}
use Rattle.plain_monitor.specs.Made.{Numbering, first_made, class_if_there, is_there, may_create, made_after, IsMadeInTime}
use Rattle.plain_monitor.specs.Objects.{PlainObject, new_objects}
use Rattle.plain_history.specs.Cuts.{cut_logs}
use Rattle.plain_history.specs.Known.{IsKnown, SlotsAreKnown}
use Rattle.core_world.specs.declared.word_id.WordId.TheVariants.{Mark, Class, Stamp}
use Rattle.core_world.specs.declared.heap_call.Unfinished.{Unfinished}
use Rattle.core_world.specs.Locks.{Open, lock, marks, hold_count}
use Rattle.core_world.specs.RevocationRules.{words_from}
use Rattle.core_world.specs.Threads.ThreadView.{DumpShot, StepMade, last_seen}
use Rattle.core_world.specs.Threads.References.{numbering, is_told, knows_by_log, is_on, making_in}
use Rattle.core_world.specs.World.{World, logs}

-- BY THE LOGS
-- the object is there
abbrev pub there_after : Numbering → Option (List (List ℕ)) → ℕ → Bool
there_after n None o = false
there_after n (Some made) o = is_there n made o

abbrev pub is_there_by : Numbering → List (List Logged) → ℕ → Bool
is_there_by n logs o = there_after n (made_after n logs) o

-- WHILE AN OBJECT ISN'T THERE its mark is neutral, without a hash, and no thread has a hold word for it. Its class word is 0, but where a thread has
-- stored that word which is in the middle of making it: then it comes to be there with that thread's next store.
pub record IsAbsent (under_way : ℕ → Option Unfinished) (o class mark : ℕ) (holds : ℕ → List ℕ) : Type 0 where
  pub classless : (class ≡ 0) ⊎ ((t : ℕ) × (making_in (under_way t) ≡ Some o))
  pub neutral : mark ≡ mark_of (Neutral 0 0)
  pub unheld : (t : ℕ) → hold_count o (holds t) ≡ 0

-- the thread may make this object next, of the class that its class word says
pub record IsMaking (n : Numbering) (made : List (List ℕ)) (class : ℕ → ℕ) (t o : ℕ) : Type 0 where
  pub class_made : ℕ
  pub next : may_create n made t (o, class_made) ≡ true
  pub stored : class o ≡ class_made + 1

-- THE LAW
pub record MadeLaw (n : Numbering) (shape : List (ℕ × ℕ)) (logs : List (List Logged)) (stamps : List ℕ)
    (class mark : ℕ → ℕ) (holds : ℕ → List ℕ) (log : ℕ → List Logged)
    (under_way : ℕ → Option Unfinished) (shots : ℕ → List DumpShot) (seen : ℕ → List StepMade)
    (reached : ℕ → Bool) : Type 0 where
  -- every entry finds what it needs, and this was made by all of them; so it was where the shots of dumps cut the logs
  pub made : List (List ℕ)
  pub in_time : made_after n logs ≡ Some made
  pub cut_in_time : (t i : ℕ) (s : DumpShot) → slice_get (shots t) i ≡ Some s → IsMadeInTime n (cut_logs s.cut logs)
  -- the class word of an object that was made says its class
  pub classes : (o c : ℕ) → first_made n ≤ o → class_if_there n made o ≡ Some c → class o ≡ c + 1
  pub absent : (o : ℕ) → is_there n made o ≡ false → IsAbsent under_way o (class o) (mark o) holds
  pub making : (t o : ℕ) → making_in (under_way t) ≡ Some o → IsMaking n made class t o
  -- what a thread knows by its log it knows by its last stamp; and the object of its unfinished operation it knows by its log
  pub known : (t o : ℕ) → is_told (log t) o ≡ true → IsKnown n made logs t o
  pub unfinished : (t o : ℕ) → is_on (under_way t) o ≡ true → knows_by_log n (log t) o ≡ true
  -- but at its reached safepoint it has seen marks of no other objects than it knows so
  pub saw : (t o v : ℕ) → reached t ≡ false → last_seen (Mark o) (seen t) ≡ Some v → knows_by_log n (log t) o ≡ true
  -- what a slot refers to was made below the bound of the slot's object, so that who comes to own that object knows it
  pub objects : List PlainObject
  pub taken : objects_after shape logs ≡ Some objects
  pub slots : SlotsAreKnown n made objects logs stamps

-- the stamp words of all objects
abbrev pub stamp_words : World → List ℕ
stamp_words w = words_from 0 (length w.shape.objects) (λ o. w.words (Stamp o))

abbrev pub MadeLawHolds : World → Type 0
MadeLawHolds w =
    MadeLaw (numbering w.shape) w.shape.objects (logs w) (stamp_words w) (λ o. w.words (Class o)) (marks w)
    (λ t. (w.known t).holds) (λ t. (w.known t).log) (λ t. (w.known t).unfinished) (λ t. (w.known t).shots)
    (λ t. (w.known t).seen) (λ t. (w.known t).reached)

-- nobody is in the middle of making the object
abbrev pub IsUnmade : World → ℕ → Type 0
IsUnmade w o = (t : ℕ) → making_in (w.known t).unfinished ≡ Some o → ⊥

-- THE OBJECT IS FREE: nobody has its lock or a hold word for it, and it is as objects are at first
pub record IsFree (w : World) (objects : List PlainObject) (o : ℕ) : Type 0 where
  pub lock : lock w o ≡ Open
  pub unheld : (t : ℕ) → hold_count o (w.known t).holds ≡ 0
  pub plain : slice_get objects o ≡ slice_get (new_objects w.shape.objects) o
