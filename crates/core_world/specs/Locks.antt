-- Who has the lock of an object and where its header stands, whatever its mark is. With these the clauses need no cases of marks.
use Rattle.std.specs.Prelude.{ℕ, zero, suc, ◌+◌, ◌==◌, ◌&&◌, Bool, false, if◌then◌else◌, List, [], ◌∷◌, slice_index_or, Option, Some, None}
use Rattle.mark_word.specs.declared.mark.MarkForm.{MarkForm}
use Rattle.mark_word.specs.declared.mark.MarkForm.TheVariants.{Inflating, Neutral, Anonymous, Biased, Locked, Inflated, Marked}
use Rattle.mark_word.specs.declared.owner.OwnerForm.{OwnerForm}
use Rattle.mark_word.specs.declared.owner.OwnerForm.TheVariants.{Free, ByThread, ByRecord}
use Rattle.mark_word.specs.Mark.{read_mark}
use Rattle.mark_word.specs.Owner.{read_owner}
use Rattle.plain_monitor.specs.Monitor.{PlainMonitor, owns}
use Rattle.plain_monitor.specs.Objects.{PlainObject, new_object}
pub use Rattle.plain_history.specs.HeldByLog.{or_zero, holds_by_monitor}
use Rattle.core_world.specs.declared.word_id.WordId.TheVariants.{Prototype, Mark, Displaced, Owner, Header}
use Rattle.core_world.specs.Words.Names.{class_by}
use Rattle.core_world.specs.Words.Forms.{epoch_in, monitor_in, names, is_deeper, hold_word}
use Rattle.core_world.specs.Threads.Stages.{Inflation, inflation_in, one_if}
use Rattle.core_world.specs.World.{World}

pub data Lock : Type 0 where
  -- nobody has it
  Open : Lock
  -- it is validly biased to a thread, which has it where it has a hold word for it
  BiasedTo : (thread : ℕ) → Lock
  -- it rests on a lock record of a thread: by the mark, by the owner word, or by the mark that is being inflated
  OnRecord : (thread place : ℕ) → Lock
  -- a thread has it through the monitor
  OwnedBy : (thread : ℕ) → Lock

abbrev pub has_epoch : Option ℕ → ℕ → Bool
has_epoch None epoch = false
has_epoch (Some e) epoch = e == epoch

-- the mark is biased to a thread, in the epoch of this prototype
abbrev pub is_valid_bias : Option MarkForm → ℕ → Bool
is_valid_bias (Some (Biased thread epoch age)) prototype = has_epoch (epoch_in prototype) epoch
is_valid_bias _ prototype = false

abbrev pub record_lock : Option Inflation → Lock
record_lock None = Open
record_lock (Some i) = OnRecord i.thread i.place

abbrev pub owner_lock : Option OwnerForm → Lock
owner_lock None = Open
owner_lock (Some Free) = Open
owner_lock (Some (ByThread thread)) = OwnedBy thread
owner_lock (Some (ByRecord thread place)) = OnRecord thread place

-- the lock that a mark of this form means: by the prototype of the object's class, the owner words, and the record that the mark
-- named before it was exchanged for 0
abbrev pub lock_form : Option MarkForm → ℕ → (ℕ → ℕ) → Option Inflation → Lock
lock_form None prototype owners named = Open
lock_form (Some Inflating) prototype owners named = record_lock named
lock_form (Some (Neutral hash age)) prototype owners named = Open
lock_form (Some (Anonymous epoch age)) prototype owners named = Open
lock_form (Some (Biased thread epoch age)) prototype owners named =
    if has_epoch (epoch_in prototype) epoch then BiasedTo thread else Open
lock_form (Some (Locked thread place)) prototype owners named = OnRecord thread place
lock_form (Some (Inflated monitor)) prototype owners named = owner_lock (read_owner (owners monitor))
lock_form (Some Marked) prototype owners named = Open

-- the inflation, if it is of o, and else the other one
abbrev pub is_for : ℕ → Option Inflation → Option Inflation → Option Inflation
is_for o None other = other
is_for o (Some i) other = if i.object == o then Some i else other

-- the inflation of o that one of the first n threads is in the middle of
abbrev pub inflation_of : ℕ → ℕ → (ℕ → Option Inflation) → Option Inflation
inflation_of o zero f = None
inflation_of o (suc n) f = is_for o (f n) (inflation_of o n f)

-- the parts of a world that the clauses read
abbrev pub marks : World → ℕ → ℕ
marks w o = w.words (Mark o)

-- the monitor that each mark names
abbrev pub inflated_to : World → ℕ → Option ℕ
inflated_to w o = monitor_in (w.words (Mark o))

abbrev pub prototype_of : World → ℕ → ℕ
prototype_of w o = w.words (Prototype (class_by w.shape w.words o))

abbrev pub owner_words : World → ℕ → ℕ
owner_words w m = w.words (Owner m)

abbrev pub displaced_words : World → ℕ → ℕ → ℕ
displaced_words w t p = w.words (Displaced t p)

abbrev pub headers : World → ℕ → ℕ
headers w m = w.words (Header m)

abbrev pub inflations : World → ℕ → Option Inflation
inflations w o = inflation_of o w.shape.threads (λ t. inflation_in (w.known t).stage)

abbrev pub lock : World → ℕ → Lock
lock w o = lock_form (read_mark (marks w o)) (prototype_of w o) (owner_words w) (inflations w o)

abbrev pub record_header : Option Inflation → (ℕ → ℕ → ℕ) → Option ℕ
record_header None displaced = None
record_header (Some i) displaced = Some (displaced i.thread i.place)

-- the neutral word that stands for the object, where its mark has no bias pattern
abbrev pub header_form : Option MarkForm → ℕ → (ℕ → ℕ → ℕ) → (ℕ → ℕ) → Option Inflation → Option ℕ
header_form (Some Inflating) mark displaced headers named = record_header named displaced
header_form (Some (Neutral hash age)) mark displaced headers named = Some mark
header_form (Some (Locked thread place)) mark displaced headers named = Some (displaced thread place)
header_form (Some (Inflated monitor)) mark displaced headers named = Some (headers monitor)
header_form _ mark displaced headers named = None

abbrev pub header : World → ℕ → Option ℕ
header w o = header_form (read_mark (marks w o)) (marks w o) (displaced_words w) (headers w) (inflations w o)

-- how many of the words pass the test, where the first stands at place i
abbrev pub count_where : (ℕ → ℕ → Bool) → ℕ → List ℕ → ℕ
count_where test i [] = 0
count_where test i (h ∷ hs) = one_if (test i h) + count_where test (i + 1) hs

-- the number of hold words that name o
abbrev pub hold_count : ℕ → List ℕ → ℕ
hold_count o hs = count_where (λ p h. names o h) 0 hs

-- how often the hold word of o at depth d stands there
abbrev pub depth_count : ℕ → ℕ → List ℕ → ℕ
depth_count o d hs = count_where (λ p h. h == hold_word o d) 0 hs

-- the number of the records of o above depth 1 that were made through the monitor: their displaced word is 3
abbrev pub recursion_count : ℕ → (ℕ → ℕ) → List ℕ → ℕ
recursion_count o displaced hs = count_where (λ p h. is_deeper o h && (displaced p == 3)) 0 hs

-- who has the lock, by the number of hold words that each thread has for the object
abbrev pub holder : Lock → (ℕ → ℕ) → Option ℕ
holder Open count = None
holder (BiasedTo thread) count = if count thread == 0 then None else Some thread
holder (OnRecord thread place) count = Some thread
holder (OwnedBy thread) count = Some thread

abbrev pub who : World → ℕ → Option ℕ
who w o = holder (lock w o) (λ t. hold_count o (w.known t).holds)

-- the owner and count that the header of o means
abbrev pub owner_and_count_by : Option ℕ → (ℕ → ℕ) → Option ℕ × ℕ
owner_and_count_by None count = (None, 0)
owner_and_count_by (Some t) count = (Some t, count t)

abbrev pub owner_and_count : World → ℕ → Option ℕ × ℕ
owner_and_count w o = owner_and_count_by (who w o) (λ t. hold_count o (w.known t).holds)

-- the plain objects by number
abbrev pub object_of : List PlainObject → ℕ → PlainObject
object_of objects o = slice_index_or objects o (new_object 0)

abbrev pub monitor_of : List PlainObject → ℕ → PlainMonitor
monitor_of objects o = (object_of objects o).monitor

abbrev pub owner_at : List PlainObject → ℕ → ℕ → Bool
owner_at objects o t = owns (monitor_of objects o) t

abbrev pub hash_at : List PlainObject → ℕ → ℕ
hash_at objects o = or_zero (object_of objects o).hash

abbrev pub waits_at : List PlainObject → ℕ → List (ℕ × ℕ)
waits_at objects o = (monitor_of objects o).waits

abbrev pub notified_at : List PlainObject → ℕ → List (ℕ × ℕ)
notified_at objects o = (monitor_of objects o).called
