-- The words of the heap by name.
use Rattle.std.specs.Prelude.{ℕ, ◌-◌, ◌==◌, nat_lt, ◌&&◌, ◌||◌, not, Bool, if◌then◌else◌, Option, Some, None}
use Rattle.core_world.specs.declared.word_id.WordId.{WordId}
use Rattle.core_world.specs.declared.word_id.WordId.TheVariants.{Safepoint, Prototype, Revocations, LastBulk, Mark, Stamp, Slot, Hold, Displaced}
use Rattle.core_world.specs.declared.word_id.WordId.TheVariants.{Waiting, Length, Owner, Recursions, Header, Object, Claim, End, Ring, Class}
use Rattle.core_world.specs.Words.Shape.{Shape, class_in_shape}

-- the monitor of which this is a word
abbrev pub its_monitor : WordId → Option ℕ
its_monitor (Owner m) = Some m
its_monitor (Recursions m) = Some m
its_monitor (Header m) = Some m
its_monitor (Object m) = Some m
its_monitor _ = None

-- a name is told by three numbers, the kind of word first, so that words of different kinds differ by computation
abbrev pub kind_of : WordId → ℕ
kind_of Safepoint = 0
kind_of (Prototype c) = 1
kind_of (Revocations c) = 2
kind_of (LastBulk c) = 3
kind_of (Mark o) = 4
kind_of (Stamp o) = 5
kind_of (Slot o s) = 6
kind_of (Hold t p) = 7
kind_of (Displaced t p) = 8
kind_of (Waiting t) = 9
kind_of (Length t) = 10
kind_of (Owner m) = 11
kind_of (Recursions m) = 12
kind_of (Header m) = 13
kind_of (Object m) = 14
kind_of Claim = 15
kind_of End = 16
kind_of (Ring p) = 17
kind_of (Class o) = 18

abbrev pub first_index : WordId → ℕ
first_index Safepoint = 0
first_index (Prototype c) = c
first_index (Revocations c) = c
first_index (LastBulk c) = c
first_index (Mark o) = o
first_index (Stamp o) = o
first_index (Slot o s) = o
first_index (Hold t p) = t
first_index (Displaced t p) = t
first_index (Waiting t) = t
first_index (Length t) = t
first_index (Owner m) = m
first_index (Recursions m) = m
first_index (Header m) = m
first_index (Object m) = m
first_index Claim = 0
first_index End = 0
first_index (Ring p) = p
first_index (Class o) = o

abbrev pub second_index : WordId → ℕ
second_index (Slot o s) = s
second_index (Hold t p) = p
second_index (Displaced t p) = p
second_index _ = 0

abbrev pub same_name : WordId → WordId → Bool
same_name m n = (kind_of m == kind_of n) && (second_index m == second_index n) && (first_index m == first_index n)

-- the word is v at this name, and as it was at all others
abbrev pub with_word : WordId → ℕ → (WordId → ℕ) → WordId → ℕ
with_word at v f n = if same_name n at then v else f n

-- by these words the object is there: it is declared, or its class is stored
abbrev pub has_class : Shape → (WordId → ℕ) → ℕ → Bool
has_class s f o = nat_lt o s.declared || not (f (Class o) == 0)

-- the class of an object by these words: a declared one has the shape's, and one that a thread made has its class word's, less 1
abbrev pub class_by : Shape → (WordId → ℕ) → ℕ → ℕ
class_by s f o = if nat_lt o s.declared then class_in_shape s o else f (Class o) - 1
