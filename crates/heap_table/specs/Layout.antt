-- Where each word lies.
use Rattle.std.specs.Prelude.{ℕ, ◌+◌, ◌*◌, ◌/◌, ◌++◌, max, List, [], ◌∷◌, length, map, replicate, slice_index}
use Rattle.plain_monitor.specs.Limits.{most_made}
use Rattle.core_world.specs.declared.word_id.WordId.{WordId}
use Rattle.core_world.specs.declared.word_id.WordId.TheVariants.{Safepoint, Prototype, Revocations, LastBulk, Mark, Stamp, Slot, Hold, Displaced}
use Rattle.core_world.specs.declared.word_id.WordId.TheVariants.{Waiting, Length, Owner, Recursions, Header, Object, Claim, End, Ring, Class}
use Rattle.core_world.specs.Words.Names.{first_index}
use Rattle.core_world.specs.Words.Shape.{Shape, ring_places}

-- the shape with so many threads, with classes of so many slots, and with an object of each of these classes, of which so many are declared
abbrev pub shape_of : ℕ → List ℕ → List ℕ → ℕ → Shape
shape_of threads slots classes declared =
    record {
      threads = threads;
      classes = length slots;
      declared = declared;
      objects = map (λ c. (c, slice_index slots c)) classes;
    }

-- this shape, and after its objects as many numbers as its threads may make objects, each of them with so many slots. Their class counts for nothing.
abbrev pub with_made : Shape → ℕ → Shape
with_made s slots = record s { objects = s.objects ++ replicate (most_made * s.threads) (0, slots) }

-- how many objects there are
abbrev pub many : Shape → ℕ
many s = length s.objects

-- the most slots of any of these objects
abbrev pub widest : List (ℕ × ℕ) → ℕ
widest [] = 0
widest (x ∷ xs) = max x.1 (widest xs)

-- How many words the group of each object has: three, one for each slot of the object with the most of them, and seven
-- that lie free after them, rounded up to whole lines of 8 words. In the limits these are 16 where no object has more than 6
-- slots, 24 where one has more and none more than 14, and else 32.
unfoldable pub object_size : Shape → ℕ
object_size s = 8 * ((widest s.objects + 10 + 7) / 8)

-- The words lie in groups: one of the heap, of 16 words; one for each class, of 16 words; one for each object, all of
-- one size; one for each thread, of 144 words; one for each monitor, of 11 words, of which the last seven lie free; and
-- one of the ring, with a word for each of its places. In the limits there are 916,928 words at most, and 589,248 where
-- no object has more than 6 slots. Here the groups of each kind begin.
abbrev pub classes_from : ℕ
classes_from = 16

abbrev pub objects_from : Shape → ℕ
objects_from s = classes_from + 16 * s.classes

abbrev pub threads_from : Shape → ℕ
threads_from s = objects_from s + object_size s * many s

abbrev pub monitors_from : Shape → ℕ
monitors_from s = threads_from s + 144 * s.threads

abbrev pub ring_from : Shape → ℕ
ring_from s = monitors_from s + 11 * (many s + s.threads)

abbrev pub word_count : Shape → ℕ
word_count s = ring_from s + ring_places s

-- A word's place. The words of one group are mostly stored by one thread at a time. Those of two groups lie 8 words apart or more, and so in
-- different lines of a cache, wherever the table begins. So do the safepoint word and the claim word, and a thread's waiting word and its other
-- words. The ring's end lies beside the claim word, and in the line of the safepoint word where the table begins at a line; the words of the ring
-- lie side by side. These are stored only at a reached safepoint, where nobody runs, and a claim only loads one.
abbrev pub place_of : Shape → WordId → ℕ
place_of s Safepoint = 0
place_of s Claim = 8
place_of s End = 7
place_of s (Prototype c) = classes_from + 16 * c
place_of s (Revocations c) = classes_from + 16 * c + 1
place_of s (LastBulk c) = classes_from + 16 * c + 2
place_of s (Mark o) = objects_from s + object_size s * o
place_of s (Stamp o) = objects_from s + object_size s * o + 1
place_of s (Slot o i) = objects_from s + object_size s * o + 3 + i
place_of s (Class o) = objects_from s + object_size s * o + 2
place_of s (Hold t p) = threads_from s + 144 * t + p
place_of s (Displaced t p) = threads_from s + 144 * t + 64 + p
place_of s (Length t) = threads_from s + 144 * t + 128
place_of s (Waiting t) = threads_from s + 144 * t + 136
place_of s (Owner m) = monitors_from s + 11 * m
place_of s (Recursions m) = monitors_from s + 11 * m + 1
place_of s (Header m) = monitors_from s + 11 * m + 2
place_of s (Object m) = monitors_from s + 11 * m + 3
place_of s (Ring p) = ring_from s + p

-- the kind of group that a word is in: the heap's, a class's, an object's, a thread's, a monitor's, the ring
abbrev pub group : WordId → ℕ
group Safepoint = 0
group Claim = 0
group End = 0
group (Prototype c) = 1
group (Revocations c) = 1
group (LastBulk c) = 1
group (Mark o) = 2
group (Stamp o) = 2
group (Slot o i) = 2
group (Class o) = 2
group (Hold t p) = 3
group (Displaced t p) = 3
group (Length t) = 3
group (Waiting t) = 3
group (Owner m) = 4
group (Recursions m) = 4
group (Header m) = 4
group (Object m) = 4
group (Ring p) = 5

-- and the number of its group among those of that kind
abbrev pub number : WordId → ℕ
number (Ring p) = 0
number n = first_index n
