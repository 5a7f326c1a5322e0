-- The words of objects: those of each object that isn't as at first, after its number.
use Rattle.std.specs.Prelude.{ℕ, zero, suc, pos, ◌+◌, Bool, false, ◌&&◌, ◌==◌, if◌then◌else◌, List, [], ◌∷◌, ◌++◌, length, map, is_none}
use Rattle.std.specs.List.{list_all}
use Rattle.plain_monitor.specs.declared.entry.Value.TheVariants.{Int}
use Rattle.plain_monitor.specs.Objects.{PlainObject, new_object, same_value}
use Rattle.plain_monitor.specs.ValueWords.{word_of}
use Rattle.machine_words.specs.Readers.{option_word, word_option, pair_words, read_pairs, read_values}

-- nobody has the monitor or waits, no slot was written but with 0, and there is no hash
abbrev pub is_new : PlainObject → Bool
is_new x =
    is_none x.monitor.owner && (x.monitor.count == 0) && (length x.monitor.waits == 0) && (length x.monitor.called == 0)
    && is_none x.hash && list_all (same_value (Int (pos 0))) x.slots

abbrev pub object_words : PlainObject → List ℕ
object_words x =
    option_word x.monitor.owner ∷ x.monitor.count ∷ option_word x.hash ∷ length x.monitor.waits ∷ length x.monitor.called
    ∷ pair_words x.monitor.waits ++ pair_words x.monitor.called ++ map word_of x.slots

-- of objects of which the first has number k
abbrev pub objects_words : ℕ → List PlainObject → List ℕ
objects_words k [] = []
objects_words k (x ∷ xs) = (if is_new x then [] else k ∷ object_words x) ++ objects_words (k + 1) xs

-- an object of so many slots, and the words after it
abbrev pub read_slots : ℕ → ℕ → ℕ → ℕ → List (ℕ × ℕ) → List (ℕ × ℕ) × List ℕ → PlainObject × List ℕ
read_slots slots owner count hash waits r = (
  record {
    monitor = record { owner = word_option owner; count = count; waits = waits; called = r.0 };
    slots = (read_values slots r.1).0;
    hash = word_option hash;
  },
  (read_values slots r.1).1,
)

abbrev pub read_object : ℕ → List ℕ → PlainObject × List ℕ
read_object slots (owner ∷ count ∷ hash ∷ waits ∷ called ∷ ws) =
    read_slots slots owner count hash (read_pairs waits ws).0 (read_pairs called (read_pairs waits ws).1)
read_object slots ws = (new_object slots, [])

-- the words go on with object k
abbrev pub begins : ℕ → List ℕ → Bool
begins k [] = false
begins k (w ∷ ws) = w == k

abbrev pub after_one : List ℕ → List ℕ
after_one [] = []
after_one (w ∷ ws) = ws

-- so many objects, of which the first has number k, each of so many slots
abbrev pub read_objects : (ℕ → ℕ) → ℕ → ℕ → List ℕ → List PlainObject
read_objects slots k zero ws = []
read_objects slots k (suc n) ws =
    if begins k ws
    then (read_object (slots k) (after_one ws)).0 ∷ read_objects slots (k + 1) n (read_object (slots k) (after_one ws)).1
    else new_object (slots k) ∷ read_objects slots (k + 1) n ws
