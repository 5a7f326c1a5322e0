-- The words before the first step.
use Rattle.std.specs.Prelude.{ℕ, zero, suc, ◌+◌, ◌-◌, ◌*◌, Bool, false, List, [], ◌∷◌, ◌++◌, replicate}
use Rattle.core_world.specs.Opening.{first_mark}
use Rattle.core_world.specs.Words.Shape.{Shape, monitor_count, ring_places}
use Rattle.heap_table.specs.Layout.{many, object_size}

-- this many copies of a group's words
abbrev pub copies : ℕ → List ℕ → List ℕ
copies zero group = []
copies (suc n) group = group ++ copies n group

-- one kind of group after the other, and these words after them all
abbrev pub spread : List (ℕ × List ℕ) → List ℕ → List ℕ
spread [] ws = ws
spread (x ∷ xs) ws = copies x.0 x.1 ++ spread xs ws

-- the heap's own words: the ring's end is the number of monitors, and every other word is 0
abbrev pub heap_words : ℕ → List ℕ
heap_words monitors = replicate 7 0 ++ (monitors ∷ replicate 8 0)

-- a class's prototype, and its count and moment of revocations
abbrev pub class_words : ℕ → List ℕ
class_words mark = mark ∷ replicate 15 0

-- an object's mark, its stamp, its class word, and as many slots as a group of this size has room for, each with the
-- word of the number 0
abbrev pub object_words : ℕ → ℕ → List ℕ
object_words size mark = mark ∷ 0 ∷ 0 ∷ copies (size - 3) (9223372036854775809 ∷ [])

-- a declared object has the mark of its class's prototype, and one that isn't made yet a neutral one
abbrev pub opening_groups : Shape → Bool → List (ℕ × List ℕ)
opening_groups s biasing =
    (1, heap_words (monitor_count s)) ∷ (s.classes, class_words (first_mark biasing))
    ∷ (s.declared, object_words (object_size s) (first_mark biasing)) ∷ (many s - s.declared, object_words (object_size s) (first_mark false))
    ∷ (144 * s.threads + 11 * (many s + s.threads), 0 ∷ []) ∷ []

-- the numbers below n, in their order
abbrev pub numbers : ℕ → List ℕ
numbers zero = []
numbers (suc n) = numbers n ++ n ∷ []

-- each place of the ring has its own number
abbrev pub opening_words : Shape → Bool → List ℕ
opening_words s biasing = spread (opening_groups s biasing) (numbers (ring_places s))
