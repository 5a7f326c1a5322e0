-- What reading a text takes from a source.
use Rattle.std.specs.Prelude.{◌≡◌, ℕ, ◌+◌, ◌≤◌, List, take, drop, Option, Some}

-- the most bytes that a program with its journal may have
abbrev pub most_of_journal : ℕ
most_of_journal = 67108864

-- the bytes are the first n that the source had left, or all where it had fewer, and they are left no more, where it tells that
abbrev pub TookFirst : ℕ → Option (List ℕ) → Option (List ℕ) → List ℕ → Type 0
TookFirst n left_before left_after bytes =
    (left : List ℕ) → left_before ≡ Some left → (bytes ≡ take n left) × (left_after ≡ Some (drop n left))

-- a text that may have this many bytes is read to its end, or up to one byte more, so that a longer one is known
abbrev pub Took : ℕ → Option (List ℕ) → Option (List ℕ) → List ℕ → Type 0
Took most left_before left_after bytes = TookFirst (most + 1) left_before left_after bytes

-- at most this many bytes are left no more, the first that the source had left, where it tells that
abbrev pub TookSome : ℕ → Option (List ℕ) → Option (List ℕ) → Type 0
TookSome most left_before left_after =
    (left : List ℕ) → left_before ≡ Some left → (n : ℕ) × (n ≤ most) × (left_after ≡ Some (drop n left))
