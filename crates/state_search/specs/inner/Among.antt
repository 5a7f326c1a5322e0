-- Whether a key stands among others.
use Rattle.std.specs.Prelude.{ℕ, Bool, nat_eq, List}
use Rattle.std.specs.List.{list_any}
use Rattle.std.specs.Cmp.Lexicographic.{pointwise}

abbrev pub same_words : List ℕ → List ℕ → Bool
same_words v w = pointwise nat_eq v w

abbrev pub is_among : List (List ℕ) → List ℕ → Bool
is_among keys key = list_any (same_words key) keys
