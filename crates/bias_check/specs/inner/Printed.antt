-- How a word that is a number is written.
use Rattle.std.specs.Prelude.{ℕ, Bool, true, not, ◌&&◌, ◌||◌, ◌==◌, List, [], ◌∷◌}

-- no zero leads, and `0` has no sign
abbrev pub is_printed : List ℕ → Bool
is_printed [] = true
is_printed (a ∷ []) = true
is_printed (a ∷ b ∷ bs) = not (a == 48) && (not (a == 45) || not (b == 48))
