-- The least object that a thread holds, by its hold words.
use Rattle.std.specs.Prelude.{ℕ, min, List, [], ◌∷◌, Option, Some, None}
use Rattle.mark_word.specs.declared.hold.HoldForm.{HoldForm}
use Rattle.mark_word.specs.declared.hold.HoldForm.TheVariants.{Holds}
use Rattle.mark_word.specs.Hold.{read_hold}

-- the object that a hold word names
abbrev pub object_in : Option HoldForm → Option ℕ
object_in (Some (Holds object depth)) = Some object
object_in _ = None

-- the lesser of two numbers, where there are two
abbrev pub lesser : Option ℕ → Option ℕ → Option ℕ
lesser None n = n
lesser (Some m) None = Some m
lesser (Some m) (Some n) = Some (min m n)

-- the least object that these words name
abbrev pub least_in : List ℕ → Option ℕ
least_in [] = None
least_in (word ∷ words) = lesser (object_in (read_hold word)) (least_in words)
