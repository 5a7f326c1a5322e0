-- The numbers of the declared objects, and those of the others.
use Rattle.std.proofs.Common.{◌≡◌, ℕ, Bool, true, false, List, nat_lt, refl, arith}
use Rattle.std.proofs.lemmas.List.{length-take, length-map}
use Rattle.plain_monitor.specs.Made.{Numbering, first_made, is_there}
use Rattle.core_world.specs.Words.Shape.{Shape, IsInLimits}
use Rattle.core_world.specs.Threads.References.{numbering}

-- the first number of an object that is made comes after the declared ones
pub first_is_declared : (s : Shape) → IsInLimits s → first_made (numbering s) ≡ s.declared
first_is_declared s limits = let most = limits.declared in grind (arith, length-take, length-map, most)

-- what isn't there isn't declared
pub not_declared : (n : Numbering) (made : List (List ℕ)) (o : ℕ) → is_there n made o ≡ false → nat_lt o (first_made n) ≡ false
not_declared n made o e = by_test (nat_lt o (first_made n)) refl
  where
    by_test : (b : Bool) → nat_lt o (first_made n) ≡ b → b ≡ false
    by_test false h = refl
    by_test true h = absurd (grind (arith, e, h))
