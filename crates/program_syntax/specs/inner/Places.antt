-- Look-ups of names as a function, and the map that answers them.
use Rattle.std.specs.Prelude.{◌≡◌, ◌+◌, ℕ, true, List, [], ◌∷◌, Option, Some, None, if◌then◌else◌}
use Rattle.std.specs.List.{AllByRecursion}
use Rattle.std.specs.Str.{bytes_eq}
use Rattle.std.specs.BTreeMap.{BTreeMap, get}
use Rattle.std.specs.Cmp.Lexicographic.{slice_cmp}
use Rattle.std.specs.Ordering.{nat_cmp}
use Rattle.object_program.specs.Name.{is_name}

-- the number of the first of these that is the name, where the first of them has number n
abbrev pub place_from : ℕ → List (List ℕ) → List ℕ → Option ℕ
place_from n [] name = None
place_from n (x ∷ xs) name = if bytes_eq x name then Some n else place_from (n + 1) xs name

-- these are names, and the map has the place of each name among them
pub record ArePlaces (names : List (List ℕ)) (places : BTreeMap (List ℕ) ℕ) : Type 0 where
  pub are_names : AllByRecursion (λ n. is_name n ≡ true) names
  pub found : (name : List ℕ) → get (slice_cmp nat_cmp) places name ≡ place_from 0 names name
