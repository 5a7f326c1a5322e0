-- Searches through all keys that choices lead to. Which key a key leads to by a choice, `next` says; there are `many` choices, numbered from 0.
use Rattle.std.specs.Prelude.{◌≡◌, ◌⊎◌, ℕ, ◌<◌, ◌≤◌, List, [], ◌∷◌, length, Option, Some, None, slice_get}
use Rattle.state_search.specs.declared.found.Origin.{Origin}
use Rattle.state_search.specs.Found.{Keys}

abbrev pub Has : List (List ℕ) → List ℕ → Type 0
Has keys key = (k : ℕ) × (slice_get keys k ≡ Some key)

-- each of these is a key
abbrev pub AreKeys : (List ℕ → Type 0) → List (List ℕ) → Type 0
AreKeys is_key keys = (k : ℕ) (key : List ℕ) → slice_get keys k ≡ Some key → is_key key

-- what the key leads to is among these
abbrev pub LeadsInto : (List ℕ → ℕ → Option (List ℕ)) → ℕ → List (List ℕ) → List ℕ → Type 0
LeadsInto next many keys key = (choice : ℕ) (to : List ℕ) → choice < many → next key choice ≡ Some to → Has keys to

-- what the first so many keys lead to is among them
abbrev pub IsClosedBelow : (List ℕ → ℕ → Option (List ℕ)) → ℕ → ℕ → List (List ℕ) → Type 0
IsClosedBelow next many gone keys =
    (k : ℕ) (key : List ℕ) → k < gone → slice_get keys k ≡ Some key → LeadsInto next many keys key

-- these choices, the last one first, lead from the first key to this one
abbrev pub LeadsBy : (List ℕ → ℕ → Option (List ℕ)) → ℕ → List ℕ → List ℕ → List ℕ → Type 0
LeadsBy next many first [] key = first ≡ key
LeadsBy next many first (choice ∷ choices) key =
    (before : List ℕ) × LeadsBy next many first choices before × (choice < many) × (next before choice ≡ Some key)

-- some choices lead from the first key to this one
pub record IsLedTo (next : List ℕ → ℕ → Option (List ℕ)) (many : ℕ) (first key : List ℕ) : Type 0 where
  pub choices : List ℕ
  pub leads : LeadsBy next many first choices key

-- by its origin, an earlier one of the keys leads to this one, whose number is `number`
pub record LeadsFrom (next : List ℕ → ℕ → Option (List ℕ)) (many : ℕ) (keys : List (List ℕ)) (number : ℕ) (origin : Origin) (key : List ℕ) : Type 0 where
  pub earlier : origin.key < number
  pub choice : origin.choice < many
  pub leads : (before : List ℕ) × (slice_get keys origin.key ≡ Some before) × (next before origin.choice ≡ Some key)

-- there is an origin for each key, and it leads to each but the first one
pub record HaveOrigins (next : List ℕ → ℕ → Option (List ℕ)) (many : ℕ) (keys : List (List ℕ)) (origins : List Origin) : Type 0 where
  pub each : length origins ≡ length keys
  pub lead : (k : ℕ) (origin : Origin) (key : List ℕ) → 1 ≤ k → slice_get origins k ≡ Some origin → slice_get keys k ≡ Some key
      → LeadsFrom next many keys k origin key

-- a search from the first key that may find at most so many: it has found each of its keys once, and none but such that choices lead to
pub record IsUnderWay (next : List ℕ → ℕ → Option (List ℕ)) (many : ℕ) (first : List ℕ) (most : ℕ) (f : Keys) : Type 0 where
  pub first_key : slice_get f.keys 0 ≡ Some first
  pub once : (j k : ℕ) (key : List ℕ) → slice_get f.keys j ≡ Some key → slice_get f.keys k ≡ Some key → j ≡ k
  pub led : (k : ℕ) (key : List ℕ) → slice_get f.keys k ≡ Some key → IsLedTo next many first key
  pub origins : HaveOrigins next many f.keys f.origins
  pub closed : IsClosedBelow next many f.gone f.keys
  pub within : f.gone ≤ length f.keys
  pub few : length f.keys ≤ most

-- it went into all of its keys, or there are as many as it may find
pub record IsSearch (next : List ℕ → ℕ → Option (List ℕ)) (many : ℕ) (first : List ℕ) (most : ℕ) (f : Keys) : Type 0 where
  pub found : IsUnderWay next many first most f
  pub ends : (f.gone ≡ length f.keys) ⊎ (length f.keys ≡ most)

-- these choices, the last one first, lead from the first key to the key with this number; where there is no such key, there is no choice
pub record IsWayTo (next : List ℕ → ℕ → Option (List ℕ)) (many : ℕ) (first : List ℕ) (keys : List (List ℕ)) (number : ℕ) (choices : List ℕ) : Type 0 where
  pub leads : (key : List ℕ) → slice_get keys number ≡ Some key → LeadsBy next many first choices key
  pub none : slice_get keys number ≡ None → choices ≡ []
