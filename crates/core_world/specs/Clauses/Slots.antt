-- Each slot's word spells the value that the plain object has there.
use Rattle.std.specs.Prelude.{◌≡◌, ℕ, ◌<◌, List, length, slice_get, Some}
use Rattle.plain_monitor.specs.declared.entry.Value.{Value}
use Rattle.plain_monitor.specs.declared.entry.Value.TheVariants.{Ref}
use Rattle.plain_monitor.specs.ValueWords.{read_value}
use Rattle.core_world.specs.Words.Shape.{Shape}

-- a reference names an object that is there
abbrev pub IsHere : Shape → Value → Type 0
IsHere s (Ref o) = o < length s.objects
IsHere s _ = Unit {0}

pub record SlotsFit (s : Shape) (word : ℕ → ℕ → ℕ) (slots : ℕ → List Value) : Type 0 where
  pub value : (o i : ℕ) (v : Value) → slice_get (slots o) i ≡ Some v → read_value (word o i) ≡ Some v
  pub here : (o i : ℕ) (v : Value) → slice_get (slots o) i ≡ Some v → IsHere s v
