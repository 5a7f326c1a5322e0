-- The laws among the clauses of a valid world: that of the biases, and that of what is there.
use Rattle.plain_monitor.specs.Objects.{PlainObject}
use Rattle.core_world.specs.Valid.{IsValidWith, ValidWith}
use Rattle.core_world.specs.World.{World}
use Rattle.core_law.specs.BiasLaw.{BiasLawHolds}
use Rattle.core_law.specs.MadeLaw.{MadeLawHolds}
use Rattle.std.specs.Prelude.{List}

pub record LawsHold (w : World) : Type 0 where
  pub biases : BiasLawHolds w
  pub made : MadeLawHolds w

-- Every clause of `Fits` holds, and the laws; or a bias is being revoked in a world of which they held before the first store.
abbrev pub IsWhollyValid : World → List PlainObject → Type 0
IsWhollyValid = IsValidWith LawsHold

abbrev pub WhollyValid : World → Type 0
WhollyValid = ValidWith LawsHold
