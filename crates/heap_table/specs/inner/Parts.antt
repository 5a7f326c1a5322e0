-- Which steps take a shot.
use Rattle.std.specs.Prelude.{Bool, true, false}
use Rattle.core_world.specs.declared.plan.LocalEffect.{LocalEffect}
use Rattle.core_world.specs.declared.plan.LocalEffect.TheVariants as own

-- the step takes no shot
abbrev pub is_shot : LocalEffect → Bool
is_shot own.TakeShot = true
is_shot _ = false
