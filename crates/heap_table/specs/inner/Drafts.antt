-- What a step makes of the shots of a pass.
use Rattle.std.specs.Prelude.{ℕ, ◌+◌, List, [], ◌∷◌, ◌++◌, length, Option}
use Rattle.core_world.specs.declared.plan.LocalEffect.{LocalEffect}
use Rattle.core_world.specs.declared.plan.LocalEffect.TheVariants as own
use Rattle.core_world.specs.Threads.ThreadView.{DumpShot}

-- what a step makes of the shots that were taken
abbrev pub taken_after : LocalEffect → List DumpShot → List ℕ → List (Option ℕ × ℕ) → List DumpShot
taken_after own.TakeShot taken cut cells = taken ++ record { number = length taken + 1; cut = cut; cells = cells } ∷ []
taken_after _ taken cut cells = taken
