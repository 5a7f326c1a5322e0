-- What a dump leaves of its thread's shots.
use Rattle.std.specs.Prelude.{◌≡◌, ℕ, List, [], ◌∷◌, ◌++◌, Result, Ok}
use Rattle.core_world.specs.declared.answer.Progress.{Progress}
use Rattle.core_world.specs.declared.answer.Progress.TheVariants.{Done}
use Rattle.core_world.specs.Threads.ThreadView.{DumpShot}

-- one more, with the number that it answers; else it leaves them
abbrev pub HasShots : {E : Type 0} → List DumpShot → List DumpShot → Result (Progress ℕ) E → Type 0
HasShots before after (Ok (Done number)) = (shot : DumpShot) × (after ≡ before ++ shot ∷ []) × (shot.number ≡ number)
HasShots before after _ = after ≡ before
