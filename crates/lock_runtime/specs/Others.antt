-- That a pending call is so for another thread.
use Rattle.std.specs.Prelude.{ℕ, Result, Ok, Err}
use Rattle.core_world.specs.declared.answer.Progress.{Progress}
use Rattle.core_world.specs.declared.answer.Progress.TheVariants.{Done, Pending}
use Rattle.core_calls.specs.Stands.{IsOfAnother}

-- by the safepoint word another thread runs, or has a request
abbrev pub PendsForAnother : {A : Type 0} → ℕ → Progress A → Type 0
PendsForAnother t (Done a) = Unit {0}
PendsForAnother t (Pending why) = IsOfAnother t why

abbrev pub PendsOrRefused : {A E : Type 0} → ℕ → Result (Progress A) E → Type 0
PendsOrRefused t (Ok progress) = PendsForAnother t progress
PendsOrRefused t (Err e) = Unit {0}
