-- What the runtime's answers are as outcomes.
use Rattle.std.specs.Prelude.{Result, Ok, Err}
use Rattle.plain_monitor.specs.declared.entry.Value.{Value}
use Rattle.core_world.specs.declared.answer.Progress.{Progress}
use Rattle.core_world.specs.declared.answer.Progress.TheVariants as progress
use Rattle.lock_runtime_c.specs.declared.outcome.Outcome.{Outcome}
use Rattle.lock_runtime_c.specs.declared.outcome.Outcome.TheVariants.{Done, Pending, Refused}
use Rattle.lock_runtime_c.specs.declared.outcome.Refusal.{Refusal}
use Rattle.lock_runtime_c.specs.declared.outcome.Said.{Said}
use Rattle.lock_runtime_c.specs.declared.outcome.Said.TheVariants.{Nothing, Read}

abbrev pub nothing : Unit {0} → Said
nothing x = Nothing

-- a call that is done says this of its answer
abbrev pub of_progress : {A : Type 0} → (A → Said) → Progress A → Outcome
of_progress says (progress.Done a) = Done (says a)
of_progress says (progress.Pending why) = Pending why

-- a call that may be refused is so for this reason alone
abbrev pub of_result : {A E : Type 0} → (A → Outcome) → Refusal → Result A E → Outcome
of_result says refusal (Ok a) = says a
of_result says refusal (Err e) = Refused refusal

abbrev pub read : Value → Outcome
read value = Done (Read value)

abbrev pub stored : Unit {0} → Outcome
stored x = Done Nothing
