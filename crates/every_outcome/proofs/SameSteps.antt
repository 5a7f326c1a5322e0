-- What an instruction does to a thread depends neither on its fuel nor on its mode.
use Rattle.std.proofs.Common.{◌≡◌, ℕ, refl}
use Rattle.object_program.specs.declared.program.Code.{Code}
use Rattle.object_program.specs.Program.{ProgramText}
use Rattle.plain_machine.specs.declared.monitor_call.Mode.{Mode}
use Rattle.plain_machine.specs.Thread.{ThreadState, Step, Goes, step_of}
use Rattle.plain_machine.proofs.Effects.{Effect, Over, apply, in_mode, by_effects}

-- the same step, of the thread with this fuel and in this mode
abbrev pub step_with : ℕ → Mode → Step → Step
step_with g md (Goes s) = Goes (in_mode g md s)
step_with g md st = st

applied : (g : ℕ) (md : Mode) (s : ThreadState) (x : Effect) → apply (in_mode g md s) x ≡ step_with g md (apply s x)
applied g md s Over = refl
applied g md s _ = refl

-- the step of an instruction sees neither fuel nor mode
pub step_same : (g : ℕ) (md : Mode) (p : ProgramText) (s : ThreadState) (c : Code) → step_of p (in_mode g md s) c ≡ step_with g md (step_of p s c)
step_same g md p s c = by_effects p s (λ a b. b ≡ step_with g md a) s.place g md c (λ x from. applied g md s x)
