-- Operands that are tested one after another.
use Rattle.std.proofs.Common.{◌≡◌, ℕ, Bool, false, List, [], ◌∷◌, refl}
use Rattle.program_syntax.specs.Refusal.{some_operand}
use Rattle.program_syntax.specs.declared.operand.Operand.{Operand}

-- no operand is left
pub some_operand-none : (test : Operand → List ℕ → Bool) (os : List Operand) → some_operand test os [] ≡ false
some_operand-none test [] = refl
some_operand-none test (o ∷ os) = refl
