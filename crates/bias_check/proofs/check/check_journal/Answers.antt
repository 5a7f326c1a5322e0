use Rattle.std.proofs.Common.{◌≡◌, ◌≢◌, ◌⊎◌, ◌∙◌, inl, inr, List, ℕ, Err}
use Rattle.std.specs.Prelude.{Result}
use Rattle.object_program.specs.Program.{ProgramText}
use Rattle.object_program.specs.Valid.{IsProgram}
use Rattle.bias_check.specs.declared.answer.Checked.{Checked}
use Rattle.bias_check.specs.declared.answer.CheckFault.{CheckFault}
use Rattle.bias_check.specs.declared.answer.CheckFault.TheVariants.{NoMemory}
use Rattle.bias_check.specs.Lines.{lines_of}
use Rattle.bias_check.specs.Answer.{IsTrueOf}
use Rattle.bias_check.proofs.TrueAnswers.{found, found_true, found_only}
use Rattle.bias_check.proofs.check.check_journal.Goals as goal

true_of : (p : ProgramText) (fuel start : ℕ) (lines : List (List ℕ)) (r : Result Checked CheckFault)
    → IsProgram p → (r ≡ Err NoMemory) ⊎ (r ≡ found p fuel start lines)
    → IsTrueOf p fuel start lines r
true_of p fuel start lines r h (inl e) = rw e tt
true_of p fuel start lines r h (inr e) = rw e (found_true p fuel start lines h)

only_of : (p : ProgramText) (fuel start : ℕ) (lines : List (List ℕ)) (r answer : Result Checked CheckFault)
    → IsProgram p → (r ≡ Err NoMemory) ⊎ (r ≡ found p fuel start lines)
    → IsTrueOf p fuel start lines answer → answer ≢ Err NoMemory → (r ≡ answer) ⊎ (r ≡ Err NoMemory)
only_of p fuel start lines r answer h (inl e) holds other = inr e
only_of p fuel start lines r answer h (inr e) holds other = inl (e ∙ found_only p fuel start lines answer h holds other)

pub returns-clause-is_true : goal.returns-clause-is_true
returns-clause-is_true c =
    true_of c.args.program.now c.args.fuel c.args.start (lines_of c.args.lines.now) c.answer.result c.know.ensures c.answer.ensures

pub returns-clause-only : goal.returns-clause-only
returns-clause-only c answer holds other =
    only_of c.args.program.now c.args.fuel c.args.start (lines_of c.args.lines.now) c.answer.result answer c.know.ensures c.answer.ensures holds other
