-- How many threads and generators there are.
use Rattle.std.proofs.Common.{◌≡◌, ℕ, zero, suc, ◌+◌, length, refl, ap, ◌∙◌, add-one, length-append, [], ◌∷◌}
use Rattle.std.proofs.lemmas.List.{length-map}
use Rattle.object_program.specs.Program.{ProgramText}
use Rattle.plain_machine.specs.Machine.{new_machine}
use Rattle.plain_machine.specs.Running.{first_state}
use Rattle.bias_check.specs.inner.Marks.{drawers_to, new_drawer}

pub length-drawers : (start n : ℕ) → length (drawers_to start n) ≡ n
length-drawers start zero = refl
length-drawers start (suc n) =
    length-append (drawers_to start n) (new_drawer start n ∷ []) ∙ ap (λ k. k + 1) (length-drawers start n) ∙ add-one n

pub length-machine : (p : ProgramText) (fuel : ℕ) → length (new_machine p fuel).threads ≡ length p.threads
length-machine p fuel = length-map p.threads (λ t. first_state p t fuel)
