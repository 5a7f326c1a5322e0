-- A list that holds one machine alone isn't gone into where an entry leads on.
use Rattle.std.proofs.Common.{◌≡◌, ◌⊎◌, inl, inr, ℕ, zero, suc, List, [], ◌∷◌, slice_get, Some, sym, ◌∙◌, subst}
use Rattle.std.proofs.lemmas.Option.{none-some, same_Some}
use Rattle.plain_monitor.specs.declared.entry.Entry.{Entry}
use Rattle.object_program.specs.Program.{ProgramText}
use Rattle.plain_machine.specs.Machine.{PlainMachine, take}
use Rattle.every_outcome.specs.Covered.{TakesNothing}
use Rattle.every_outcome.specs.Fuel.{refuelled, HasSpent, GoesAloneFull, IsCoveredFull}
use Rattle.outcome_search.specs.EveryEnd.{IsGoneInto}

seen_alone : (m n : PlainMachine) (k : ℕ) → slice_get (m ∷ []) k ≡ Some n → m ≡ n
seen_alone m n zero at = same_Some m n at
seen_alone m n (suc k) at = absurd (none-some n at)

-- what takes nothing leads to itself alone
stays : (fuel : ℕ) (m n : PlainMachine) (xs : List (ℕ × Entry)) → TakesNothing m → GoesAloneFull fuel m xs n → m ≡ n
stays fuel m n [] over alone = alone
stays fuel m n (x ∷ xs) over alone = absurd (over x.0 x.1 alone.0 alone.2)

pub first_alone_refused : (p : ProgramText) (fuel t : ℕ) (m n : PlainMachine) (e : Entry) → take m t e ≡ Some n → (HasSpent m → ⊥)
    → TakesNothing (refuelled fuel n) → IsGoneInto p fuel (m ∷ []) → ⊥
first_alone_refused p fuel t m n e takes alive over gone = go (gone.next m n t e (0, λ _. Some m) takes)
  where
    go : HasSpent m ⊎ IsCoveredFull fuel (m ∷ []) (refuelled fuel n) → ⊥
    go (inl spent) = alive spent
    go (inr c) =
        let same : refuelled fuel n ≡ m =
        stays fuel (refuelled fuel n) c.machine c.entries over c.alone ∙ sym (seen_alone m c.machine c.is_seen.0 c.is_seen.1) in
        over t e n (subst (λ (z : PlainMachine). take z t e ≡ Some n) (sym same) takes)
