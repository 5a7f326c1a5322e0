-- No more wait than there are threads.
use Rattle.std.proofs.Common.{◌≡◌, inl, inr, ℕ, zero, suc, ◌+◌, ◌<◌, ◌≤◌, ◌==◌, not, cond, Bool}
use Rattle.std.proofs.Common.{true, false, List, [], ◌∷◌, length, refl, ap, ◌∙◌, subst, arith}
use Rattle.std.specs.List.{AllByRecursion}
use Rattle.std.proofs.lemmas.Bool.{cases_eq}
use Rattle.std.proofs.lemmas.Bool.Decides.{nat_tests}
use Rattle.plain_monitor.specs.Listed.{times_in}
use Rattle.plain_monitor.specs.Monitor.{without}
use Rattle.plain_machine.proofs.Listed.{length-without}
use Rattle.plain_machine.proofs.Tallies.{tally_without, tally_without_other}

-- those below n + 1, but for n, are below n
rest_below : (n : ℕ) (ps : List (ℕ × ℕ)) → AllByRecursion (λ p. p.0 < n + 1) ps → AllByRecursion (λ p. p.0 < n) (without ps n)
rest_below n [] all = tt
rest_below n (p ∷ ps) all = by_test (p.0 == n) refl (rest_below n ps all.1)
  where
    by_test : (b : Bool) → (p.0 == n) ≡ b → AllByRecursion (λ p. p.0 < n) (without ps n)
        → AllByRecursion (λ p. p.0 < n) (cond (not b) (p ∷ without ps n) (without ps n))
    by_test true e rest = rest
    by_test false e rest = let here = all.0 in (grind (arith, nat_tests, e, here), rest)

-- nor is any of them listed more often than before
rest_once : (n : ℕ) (ps : List (ℕ × ℕ)) → ((t : ℕ) → times_in ps t ≤ 1) → (t : ℕ) → times_in (without ps n) t ≤ 1
rest_once n ps once t = elim (cases_eq t n) [
  | inl same ↦ let none : times_in (without ps n) t ≡ 0 = ap (times_in (without ps n)) same ∙ tally_without (λ p. 1) ps n in omega (arith, none)
  | inr other ↦ let kept = tally_without_other (λ p. 1) ps n t other in let here = once t in omega (arith, kept, here)
]

pub listed_few : (n : ℕ) (ps : List (ℕ × ℕ)) → AllByRecursion (λ p. p.0 < n) ps → ((t : ℕ) → times_in ps t ≤ 1) → length ps ≤ n
listed_few zero [] all once = omega arith
listed_few zero (p ∷ ps) all once = let here = all.0 in absurd (omega (arith, here))
listed_few (suc n) ps all once =
    let more : suc n ≡ n + 1 = omega arith in
    let here = once n in
    let whole = length-without ps n in
    let below : AllByRecursion (λ p. p.0 < n + 1) ps = subst (λ k. AllByRecursion (λ (p : ℕ × ℕ). p.0 < k) ps) more all in
    let rest = listed_few n (without ps n) (rest_below n ps below) (rest_once n ps once) in
    omega (arith, here, whole, rest)
