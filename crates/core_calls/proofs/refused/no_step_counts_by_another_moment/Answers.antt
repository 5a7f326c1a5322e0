use Rattle.std.proofs.Common.{◌≡◌, ℕ, true, List, [], ◌∷◌, subst, arith}
use Rattle.std.proofs.lemmas.Bool.Decides.{nat_tests}
use Rattle.std.proofs.lemmas.List.{append_cancel_right}
use Rattle.std.specs.List.{AllByRecursion}
use Rattle.mark_word.specs.Safe.{read_safe}
use Rattle.lock_policy.specs.Policy.{is_reset}
use Rattle.core_world.specs.Trees.Calls.{steps_of}
use Rattle.core_world.specs.declared.heap_call.HeapCall.TheVariants as task
use Rattle.core_calls.proofs.refused.no_step_counts_by_another_moment.Goals as goal

first_all : {A : Type 0} (P : A → Type 0) (x : A) (xs : List A) → x ∷ [] ≡ xs → AllByRecursion P xs → P x
first_all P x [] is all = absurd (cc is)
first_all P x (y ∷ ys) is all = let same : y ≡ x = cc is in subst P same all.0

never_reset : (count last : ℕ) → true ≡ is_reset count last 1 → ⊥
never_reset count last so = absurd (grind (arith, nat_tests))

pub returns-clause-task : goal.returns-clause-task
unfolding steps_of read_safe
returns-clause-task z s k says = let other : task.Poll ≡ task.Stop = (says.by 0).0.call in absurd (cc other)

pub returns-clause-lone : goal.returns-clause-lone
returns-clause-lone z s at class found verdict reset so = let none = so.counts.given in absurd (cc none)

pub returns-clause-reset : goal.returns-clause-reset
returns-clause-reset z s at o class found verdict so =
    let now : so.counts.now ≡ 1 = cc (so.counts.given) in
    let decided = so.counts.decided in
    never_reset decided.count decided.last (subst (λ (n : ℕ). true ≡ is_reset decided.count decided.last n) now decided.is)

pub returns-clause-counts : goal.returns-clause-counts
returns-clause-counts z k v so =
    let one = append_cancel_right (v ∷ []) so.counted k.counts so.counts in
    let given = (first_all _ v so.counted one so.by).given in absurd (cc given)

pub returns-clause-steps : goal.returns-clause-steps
returns-clause-steps z k at found so =
    let one = append_cancel_right (_ ∷ []) so.steps k.steps so.added in
    let other = (first_all _ _ so.steps one so.of).call in absurd (cc other)
