-- Loops over parts: what is left after some rounds.
use Rattle.std.proofs.Common.{◌≡◌, ℕ, suc, ◌+◌, ◌-◌, ◌<◌, ◌≤◌, List, [], ◌∷◌, ap, arith}
use Rattle.core_world.specs.declared.heap_call.HeapCall.{HeapCall}
use Rattle.core_world.specs.Trees.StepTree.{StepTree, ◌>>=◌, all_from, each_from}
use Rattle.heap_table.specs.Parts.{IsDueOn, HasMadeSteps}
use Rattle.heap_table.specs.Seen.{HeapSeen, PassSeen}
use Rattle.heap_table.proofs.Loops.{each_next}
use Rattle.heap_table.proofs.StepsLeft.{AreLeft, left_as, part_of, all_made}
use Rattle.safepoint_work.proofs.After.{IsOfTask, left_after}

-- PARTS THAT ANSWER NOTHING: of those for the numbers below n the ones from i on are left.
pub record RoundsLeft (h : HeapSeen) (t : HeapCall) (o : PassSeen) (d : StepTree (Unit {0})) (n : ℕ) (f : ℕ → StepTree (Unit {0})) (i : ℕ)
    (p : PassSeen) : Type 0 where
  pub left : AreLeft h t o d p (all_from i (n - i) f)

module _ {h : HeapSeen} {t : HeapCall} {o p : PassSeen} {d : StepTree (Unit {0})} {n : ℕ} {f : ℕ → StepTree (Unit {0})} where
  pub no_round : AreLeft h t o d p (all_from 0 n f) → RoundsLeft h t o d n f 0 p
  no_round left = let all : n ≡ n - 0 = omega arith in record { left = left_as left (ap (λ m. all_from 0 m f) all) }

  module _ {i : ℕ} (r : RoundsLeft h t o d n f i p) where
    module _ (less : i < n) where
      next : AreLeft h t o d p (f i >>= (λ _. all_from (i + 1) (n - (i + 1)) f))
      next = let one : n - i ≡ suc (n - (i + 1)) = omega (arith, less) in left_as r.left (ap (λ m. all_from i m f) one)

      pub round_due : IsDueOn h p t (f i)
      round_due = part_of (λ _. all_from (i + 1) (n - (i + 1)) f) next

      pub round_made : {q : PassSeen} {u : Unit {0}} → HasMadeSteps h (f i) p q u → IsOfTask t (f i) → RoundsLeft h t o d n f (i + 1) q
      round_made run of = record { left = left_after (λ _. all_from (i + 1) (n - (i + 1)) f) run of next }

    pub all_rounds : n ≤ i → HasMadeSteps h d o p tt
    all_rounds over = let none : n - i ≡ 0 = omega (arith, over) in all_made (left_as r.left (ap (λ m. all_from i m f) none))

-- PARTS THAT ANSWER: those from i on are left, and what g makes of their answers.
pub record AnswersLeft {A B : Type 0} (h : HeapSeen) (t : HeapCall) (o : PassSeen) (d : StepTree B) (n : ℕ) (f : ℕ → StepTree A)
    (g : List A → StepTree B) (i : ℕ) (p : PassSeen) : Type 0 where
  pub left : AreLeft h t o d p (each_from i (n - i) f >>= g)

module _ {A B : Type 0} {h : HeapSeen} {t : HeapCall} {o p : PassSeen} {d : StepTree B} {n : ℕ} {f : ℕ → StepTree A} {g : List A → StepTree B} where
  pub no_answer : AreLeft h t o d p (each_from 0 n f >>= g) → AnswersLeft h t o d n f g 0 p
  no_answer left = let all : n ≡ n - 0 = omega arith in record { left = left_as left (ap (λ m. each_from 0 m f >>= g) all) }

  module _ {i : ℕ} (r : AnswersLeft h t o d n f g i p) where
    module _ (less : i < n) where
      after : A → StepTree B
      after x = each_from (i + 1) (n - (i + 1)) f >>= (λ others. g (x ∷ others))

      following : AreLeft h t o d p (f i >>= after)
      unfolding after
      following =
          let one : n - i ≡ suc (n - (i + 1)) = omega (arith, less) in
          left_as (left_as r.left (ap (λ m. each_from i m f >>= g) one)) (each_next i (n - (i + 1)) f g)

      pub answer_due : IsDueOn h p t (f i)
      answer_due = part_of after following

      -- and k makes of the others what g makes of them and of this one
      pub answered : {q : PassSeen} {x : A} {k : List A → StepTree B} → HasMadeSteps h (f i) p q x → IsOfTask t (f i)
          → ((others : List A) → g (x ∷ others) ≡ k others) → AnswersLeft h t o d n f k (i + 1) q
      unfolding after
      answered run of same =
          record { left = left_as (left_after after run of following) (λ j. each_from (i + 1) (n - (i + 1)) f >>= (λ others. same others j)) }

    pub all_answers : n ≤ i → AreLeft h t o d p (g [])
    all_answers over = let none : n - i ≡ 0 = omega (arith, over) in left_as r.left (ap (λ m. each_from i m f >>= g) none)
