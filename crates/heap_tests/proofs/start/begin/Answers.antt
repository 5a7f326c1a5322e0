use Rattle.std.proofs.Common.{◌≡◌, List, [], ◌∷◌, ◌++◌, ap, sym, ◌∙◌, subst}
use Rattle.heap_table.specs.Seen.{PassSeen, first_pass}
use Rattle.heap_table.specs.Fresh.{IsFresh}
use Rattle.heap_tests.proofs.start.begin.Goals as goal

-- the last two of two
last_two : {A : Type 0} (xs : List A) (a b x y : A) → ((xs ++ (x ∷ [])) ++ (y ∷ [])) ≡ a ∷ b ∷ [] → (x ≡ a) × (y ≡ b)
last_two [] a b x y e = (cc e, cc e)
last_two (z ∷ []) a b x y e = absurd (cc e)
last_two (z ∷ w ∷ []) a b x y e = absurd (cc e)
last_two (z ∷ w ∷ v ∷ xs) a b x y e = absurd (cc e)

are : (c : goal.After-drop-passes-2)
    → (c.in_ok-first.first.value ≡ first_pass c.in_ok-heap.heap.value 86 0)
    × (c.in_ok-second.second.value ≡ first_pass c.in_ok-heap.heap.value 86 1)
are c = last_two c.last-2.new.passes.items _ _ _ _
    (ap (λ (l : List PassSeen). l ++ (c.in_ok-second.second.value ∷ [])) (sym c.in_ok-first.ensures)
    ∙ sym c.in_ok-second.ensures ∙ c.in_ok-heap.ensures.passes)

pub returns-clause-heap : goal.returns-clause-heap
returns-clause-heap c = c.in_ok-heap.ensures.heap

pub returns-clause-limit : goal.returns-clause-limit
returns-clause-limit c = (ap (λ (p : PassSeen). p.limit) (are c).0, ap (λ (p : PassSeen). p.limit) (are c).1)

pub returns-clause-fresh : goal.returns-clause-fresh
returns-clause-fresh c = (
  subst (IsFresh c.in_ok-heap.heap.value 0) (sym (are c).0) c.in_ok-heap.ensures.fresh.0,
  subst (IsFresh c.in_ok-heap.heap.value 1) (sym (are c).1) c.in_ok-heap.ensures.fresh.1,
)
