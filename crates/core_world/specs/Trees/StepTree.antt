-- The steps that are to do, as a tree: what comes after a step is a function of the word that the step finds.
use Rattle.std.specs.Prelude.{ℕ, zero, suc, ◌+◌, List, [], ◌∷◌, Bool, true, false, Option, Some, None}
use Rattle.core_world.specs.declared.plan.StepPlan.{StepPlan}

pub data StepTree (A : Type 0) : Type 0 where
  -- nothing more is to do, and this is the answer
  done : A → StepTree A
  -- a valid world doesn't come here
  unreachable : StepTree A
  step : StepPlan → (ℕ → StepTree A) → StepTree A

infixl 10 ◌>>=◌
-- first the one, then what its answer asks for
abbrev pub ◌>>=◌ : {A B : Type 0} → StepTree A → (A → StepTree B) → StepTree B
done a >>= g = g a
unreachable >>= g = unreachable
step p f >>= g = step p (λ n. f n >>= g)

-- one step, which answers the word that it finds
abbrev pub ask : StepPlan → StepTree ℕ
ask p = step p done

-- the steps for each of n numbers from i on, and the list of their answers
abbrev pub each_from : {A : Type 0} → ℕ → ℕ → (ℕ → StepTree A) → StepTree (List A)
each_from i zero f = done []
each_from i (suc n) f = do
  first ← f i
  others ← each_from (i + 1) n f
  done (first ∷ others)

-- the same where the steps answer nothing
abbrev pub all_from : ℕ → ℕ → (ℕ → StepTree (Unit {0})) → StepTree (Unit {0})
all_from i zero f = done tt
all_from i (suc n) f = do
  _ ← f i
  all_from (i + 1) n f

-- what is to do after this answer, and after these answers, the newest first
abbrev pub after_answer : {A : Type 0} → StepTree A → ℕ → StepTree A
after_answer (step p f) n = f n
after_answer _ n = unreachable

abbrev pub after_answers : {A : Type 0} → StepTree A → List ℕ → StepTree A
after_answers d [] = d
after_answers d (n ∷ ns) = after_answer (after_answers d ns) n

abbrev pub is_over : {A : Type 0} → StepTree A → Bool
is_over (done a) = true
is_over unreachable = false
is_over (step p f) = false

-- the step that is to come
abbrev pub head : {A : Type 0} → StepTree A → Option StepPlan
head (step p f) = Some p
head _ = None
