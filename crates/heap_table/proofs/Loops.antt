-- Parts made one after another: what is due of them, and the run that a loop has made.
use Rattle.std.proofs.Common.{◌≡◌, ℕ, suc, ◌+◌, List, ◌∷◌, refl, ◌∙◌, subst}
use Rattle.core_world.specs.Trees.StepTree.{StepTree, done, unreachable, step, ◌>>=◌, each_from}
use Rattle.heap_table.specs.Parts.{HasMadeSteps}
use Rattle.heap_table.specs.Seen.{HeapSeen, PassSeen}
use Rattle.heap_table.proofs.Parts.{in_turn}

-- the order of brackets doesn't matter, nor an end after the end
pub binds : {A B C : Type 0} (d : StepTree A) (g : A → StepTree B) (h : B → StepTree C) → ((d >>= g) >>= h) ≡ (d >>= (λ a. g a >>= h))
binds (done a) g h = refl
binds unreachable g h = refl
binds (step p f) g h = λ i. step p (λ n. binds (f n) g h i)

pub bind_done : {A : Type 0} (d : StepTree A) → (d >>= done) ≡ d
bind_done (done a) = refl
bind_done unreachable = refl
bind_done (step p f) = λ i. step p (λ n. bind_done (f n) i)

-- what follows the n parts from i on, where there is one more: the first of them, and then what follows the others
pub each_next : {A B : Type 0} (i n : ℕ) (f : ℕ → StepTree A) (g : List A → StepTree B)
    → (each_from i (suc n) f >>= g) ≡ (f i >>= (λ x. each_from (i + 1) n f >>= (λ others. g (x ∷ others))))
each_next i n f g =
    binds (f i) (λ x. each_from (i + 1) n f >>= (λ others. done (x ∷ others))) g
    ∙ λ j. f i >>= (λ x. binds (each_from (i + 1) n f) (λ others. done (x ∷ others)) g j)

-- A loop has come so far: whoever runs the rest x from here with an answer has run the whole d from o with it.
pub record HasCome {A : Type 0} (h : HeapSeen) (d : StepTree A) (o : PassSeen) (x : StepTree A) (p : PassSeen) : Type 0 where
  pub through : (q : PassSeen) (a : A) → HasMadeSteps h x p q a → HasMadeSteps h d o q a

module _ {A : Type 0} (h : HeapSeen) (d : StepTree A) (o : PassSeen) where
  pub nothing_yet : HasCome h d o d o
  nothing_yet = record { through = λ q a run. run }

  -- it goes on by one part
  pub comes_on : {B : Type 0} (x : StepTree B) (g : B → StepTree A) (p q : PassSeen) (b : B)
      → HasCome h d o (x >>= g) p → HasMadeSteps h x p q b → HasCome h d o (g b) q
  comes_on x g p q b come run = record { through = λ r a rest. come.through r a (in_turn h p q r x g b a run rest) }

  -- the rest is this, too
  pub comes_as : (x y : StepTree A) (p : PassSeen) → x ≡ y → HasCome h d o x p → HasCome h d o y p
  comes_as x y p same come = subst (λ z. HasCome h d o z p) same come
