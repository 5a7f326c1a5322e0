-- What is left of a call after a step, and after a run of its steps.
use Rattle.std.proofs.Common.{◌≡◌, ℕ, ◌&&◌, Bool, true, false, cond, [], ◌∷◌, Option, Some, None, refl, sym, ap, ◌∙◌, inl, inr}
use Rattle.core_world.specs.declared.plan.StepPlan.{StepPlan}
use Rattle.core_world.specs.declared.heap_call.HeapCall.{HeapCall}
use Rattle.core_world.specs.Words.Acts.{hits}
use Rattle.core_world.specs.Words.Shape.{Shape}
use Rattle.core_world.specs.Threads.Stages.{is_calm}
use Rattle.core_world.specs.Threads.ThreadView.{ThreadView, CallUnderway, start_of}
use Rattle.core_world.specs.Trees.StepTree.{StepTree, done, unreachable, step, ◌>>=◌, head, after_answer, is_over}
use Rattle.core_world.specs.Trees.Calls.{steps_of, may_begin}
use Rattle.core_world.specs.Steps.{rest_of_call, is_idle, left_of, with_answer, call_after, known_hit, known_miss, known_after}
use Rattle.core_world.specs.Due.{steps_due, IsNext, IsDue, Runs}

module _ (s : Shape) (start : ℕ) (k : ThreadView) (p : StepPlan) (n : ℕ) where
  call_is : (known_after s start p n k).call ≡ call_after s start p n k
  call_is = cases (hits p.act n)
    where
      cases : (b : Bool) → (cond b (known_hit s start p n k) (known_miss s start p n k)).call ≡ call_after s start p n k
      cases true = refl
      cases false = refl

  rest_is : rest_of_call s (known_after s start p n k) ≡ left_of s (call_after s start p n k)
  rest_is = ap (left_of s) call_is

  -- a step of a thread whose call is over begins a call
  pub begun_rest : is_idle s k ≡ true → rest_of_call s (known_after s start p n k) ≡ after_answer (steps_of s p.task (start_of start k)) n
  begun_rest e =
      let a : call_after s start p n k ≡ Some (record { task = p.task; start = start_of start k; answers = n ∷ [] }) =
      ap (λ (b : Bool). cond b (Some (record { task = p.task; start = start_of start k; answers = n ∷ [] })) (with_answer n k.call)) e in
      rest_is ∙ ap (left_of s) a

  -- and another goes on with its call
  pub gone_rest : is_idle s k ≡ false → rest_of_call s (known_after s start p n k) ≡ after_answer (rest_of_call s k) n
  unfolding is_idle
  gone_rest e =
      let a : call_after s start p n k ≡ with_answer n k.call =
      ap (λ (b : Bool). cond b (Some (record { task = p.task; start = start_of start k; answers = n ∷ [] })) (with_answer n k.call)) e in
      rest_is ∙ ap (left_of s) a ∙ cases k.call refl
    where
      cases : (c : Option CallUnderway) → k.call ≡ c → left_of s (with_answer n c) ≡ after_answer (left_of s c) n
      cases None f = absurd (cc (e, ap (λ (z : Option CallUnderway). left_of s z) f))
      cases (Some b) f = refl

-- THE STEPS THAT ARE DUE
module _ (s : Shape) (start : ℕ) (biasing : Bool) where
  going : (k : ThreadView) (p : StepPlan) (f : ℕ → StepTree (Unit {0})) → rest_of_call s k ≡ step p f → is_idle s k ≡ false
  unfolding is_idle
  going k p f e = ap is_over e

  module _ {A : Type 0} (k : ThreadView) (t : HeapCall) (p : StepPlan) (f : ℕ → StepTree A) (d : IsDue s start biasing k t (step p f)) (task : p.task ≡ t) where
    -- the first of them is the next step
    pub next_due : IsNext s start biasing k p
    unfolding steps_due
    next_due = elim d.is [
      | inl left ↦
          ap (λ (b : Bool). head (cond b (cond (is_calm k.stage && may_begin s biasing k p.task) (steps_of s p.task (start_of start k)) unreachable)
          (rest_of_call s k))) (going k p (λ n. f n >>= d.after) left)
          ∙ ap head left
      | inr b ↦
          ap (λ (z : Bool). head (cond z
          (cond (is_calm k.stage && may_begin s biasing k p.task) (steps_of s p.task (start_of start k)) unreachable) (rest_of_call s k))) b.over
          ∙ ap (λ (x : HeapCall). head (cond (is_calm k.stage && may_begin s biasing k x) (steps_of s x (start_of start k)) unreachable)) task
          ∙ ap (λ (z : Bool). head (cond z (steps_of s t (start_of start k)) unreachable)) b.may
          ∙ ap head b.is
    ]

    -- and after it the others are due
    left_after : (n : ℕ) → rest_of_call s (known_after s start p n k) ≡ (f n >>= d.after)
    left_after n = elim d.is [
      | inl left ↦ gone_rest s start k p n (going k p (λ n. f n >>= d.after) left) ∙ ap (λ z. after_answer z n) left
      | inr b ↦ begun_rest s start k p n b.over ∙ ap (λ (x : HeapCall). after_answer (steps_of s x (start_of start k)) n) task ∙ ap (λ z. after_answer z n) b.is
    ]

    pub then_due : (n : ℕ) → IsDue s start biasing (known_after s start p n k) t (f n)
    then_due n = record { after = d.after; is = inl (left_after n) }

  -- the first part of steps that are due is due, and then the rest
  pub part_due : {A B : Type 0} (k : ThreadView) (t : HeapCall) (d : StepTree A) (g : A → StepTree B)
      → IsDue s start biasing k t (d >>= g) → IsDue s start biasing k t d
  part_due k t d g due = record {
    after = λ a. g a >>= due.after;
    is = elim due.is [
      | inl left ↦ inl (left ∙ binds d g due.after)
      | inr b ↦ inr (record { over = b.over; may = b.may; is = b.is ∙ binds d g due.after })
    ];
  }
    where
      binds : {A B C : Type 0} (d : StepTree A) (g : A → StepTree B) (h : B → StepTree C) → ((d >>= g) >>= h) ≡ (d >>= (λ a. g a >>= h))
      binds (done a) g h = refl
      binds unreachable g h = refl
      binds (step p f) g h = λ i. step p (λ n. binds (f n) g h i)

  -- after a run of a call's steps that are due what they ask for is due
  run_rest : {A : Type 0} (d : StepTree A) (after : A → StepTree (Unit {0})) (k l : ThreadView) (a : A)
      → rest_of_call s k ≡ (d >>= after) → Runs s start d k l a → rest_of_call s l ≡ after a
  run_rest (done b) after k l a left run = ap (rest_of_call s) run.0 ∙ left ∙ ap after (sym run.1)
  run_rest unreachable after k l a left run = absurd run
  run_rest (step p f) after k l a left run =
      run_rest (f run.0) after (known_after s start p run.0 k) l a (left_after k p.task p f (record { after = after; is = inl left }) refl run.0) run.1

  -- whatever run of at least one step
  pub ran_due : {A B : Type 0} (k l : ThreadView) (t : HeapCall) (p : StepPlan) (f : ℕ → StepTree A) (g : A → StepTree B) (a : A)
      → IsDue s start biasing k t (step p f >>= g) → p.task ≡ t
      → Runs s start (step p f) k l a → IsDue s start biasing l t (g a)
  unfolding part_due
  ran_due k l t p f g a due task run =
      let one = part_due k t (step p f) g due in
      record { after = due.after; is = inl (run_rest (f run.0) one.after (known_after s start p run.0 k) l a (left_after k t p f one task run.0) run.1) }

  -- a call whose steps all ran is over
  pub ran_over : {A : Type 0} (k l : ThreadView) (t : HeapCall) (p : StepPlan) (f : ℕ → StepTree A)
      (a : A) (due : IsDue s start biasing k t (step p f)) → p.task ≡ t → Runs s start (step p f) k l a
      → is_over (due.after a) ≡ true → is_idle s l ≡ true
  unfolding is_idle
  ran_over k l t p f a due task run over =
      ap is_over (run_rest (f run.0) due.after (known_after s start p run.0 k) l a (left_after k t p f due task run.0) run.1) ∙ over
