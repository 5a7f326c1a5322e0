-- What a thread knows after its step.
use Rattle.std.proofs.Common.{◌≡◌, ℕ, ◌<◌, eq-eqb, ne_eqb, ◌≢◌, Bool, true, false, List, ◌∷◌, cond, refl, sym, ap, ◌∙◌, subst}
use Rattle.core_world.specs.declared.plan.StepPlan.{StepPlan}
use Rattle.core_world.specs.Due.{IsNext}
use Rattle.core_world.specs.There.{IsThere}
use Rattle.core_world.specs.Words.Acts.{hits}
use Rattle.core_world.specs.Threads.ThreadView.{ThreadView, StepMade}
use Rattle.core_world.specs.Words.Shape.{Shape}
use Rattle.core_world.specs.Steps.{known_after, known_hit, known_miss, world_after}
use Rattle.core_world.specs.Steps.{rest_of_call}
use Rattle.core_world.specs.World.{World, with_known}
use Rattle.core_law.specs.Logic.{Heap, Was}
use Rattle.core_law.specs.Reached.{is_reachable}
use Rattle.core_law.proofs.Lawful.{sound_comes, known_step_there}
use Rattle.heap_table.specs.Ruled.{known_after_steps, WereMade, IsReal, Stepped}
use Rattle.heap_table.proofs.Lawful.{law_of}

pub same_thread : (s : Shape) (start : ℕ) (p : StepPlan) (n : ℕ) (k : ThreadView) → (known_after s start p n k).thread ≡ k.thread
same_thread s start p n k = cases (hits p.act n)
  where
    cases : (b : Bool) → (cond b (known_hit s start p n k) (known_miss s start p n k)).thread ≡ k.thread
    cases true = refl
    cases false = refl

pub told_here : (t : ℕ) (k : ThreadView) (f : ℕ → ThreadView) → with_known t k f t ≡ k
told_here t k f = ap (λ (b : Bool). cond b k (f t)) (eq-eqb t t refl)

pub told_else : (t : ℕ) (k : ThreadView) (f : ℕ → ThreadView) (u : ℕ) → u ≢ t → with_known t k f u ≡ f u
told_else t k f u d = ap (λ (b : Bool). cond b k (f u)) (ne_eqb u t d)

-- in the sound world after a step what is left of the call comes to an end or to a next step
pub goes_on : (heap : Heap) (k : ThreadView) (p : StepPlan) (n : ℕ) (l : ThreadView)
    → Stepped heap k p n → k.thread < heap.shape.threads → l ≡ known_after heap.shape heap.start p n k
    → is_reachable (rest_of_call heap.shape l) ≡ true
goes_on heap k p n l was within is =
    let w : World = was.world in
    let here : (world_after p k.thread w).known k.thread ≡ known_after w.shape w.start p (w.words p.at) (w.known k.thread) =
    told_here k.thread (known_after w.shape w.start p (w.words p.at) (w.known k.thread)) w.known in
    let now : (world_after p k.thread w).known k.thread ≡ known_after heap.shape heap.start p n k =
    here ∙ λ i. known_after (was.is_of i).shape (was.is_of i).start p (was.was_there i) (was.knew i) in
    let a = sound_comes (world_after p k.thread w) k.thread was.sound_after (subst (λ (h : Heap). k.thread < h.shape.threads) (sym was.is_of) within) in
    (λ i. is_reachable (rest_of_call (sym was.is_of i).shape ((is ∙ sym now) i))) ∙ a

-- the step is the newest one of its thread
pub one_more : (s : Shape) (start : ℕ) (p : StepPlan) (n : ℕ) (k : ThreadView) → (known_after s start p n k).steps ≡ record { plan = p; found = n } ∷ k.steps
one_more s start p n k = cases (hits p.act n)
  where
    cases : (b : Bool) → (cond b (known_hit s start p n k) (known_miss s start p n k)).steps ≡ record { plan = p; found = n } ∷ k.steps
    cases true = refl
    cases false = refl

-- and its thread knows what the step makes of its knowledge
pub real_after : (heap : Heap) (k : ThreadView) (p : StepPlan) (n : ℕ) (l : ThreadView)
    → IsReal heap k → Stepped heap k p n → l ≡ known_after heap.shape heap.start p n k → IsReal heap l
real_after heap k p n l real was is =
    let w : World = was.world in
    let now : (world_after p k.thread w).known k.thread ≡ known_after heap.shape heap.start p n k =
    told_here k.thread (known_after w.shape w.start p (w.words p.at) (w.known k.thread)) w.known
    ∙ λ i. known_after (was.is_of i).shape (was.is_of i).start p (was.was_there i) (was.knew i) in
    let t : (known_after heap.shape heap.start p n k).thread ≡ k.thread = same_thread heap.shape heap.start p n k in
    let steps : (known_after heap.shape heap.start p n k).steps ≡ record { plan = p; found = n } ∷ k.steps = one_more heap.shape heap.start p n k in
    let before : known_after_steps heap k.thread (record { plan = p; found = n } ∷ k.steps) ≡ known_after heap.shape heap.start p n k =
    ap (known_after heap.shape heap.start p n) (sym real.is) in
    subst (IsReal heap) (sym is) (record {
      world = world_after p k.thread w;
      is_of = was.is_of;
      sound = was.sound_after;
      knew = subst (λ t. (world_after p k.thread w).known t ≡ known_after heap.shape heap.start p n k) (sym t) now;
      is = sym before ∙ λ i. known_after_steps heap (sym t i) (sym steps i);
      made = subst (λ (x : ℕ × List StepMade). WereMade heap x.0 x.1) (λ i. (sym t i, sym steps i))
          (subst (λ (b : ThreadView). Stepped heap b p n) real.is was, real.made);
      law = real.law;
    })

-- the heap has the word of the next step, and its thread a place for the shot that it takes
pub is_there : (heap : Heap) (k : ThreadView) (p : StepPlan) → IsNext heap.shape heap.start heap.biasing k p
    → k.thread < heap.shape.threads → IsReal heap k → IsThere heap.shape k p
is_there heap k p next within real = known_step_there heap k p next real.world real.is_of real.knew within ((law_of real.law).begins p.task) real.sound

-- what a step tells, in the terms of the law of all steps: there was a valid world in which the thread knew this and the step found n
pub was_of : (heap : Heap) (k : ThreadView) (p : StepPlan) (n : ℕ) → Stepped heap k p n → k.thread < heap.shape.threads → Was heap p k n
was_of heap k p n s within =
    record {
      stands = record { world = s.world; objects = s.sound.valid.objects; is_of = s.is_of; knows = s.knew; within = within; valid = s.sound.valid.is };
      found = s.was_there;
    }
