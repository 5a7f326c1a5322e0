-- How a thread stands after its calls: the words that its steps found on the safepoint word stood in sound worlds, so they were true of it.
use Rattle.std.proofs.Common.{◌≡◌, ℕ, ◌<◌, not, List, [], ◌∷◌, ◌++◌, Option, Some, None, Result, Ok, Err, refl, sym, ap, ◌∙◌, subst, inl, inr}
use Rattle.mark_word.specs.declared.safe.SafeForm.{SafeForm}
use Rattle.mark_word.specs.Safe.{read_safe}
use Rattle.core_world.specs.declared.answer.Progress.{Progress}
use Rattle.core_world.specs.declared.answer.Progress.TheVariants.{Done, Pending}
use Rattle.core_world.specs.declared.answer.PendingCause.TheVariants as why
use Rattle.core_world.specs.declared.word_id.WordId.TheVariants.{Safepoint}
use Rattle.core_world.specs.declared.plan.StepPlan.{StepPlan}
use Rattle.core_world.specs.Clauses.WordForms.{IsSafepoint}
use Rattle.core_world.specs.Due.{Ran}
use Rattle.core_world.specs.Steps.{known_after, known_along}
use Rattle.core_world.specs.Threads.ThreadView.{ThreadView, StepMade}
use Rattle.core_world.specs.Trees.StepTree.{StepTree}
use Rattle.core_world.specs.Valid.{FormsFit, SafepointFits}
use Rattle.core_world.specs.Words.Forms.{runs_in, asks_in}
use Rattle.core_world.specs.Words.Shape.{Shape}
use Rattle.core_world.specs.World.{World}
use Rattle.core_law.specs.Logic.{Heap, SoundWorldWith}
use Rattle.core_law.proofs.Standing.{few_threads}
use Rattle.core_calls.specs.Paths.{Says}
use Rattle.core_calls.specs.Stands.{Stand, IsTrueOf, FoundTrue, ThreadStandsAlong, ProgressStands, ResultStands, stand_of, stand_after_steps, begun}
use Rattle.core_calls.proofs.Runs.{on_path, knows}
use Rattle.core_calls.proofs.StandsKnown.{thread_along, stand_along, stands_known}
use Rattle.heap_table.specs.Resting.{start_now}
use Rattle.heap_table.specs.Ruled.{known_after_steps, Stepped, WereMade}
use Rattle.heap_table.specs.Seen.{HeapSeen, PassSeen, IsOf}
use Rattle.lock_runtime.specs.Standing.{StandsAfterTurn, StandsOrSame}
use Rattle.lock_runtime.specs.Others.{PendsForAnother, PendsOrRefused}

-- THE WORD THAT A STEP FOUND on the safepoint word was true of its thread.
form_in : (s : Shape) (word : ℕ) → IsSafepoint s (read_safe word) → (f : SafeForm) × (read_safe word ≡ Some f)
form_in s word is = cases (read_safe word) refl is
  where
    cases : (form : Option SafeForm) → read_safe word ≡ form → IsSafepoint s form → (f : SafeForm) × (read_safe word ≡ Some f)
    cases None reads is = absurd is
    cases (Some f) reads is = (f, reads)

true_of : (heap : Heap) (k : ThreadView) (plan : StepPlan) (n : ℕ) → Stepped heap k plan n → plan.at ≡ Safepoint → IsTrueOf k.thread (stand_of k) n
true_of heap k plan n s at =
    let w : World = s.world in
    let valid = s.sound.valid in
    let forms : FormsFit w = elim valid.is [ inl a ↦ a.0.forms | inr a ↦ a.0.forms ] in
    let safe : SafepointFits w valid.objects = elim valid.is [ inl a ↦ a.0.safe | inr a ↦ a.0.safe ] in
    let word : w.words Safepoint ≡ n = ap w.words (sym at) ∙ s.was_there in
    let f = form_in w.shape (w.words Safepoint) forms.safepoint in
    record {
      form = f.0;
      spells = ap read_safe (sym word) ∙ f.1;
      runs = ap (λ m. runs_in m k.thread) (sym word) ∙ safe.bits k.thread ∙ ap (λ (x : ThreadView). x.running) s.knew;
      asks = ap (λ m. asks_in m k.thread) (sym word) ∙ safe.requester k.thread ∙ ap (λ (x : ThreadView). x.requesting) s.knew;
    }

module _ (heap : Heap) (t : ℕ) (k : ThreadView) (thread : k.thread ≡ t) (base : List StepMade) (is : known_after_steps heap t base ≡ k) where
  pub after_along : (ms : List StepMade) → known_after_steps heap t (ms ++ base) ≡ known_along heap.shape heap.start ms k
  after_along [] = is
  after_along (m ∷ ms) = ap (known_after heap.shape heap.start m.plan m.found) (after_along ms)

  found_true : (ms : List StepMade) → WereMade heap t (ms ++ base) → FoundTrue t (stand_of k) ms
  found_true [] were = tt
  found_true (m ∷ ms) were = (
    (λ at.
        let l = known_along heap.shape heap.start ms k in
        let so = true_of heap l m.plan m.found (subst (λ (x : ThreadView). Stepped heap x m.plan m.found) (after_along ms) were.0) at in
        let same : l.thread ≡ t = thread_along heap.shape heap.start ms k ∙ thread in
        let stands : stand_of l ≡ stand_after_steps t ms (stand_of k) =
        stand_along heap.shape heap.start ms k ∙ ap (λ u. stand_after_steps u ms (stand_of k)) thread in
        subst (λ (b : Stand). IsTrueOf t b m.found) stands (subst (λ u. IsTrueOf u (stand_of l) m.found) same so)),
    found_true ms were.1,
  )

-- what a pass knows, it knew in a sound world
pub sound_world : (h : HeapSeen) (p : PassSeen) → IsOf h p → SoundWorldWith h.heap p.known
sound_world h p is_of =
    let r = is_of.real in
    record { world = r.world; objects = r.sound.valid.objects; is_of = r.is_of; knows = r.knew; within = is_of.within; valid = r.sound.valid.is }

module _ (h : HeapSeen) (p q : PassSeen) (of_p : IsOf h p) (of_q : IsOf h q) where
  -- its thread has a bit in the word
  pub low : p.known.thread < 32
  low = few_threads h.heap p.known (sound_world h p of_p)

  module _ {A : Type 0} (d : StepTree A) (a : A) (ran : Ran h.heap.shape h.heap.start d p.known q.known a) where
    -- all steps that the pass made in this run were made in sound worlds
    pub were_made : WereMade h.heap p.known.thread ((knows ran).steps ++ p.known.steps)
    were_made =
        let f = knows ran in
        let thread : q.known.thread ≡ p.known.thread = ap (λ (x : ThreadView). x.thread) f.known ∙ thread_along h.heap.shape h.heap.start f.steps p.known in
        subst (λ (ms : List StepMade). WereMade h.heap p.known.thread ms) f.added (subst (λ t. WereMade h.heap t q.known.steps) thread of_q.real.made)

    -- so what is said of how a thread stands after the tree's steps holds
    pub stands : (P : Stand → A → Type 0) → ThreadStandsAlong p.known.thread (stand_of p.known) d P → P (stand_of q.known) a
    stands P so =
        let f = knows ran in
        stands_known h.heap.shape h.heap.start d p.known q.known a P f so
        (found_true h.heap p.known.thread p.known refl p.known.steps (sym of_p.real.is) f.steps were_made)

    pub operates : not p.known.requesting ≡ p.known.running → (P : Stand → A → Type 0) → ThreadStandsAlong p.known.thread (begun (start_now h p)) d P
        → P (stand_of q.known) a
    operates so P law = stands P (subst (λ b. ThreadStandsAlong p.known.thread (record { running = b; asking = p.known.requesting }) d P) so law)

-- WHAT IS SAID OF ANSWERS
pub progress_after : {A : Type 0} (t : ℕ) (l : ThreadView) (progress : Progress A)
    → ProgressStands t (stand_of l) progress → StandsAfterTurn l progress × PendsForAnother t progress
progress_after t l (Done a) so = (record { runs = so.runs; asks = so.asks }, tt)
progress_after t l (Pending (why.Stopping word)) so = (record { runs = so.0.runs; asks = so.0.asks }, so.1)
progress_after t l (Pending _) so = (record { runs = so.0.runs; asks = so.0.asks }, so.1)

-- a refusal comes without a step, and leaves what the thread knows
pub refused_same : {A E : Type 0} (s : Shape) (start : ℕ) (d : StepTree (Result A E)) (k l : ThreadView) (e : E) (P : List StepMade → Result A E → Type 0)
    → Says d P → ((ms : List StepMade) → P ms (Err e) → ms ≡ []) → Ran s start d k l (Err e)
    → l ≡ k
refused_same s start d k l e P says none ran =
    let f = knows ran in
    f.known ∙ ap (λ (ms : List StepMade). known_along s start ms k) (none f.steps (on_path P d [] f.steps (Err e) says.by f.path))

pub result_after : {A E : Type 0} (s : Shape) (start : ℕ) (d : StepTree (Result (Progress A) E)) (k l : ThreadView) (r : Result (Progress A) E)
    → (P : List StepMade → Result (Progress A) E → Type 0) → Says d P → ((ms : List StepMade) (e : E) → P ms (Err e) → ms ≡ [])
    → Ran s start d k l r → ResultStands k.thread (stand_of l) r → StandsOrSame k l r × PendsOrRefused k.thread r
result_after s start d k l (Ok progress) P says none ran so = progress_after k.thread l progress so
result_after s start d k l (Err e) P says none ran so = (refused_same s start d k l e P says (λ ms x. none ms e x) ran, tt)
