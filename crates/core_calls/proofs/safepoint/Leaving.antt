-- What a check, a stop and a resume leave in their thread's knowledge.
use Rattle.std.proofs.Common.{◌≡◌, ℕ, ◌==◌, ◌||◌, cond, Bool, true, false, List, [], ◌∷◌, length, Option, Some, None, refl, ap, ◌∙◌, inl, inr, eq-eqb, eqb-true, arith}
use Rattle.std.specs.Prelude.{bit_and}
use Rattle.mark_word.proofs.ReadingSafepoints.{read_safe-safe_of}
use Rattle.mark_word.specs.Safe.{read_safe}
use Rattle.core_world.specs.declared.act.Act.{Act}
use Rattle.core_world.specs.declared.act.Act.TheVariants.{CompareExchange}
use Rattle.core_world.specs.declared.word_id.WordId.{WordId}
use Rattle.core_world.specs.declared.word_id.WordId.TheVariants.{Safepoint}
use Rattle.core_world.specs.declared.plan.StepPlan.{StepPlan}
use Rattle.core_world.specs.declared.heap_call.HeapCall.TheVariants as task
use Rattle.core_world.specs.declared.answer.Progress.TheVariants.{Done}
use Rattle.core_world.specs.declared.answer.PendingCause.{PendingCause}
use Rattle.core_world.specs.declared.answer.PendingCause.TheVariants as why
use Rattle.core_world.specs.Words.Acts.{word_after, hits}
use Rattle.core_world.specs.Trees.Calls.{side_context}
use Rattle.core_world.specs.Due.{Runs, Ran}
use Rattle.core_world.specs.Words.Forms.{halted_form, is_halted, runs_in}
use Rattle.core_world.specs.Threads.ThreadView.{ThreadView, Local, StepMade, Start}
use Rattle.core_world.specs.Trees.Operations.{check_steps}
use Rattle.core_world.specs.Trees.Plans.{CallContext, load, done_with, pending_for}
use Rattle.core_world.specs.Words.Shape.{Shape}
use Rattle.core_world.specs.Trees.SafepointSteps.{all_but, running_too, halted_word, bar, unless, stop_steps, resume_plan, resume_swap_steps, resume_steps}
use Rattle.core_world.specs.Steps.{halted_after, known_after, known_hit, known_miss, known_along}
use Rattle.core_calls.specs.Causes.{Put}
use Rattle.core_calls.specs.Paths.{made}
use Rattle.core_calls.specs.CallsSay.{CheckSays}
use Rattle.core_calls.proofs.OtherCallsSay.{check_says}
use Rattle.core_calls.proofs.Runs.{on_path, knows, step_counts}

-- THE HALT. Once known it stays known, and a thread that sets it knows it.
halted_says : is_halted halted_word ≡ true
halted_says = ap halted_form (read_safe-safe_of (record { running = 0; requester = None; halted = true }) (omega arith, tt))

halt_stays : (at : WordId) (word : ℕ) (k : ThreadView) → k.halted ≡ true → halted_after at word k ≡ true
halt_stays Safepoint word k h = ap (λ (b : Bool). b || is_halted word) h
halt_stays _ word k h = h

halt_found : (k : ThreadView) → halted_after Safepoint halted_word k ≡ true
halt_found k = ap (λ (b : Bool). k.halted || b) halted_says ∙ or_true k.halted
  where
    or_true : (b : Bool) → (b || true) ≡ true
    or_true true = refl
    or_true false = refl

module _ (s : Shape) (start : ℕ) where
  step_halted : (p : StepPlan) (n : ℕ) (k : ThreadView) (b : Bool) → (cond b (known_hit s start p n k) (known_miss s start p n k)).halted
      ≡ cond b (halted_after p.at (word_after p.act n) k) (halted_after p.at n k)
  step_halted p n k true = refl
  step_halted p n k false = refl

  still_halted : (p : StepPlan) (n : ℕ) (k : ThreadView) → k.halted ≡ true → (known_after s start p n k).halted ≡ true
  still_halted p n k h = step_halted p n k (hits p.act n) ∙ either (hits p.act n)
    where
      either : (b : Bool) → cond b (halted_after p.at (word_after p.act n) k) (halted_after p.at n k) ≡ true
      either true = halt_stays p.at (word_after p.act n) k h
      either false = halt_stays p.at n k h

  now_halted : (p : StepPlan) (n : ℕ) (k : ThreadView) → p.at ≡ Safepoint → p.act ≡ CompareExchange n halted_word → (known_after s start p n k).halted ≡ true
  now_halted p n k at act =
      step_halted p n k (hits p.act n)
      ∙ ap (λ (x : Act). cond (hits x n) (halted_after p.at (word_after x n) k) (halted_after p.at n k)) act
      ∙ ap (λ (b : Bool). cond b (halted_after p.at (cond b halted_word n) k) (halted_after p.at n k)) (eq-eqb n n refl)
      ∙ ap (λ (x : WordId). halted_after x halted_word k) at
      ∙ halt_found k

  halts : (ms : List StepMade) (k : ThreadView) → Put Safepoint halted_word ms → (known_along s start ms k).halted ≡ true
  halts [] k h = absurd h
  halts (m ∷ ms) k (inl here) = now_halted m.plan m.found (known_along s start ms k) here.0 here.1
  halts (m ∷ ms) k (inr there) = still_halted m.plan m.found (known_along s start ms k) (halts ms k there)

  pub check_halts : (shape : Shape) (k : Start) (before now : ThreadView) → Ran s start (check_steps shape k) before now (Done true) → now.halted ≡ true
  check_halts shape k before now ran =
      let follows = knows ran in
      let says = on_path (CheckSays k) (check_steps shape k) [] follows.steps (Done true) (check_says shape k).by follows.path in
      ap (λ (x : ThreadView). x.halted) follows.known ∙ halts follows.steps before says.1

  -- STOP. Its two steps always hit.
  pub stop_publishes : (k : Start) (before now : ThreadView) → Ran s start (stop_steps (side_context task.Stop k) k.local) before now tt
      → (now.published ≡ length k.local.log) × ((word : ℕ) × (now.running ≡ runs_in (bit_and word (all_but k.local.thread)) before.thread))
  stop_publishes k before now ran =
      let last = ran.by.1.1.0 in (ap (λ (x : ThreadView). x.published) last, (ran.by.1.0, ap (λ (x : ThreadView). x.running) last))

-- RESUME. It is done only where its exchange hit.
module _ (s : Shape) (start : ℕ) (e : CallContext) (k : Local) where
  not_done : (barred : Option PendingCause) (other : PendingCause) (before now : ThreadView)
      → Runs s start (unless barred (pending_for other)) before now (Done (tt {0})) → ⊥
  not_done (Some reason) other before now r = absurd (cc (r.1))
  not_done None other before now r = absurd (cc (r.1))

  swap_runs : (word : ℕ) (before now : ThreadView) → Runs s start (resume_swap_steps e k word) before now (Done (tt {0}))
      → now.running ≡ runs_in (running_too (read_safe word) k.thread) before.thread
  swap_runs word before now r = by_hit (r.0 == word) refl r.1
    where
      plan : StepPlan
      plan = resume_plan e k.thread word

      by_hit : (b : Bool) → (r.0 == word) ≡ b → Runs s start (cond b (done_with tt) (unless (bar r.0) (pending_for (why.Raced word r.0))))
          (known_after s start plan r.0 before) now (Done (tt {0})) → now.running ≡ runs_in (running_too (read_safe word) k.thread) before.thread
      by_hit true hit q =
          ap (λ (x : ThreadView). x.running) q.0
          ∙ ap (λ (b : Bool). (cond b (known_hit s start plan r.0 before) (known_miss s start plan r.0 before)).running) hit
          ∙ ap (λ (b : Bool). runs_in (cond b (running_too (read_safe word) k.thread) r.0) before.thread) hit
      by_hit false miss q = absurd (not_done (bar r.0) (why.Raced word r.0) _ now q)

  -- and then that exchange is its last step
  swap_ends : (word : ℕ) (before now : ThreadView) → Runs s start (resume_swap_steps e k word) before now (Done (tt {0}))
      → now.steps ≡ made (resume_plan e k.thread word) word ∷ before.steps
  swap_ends word before now r = by_hit (r.0 == word) refl r.1
    where
      plan : StepPlan
      plan = resume_plan e k.thread word

      by_hit : (b : Bool) → (r.0 == word) ≡ b → Runs s start (cond b (done_with tt) (unless (bar r.0) (pending_for (why.Raced word r.0))))
          (known_after s start plan r.0 before) now (Done (tt {0})) → now.steps ≡ made plan word ∷ before.steps
      by_hit true hit q =
          ap (λ (x : ThreadView). x.steps) q.0
          ∙ step_counts s start plan r.0 before (hits plan.act r.0)
          ∙ ap (λ (n : ℕ). made plan n ∷ before.steps) (eqb-true r.0 word hit)
      by_hit false miss q = absurd (not_done (bar r.0) (why.Raced word r.0) _ now q)

  barred_runs : (barred : Option PendingCause) (word : ℕ) (before now : ThreadView) → Runs s start (unless barred (resume_swap_steps e k word))
      before now (Done (tt {0})) → now.running ≡ runs_in (running_too (read_safe word) k.thread) before.thread
  barred_runs (Some reason) word before now r = absurd (cc (r.1))
  barred_runs None word before now r = swap_runs word before now r

  barred_ends : (barred : Option PendingCause) (word : ℕ) (before now : ThreadView) → Runs s start (unless barred (resume_swap_steps e k word))
      before now (Done (tt {0})) → now.steps ≡ made (resume_plan e k.thread word) word ∷ before.steps
  barred_ends (Some reason) word before now r = absurd (cc (r.1))
  barred_ends None word before now r = swap_ends word before now r

  pub resume_runs : (before now : ThreadView) → Ran s start (resume_steps e k) before now (Done (tt {0}))
      → (word : ℕ) × (now.running ≡ runs_in (running_too (read_safe word) k.thread) before.thread)
      × ((steps : List StepMade) × (now.steps ≡ made (resume_plan e k.thread word) word ∷ steps))
  resume_runs before now ran =
      let loaded = known_after s start (load e Safepoint) ran.by.0 before in
      let word = ran.by.0 in
      (word, barred_runs (bar word) word loaded now ran.by.1, (loaded.steps, barred_ends (bar word) word loaded now ran.by.1))
