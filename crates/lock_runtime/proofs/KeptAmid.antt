-- An attempt on a bias keeps no monitor and spends none.
use Rattle.std.proofs.Common.{◌≡◌, ℕ, ◌==◌, nat_lt, Bool, true, false, cond, Option, Some, refl, ap, ◌∙◌}
use Rattle.mark_word.specs.declared.mark.MarkForm.{MarkForm}
use Rattle.mark_word.specs.declared.mark.MarkForm.TheVariants.{Neutral, Anonymous, Biased}
use Rattle.mark_word.specs.Mark.{read_mark}
use Rattle.plain_monitor.specs.declared.entry.Path.{Path}
use Rattle.plain_monitor.specs.declared.entry.Path.TheVariants.{BiasTaken, BiasOwn}
use Rattle.core_world.specs.declared.plan.LocalEffect.{LocalEffect}
use Rattle.core_world.specs.declared.plan.LocalEffect.TheVariants as own
use Rattle.core_world.specs.declared.plan.StepPlan.{StepPlan}
use Rattle.core_world.specs.declared.stage.Stage.TheVariants.{Settled}
use Rattle.core_world.specs.Due.{Runs}
use Rattle.core_world.specs.Steps.{known_after, known_hit, known_miss, kept_after}
use Rattle.core_world.specs.Threads.ThreadView.{ThreadView, Local}
use Rattle.core_world.specs.Trees.BiasSteps.{took_steps, unbias_swap_steps, rebias_steps, bias_enter_at}
use Rattle.core_world.specs.Trees.BiasSteps.{bias_enter_by, bias_enter_steps, bias_after_at, bias_after_steps}
use Rattle.core_world.specs.Trees.LockSteps.{hold_steps}
use Rattle.core_world.specs.Trees.Plans.{CallContext, class_steps}
use Rattle.core_world.specs.Trees.StepTree.{StepTree, done, unreachable, step}
use Rattle.core_world.specs.Words.Acts.{hits}
use Rattle.core_world.specs.Words.Forms.{is_biased, is_entering}
use Rattle.core_world.specs.Words.Shape.{Shape}
use Rattle.heap_table.specs.Parts.{HasMadeSteps}
use Rattle.heap_table.specs.Seen.{HeapSeen, PassSeen}
use Rattle.lock_runtime.proofs.EachStep.{EachStep, each_either, each_then}

-- the step keeps nothing for its thread
abbrev IsSame : StepPlan → Type 0
IsSame p = p.own ≡ own.Unchanged

abbrev pub AreSame : {A : Type 0} → StepTree A → Type 0
AreSame d = EachStep IsSame d

step_keeps : (s : Shape) (start : ℕ) (p : StepPlan) (n : ℕ) (k : ThreadView) → p.own ≡ own.Unchanged → (known_after s start p n k).kept ≡ k.kept
step_keeps s start p n k same = cases (hits p.act n)
  where
    cases : (b : Bool) → (cond b (known_hit s start p n k) (known_miss s start p n k)).kept ≡ k.kept
    cases true = ap (λ (o : LocalEffect). kept_after o n k.kept) same
    cases false = refl

run_keeps : {A : Type 0} (s : Shape) (start : ℕ) (d : StepTree A) (k l : ThreadView) (a : A) → AreSame d → Runs s start d k l a → l.kept ≡ k.kept
run_keeps s start (done b) k l a same run = ap (λ (x : ThreadView). x.kept) run.0
run_keeps s start unreachable k l a same run = absurd run
run_keeps s start (step p f) k l a same run =
    run_keeps s start (f run.0) (known_after s start p run.0 k) l a (same.1 run.0) run.1 ∙ step_keeps s start p run.0 k same.0

pub keeps : {A : Type 0} (h : HeapSeen) (d : StepTree A) (p q : PassSeen) (a : A) → AreSame d → HasMadeSteps h d p q a → q.known.kept ≡ p.known.kept
keeps h d p q a same run = run_keeps h.heap.shape h.heap.start d p.known q.known a same run.ran.by

holds : (e : CallContext) (k : Local) (o : ℕ) (path : Path) → AreSame (hold_steps e k o path)
holds e k o path = (refl, λ n. each_either IsSame (is_entering k.wait) _ _ (refl, λ m. (refl, λ i. tt)) (refl, λ m. tt))

takes : (e : CallContext) (k : Local) (o : ℕ) (path : Path) → AreSame (took_steps e k o path)
takes e k o path = each_then IsSame (hold_steps e k o path) _ (holds e k o path) (λ p. tt)

unbiases : (e : CallContext) (o mark neutral : ℕ) → AreSame (unbias_swap_steps e o mark neutral)
unbiases e o mark neutral = (refl, λ found. each_either IsSame (found == mark) _ _ tt tt)

rebiases : (e : CallContext) (k : Local) (o mark epoch : ℕ) → AreSame (rebias_steps e k o mark epoch)
rebiases e k o mark epoch = (refl, λ found. each_either IsSame (found == mark) _ _ (takes e k o BiasTaken) tt)

at_form : (f : Option MarkForm) (epoch : ℕ) (e : CallContext) (k : Local) (o mark : ℕ) → AreSame (bias_enter_at f epoch e k o mark)
at_form (Some (Biased t old age)) epoch e k o mark =
    each_either IsSame (old == epoch) _ _ (each_either IsSame (t == k.thread) _ _ (takes e k o BiasOwn) tt) (rebiases e k o mark epoch)
at_form (Some (Anonymous old age)) epoch e k o mark = rebiases e k o mark epoch
at_form _ epoch e k o mark = tt

pub by_prototype : (f : Option MarkForm) (e : CallContext) (k : Local) (o mark prototype : ℕ) → AreSame (bias_enter_by f e k o mark prototype)
by_prototype (Some (Neutral hash age)) e k o mark prototype = unbiases e o mark prototype
by_prototype (Some (Anonymous epoch age)) e k o mark prototype = at_form (read_mark mark) epoch e k o mark
by_prototype _ e k o mark prototype = tt

class : (s : Shape) (e : CallContext) (o : ℕ) → AreSame (class_steps e Settled s o)
class s e o = each_either IsSame (nat_lt o s.declared) _ _ tt (refl, λ n. tt)

pub enter_keeps : (s : Shape) (e : CallContext) (k : Local) (o : ℕ) → AreSame (bias_enter_steps s e k o)
enter_keeps s e k o = (
  refl,
  λ mark. each_either IsSame (is_biased mark) _ _
      (each_then IsSame (class_steps e Settled s o) _ (class s e o) (λ c. (refl, λ prototype. by_prototype (read_mark prototype) e k o mark prototype))) tt,
)

own_bias : (f : Option MarkForm) (e : CallContext) (k : Local) (o : ℕ) → AreSame (bias_after_at f e k o)
own_bias (Some (Biased t epoch age)) e k o = each_either IsSame (t == k.thread) _ _ (takes e k o BiasTaken) tt
own_bias _ e k o = tt

pub after_keeps : (e : CallContext) (k : Local) (o : ℕ) (took : Bool) → AreSame (bias_after_steps e k o took)
after_keeps e k o took = (refl, λ mark. each_either IsSame (is_biased mark) _ _ (own_bias (read_mark mark) e k o) tt)
