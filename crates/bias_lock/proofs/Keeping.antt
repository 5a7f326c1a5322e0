-- What runs of the steps leave of their thread's knowledge, where no hold was taken or left.
use Rattle.std.proofs.Common.{◌≡◌, ℕ, ◌==◌, Bool, true, false, if◌then◌else◌, Option, Some, None, refl, sym, ap, ◌∙◌, subst}
use Rattle.mark_word.specs.declared.mark.MarkForm.{MarkForm}
use Rattle.mark_word.specs.declared.mark.MarkForm.TheVariants.{Neutral, Anonymous, Biased}
use Rattle.mark_word.specs.Mark.{mark_of, read_mark}
use Rattle.plain_monitor.specs.declared.entry.Path.{Path}
use Rattle.plain_monitor.specs.declared.entry.Path.TheVariants.{BiasOwn, BiasTaken}
use Rattle.core_world.specs.declared.answer.BiasTry.{BiasTry}
use Rattle.core_world.specs.declared.answer.BiasTry.TheVariants.{Took, Unbiased, Valid, Raced}
use Rattle.core_world.specs.declared.word_id.WordId.TheVariants.{Mark, Prototype}
use Rattle.core_world.specs.declared.stage.Stage.TheVariants.{Settled}
use Rattle.core_world.specs.Due.{Runs}
use Rattle.core_world.specs.Steps.{known_after}
use Rattle.core_world.specs.Threads.ThreadView.{ThreadView, Local, local_of}
use Rattle.core_world.specs.Words.Forms.{is_biased, epoch_in}
use Rattle.core_world.specs.Words.Shape.{Shape}
use Rattle.core_world.specs.Trees.BiasSteps.{unbias_plan, rebias_plan, took_steps, unbias_swap_steps}
use Rattle.core_world.specs.Trees.BiasSteps.{rebias_steps, bias_valid_steps, bias_enter_at, bias_enter_by, bias_enter_steps}
use Rattle.core_world.specs.Trees.BiasSteps.{bias_drop_at, bias_drop_by, bias_drop_steps, stage_after, bias_after_at, bias_after_steps}
use Rattle.core_world.specs.Trees.LockSteps.{hold_steps}
use Rattle.core_world.specs.Trees.Plans.{CallContext, load, load_plan, class_steps}
use Rattle.core_world.specs.Trees.StepTree.{StepTree, done, unreachable, step, ◌>>=◌}
use Rattle.heap_table.proofs.ClassSteps.{class_splits}
use Rattle.heap_table.proofs.StepsLeft.{known_alike}
use Rattle.bias_lock.specs.inner.Parts.{prototype_enter, prototype_drop}
use Rattle.bias_lock.specs.Kept.{IsKeptUnlessTook}

kept : (out : BiasTry) (before after : Local) → after ≡ before → IsKeptUnlessTook out before after
kept (Took path) before after e = tt
kept (Unbiased mark) before after e = e
kept (Valid mark) before after e = e
kept (Raced expected found) before after e = e

module _ (s : Shape) (start : ℕ) where
  -- steps after which a hold was taken
  taken : (d : StepTree Path) (k l : ThreadView) (out : BiasTry) (before after : Local) → Runs s start (d >>= (λ path. done (Took path))) k l out
      → IsKeptUnlessTook out before after
  taken (done path) k l out before after run = subst (λ x. IsKeptUnlessTook x before after) (sym run.1) tt
  taken unreachable k l out before after run = absurd run
  taken (step p f) k l out before after run = taken (f run.0) (known_after s start p run.0 k) l out before after run.1

  swapped : (e : CallContext) (o mark neutral : ℕ) (k l : ThreadView) (out : BiasTry) → Runs s start (unbias_swap_steps e o mark neutral) k l out
      → local_of l ≡ local_of k
  swapped e o mark neutral k l out (found, rest) = cases (found == mark) rest
    where
      m : ThreadView
      m = known_after s start (unbias_plan e o mark neutral) found k

      cases : (b : Bool) → Runs s start (if b then done (Unbiased neutral) else done (Raced mark found)) m l out → local_of l ≡ local_of k
      cases true run = ap local_of run.0 ∙ (known_alike s start (unbias_plan e o mark neutral) found k refl refl refl).local
      cases false run = ap local_of run.0 ∙ (known_alike s start (unbias_plan e o mark neutral) found k refl refl refl).local

  -- ENTERS
  module _ (e : CallContext) (t : Local) (o mark : ℕ) (l : ThreadView) (out : BiasTry) where
    rebias_keeps : (epoch : ℕ) (k : ThreadView) → Runs s start (rebias_steps e t o mark epoch) k l out → IsKeptUnlessTook out (local_of k) (local_of l)
    rebias_keeps epoch k (found, rest) = cases (found == mark) rest
      where
        m : ThreadView
        m = known_after s start (rebias_plan e t.thread o mark epoch) found k

        cases : (b : Bool) → Runs s start (if b then took_steps e t o BiasTaken else done (Raced mark found)) m l out
            → IsKeptUnlessTook out (local_of k) (local_of l)
        cases true run = taken (hold_steps e t o BiasTaken) m l out (local_of k) (local_of l) run
        cases false run = kept out (local_of k) (local_of l)
            (ap local_of run.0 ∙ (known_alike s start (rebias_plan e t.thread o mark epoch) found k refl refl refl).local)

    valid_keeps : (b : Bool) (k : ThreadView) → Runs s start (if b then took_steps e t o BiasOwn else done (Valid mark)) k l out
        → IsKeptUnlessTook out (local_of k) (local_of l)
    valid_keeps true k run = taken (hold_steps e t o BiasOwn) k l out (local_of k) (local_of l) run
    valid_keeps false k run = kept out (local_of k) (local_of l) (ap local_of run.0)

    biased_keeps : (b : Bool) (thread epoch : ℕ) (k : ThreadView)
        → Runs s start (if b then bias_valid_steps e t o mark thread else rebias_steps e t o mark epoch) k l out
        → IsKeptUnlessTook out (local_of k) (local_of l)
    biased_keeps true thread epoch k run = valid_keeps (thread == t.thread) k run
    biased_keeps false thread epoch k run = rebias_keeps epoch k run

    at_keeps : (f : Option MarkForm) (epoch : ℕ) (k : ThreadView) → Runs s start (bias_enter_at f epoch e t o mark) k l out
        → IsKeptUnlessTook out (local_of k) (local_of l)
    at_keeps (Some (Anonymous old age)) epoch k run = rebias_keeps epoch k run
    at_keeps (Some (Biased thread old age)) epoch k run = biased_keeps (old == epoch) thread epoch k run
    at_keeps _ epoch k run = absurd run

    pub by_keeps : (f : Option MarkForm) (prototype : ℕ) (k : ThreadView) → Runs s start (bias_enter_by f e t o mark prototype) k l out
        → IsKeptUnlessTook out (local_of k) (local_of l)
    by_keeps (Some (Neutral hash age)) prototype k run = kept out (local_of k) (local_of l) (swapped e o mark prototype k l out run)
    by_keeps (Some (Anonymous epoch age)) prototype k run = at_keeps (read_mark mark) epoch k run
    by_keeps _ prototype k run = absurd run

  pub enter_keeps : (e : CallContext) (t : Local) (o : ℕ) (k l : ThreadView) (out : BiasTry) → Runs s start (bias_enter_steps s e t o) k l out
      → IsKeptUnlessTook out (local_of k) (local_of l)
  enter_keeps e t o k l out (mark, rest) = cases (is_biased mark) rest
    where
      m : ThreadView
      m = known_after s start (load e (Mark o)) mark k

      cases : (b : Bool) → Runs s start (if b then class_steps e Settled s o >>= (λ c. prototype_enter e t c o mark) else done (Unbiased mark)) m l out
          → IsKeptUnlessTook out (local_of k) (local_of l)
      cases true run =
          let (c, x, alike, (prototype, more)) = class_splits s start e Settled o (λ c. prototype_enter e t c o mark) m l out run in
          subst (λ (z : Local). IsKeptUnlessTook out z (local_of l)) alike.local
          (by_keeps e t o mark l out (read_mark prototype) prototype (known_after s start (load e (Prototype c)) prototype x) more)
      cases false run = kept out (local_of k) (local_of l) (ap local_of run.0)

  own_keeps : (e : CallContext) (t : Local) (o : ℕ) (b : Bool) (k l : ThreadView) (out : BiasTry) (before after : Local)
      → Runs s start (if b then took_steps e t o BiasTaken else unreachable) k l out
      → IsKeptUnlessTook out before after
  own_keeps e t o true k l out before after run = taken (hold_steps e t o BiasTaken) k l out before after run
  own_keeps e t o false k l out before after run = absurd run

  after_at_keeps : (f : Option MarkForm) (e : CallContext) (t : Local) (o : ℕ) (k l : ThreadView) (out : BiasTry) (before after : Local)
      → Runs s start (bias_after_at f e t o) k l out
      → IsKeptUnlessTook out before after
  after_at_keeps (Some (Biased thread old age)) e t o k l out before after run = own_keeps e t o (thread == t.thread) k l out before after run
  after_at_keeps _ e t o k l out before after run = absurd run

  pub after_keeps : (e : CallContext) (t : Local) (o : ℕ) (took : Bool) (k l : ThreadView) (out : BiasTry) → Runs s start (bias_after_steps e t o took) k l out
      → IsKeptUnlessTook out (local_of k) (local_of l)
  after_keeps e t o took k l out (mark, rest) = cases (is_biased mark) rest
    where
      m : ThreadView
      m = known_after s start (load_plan e (stage_after took o) (Mark o)) mark k

      cases : (b : Bool) → Runs s start (if b then bias_after_at (read_mark mark) e t o else done (Unbiased mark)) m l out
          → IsKeptUnlessTook out (local_of k) (local_of l)
      cases true run = after_at_keeps (read_mark mark) e t o m l out (local_of k) (local_of l) run
      cases false run = kept out (local_of k) (local_of l) (ap local_of run.0)

  -- THE END OF A BIAS
  stale_keeps : (e : CallContext) (o mark : ℕ) (b : Bool) (k l : ThreadView) (out : BiasTry)
      → Runs s start (if b then done (Valid mark) else unbias_swap_steps e o mark (mark_of (Neutral 0 0))) k l out → local_of l ≡ local_of k
  stale_keeps e o mark true k l out run = ap local_of run.0
  stale_keeps e o mark false k l out run = swapped e o mark (mark_of (Neutral 0 0)) k l out run

  drop_at_keeps : (f : Option MarkForm) (epoch : ℕ) (e : CallContext) (o mark : ℕ) (k l : ThreadView) (out : BiasTry)
      → Runs s start (bias_drop_at f epoch e o mark) k l out
      → local_of l ≡ local_of k
  drop_at_keeps (Some (Anonymous old age)) epoch e o mark k l out run = swapped e o mark (mark_of (Neutral 0 0)) k l out run
  drop_at_keeps (Some (Biased thread old age)) epoch e o mark k l out run = stale_keeps e o mark (old == epoch) k l out run
  drop_at_keeps _ epoch e o mark k l out run = absurd run

  drop_by_keeps : (epoch : Option ℕ) (e : CallContext) (o mark prototype : ℕ) (k l : ThreadView) (out : BiasTry)
      → Runs s start (bias_drop_by epoch e o mark prototype) k l out
      → local_of l ≡ local_of k
  drop_by_keeps None e o mark prototype k l out run = swapped e o mark prototype k l out run
  drop_by_keeps (Some epoch) e o mark prototype k l out run = drop_at_keeps (read_mark mark) epoch e o mark k l out run

  pub drop_keeps : (e : CallContext) (o : ℕ) (k l : ThreadView) (out : BiasTry) → Runs s start (bias_drop_steps s e o) k l out → local_of l ≡ local_of k
  drop_keeps e o k l out (mark, rest) = cases (is_biased mark) rest
    where
      m : ThreadView
      m = known_after s start (load e (Mark o)) mark k

      cases : (b : Bool) → Runs s start (if b then class_steps e Settled s o >>= (λ c. prototype_drop e c o mark) else done (Unbiased mark)) m l out
          → local_of l ≡ local_of k
      cases true run =
          let (c, x, alike, (prototype, more)) = class_splits s start e Settled o (λ c. prototype_drop e c o mark) m l out run in
          drop_by_keeps (epoch_in prototype) e o mark prototype (known_after s start (load e (Prototype c)) prototype x) l out more ∙ alike.local
      cases false run = ap local_of run.0
