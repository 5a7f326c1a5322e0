-- The enters that are common take few steps.
use Rattle.std.proofs.Common.{◌≡◌, ℕ, ◌+◌, ◌==◌, cond, Bool, true, false, Option, Some, Result, Err, refl, ap, sym, subst, eq-eqb, ◌-◌, nat_lt}
use Rattle.mark_word.specs.declared.mark.MarkForm.{MarkForm}
use Rattle.mark_word.specs.declared.mark.MarkForm.TheVariants.{Neutral, Anonymous, Biased}
use Rattle.mark_word.specs.Mark.{read_mark}
use Rattle.plain_monitor.specs.Limits.{most_holds}
use Rattle.plain_monitor.specs.declared.entry.Path.{Path}
use Rattle.plain_monitor.specs.declared.entry.Path.TheVariants.{BiasOwn}
use Rattle.core_world.specs.declared.word_id.WordId.TheVariants.{Prototype, Class}
use Rattle.core_world.specs.declared.heap_call.Operation.TheVariants as op
use Rattle.core_world.specs.declared.heap_call.HeapCall.TheVariants as task
use Rattle.core_world.specs.declared.answer.BiasTry.{BiasTry}
use Rattle.core_world.specs.declared.answer.BiasTry.TheVariants.{Unbiased, Valid}
use Rattle.core_world.specs.declared.answer.Progress.{Progress}
use Rattle.core_world.specs.declared.answer.TooDeep.{TooDeep}
use Rattle.core_world.specs.Words.Forms.{is_biased, is_biased_form}
use Rattle.core_world.specs.Threads.ThreadView.{Start}
use Rattle.core_world.specs.Trees.Plans.{CallContext, call_context, load, free_place}
use Rattle.core_world.specs.Words.Shape.{Shape, class_in_shape}
use Rattle.core_world.specs.Threads.Stages.{Revocation}
use Rattle.core_world.specs.Trees.StepTree.{StepTree, done, unreachable, ◌>>=◌, ask, after_answer, step}
use Rattle.core_world.specs.Trees.BiasSteps.{bias_enter_at, bias_enter_by, bias_enter_steps, took_steps}
use Rattle.core_world.specs.Trees.Operations.{goes_on_with, answer, enter_at, enter_revoked, enter_tried, full_steps, enter_steps}
use Rattle.core_calls.specs.Bounds.{IsWithin, a_revocation, after_class}
use Rattle.core_calls.specs.Moments.{IsPlanOf}
use Rattle.core_calls.proofs.Spends.{Spend, spend_never, spend_then, spend_any}
use Rattle.core_calls.proofs.LocksSpend.{Nothing, stack_enter_spends}
use Rattle.core_calls.proofs.PartsSpend.{took_spends}
use Rattle.core_calls.proofs.CallsSpend.{answers, enter_at_spends, tried_spends, spend_within}

module _ (s : Shape) (k : Start) (o now : ℕ) where
  abbrev entering : CallContext
  entering = call_context (task.Enter o now) op.Enter o

  abbrev revoking : Revocation
  revoking = record { object = o; rebias = true; now = now }

  -- what is to do once the mark is loaded, and once the prototype is
  abbrev by_mark : ℕ → StepTree BiasTry
  by_mark mark = after_answer (bias_enter_steps s entering k.local o) mark

  abbrev goes_on : StepTree BiasTry → StepTree (Result (Progress Path) TooDeep)
  goes_on tried = (tried >>= λ tried. enter_tried tried s entering k revoking) >>= answer

  abbrev too_deep : StepTree (Result (Progress Path) TooDeep)
  too_deep = done (Err record {})

  -- the enter at its first answer, of a thread that requests no safepoint
  at_mark : (full requesting : Bool) (mark n : ℕ) → requesting ≡ false → Spend (IsPlanOf (task.Enter o now)) Nothing n (goes_on (by_mark mark))
      → Spend (IsPlanOf (task.Enter o now)) Nothing n (after_answer (cond full (full_steps k o) (cond requesting (enter_revoked s true entering k revoking)
      (bias_enter_steps s entering k.local o >>= λ tried. enter_tried tried s entering k revoking) >>= answer)) mark)
  at_mark true requesting mark n none h = full (goes_on_with op.Enter o k.unfinished)
    where
      full : (b : Bool) → Spend (IsPlanOf (task.Enter o now)) Nothing n (after_answer (cond b unreachable too_deep) mark)
      full true = spend_never
      full false = spend_never
  at_mark false true mark n none h = absurd (cc none)
  at_mark false false mark n none h = h

  -- a mark without the bias pattern
  unbiased : (mark n : ℕ) → is_biased mark ≡ false
      → Spend (IsPlanOf (task.Enter o now)) Nothing n (enter_at (read_mark mark) s entering k o mark)
      → Spend (IsPlanOf (task.Enter o now)) Nothing n (goes_on (by_mark mark))
  unbiased mark n none h = by_bias (is_biased mark) none _
    where
      by_bias : (b : Bool) → b ≡ false → (x : StepTree BiasTry)
          → Spend (IsPlanOf (task.Enter o now)) Nothing n (goes_on (cond b x (done (Unbiased mark))))
      by_bias true none x = absurd (cc none)
      by_bias false none x = answers h

  pub unbiased_enter : (mark : ℕ) → k.requesting ≡ false → is_biased mark ≡ false → IsWithin 17 (after_answer (enter_steps s k o now) mark)
  unbiased_enter mark none plain =
      spend_within _ 17 (at_mark (free_place k.local.holds == most_holds) k.requesting mark 17 none
      (unbiased mark 17 plain (spend_any (enter_at_spends s entering k (read_mark mark) o mark))))

  pub free_enter : (mark hash age : ℕ) → k.requesting ≡ false
      → read_mark mark ≡ Some (Neutral hash age) → IsWithin 5 (after_answer (enter_steps s k o now) mark)
  free_enter mark hash age none is =
      spend_within _ 5 (at_mark (free_place k.local.holds == most_holds) k.requesting mark 5 none (unbiased mark 5 (ap is_biased_form is)
      (subst (λ (form : Option MarkForm). Spend (IsPlanOf (task.Enter o now)) Nothing 5 (enter_at form s entering k o mark))
      (sym is) (spend_any (stack_enter_spends entering k.local o (read_mark mark) mark)))))

  -- and after its class
  at_prototype : (full requesting : Bool) (mark class prototype n : ℕ) → requesting ≡ false
      → Spend (IsPlanOf (task.Enter o now)) Nothing n (after_answer (after_class s o class (goes_on (by_mark mark))) prototype)
      → Spend (IsPlanOf (task.Enter o now)) Nothing n
      (after_answer (after_class s o class (after_answer (cond full (full_steps k o) (cond requesting (enter_revoked s true entering k revoking)
      (bias_enter_steps s entering k.local o >>= λ tried. enter_tried tried s entering k revoking) >>= answer)) mark)) prototype)
  at_prototype true requesting mark class prototype n none h = full (goes_on_with op.Enter o k.unfinished) (nat_lt o s.declared)
    where
      full : (b declared : Bool) → Spend (IsPlanOf (task.Enter o now)) Nothing n (after_answer (cond declared (after_answer (cond b unreachable too_deep) mark)
          (after_answer (after_answer (cond b unreachable too_deep) mark) class)) prototype)
      full true true = spend_never
      full true false = spend_never
      full false true = spend_never
      full false false = spend_never
  at_prototype false true mark class prototype n none h = absurd (cc none)
  at_prototype false false mark class prototype n none h = h

  -- what is to do with the prototype of this class
  abbrev with_class : ℕ → ℕ → StepTree BiasTry
  with_class mark class = ask (load entering (Prototype class)) >>= λ prototype. bias_enter_by (read_mark prototype) entering k.local o mark prototype

  -- the enter after the load of its mark, by whether that has the bias pattern and whether o is declared
  abbrev by_class : Bool → Bool → ℕ → StepTree (Result (Progress Path) TooDeep)
  by_class b declared mark =
      goes_on (cond b (cond declared (done (class_in_shape s o)) (step (load entering (Class o)) (λ word. done (word - 1))) >>= λ class.
      with_class mark class) (done (Unbiased mark)))

  biased : (mark class prototype n : ℕ) → is_biased mark ≡ true
      → Spend (IsPlanOf (task.Enter o now)) Nothing n (goes_on (bias_enter_by (read_mark prototype) entering k.local o mark prototype))
      → Spend (IsPlanOf (task.Enter o now)) Nothing n (after_answer (after_class s o class (goes_on (by_mark mark))) prototype)
  biased mark class prototype n so h = by_bias (is_biased mark) so (nat_lt o s.declared)
    where
      by_bias : (b : Bool) → b ≡ true → (declared : Bool)
          → Spend (IsPlanOf (task.Enter o now)) Nothing n (after_answer (cond declared (by_class b declared mark) (after_answer (by_class b declared mark) class)) prototype)
      by_bias true so true = h
      by_bias true so false = h
      by_bias false so declared = absurd (cc so)

  -- the hold alone is stored
  own : (epoch age mark : ℕ) → Spend (IsPlanOf (task.Enter o now)) Nothing 3 (goes_on (bias_enter_at (Some (Biased k.local.thread epoch age)) epoch entering k.local o mark))
  own epoch age mark =
      answers (by_epoch (epoch == epoch) (eq-eqb epoch epoch refl) (k.local.thread == k.local.thread) (eq-eqb k.local.thread k.local.thread refl) _)
    where
      by_epoch : (b : Bool) → b ≡ true → (c : Bool) → c ≡ true → (x : StepTree BiasTry) → Spend (IsPlanOf (task.Enter o now)) Nothing 3
          (cond b (cond c (took_steps entering k.local o BiasOwn) (done (Valid mark))) x >>= λ tried. enter_tried tried s entering k revoking)
      by_epoch false so c c_so x = absurd (cc so)
      by_epoch true so false c_so x = absurd (cc c_so)
      by_epoch true so true c_so x =
          spend_then (spend_any (took_spends entering k.local o (a_revocation s + 18) 17 BiasOwn)) (tried_spends s entering k revoking refl)

  pub own_enter : (mark class prototype epoch age other : ℕ) → k.requesting ≡ false
      → read_mark mark ≡ Some (Biased k.local.thread epoch age) → read_mark prototype ≡ Some (Anonymous epoch other)
      → IsWithin 3 (after_answer (after_class s o class (after_answer (enter_steps s k o now) mark)) prototype)
  own_enter mark class prototype epoch age other none is valid =
      spend_within _ 3 (at_prototype (free_place k.local.holds == most_holds) k.requesting mark class prototype 3 none
      (biased mark class prototype 3 (ap is_biased_form is)
      (subst (λ (form : Option MarkForm). Spend (IsPlanOf (task.Enter o now)) Nothing 3
      (goes_on (bias_enter_by form entering k.local o mark prototype))) (sym valid)
      (subst (λ (form : Option MarkForm). Spend (IsPlanOf (task.Enter o now)) Nothing 3
      (goes_on (bias_enter_at form epoch entering k.local o mark))) (sym is) (own epoch age mark)))))
