-- The steps that give idle monitors back at a reached safepoint are at most so many; and each is of a kind of which all their plans are.
use Rattle.std.proofs.Common.{ℕ, ◌+◌, ◌==◌, length, refl, arith}
use Rattle.std.specs.List.{list_all}
use Rattle.mark_word.specs.declared.owner.OwnerForm.TheVariants.{Free}
use Rattle.mark_word.specs.Owner.{owner_of}
use Rattle.core_world.specs.declared.word_id.WordId.{WordId}
use Rattle.core_world.specs.declared.word_id.WordId.TheVariants.{Waiting}
use Rattle.core_world.specs.declared.plan.StepPlan.{StepPlan}
use Rattle.core_world.specs.declared.stage.Stage.{Stage}
use Rattle.core_world.specs.Words.Forms.{monitor_in}
use Rattle.core_world.specs.Words.Shape.{Shape, monitor_count}
use Rattle.core_world.specs.Trees.DeflateSteps.{detach_plan, clean_plan, enqueue_plan, advance_plan, look_at, give_back_steps, is_untouched}
use Rattle.core_world.specs.Trees.DeflateSteps.{deflate_free, deflate_named, names_monitor, deflate_monitor, deflate_steps}
use Rattle.core_world.specs.Trees.Plans.{CallContext, load_plan}
use Rattle.core_world.specs.declared.act.Act.TheVariants.{Load, Store}
use Rattle.core_calls.specs.Bounds.{a_deflation}
use Rattle.core_calls.proofs.Paths.{IsQuiet}
use Rattle.core_calls.proofs.Stays.{IsApart, sparing_apart, load_spares}
use Rattle.core_calls.proofs.Spends.{of_call, Spend, spend_done, spend_more, spend_step, spend_either, spend_both, spend_all, spend_list}

-- each plan of a deflation is of this kind
module _ {Q : StepPlan → Type 0} (s : Shape) (e : CallContext) (stage : Stage) (looks : (at : WordId) → Q (load_plan e stage at))
    (detaches : (o m header : ℕ) → Q (detach_plan e stage o m header)) (cleans : (at : WordId) → IsApart at (Store 0)
    → Q (clean_plan e stage at))
    (enqueues : (end m : ℕ) → Q (enqueue_plan e stage s end m)) (advances : (end : ℕ) → Q (advance_plan e stage end)) where
  look_spends : (at : WordId) → Spend Q (λ _. 0) 1 (look_at e stage at)
  look_spends at = spend_step {n = 0} (looks at) (λ word. spend_done {a = word} (omega arith))

  give_back_spends : (o m : ℕ) → Spend Q (λ _. 0) 9 (give_back_steps s e stage o m)
  give_back_spends o m =
      spend_step {n = 8} (looks _) (λ header. spend_step {n = 7} (looks _) (λ end.
      spend_step {n = 6} (detaches o m header) (λ _. spend_step {n = 5} (cleans _ tt) (λ _. spend_step {n = 4} (cleans _ tt) (λ _.
      spend_step {n = 3} (cleans _ tt) (λ _. spend_step {n = 2} (cleans _ tt) (λ _.
      spend_step {n = 1} (enqueues end m) (λ _. spend_step {n = 0} (advances end) (λ _. spend_done (omega arith))))))))))

  free_spends : (o m : ℕ) → Spend Q (λ _. 0) (s.threads + 9) (deflate_free s e stage o m)
  free_spends o m =
      spend_both {k = 9} (spend_list {n = 1} 0 s.threads (λ t. look_spends (Waiting t)))
      (λ words. spend_either (list_all (λ w. is_untouched o w) words) (give_back_spends o m) (spend_done (omega arith))) (omega arith)

  named_spends : (o m : ℕ) → Spend Q (λ _. 0) (s.threads + 10) (deflate_named s e stage o m)
  named_spends o m =
      spend_more (omega arith) (spend_step {n = s.threads + 9} (looks _) (λ owner.
      spend_either (owner == owner_of Free) (free_spends o m) (spend_done (omega arith))))

  visit_spends : (m : ℕ) → Spend Q (λ _. 0) (s.threads + 12) (deflate_monitor s e stage m)
  visit_spends m =
      spend_more (omega arith) (spend_step {n = s.threads + 11} (looks _) (λ o.
      spend_more (omega arith) (spend_step {n = s.threads + 10} (looks _) (λ mark.
      spend_either (names_monitor (monitor_in mark) m) (named_spends o m) (spend_done (omega arith))))))

  pub each_spends : Spend Q (λ _. 0) (a_deflation s) (deflate_steps s e stage)
  each_spends =
      spend_either (length s.objects == 0) (spend_done (omega arith))
      (spend_more (omega arith) (spend_all {n = s.threads + 12} 0 (monitor_count s) visit_spends))

-- they are quiet
pub deflate_spends : (e : CallContext) (s : Shape) (stage : Stage) → Spend (IsQuiet e) (λ _. 0) (a_deflation s) (deflate_steps s e stage)
deflate_spends e s stage =
    each_spends s e stage (λ at. record {
      note = refl;
      unfinished = refl;
      check = refl;
      passes = sparing_apart at Load (load_spares at);
      of = λ _. of_call refl tt;
    })
    (λ o m header. record { note = refl; unfinished = refl; check = refl; passes = tt; of = λ _. of_call refl tt })
    (λ at apart. record { note = refl; unfinished = refl; check = refl; passes = apart; of = λ _. of_call refl tt })
    (λ end m. record { note = refl; unfinished = refl; check = refl; passes = tt; of = λ _. of_call refl tt })
    (λ end. record { note = refl; unfinished = refl; check = refl; passes = tt; of = λ _. of_call refl tt })
