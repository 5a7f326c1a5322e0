-- The first two steps of a resume, by a thread that has made none.
use Rattle.std.proofs.Common.{◌≡◌, ℕ, ◌+◌, ◌*◌, ◌^◌, Bool, false, Some, None, refl, sym, ap, ◌∙◌, subst, arith}
use Rattle.mark_word.specs.Safe.{read_safe}
use Rattle.core_world.specs.declared.act.Act.{Act}
use Rattle.core_world.specs.declared.act.Act.TheVariants.{Load, CompareExchange}
use Rattle.core_world.specs.declared.word_id.WordId.TheVariants.{Safepoint}
use Rattle.core_world.specs.declared.plan.StepPlan.{StepPlan}
use Rattle.core_world.specs.declared.heap_call.HeapCall.TheVariants.{Resume}
use Rattle.core_world.specs.Trees.Calls.{steps_of}
use Rattle.core_world.specs.Due.{steps_due, IsNext}
use Rattle.core_world.specs.Threads.ThreadView.{ThreadView}
use Rattle.core_world.specs.Opening.{first_known}
use Rattle.core_world.specs.Trees.Plans.{quiet_plan}
use Rattle.core_world.specs.Words.Shape.{Shape}
use Rattle.core_world.specs.Steps.{is_idle, known_after}

-- a step on the safepoint word of a resume that leaves nothing unfinished
abbrev pub resuming : Act → StepPlan
resuming act = quiet_plan (record { task = Resume; unfinished = None; check = false }) Safepoint act

pub first_step : (s : Shape) (start : ℕ) (biasing : Bool) (t : ℕ) → IsNext s start biasing (first_known t) (resuming Load)
unfolding steps_due is_idle steps_of
first_step s start biasing t = refl

second_step : (s : Shape) (start : ℕ) (biasing : Bool) (t : ℕ)
    → IsNext s start biasing (known_after s start (resuming Load) 0 (first_known t)) (resuming (CompareExchange 0 (2 ^ t)))
unfolding steps_due is_idle steps_of read_safe
second_step s start biasing t = let e : 0 + 2 ^ t + 0 * 2 ^ 32 + 0 * 2 ^ 40 ≡ 2 ^ t = omega arith in ap (λ w. Some (resuming (CompareExchange 0 w))) e

pub first_is : (s : Shape) (start : ℕ) (biasing : Bool) (k : ThreadView) (t : ℕ) (p : StepPlan)
    → k ≡ first_known t → p ≡ resuming Load → IsNext s start biasing k p
first_is s start biasing k t p e f =
    subst (λ (x : ThreadView × StepPlan). IsNext s start biasing x.0 x.1) (λ i. (sym e i, sym f i)) (first_step s start biasing t)

pub second_is : (s : Shape) (start : ℕ) (biasing : Bool) (k l : ThreadView) (t n w : ℕ) (p q : StepPlan)
    → k ≡ first_known t → p ≡ resuming Load → n ≡ 0 → l ≡ known_after s start p n k
    → q ≡ resuming (CompareExchange 0 w) → w ≡ 2 ^ t → IsNext s start biasing l q
second_is s start biasing k l t n w p q e f z g h same =
    let now : l ≡ known_after s start (resuming Load) 0 (first_known t) = g ∙ λ i. known_after s start (f i) (z i) (e i) in
    let plan : q ≡ resuming (CompareExchange 0 (2 ^ t)) = h ∙ ap (λ x. resuming (CompareExchange 0 x)) same in
    subst (λ (x : ThreadView × StepPlan). IsNext s start biasing x.0 x.1) (λ i. (sym now i, sym plan i)) (second_step s start biasing t)
