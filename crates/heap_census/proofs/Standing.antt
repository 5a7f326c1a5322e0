-- Whether threads stand still, as a loop over them finds it; and marks that no thread that waits comes with.
use Rattle.std.proofs.Common.{◌≡◌, ℕ, ◌&&◌, ◌||◌, not, Bool, true, false, List, [], ◌∷◌, Option, Some, None, refl, sym, ◌∙◌}
use Rattle.mark_word.specs.declared.mark.MarkForm.{MarkForm}
use Rattle.mark_word.specs.declared.mark.MarkForm.TheVariants.{Inflated}
use Rattle.core_world.specs.Trees.LookSteps.{look_at_monitor, none_goes_on}
use Rattle.core_world.specs.Trees.Plans.{CallContext}
use Rattle.core_world.specs.Trees.StepTree.{unreachable, done}
use Rattle.heap_census.specs.inner.StandParts.{stands_with}

pub never_looked : (f : MarkForm) (e : CallContext) (t : ℕ) → ((m : ℕ) → f ≡ Inflated m → ⊥) → look_at_monitor (Some f) e t ≡ unreachable
never_looked (Inflated m) e t inflated = absurd (inflated m refl)
never_looked _ e t inflated = refl

or_true : (b : Bool) → (b || true) ≡ true
or_true true = refl
or_true false = refl

and_each : (a b c : Bool) → (a && (b && c)) ≡ ((a && b) && c)
and_each true b c = refl
and_each false b c = refl

-- after a thread that has ended
pub ended_with : (live still live_now still_now : Bool) (x : Option Bool) → x ≡ None → live_now ≡ live → still_now ≡ still → (others : List (Option Bool))
    → stands_with live still (x ∷ others) ≡ stands_with live_now still_now others
ended_with live still live_now still_now x ended same_live same_still others =
    (λ i. stands_with live still (ended i ∷ others)) ∙ (λ i. stands_with (sym same_live i) (sym same_still i) others)

-- and after one that goes on or not
pub goes_with : (live still on live_now still_now : Bool) (x : Option Bool) → x ≡ Some on
    → live_now ≡ true → still_now ≡ (still && not on) → (others : List (Option Bool))
    → stands_with live still (x ∷ others) ≡ stands_with live_now still_now others
goes_with live still on live_now still_now x goes is_live is_still others =
    let a = or_true live in
    let b = and_each still (not on) (none_goes_on others) in
    let c : stands_with live still (Some on ∷ others) ≡ stands_with true (still && not on) others = λ i. done (a i && b i) in
    (λ i. stands_with live still (goes i ∷ others)) ∙ c ∙ (λ i. stands_with (sym is_live i) (sym is_still i) others)

-- after all
pub all_with : (live still : Bool) → stands_with live still [] ≡ done (live && still)
all_with live still = let a = or_false live in let b = and_true still in λ i. done (a i && b i)
  where
    or_false : (b : Bool) → (b || false) ≡ b
    or_false true = refl
    or_false false = refl

    and_true : (b : Bool) → (b && true) ≡ b
    and_true true = refl
    and_true false = refl
