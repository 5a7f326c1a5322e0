-- What the steps of one call make of their thread's steps and counts.
use Rattle.std.proofs.Common.{◌≡◌, ℕ, cond, Bool, true, false, List, [], ◌∷◌, ◌++◌, refl, sym, ap, ◌∙◌}
use Rattle.std.specs.List.{AllByRecursion}
use Rattle.core_world.specs.declared.plan.LocalEffect.{LocalEffect}
use Rattle.core_world.specs.declared.plan.LocalEffect.TheVariants.{CountVerdict}
use Rattle.core_world.specs.declared.plan.StepPlan.{StepPlan}
use Rattle.core_world.specs.declared.heap_call.HeapCall.{HeapCall}
use Rattle.core_world.specs.Due.{Ran}
use Rattle.core_world.specs.Steps.{counts_after, known_hit, known_miss, known_along}
use Rattle.core_world.specs.Threads.Counts.{CountedVerdict}
use Rattle.core_world.specs.Threads.ThreadView.{ThreadView, StepMade}
use Rattle.core_world.specs.Trees.StepTree.{StepTree}
use Rattle.core_world.specs.Words.Acts.{hits}
use Rattle.core_world.specs.Words.Shape.{Shape}
use Rattle.core_calls.specs.Moments.{moment_of, IsDecidedBy, CountsBy, IsStepOf, HasCalled}
use Rattle.core_calls.specs.Paths.{Says}
use Rattle.core_calls.proofs.Named.{Named, AllOf, named_says}
use Rattle.core_calls.proofs.Runs.{knows, on_path}

-- verdicts that were counted by the moment of this call, before others
record Counted (t : HeapCall) (before after : List CountedVerdict) : Type 0 where
  new : List CountedVerdict
  counts : after ≡ new ++ before
  by : AllByRecursion (λ (v : CountedVerdict). IsDecidedBy (moment_of t) v.reset) new

module _ (t : HeapCall) (before : List CountedVerdict) where
  same : (after now : List CountedVerdict) → now ≡ after → Counted t before after → Counted t before now
  same after now is c = record { new = c.new; counts = is ∙ c.counts; by = c.by }

  counted_on : (own : LocalEffect) (counts : List CountedVerdict) → CountsBy (moment_of t) own
      → Counted t before counts → Counted t before (counts_after own counts)
  counted_on (CountVerdict class verdict reset) counts h c =
      record {
        new = record { class = class; verdict = verdict; reset = reset } ∷ c.new;
        counts = ap (λ (vs : List CountedVerdict). record { class = class; verdict = verdict; reset = reset } ∷ vs) c.counts;
        by = (h, c.by);
      }
  counted_on _ counts h c = c

  module _ (s : Shape) (start : ℕ) where
    counted_once : (p : StepPlan) (n : ℕ) (k : ThreadView) (b : Bool) → CountsBy (moment_of t) p.own → Counted t before k.counts
        → Counted t before (cond b (known_hit s start p n k) (known_miss s start p n k)).counts
    counted_once p n k true h c = counted_on p.own k.counts h c
    counted_once p n k false h c = c

    counted_along : (ms : List StepMade) (k : ThreadView) → AllByRecursion (IsStepOf t) ms → before ≡ k.counts
        → Counted t before (known_along s start ms k).counts
    counted_along [] k h is = record { new = []; counts = sym is; by = tt }
    counted_along (m ∷ ms) k h is =
        counted_once m.plan m.found (known_along s start ms k) (hits m.plan.act m.found) h.0.counts (counted_along ms k h.1 is)

-- a run of steps that are all of one call
pub has_called : {A : Type 0} (s : Shape) (start : ℕ) (t : HeapCall) (d : StepTree A) (k l : ThreadView) (a : A) → Says d (AllOf t) → Ran s start d k l a
    → HasCalled t k l
has_called {A} s start t d k l a says ran =
    let f = knows ran in
    let of = on_path (AllOf t) d [] f.steps a says.by f.path in
    let c = counted_along t k.counts s start f.steps k of refl in
    record {
      steps = f.steps;
      added = f.added;
      of = of;
      counted = c.new;
      counts = ap (λ (x : ThreadView). x.counts) f.known ∙ c.counts;
      by = c.by;
    }

pub called : {A : Type 0} {s : Shape} {start : ℕ} {t : HeapCall} {d : StepTree A} {k l : ThreadView} {a : A} → Named t d → Ran s start d k l a → HasCalled t k l
called {A} {s} {start} {t} {d} {k} {l} {a} named ran = has_called s start t d k l a (named_says t d named) ran
