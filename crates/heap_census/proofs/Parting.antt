-- The draft of a shot, which is filled on the way of its steps.
use Rattle.std.proofs.Common.{◌≡◌, ℕ, zero, suc, List, [], Option, refl, sym, subst}
use Rattle.core_world.specs.declared.plan.StepPlan.{StepPlan}
use Rattle.core_world.specs.declared.heap_call.HeapCall.{HeapCall}
use Rattle.core_world.specs.Trees.StepTree.{StepTree, step, all_from}
use Rattle.heap_table.specs.Parts.{HasMadeSteps}
use Rattle.heap_table.specs.Seen.{HeapSeen, PassSeen, IsOf}
use Rattle.heap_census.specs.ShotParts.{HasShot}
use Rattle.heap_census.proofs.After.{IsOfTask}

-- the pass without its draft
abbrev pub bare : PassSeen → PassSeen
bare p = record p { cut = []; cells = [] }

module _ {h : HeapSeen} where
  pub bare_of : (p : PassSeen) → IsOf h p → IsOf h (bare p)
  bare_of p i = record {
    table = i.table;
    room = i.room;
    within = i.within;
    home = i.home;
    classes = i.classes;
    first = i.first;
    threads = i.threads;
    objects = i.objects;
    real = i.real;
  }

  pub of_bare : (p : PassSeen) → IsOf h (bare p) → IsOf h p
  of_bare p i = record {
    table = i.table;
    room = i.room;
    within = i.within;
    home = i.home;
    classes = i.classes;
    first = i.first;
    threads = i.threads;
    objects = i.objects;
    real = i.real;
  }

  -- a run of it, whatever became of the draft
  module _ {d : StepTree (Unit {0})} (p q : PassSeen) where
    pub shot_of_run : HasMadeSteps h d (bare p) (bare q) tt → HasShot h d p q
    shot_of_run run = record { heap = of_bare q run.heap; limit = run.limit; ran = run.ran }

    pub run_of_shot : HasShot h d p q → HasMadeSteps h d (bare p) (bare q) tt
    run_of_shot s = record { heap = bare_of q s.heap; limit = s.limit; cut = refl; cells = refl; ran = s.ran }

    pub bare_run : HasMadeSteps h d p q tt → HasMadeSteps h d (bare p) (bare q) tt
    bare_run run = run_of_shot (record { heap = run.heap; limit = run.limit; ran = run.ran })

  -- what the pass is with another draft
  pub drafted : {q r : PassSeen} {cut : List ℕ} {cells : List (Option ℕ × ℕ)} → r ≡ record q { cut = cut; cells = cells } → IsOf h q → IsOf h r
  drafted {q = q} {r = r} same i = of_bare r (subst (λ z. IsOf h (bare z)) (sym same) (bare_of q i))

-- a loop over parts that each begin with a step of this task does so, where it has one
pub all_of_task : (i n : ℕ) (t : HeapCall) (plan : ℕ → StepPlan) (rest : ℕ → ℕ → StepTree (Unit {0}))
    → ((j : ℕ) → (plan j).task ≡ t) → IsOfTask t (all_from i n (λ j. step (plan j) (rest j)))
all_of_task i zero t plan rest each = tt
all_of_task i (suc n) t plan rest each = each i
