-- Steps that are due and runs, by the arm of a tree that a test chooses.
use Rattle.std.proofs.Common.{◌≡◌, ℕ, Bool, true, false, if◌then◌else◌, sym, subst}
use Rattle.core_world.specs.declared.plan.StepPlan.{StepPlan}
use Rattle.core_world.specs.declared.heap_call.HeapCall.{HeapCall}
use Rattle.core_world.specs.Trees.StepTree.{StepTree, done, step, ◌>>=◌}
use Rattle.core_world.specs.Due.{IsDue}
use Rattle.core_world.specs.Threads.ThreadView.{ThreadView}
use Rattle.heap_table.specs.Parts.{IsDueOn, HasMadeSteps}
use Rattle.heap_table.specs.Seen.{HeapSeen, PassSeen}
use Rattle.heap_table.proofs.Parts.{part_then}

module _ {A : Type 0} (h : HeapSeen) (p : PassSeen) (b : Bool) (x y : StepTree A) where
  pub due_then : (t : HeapCall) → IsDueOn h p t (if b then x else y) → b ≡ true → IsDueOn h p t x
  due_then t due e = subst (λ c. IsDueOn h p t (if c then x else y)) e due

  pub due_else : (t : HeapCall) → IsDueOn h p t (if b then x else y) → b ≡ false → IsDueOn h p t y
  due_else t due e = subst (λ c. IsDueOn h p t (if c then x else y)) e due

  pub run_then : (q : PassSeen) (a : A) → b ≡ true → HasMadeSteps h x p q a → HasMadeSteps h (if b then x else y) p q a
  run_then q a e run = subst (λ c. HasMadeSteps h (if c then x else y) p q a) (sym e) run

  pub run_else : (q : PassSeen) (a : A) → b ≡ false → HasMadeSteps h y p q a → HasMadeSteps h (if b then x else y) p q a
  run_else q a e run = subst (λ c. HasMadeSteps h (if c then x else y) p q a) (sym e) run

-- after a part that makes steps or none, as a test chooses, what comes next is due
module _ {A B : Type 0} (h : HeapSeen) (p q : PassSeen) (t : HeapCall) (plan : StepPlan) (f : ℕ → StepTree A) (other : A) (g : A → StepTree B) (a : A) where
  pub after_choice : (b : Bool) → IsDueOn h p t ((if b then step plan f else done other) >>= g)
      → plan.task ≡ t → HasMadeSteps h (if b then step plan f else done other) p q a
      → IsDueOn h q t (g a)
  after_choice true due task run = part_then h p q t plan f g a due task run
  after_choice false due task run =
      subst (λ (k : ThreadView). IsDue h.heap.shape h.heap.start h.heap.biasing k t (g a)) (sym run.ran.by.0)
      (subst (λ (x : A). IsDueOn h p t (g x)) (sym run.ran.by.1) due)
