-- What is due after a part, whether it makes steps or none.
use Rattle.std.proofs.Common.{Bool, true, false, if◌then◌else◌, sym, subst}
use Rattle.core_world.specs.declared.heap_call.HeapCall.{HeapCall}
use Rattle.core_world.specs.Due.{IsDue}
use Rattle.core_world.specs.Threads.ThreadView.{ThreadView}
use Rattle.core_world.specs.Trees.StepTree.{StepTree, done, unreachable, step, ◌>>=◌}
use Rattle.heap_table.specs.Parts.{IsDueOn, HasMadeSteps}
use Rattle.heap_table.specs.Seen.{HeapSeen, PassSeen}
use Rattle.heap_table.proofs.Parts.{part_then}
use Rattle.heap_table.proofs.Resting.{IsCallOf}

pub next_part : {A B : Type 0} (h : HeapSeen) (p q : PassSeen) (t : HeapCall) (d : StepTree A) (g : A → StepTree B) (a : A)
    → IsDueOn h p t (d >>= g) → IsCallOf t d
    → HasMadeSteps h d p q a → IsDueOn h q t (g a)
next_part h p q t (done b) g a due first run =
    subst (λ (k : ThreadView). IsDue h.heap.shape h.heap.start h.heap.biasing k t (g a))
    (sym run.ran.by.0) (subst (λ x. IsDueOn h p t (g x)) (sym run.ran.by.1) due)
next_part h p q t unreachable g a due first run = absurd run.ran.by
next_part h p q t (step plan f) g a due first run = part_then h p q t plan f g a due first run

-- the first step of parts one after another is that of the first that has one
pub first_then : {A B : Type 0} (t : HeapCall) (d : StepTree A) (g : A → StepTree B) → IsCallOf t d → ((a : A) → IsCallOf t (g a)) → IsCallOf t (d >>= g)
first_then t (done a) g one two = two a
first_then t unreachable g one two = tt
first_then t (step plan f) g one two = one

-- and that of the arm that a test chooses
pub arm_first : {A : Type 0} (t : HeapCall) (b : Bool) (x y : StepTree A) → IsCallOf t x → IsCallOf t y → IsCallOf t (if b then x else y)
arm_first t true x y one two = one
arm_first t false x y one two = two
