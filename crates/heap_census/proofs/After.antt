-- What is left after a part of a call, whether it makes a step or none.
use Rattle.std.proofs.Common.{◌≡◌, sym, subst}
use Rattle.core_world.specs.declared.heap_call.HeapCall.{HeapCall}
use Rattle.core_world.specs.Due.{IsDue}
use Rattle.core_world.specs.Threads.ThreadView.{ThreadView}
use Rattle.core_world.specs.Trees.StepTree.{StepTree, done, unreachable, step, ◌>>=◌}
use Rattle.heap_table.specs.Parts.{IsDueOn, HasMadeSteps}
use Rattle.heap_table.specs.Seen.{HeapSeen, PassSeen}
use Rattle.heap_table.proofs.Parts.{part_then}
use Rattle.heap_table.proofs.StepsLeft.{AreLeft, part_left}

-- its first step, if it has one, is of a call of this task,
abbrev pub IsOfTask : {A : Type 0} → HeapCall → StepTree A → Type 0
IsOfTask t (step plan f) = plan.task ≡ t
IsOfTask t _ = Unit {0}

-- so what comes after it is due, and left
after_part : {A B : Type 0} (h : HeapSeen) (p q : PassSeen) (t : HeapCall) (x : StepTree A) (g : A → StepTree B) (a : A)
    → IsDueOn h p t (x >>= g) → IsOfTask t x → HasMadeSteps h x p q a → IsDueOn h q t (g a)
after_part {A = A} h p q t (done b) g a due of run =
    subst (λ (k : ThreadView). IsDue h.heap.shape h.heap.start h.heap.biasing k t (g a)) (sym run.ran.by.0)
    (subst (λ (x : A). IsDueOn h p t (g x)) (sym run.ran.by.1) due)
after_part h p q t unreachable g a due of run = absurd run.ran.by
after_part h p q t (step plan f) g a due of run = part_then h p q t plan f g a due of run

pub left_after : {A B : Type 0} {h : HeapSeen} {t : HeapCall} {o p q : PassSeen} {d : StepTree A} {x : StepTree B} {b : B} (g : B → StepTree A)
    → HasMadeSteps h x p q b → IsOfTask t x → AreLeft h t o d p (x >>= g) → AreLeft h t o d q (g b)
left_after {h = h} {t = t} {p = p} {q = q} {x = x} {b = b} g run of left = part_left g run (after_part h p q t x g b left.due of run) left
