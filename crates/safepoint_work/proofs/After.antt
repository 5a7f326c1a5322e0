-- What is left after a part of a call, whether it makes a step or none; and a run leaves which thread it is.
use Rattle.std.proofs.Common.{◌≡◌, ℕ, sym, ap, ◌∙◌, subst}
use Rattle.core_world.specs.declared.heap_call.HeapCall.{HeapCall}
use Rattle.core_world.specs.Due.{IsDue, Runs}
use Rattle.core_world.specs.Steps.{known_after}
use Rattle.core_world.specs.Threads.ThreadView.{ThreadView}
use Rattle.core_world.specs.Trees.StepTree.{StepTree, done, unreachable, step, ◌>>=◌}
use Rattle.core_world.specs.Words.Shape.{Shape}
use Rattle.heap_table.specs.Parts.{IsDueOn, HasMadeSteps}
use Rattle.heap_table.specs.Seen.{HeapSeen, PassSeen}
use Rattle.heap_table.proofs.Knows.{same_thread}
use Rattle.heap_table.proofs.Parts.{part_then}
use Rattle.heap_table.proofs.StepsLeft.{AreLeft, part_of, part_left}

-- its first step, if it has one, is of a call of this task,
abbrev pub IsOfTask : {A : Type 0} → HeapCall → StepTree A → Type 0
IsOfTask t (step plan f) = plan.task ≡ t
IsOfTask t _ = Unit {0}

-- so what comes after it is due, and left
after_part : {A B : Type 0} (h : HeapSeen) (p q : PassSeen) (t : HeapCall) (x : StepTree A) (g : A → StepTree B) (a : A)
    → IsDueOn h p t (x >>= g) → IsOfTask t x → HasMadeSteps h x p q a → IsDueOn h q t (g a)
after_part {A = A} h p q t (done b) g a due of run =
    subst (λ (k : ThreadView). IsDue h.heap.shape h.heap.start h.heap.biasing k t (g a)) (sym run.ran.by.0)
    (subst (λ (x : A). IsDueOn h p t (g x)) (sym run.ran.by.1) due)
after_part h p q t unreachable g a due of run = absurd run.ran.by
after_part h p q t (step plan f) g a due of run = part_then h p q t plan f g a due of run

pub left_after : {A B : Type 0} {h : HeapSeen} {t : HeapCall} {o p q : PassSeen} {d : StepTree A} {x : StepTree B} {b : B} (g : B → StepTree A)
    → HasMadeSteps h x p q b → IsOfTask t x → AreLeft h t o d p (x >>= g) → AreLeft h t o d q (g b)
left_after {h = h} {t = t} {p = p} {q = q} {x = x} {b = b} g run of left = part_left g run (after_part h p q t x g b left.due of run) left

-- the part that comes first is due, and what was made was made, in other words
pub due_as : {A B : Type 0} {h : HeapSeen} {t : HeapCall} {o p : PassSeen} {d : StepTree A} {x y : StepTree B} (g : B → StepTree A)
    → AreLeft h t o d p (x >>= g) → y ≡ x → IsDueOn h p t y
due_as {h = h} {t = t} {p = p} g left same = subst (IsDueOn h p t) (sym same) (part_of g left)

pub made_as : {A : Type 0} {h : HeapSeen} {p q : PassSeen} {a : A} {x y : StepTree A} → HasMadeSteps h x p q a → x ≡ y → HasMadeSteps h y p q a
made_as {h = h} {p = p} {q = q} {a = a} run same = subst (λ d. HasMadeSteps h d p q a) same run

-- after a run the pass is one of the same thread
runs_by : {A : Type 0} (s : Shape) (start : ℕ) (d : StepTree A) (k l : ThreadView) (a : A) → Runs s start d k l a → l.thread ≡ k.thread
runs_by s start (done b) k l a run = ap (λ (x : ThreadView). x.thread) run.0
runs_by s start unreachable k l a run = absurd run
runs_by s start (step p f) k l a run = runs_by s start (f run.0) (known_after s start p run.0 k) l a run.1 ∙ same_thread s start p run.0 k

pub same_runner : {A : Type 0} {h : HeapSeen} {d : StepTree A} {p q : PassSeen} {a : A} → HasMadeSteps h d p q a → q.known.thread ≡ p.known.thread
same_runner {h = h} {d = d} {p = p} {q = q} {a = a} run = runs_by h.heap.shape h.heap.start d p.known q.known a run.ran.by
