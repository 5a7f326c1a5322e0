-- The steps that make a thread itself the owner, where a record of it was: at most two, or none.
use Rattle.std.proofs.Common.{ℕ, Option, Some, None, refl, sym, subst}
use Rattle.mark_word.specs.declared.owner.OwnerForm.{OwnerForm}
use Rattle.mark_word.specs.declared.owner.OwnerForm.TheVariants.{Free, ByThread, ByRecord}
use Rattle.core_world.specs.Due.{IsDue}
use Rattle.core_world.specs.Threads.ThreadView.{ThreadView, Local}
use Rattle.core_world.specs.Trees.MonitorSteps.{own_steps, take_over_plan}
use Rattle.core_world.specs.Trees.Plans.{CallContext}
use Rattle.core_world.specs.Trees.StepTree.{StepTree, ◌>>=◌}
use Rattle.heap_table.specs.Parts.{IsDueOn, HasMadeSteps}
use Rattle.heap_table.specs.Seen.{HeapSeen, PassSeen}
use Rattle.heap_table.proofs.Parts.{part_then}
use Rattle.heap_table.proofs.StepsLeft.{AreLeft, part_left}

-- after them what comes next is due
after_owning : {A : Type 0} (f : Option OwnerForm) (h : HeapSeen) (p q : PassSeen) (e : CallContext) (k : Local) (o m : ℕ) (d : StepTree A)
    → IsDueOn h p e.task (own_steps f e k o m >>= (λ _. d)) → HasMadeSteps h (own_steps f e k o m) p q tt → IsDueOn h q e.task d
after_owning None h p q e k o m d due run = absurd run.ran.by
after_owning (Some Free) h p q e k o m d due run = absurd run.ran.by
after_owning (Some (ByThread u)) h p q e k o m d due run =
    subst (λ (x : ThreadView). IsDue h.heap.shape h.heap.start h.heap.biasing x e.task d) (sym run.ran.by.0) due
after_owning (Some (ByRecord u r)) h p q e k o m d due run = part_then h p q e.task (take_over_plan e k.thread o m) _ (λ _. d) tt due refl run

pub owning_left : {A : Type 0} {h : HeapSeen} {o p q : PassSeen} {d : StepTree A} (f : Option OwnerForm) (e : CallContext) (k : Local) (object m : ℕ)
    (rest : StepTree A) → HasMadeSteps h (own_steps f e k object m) p q tt → AreLeft h e.task o d p (own_steps f e k object m >>= (λ _. rest))
    → AreLeft h e.task o d q rest
owning_left {h = h} {p = p} {q = q} f e k object m rest run left =
    part_left (λ _. rest) run (after_owning f h p q e k object m rest left.due run) left
