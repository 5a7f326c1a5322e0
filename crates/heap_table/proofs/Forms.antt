-- The heap is in its limits, and the words that its steps find have the forms that words of the heap have.
use Rattle.std.proofs.Common.{ℕ, sym, subst, inl, inr}
use Rattle.core_world.specs.declared.plan.StepPlan.{StepPlan}
use Rattle.core_world.specs.Valid.{FormsFit}
use Rattle.core_world.specs.Words.Shape.{IsInLimits}
use Rattle.core_world.specs.Threads.ThreadView.{ThreadView}
use Rattle.core_world.specs.World.{World}
use Rattle.core_world.proofs.There.{IsFormed, is_formed}
use Rattle.core_law.specs.Logic.{Heap}
use Rattle.core_law.specs.Sound.{Sound}
use Rattle.heap_table.specs.Ruled.{Stepped}
use Rattle.heap_table.specs.Seen.{HeapSeen, PassSeen, IsOf}
use Rattle.heap_table.specs.Stepping.{HasStepped}

pub sound_forms : (w : World) → Sound w → FormsFit w
sound_forms w sound = elim sound.valid.is [ inl a ↦ a.0.forms | inr s ↦ s.0.forms ]

-- the word that a step found
pub stepped_formed : (h : Heap) (k : ThreadView) (plan : StepPlan) (n : ℕ) → Stepped h k plan n → IsFormed h.shape plan.at n
stepped_formed h k plan n was =
    subst (λ (x : Heap). IsFormed x.shape plan.at n) was.is_of
    (subst (λ (m : ℕ). IsFormed was.world.shape plan.at m) was.was_there (is_formed was.world plan.at (sound_forms was.world was.sound)))

pub found_formed : (h : HeapSeen) (p q : PassSeen) (plan : StepPlan) (n : ℕ) → HasStepped h p q plan n → IsFormed h.heap.shape plan.at n
found_formed h p q plan n s = stepped_formed h.heap p.known plan n s.stepped

sound_limits : (w : World) → Sound w → IsInLimits w.shape
sound_limits w sound = elim sound.valid.is [ inl a ↦ a.0.limits | inr s ↦ subst IsInLimits (sym s.0.shape) s.0.fits.limits ]

-- the limits of the heap
pub in_limits : (h : HeapSeen) (p : PassSeen) → IsOf h p → IsInLimits h.heap.shape
in_limits h p is_of = let r = is_of.real in subst (λ (z : Heap). IsInLimits z.shape) r.is_of (sound_limits r.world r.sound)
