-- Marks by which no stack lock is entered or left.
use Rattle.std.proofs.Common.{◌≡◌, ℕ, Some, refl}
use Rattle.mark_word.specs.declared.mark.MarkForm.{MarkForm}
use Rattle.mark_word.specs.declared.mark.MarkForm.TheVariants.{Inflating, Neutral, Locked, Inflated}
use Rattle.core_world.specs.Threads.ThreadView.{Local}
use Rattle.core_world.specs.Trees.LockSteps.{stack_enter_at, stack_exit_at}
use Rattle.core_world.specs.Trees.Plans.{CallContext}
use Rattle.core_world.specs.Trees.StepTree.{unreachable}

pub never_entered : (f : MarkForm) (e : CallContext) (k : Local) (o mark : ℕ) → ((hash age : ℕ) → f ≡ Neutral hash age → ⊥) → ((t p : ℕ) → f ≡ Locked t p → ⊥)
    → stack_enter_at (Some f) e k o mark ≡ unreachable
never_entered (Neutral hash age) e k o mark neutral locked = absurd (neutral hash age refl)
never_entered (Locked t p) e k o mark neutral locked = absurd (locked t p refl)
never_entered _ e k o mark neutral locked = refl

pub never_left : (f : MarkForm) (e : CallContext) (k : Local) (o header mark : ℕ)
    → (f ≡ Inflating → ⊥) → ((t p : ℕ) → f ≡ Locked t p → ⊥) → ((m : ℕ) → f ≡ Inflated m → ⊥)
    → stack_exit_at (Some f) e k o header mark ≡ unreachable
never_left Inflating e k o header mark inflating locked inflated = absurd (inflating refl)
never_left (Locked t p) e k o header mark inflating locked inflated = absurd (locked t p refl)
never_left (Inflated m) e k o header mark inflating locked inflated = absurd (inflated m refl)
never_left _ e k o header mark inflating locked inflated = refl
