-- Marks and prototypes by which no bias is entered or ended.
use Rattle.std.proofs.Common.{◌≡◌, ℕ, Some, refl}
use Rattle.mark_word.specs.declared.mark.MarkForm.{MarkForm}
use Rattle.mark_word.specs.declared.mark.MarkForm.TheVariants.{Neutral, Anonymous, Biased}
use Rattle.core_world.specs.Threads.ThreadView.{Local}
use Rattle.core_world.specs.Trees.BiasSteps.{bias_enter_at, bias_enter_by, bias_drop_at, bias_after_at}
use Rattle.core_world.specs.Trees.Plans.{CallContext}
use Rattle.core_world.specs.Trees.StepTree.{unreachable}

pub never_entered : (f : MarkForm) (epoch : ℕ) (e : CallContext) (k : Local) (o mark : ℕ)
    → ((t old age : ℕ) → f ≡ Biased t old age → ⊥) → ((old age : ℕ) → f ≡ Anonymous old age → ⊥)
    → bias_enter_at (Some f) epoch e k o mark ≡ unreachable
never_entered (Anonymous old age) epoch e k o mark biased anonymous = absurd (anonymous old age refl)
never_entered (Biased t old age) epoch e k o mark biased anonymous = absurd (biased t old age refl)
never_entered _ epoch e k o mark biased anonymous = refl

pub no_prototype : (f : MarkForm) (e : CallContext) (k : Local) (o mark prototype : ℕ)
    → ((hash age : ℕ) → f ≡ Neutral hash age → ⊥) → ((epoch age : ℕ) → f ≡ Anonymous epoch age → ⊥)
    → bias_enter_by (Some f) e k o mark prototype ≡ unreachable
no_prototype (Neutral hash age) e k o mark prototype neutral anonymous = absurd (neutral hash age refl)
no_prototype (Anonymous epoch age) e k o mark prototype neutral anonymous = absurd (anonymous epoch age refl)
no_prototype _ e k o mark prototype neutral anonymous = refl

pub never_dropped : (f : MarkForm) (epoch : ℕ) (e : CallContext) (o mark : ℕ)
    → ((t old age : ℕ) → f ≡ Biased t old age → ⊥) → ((old age : ℕ) → f ≡ Anonymous old age → ⊥)
    → bias_drop_at (Some f) epoch e o mark ≡ unreachable
never_dropped (Anonymous old age) epoch e o mark biased anonymous = absurd (anonymous old age refl)
never_dropped (Biased t old age) epoch e o mark biased anonymous = absurd (biased t old age refl)
never_dropped _ epoch e o mark biased anonymous = refl

pub never_after : (f : MarkForm) (e : CallContext) (k : Local) (o : ℕ)
    → ((t epoch age : ℕ) → f ≡ Biased t epoch age → ⊥)
    → bias_after_at (Some f) e k o ≡ unreachable
never_after (Biased t epoch age) e k o biased = absurd (biased t epoch age refl)
never_after _ e k o biased = refl
