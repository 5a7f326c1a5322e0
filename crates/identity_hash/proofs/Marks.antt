-- Marks by which no hash is found or given.
use Rattle.std.proofs.Common.{◌≡◌, ℕ, Option, Some, refl}
use Rattle.mark_word.specs.declared.mark.MarkForm.{MarkForm}
use Rattle.mark_word.specs.declared.mark.MarkForm.TheVariants.{Inflating, Neutral, Locked, Inflated}
use Rattle.core_world.specs.Threads.ThreadView.{Local}
use Rattle.core_world.specs.Trees.HashSteps.{NextDraw, hash_mark_steps}
use Rattle.core_world.specs.Trees.Plans.{CallContext}
use Rattle.core_world.specs.Trees.StepTree.{unreachable}
use Rattle.core_world.specs.Words.Shape.{Shape}

pub never_hashed : (f : MarkForm) (s : Shape) (e : CallContext) (k : Local) (kept : Option ℕ) (d : NextDraw) (o mark : ℕ) → (f ≡ Inflating → ⊥)
    → ((hash age : ℕ) → f ≡ Neutral hash age → ⊥) → ((t p : ℕ) → f ≡ Locked t p → ⊥) → ((m : ℕ) → f ≡ Inflated m → ⊥)
    → hash_mark_steps (Some f) s e k kept d o mark ≡ unreachable
never_hashed Inflating s e k kept d o mark inflating neutral locked inflated = absurd (inflating refl)
never_hashed (Neutral hash age) s e k kept d o mark inflating neutral locked inflated = absurd (neutral hash age refl)
never_hashed (Locked t p) s e k kept d o mark inflating neutral locked inflated = absurd (locked t p refl)
never_hashed (Inflated m) s e k kept d o mark inflating neutral locked inflated = absurd (inflated m refl)
never_hashed _ s e k kept d o mark inflating neutral locked inflated = refl
