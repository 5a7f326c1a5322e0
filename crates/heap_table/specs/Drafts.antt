-- The shot that a pass is taking: the log lengths and the cells so far.
use Rattle.std.specs.Prelude.{◌≡◌, ℕ, List, Option}
use Rattle.core_world.specs.declared.plan.LocalEffect.{LocalEffect}
use Rattle.core_world.specs.declared.plan.LocalEffect.TheVariants as own
use Rattle.core_world.specs.Threads.ThreadView.{ThreadView}
use Rattle.core_world.specs.Words.Shape.{Shape}
use Rattle.core_world.specs.Steps.{cut_from, cells_from, seen_words}

-- where a step takes a shot, the draft is what the thread has seen at its safepoint
abbrev pub IsDrafted : LocalEffect → Shape → ThreadView → List ℕ → List (Option ℕ × ℕ) → Type 0
IsDrafted own.TakeShot s k cut cells =
    (cut ≡ cut_from 0 s.threads k) × (cells ≡ cells_from 0 s.objects s (seen_words k))
IsDrafted _ s k cut cells = Unit {0}

-- a step that takes no shot leaves the draft
abbrev pub IsLeft : LocalEffect → List ℕ → List (Option ℕ × ℕ) → List ℕ → List (Option ℕ × ℕ) → Type 0
IsLeft own.TakeShot cut cells cut_after cells_after = Unit {0}
IsLeft _ cut cells cut_after cells_after = (cut_after ≡ cut) × (cells_after ≡ cells)
