-- Which objects are there, in a world in which the law of what is there holds: those that a thread knows, and those whose words show it.
use Rattle.std.proofs.Common.{◌≡◌, ◌≢◌, ℕ, Bool, true, false, refl, ap, ◌∙◌}
use Rattle.mark_word.specs.Mark.{mark_of}
use Rattle.mark_word.specs.declared.mark.MarkForm.TheVariants.{Neutral}
use Rattle.plain_monitor.specs.Made.{Numbering, is_there}
use Rattle.core_world.specs.declared.word_id.WordId.TheVariants.{Class}
use Rattle.core_world.specs.Locks.{marks, hold_count}
use Rattle.core_world.specs.Threads.References.{numbering}
use Rattle.core_world.specs.World.{World, logs}
use Rattle.core_law.specs.MadeLaw.{MadeLawHolds, IsAbsent, there_after}
use Rattle.core_made.specs.Steps.{is_there_in, knows_in}
use Rattle.core_made.proofs.KnownByLog.{by_log_known}

module _ (w : World) (law : MadeLawHolds w) where
  abbrev n : Numbering
  n = numbering w.shape

  there_in : (o : ℕ) → is_there_in w o ≡ is_there n law.made o
  there_in o = ap (λ made. there_after n made o) law.in_time

  -- an object that isn't as absent objects are is there
  there_unless : (o : ℕ) → (IsAbsent (λ t. (w.known t).unfinished) o (w.words (Class o)) (marks w o) (λ t. (w.known t).holds) → ⊥) → is_there_in w o ≡ true
  there_unless o not_absent = there_in o ∙ by_test (is_there n law.made o) refl
    where
      by_test : (b : Bool) → is_there n law.made o ≡ b → b ≡ true
      by_test true e = refl
      by_test false e = absurd (not_absent (law.absent o e))

  pub known_there : (t o : ℕ) → knows_in w t o ≡ true → is_there_in w o ≡ true
  known_there t o knows = there_in o ∙ (by_log_known n law.made (logs w) law.in_time (w.known t).log t (law.known t) o knows).there

  pub marked_there : (o : ℕ) → marks w o ≢ mark_of (Neutral 0 0) → is_there_in w o ≡ true
  marked_there o marked = there_unless o (λ a. marked a.neutral)

  pub held_there : (t o : ℕ) → hold_count o (w.known t).holds ≢ 0 → is_there_in w o ≡ true
  held_there t o held = there_unless o (λ a. held (a.unheld t))
