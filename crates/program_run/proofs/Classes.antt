-- The class of an object that is there at a heap's end, by the logs and by the words.
use Rattle.std.proofs.Common.{◌≡◌, ℕ, ◌-◌, ◌<◌, nat_lt, Bool, true, false, cond, List, length, Some, refl, sym, ap, ◌∙◌, arith}
use Rattle.std.specs.Prelude.{is_some}
use Rattle.std.proofs.lemmas.Bool.Decides.{nat_tests}
use Rattle.std.proofs.lemmas.Option.{same_Some}
use Rattle.plain_monitor.specs.Made.{class_if_there, made_after}
use Rattle.plain_history.proofs.StoreParts.{there_has_class}
use Rattle.core_world.specs.declared.word_id.WordId.TheVariants.{Class}
use Rattle.core_world.specs.Threads.ThreadView.{ThreadView}
use Rattle.core_world.specs.Threads.References.{numbering}
use Rattle.core_world.specs.Words.Names.{class_by}
use Rattle.core_world.specs.Words.Shape.{class_in_shape as shape_class}
use Rattle.core_law.specs.BiasLaw.{is_logged}
use Rattle.core_law.specs.Logic.{Heap}
use Rattle.core_law.specs.MadeLaw.{there_after}
use Rattle.core_made.proofs.NewsLogged.{logged_are_there}
use Rattle.core_made.proofs.Readings.{class_told}
use Rattle.core_made.specs.Steps.{is_there_in}
use Rattle.heap_table.specs.BiasesAtEnd.{word_in}
use Rattle.closed_heap_laws.specs.OfARun.{IsEnd, logs_in}
use Rattle.closed_heap_laws.proofs.LastWorlds.{Settled, settled}

module _ (heap : Heap) (words : List ℕ) (ks : List ThreadView) (e : IsEnd heap words ks) (made : List (List ℕ))
    (after : made_after (numbering heap.shape) (logs_in ks) ≡ Some made) (o c : ℕ) (class : class_if_there (numbering heap.shape) made o ≡ Some c) where
  s : Settled heap words ks
  s = settled heap words ks e

  same_made : s.made.made ≡ made
  same_made =
      same_Some s.made.made made
      (sym s.made.in_time ∙ (λ i. made_after (numbering (s.is_of i).shape) (s.logs_are i)) ∙ after)

  class_here : class_if_there (numbering s.world.shape) s.made.made o ≡ Some c
  class_here = (λ i. class_if_there (numbering (s.is_of i).shape) (same_made i) o) ∙ class

  -- an object that isn't declared has a class word
  words_say : o < length heap.shape.objects → (b : Bool) → nat_lt o heap.shape.declared ≡ b
      → cond b (shape_class heap.shape o) (word_in heap words (Class o) - 1) ≡ cond b (shape_class heap.shape o) (s.world.words (Class o) - 1)
  words_say within true first = refl
  words_say within false first = ap (λ n. n - 1) (s.words_are (Class o) (within, grind (arith, nat_tests, first)))

  pub class_at_end : o < length heap.shape.objects → class_by heap.shape (word_in heap words) o ≡ c
  class_at_end within =
      words_say within (nat_lt o heap.shape.declared) refl
      ∙ (λ i. class_by ((sym s.is_of i).shape) s.world.words o)
      ∙ class_told s.world s.fits.limits s.made o c class_here

  there : is_there_in s.world o ≡ true
  there =
      ap (λ m. there_after (numbering s.world.shape) m o) s.made.in_time
      ∙ sym (there_has_class (numbering s.world.shape) s.made.made o) ∙ ap is_some class_here

  -- it is declared, or its New is logged
  pub logged_at_end : is_logged heap.shape (logs_in ks) o ≡ true
  logged_at_end = (λ i. is_logged ((sym s.is_of i).shape) (sym s.logs_are i) o) ∙ logged_are_there s.world s.fits.limits s.made o ∙ there
