-- What the law of biases says of a heap at its end, over its logs, the verdicts that its passes counted, and its words.
use Rattle.std.specs.Prelude.{◌≡◌, ℕ, zero, suc, ◌<◌, List, [], ◌∷◌, length, slice_index}
use Rattle.plain_monitor.specs.declared.entry.Logged.{Logged}
use Rattle.core_world.specs.declared.word_id.WordId.{WordId}
use Rattle.core_world.specs.declared.word_id.WordId.TheVariants.{Revocations}
use Rattle.core_world.specs.Threads.Counts.{CountedVerdict}
use Rattle.core_world.specs.Threads.ThreadView.{ThreadView}
use Rattle.core_world.specs.Words.Names.{class_by}
use Rattle.core_law.specs.BiasLaw.{is_logged}
use Rattle.core_law.specs.Logic.{Heap}
use Rattle.core_law.specs.OfARun.{BiasesOfRun, VerdictsAtMost}
use Rattle.heap_table.specs.Layout.{place_of}

-- the verdicts that the t-th of these threads counted
abbrev pub counted_by : List ThreadView → ℕ → List CountedVerdict
counted_by [] t = []
counted_by (k ∷ ks) zero = k.counts
counted_by (k ∷ ks) (suc t) = counted_by ks t

-- the word of this name, among all words of a heap
abbrev pub word_in : Heap → List ℕ → WordId → ℕ
word_in heap words n = slice_index words (place_of heap.shape n)

-- Each thread has counted at most `more` verdicts beyond its entries. Which objects there are the logs say; the class of each, and the counts of
-- revocations, are what the words say.
pub record BiasesAtEnd (more : ℕ) (heap : Heap) (words : List ℕ) (logs : List (List Logged))
    (ks : List ThreadView) : Type 0 where
  pub class : ℕ → ℕ
  pub count : ℕ → ℕ
  pub class_is : (o : ℕ) → o < length heap.shape.objects → class o ≡ class_by heap.shape (word_in heap words) o
  pub words_are : (c : ℕ) → c < heap.shape.classes → word_in heap words (Revocations c) ≡ count c
  pub biases : BiasesOfRun heap.biasing heap.shape.threads (is_logged heap.shape logs) class logs count (counted_by ks)
  pub verdicts : VerdictsAtMost more heap.shape.threads heap.shape.classes logs (counted_by ks)
