-- The stores in the displaced words of the records of an object that is validly biased keep all clauses but that of what was seen.
use Rattle.core_locks.proofs.Prelude.{◌≡◌, ℕ, suc, ◌+◌, ◌++◌, Bool, true, false, List, [], ◌∷◌, slice_index, refl, sym, ap, ◌∙◌, arith}
use Rattle.core_locks.proofs.Prelude.{add-zero, PlainObject, WordId, Displaced, with_word, names, is_biased, World, BiasedTo, lock, marks}
use Rattle.core_world.specs.RevocationRules.{words_after, record_writes}
use Rattle.core_bias.proofs.Unseen.{FitsUnseen, with_words}
use Rattle.core_bias.proofs.MarkTurns.{AllCalm}
use Rattle.core_bias.proofs.DisplacedTurns.{displaced_turned}
use Rattle.core_bias.proofs.Places.{displaced_word, here}

module _ (w : World) (P : List PlainObject) (o t : ℕ) (calm : AllCalm w) where
  pub records_fit : (hs : List ℕ) (p : ℕ) (f : WordId → ℕ) → is_biased (marks (with_words f w) o) ≡ true → lock (with_words f w) o ≡ BiasedTo t
      → ((i : ℕ) → slice_index hs i ≡ slice_index (w.known t).holds (p + i)) → FitsUnseen (with_words f w) P
      → FitsUnseen (with_words (words_after (record_writes o t p hs) f) w) P
  records_fit [] p f biased leans h v = v
  records_fit (y ∷ hs) p f biased leans h v = cases (names o y) refl (records_fit hs (p + 1))
    where
      others : (i : ℕ) → slice_index hs i ≡ slice_index (w.known t).holds (p + 1 + i)
      others i = let e : p + suc i ≡ p + 1 + i = omega arith in h (suc i) ∙ ap (slice_index (w.known t).holds) e

      cases : (b : Bool) → names o y ≡ b
          → ((g : WordId → ℕ) → is_biased (marks (with_words g w) o) ≡ true → lock (with_words g w) o ≡ BiasedTo t
          → ((i : ℕ) → slice_index hs i ≡ slice_index (w.known t).holds (p + 1 + i)) → FitsUnseen (with_words g w) P
          → FitsUnseen (with_words (words_after (record_writes o t (p + 1) hs) g) w) P)
          → FitsUnseen (with_words (words_after (here o t p y b ++ record_writes o t (p + 1) hs) f) w) P
      cases true e ih =
          let held : names o (slice_index (w.known t).holds p) ≡ true =
          ap (λ q. names o (slice_index (w.known t).holds q)) (sym (add-zero p)) ∙ ap (names o) (sym (h 0)) ∙ e in
          ih (with_word (Displaced t p) (displaced_word o y) f) biased leans others
          (displaced_turned (with_words f w) P o t p (displaced_word o y) calm biased leans held v)
      cases false e ih = ih f biased leans others v
