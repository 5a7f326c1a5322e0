use Rattle.core_locks.proofs.Prelude.{◌≡◌, ◌≢◌, ℕ, true, Some, refl, sym, ◌∙◌, subst, inl, inr, mark_of, Neutral}
use Rattle.core_locks.proofs.Prelude.{Displaced, World, CallContext, NextDraw, word_after, last_seen, draw_plan}
use Rattle.core_locks.proofs.monitor.RefutedCopies.{no_other_than_copied, no_other_than_own}
use Rattle.core_locks.proofs.RefutedSteps.{swap_hits}
use Rattle.core_locks.proofs.refused.inflating.no_hash_in_a_displaced_word_that_is_copied.Goals as goal

pub returns-clause-inflated : goal.returns-clause-inflated
returns-clause-inflated c = no_other_than_copied

pub returns-clause-own : goal.returns-clause-own
returns-clause-own c = no_other_than_own

-- an exchange that finds the header leaves the hash
drawn_differs : (w : World) (o r p copied header : ℕ) (e : CallContext) (draw : NextDraw)
    → w.words (Displaced r p) ≡ header → mark_of (Neutral draw.value 0) ≢ copied
    → word_after (draw_plan e draw (Displaced r p) o header).act (w.words (Displaced r p)) ≢ copied
drawn_differs w o r p copied header e draw found differs same =
    differs (sym (swap_hits (w.words (Displaced r p)) header (mark_of (Neutral draw.value 0)) found).1 ∙ same)

pub returns-clause-drawn : goal.returns-clause-drawn
returns-clause-drawn c w o u r p t copied header e draw other runs (inl stage) seen found differs valid =
    no_other_than_copied w o u r p t copied (draw_plan e draw (Displaced r p) o header) other runs stage seen refl
    (drawn_differs w o r p copied header e draw found differs) valid
returns-clause-drawn c w o u r p t copied header e draw other runs (inr own) seen found differs valid =
    no_other_than_own w r p t copied (draw_plan e draw (Displaced r p) o header)
    (λ s. other (sym own ∙ s)) (subst (λ v. (w.known v).running ≡ true) (sym own) runs)
    (subst (λ v. last_seen (Displaced r p) (w.known v).seen ≡ Some copied) (sym own) seen) refl (drawn_differs w o r p copied header e draw found differs) valid
