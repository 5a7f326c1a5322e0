-- Weakened trees don't get through.
use Rattle.std.proofs.Common.{◌≡◌, ◌≢◌, ℕ, ◌==◌, cond, Bool, true, false, List, refl, ne_eqb}
use Rattle.core_world.specs.declared.word_id.WordId.{WordId}
use Rattle.core_world.specs.declared.word_id.WordId.TheVariants.{Mark, Displaced, Waiting}
use Rattle.core_world.specs.Threads.ThreadView.{Local, StepMade}
use Rattle.core_world.specs.Trees.Plans.{CallContext, free_place}
use Rattle.core_world.specs.Trees.StepTree.{StepTree}
use Rattle.core_calls.specs.Paths.{Always}
use Rattle.solo_progress.specs.Alone.{AnswersAlone, FoundAlone}
use Rattle.solo_progress.specs.Answers.{is_told, WaitsWhere, IsDone}
use Rattle.solo_progress.specs.Weakened.{expecting_steps, forgetful_steps}

either_is : {A : Type 0} (P : List StepMade → A → Type 0) (ms : List StepMade) (b : Bool) (x y : StepTree A) → b ≡ false
    → Always P ms (cond b x y) → Always P ms y
either_is P ms true x y e h = absurd (cc e)
either_is P ms false x y e h = h

pub no_other_word : (e : CallContext) (k : Local) (o mark expected : ℕ) (f : WordId → ℕ) → f (Mark o) ≢ expected
    → AnswersAlone f (expecting_steps e k o mark expected) IsDone → ⊥
no_other_word e k o mark expected f differ says =
    either_is (λ ms a. FoundAlone f ms → IsDone a) _ (f (Mark o) == expected) _ _ (ne_eqb (f (Mark o)) expected differ)
    (says.by (f (Displaced k.thread (free_place k.holds))) (f (Mark o)))
    (refl, (refl, tt))

pub no_forgetting : (e : CallContext) (t : ℕ) (owned : Bool) (f : WordId → ℕ) → is_told (f (Waiting t)) ≡ true
    → AnswersAlone f (forgetful_steps e t) (WaitsWhere (is_told (f (Waiting t))) owned) → ⊥
no_forgetting e t owned f told says = let untold = says.by (f (Waiting t)) (refl, tt) in absurd (cc (told, untold))
