-- Guesses of where names stand.
use Rattle.std.proofs.Common.{◌≡◌, ℕ, Bool, true, false, List, replicate, refl, sym, subst, bytes_eq, Option, Some, None}
use Rattle.std.specs.Prelude.{IfSome, slice_set, slice_index_or}
use Rattle.plain_monitor.proofs.Lists.{all_or, all_set, all_replicate}
use Rattle.program_syntax.specs.Directory.{IsPlace}
use Rattle.bias_check.specs.declared.finder.Guess.{Guess}
use Rattle.bias_check.specs.inner.Guesses.{IsGuess, AreGuesses, place_by}
use Rattle.bias_check.proofs.Spellings.{same_word}

pub none_guessed : (names : List (List ℕ)) (gs : List (Option Guess)) → gs ≡ replicate 512 None → AreGuesses names gs
none_guessed names gs h = subst (AreGuesses names) (sym h) (all_replicate (λ g. IsGuess names g) 512 None tt)

pub one_guessed : (names : List (List ℕ)) (gs hs : List (Option Guess)) (slot : ℕ) (g : Guess) → AreGuesses names gs → IsPlace names g.name (Some g.place)
    → hs ≡ slice_set gs slot (Some g) → AreGuesses names hs
one_guessed names gs hs slot g all at h = subst (AreGuesses names) (sym h) (all_set (λ g. IsGuess names g) gs slot (Some g) at all)

-- the place by a guess is right
place_right : (names : List (List ℕ)) (word : List ℕ) (g : Guess) (b : Bool) → bytes_eq g.name word ≡ b → IsPlace names g.name (Some g.place)
    → IfSome (place_by (Some g) word) (λ n. IsPlace names word (Some n))
place_right names word g true e at = rw e (subst (λ (w : List ℕ). IsPlace names w (Some g.place)) (same_word g.name word e) at)
place_right names word g false e at = rw e tt

guess_right : (names : List (List ℕ)) (word : List ℕ) (g : Option Guess) → IsGuess names g → IfSome (place_by g word) (λ n. IsPlace names word (Some n))
guess_right names word None at = tt
guess_right names word (Some g) at = place_right names word g (bytes_eq g.name word) refl at

pub guessed : (names : List (List ℕ)) (gs : List (Option Guess)) (slot : ℕ) (word : List ℕ) (found : Option ℕ) → AreGuesses names gs
    → found ≡ place_by (slice_index_or gs slot None) word → IfSome found (λ n. IsPlace names word (Some n))
guessed names gs slot word found all h =
    subst (λ (r : Option ℕ). IfSome r (λ n. IsPlace names word (Some n))) (sym h)
    (guess_right names word (slice_index_or gs slot None) (all_or (λ g. IsGuess names g) gs slot None tt all))
