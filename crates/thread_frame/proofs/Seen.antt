-- What an instruction of a thread sees of its holds.
use Rattle.std.proofs.Common.{◌≡◌, ℕ, zero, suc, ◌+◌, ◌<◌, ◌≤◌, List, get_or, refl, ap, ◌∙◌, arith}
use Rattle.core_world.specs.Locks.{hold_count}
use Rattle.thread_frame.specs.Sights.{counts_from}

counted : (words : List ℕ) (o n k : ℕ) → k < n → hold_count (o + k) words ≡ get_or (counts_from o n words) k 0
counted words o zero k l = absurd (omega (arith, l))
counted words o (suc n) zero l = let same : o + 0 ≡ o = omega arith in ap (λ k. hold_count k words) same
counted words o (suc n) (suc k) l =
    let same : o + suc k ≡ suc o + k = omega arith in
    ap (λ j. hold_count j words) same ∙ counted words (suc o) n k (omega (arith, l))

-- how often an object is held, where it is one of the first n
pub within : (words : List ℕ) (n o : ℕ) → o < n → hold_count o words ≡ get_or (counts_from 0 n words) o 0
within words n o l = let same : o ≡ 0 + o = omega arith in ap (λ k. hold_count k words) same ∙ counted words 0 n o l

-- and where it is not
pub beyond : (words : List ℕ) (o n k : ℕ) → n ≤ k → 0 ≡ get_or (counts_from o n words) k 0
beyond words o zero k l = refl
beyond words o (suc n) zero l = absurd (omega (arith, l))
beyond words o (suc n) (suc k) l = beyond words (suc o) n k (omega (arith, l))
