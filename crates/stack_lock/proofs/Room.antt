-- A thread with a free place has room for one more hold of each object.
use Rattle.std.proofs.Common.{◌≡◌, ℕ, suc, ◌+◌, ◌<◌, ◌≤◌, ◌==◌, eqb-true, Bool, true, false, cond, not, List, [], ◌∷◌, length, refl, ap, ◌∙◌, subst, sym, arith}
use Rattle.std.specs.List.{position_or_len}
use Rattle.plain_monitor.specs.Limits.{most_holds}
use Rattle.core_world.specs.Words.Forms.{names}
use Rattle.core_world.specs.Threads.Stages.{one_if}
use Rattle.core_world.specs.Locks.{count_where, hold_count}
use Rattle.core_world.specs.Trees.Plans.{free_place}
use Rattle.core_world.proofs.Readings.{names_none}

few : (o i : ℕ) (hs : List ℕ) → count_where (λ p h. names o h) i hs ≤ length hs
few o i [] = omega arith
few o i (y ∷ hs) = let a = few o (i + 1) hs in cases (names o y) a
  where
    cases : (b : Bool) → count_where (λ p h. names o h) (i + 1) hs ≤ length hs → one_if b + count_where (λ p h. names o h) (i + 1) hs ≤ suc (length hs)
    cases true a = omega (arith, a)
    cases false a = omega (arith, a)

fewer : (o i : ℕ) (hs : List ℕ) → position_or_len (λ h. h == 0) hs < length hs → count_where (λ p h. names o h) i hs + 1 ≤ length hs
fewer o i [] h = absurd (omega (arith, h))
fewer o i (y ∷ hs) h = free (y == 0) refl (fewer o (i + 1) hs) h
  where
    counted : (b : Bool) → count_where (λ p h. names o h) (i + 1) hs + 1 ≤ length hs
        → one_if b + count_where (λ p h. names o h) (i + 1) hs + 1 ≤ suc (length hs)
    counted true a = omega (arith, a)
    counted false a = omega (arith, a)

    free : (b : Bool) → (y == 0) ≡ b → (position_or_len (λ h. h == 0) hs < length hs → count_where (λ p h. names o h) (i + 1) hs + 1 ≤ length hs)
        → cond (not b) (1 + position_or_len (λ h. h == 0) hs) 0 < suc (length hs)
        → one_if (names o y) + count_where (λ p h. names o h) (i + 1) hs + 1 ≤ suc (length hs)
    free true e rest h =
        let a = few o (i + 1) hs in
        let b : names o y ≡ false = ap (names o) (eqb-true y 0 e) ∙ names_none o in
        subst (λ z. one_if z + count_where (λ p h. names o h) (i + 1) hs + 1 ≤ suc (length hs)) (sym b) (omega (arith, a))
    free false e rest h = counted (names o y) (rest (omega (arith, h)))

pub room : (o : ℕ) (hs : List ℕ) → length hs ≡ most_holds → free_place hs < most_holds → hold_count o hs + 1 ≤ most_holds
room o hs all h = let a = fewer o 0 hs (omega (arith, all, h)) in omega (arith, a, all)
