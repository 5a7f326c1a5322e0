-- Steps of the lines on the threads.
use Rattle.std.proofs.Common.{◌≡◌, ℕ, zero, suc, ◌+◌, ◌<◌, List, [], ◌∷◌, length, drop, slice_get, Some, refl, arith}
use Rattle.std.proofs.Math.Numerals.{add-one}
use Rattle.plain_machine.specs.Machine.{PlainMachine}
use Rattle.lock_journal.specs.LinesLeft.{threads_left}
use Rattle.lock_journal.specs.inner.LineTexts.{thread_line}

-- the item at a place, and the list from there on
record At {A : Type 0} (xs : List A) (n : ℕ) : Type 0 where
  item : A
  got : slice_get xs n ≡ Some item
  rest : drop n xs ≡ item ∷ drop (suc n) xs

at_within : {A : Type 0} (xs : List A) (n : ℕ) → n < length xs → At xs n
at_within [] n h = absurd (omega arith)
at_within (x ∷ xs) zero h = record { item = x; got = refl; rest = refl }
at_within (x ∷ xs) (suc n) h =
    let there = at_within xs n (omega arith) in
    record { item = there.item; got = there.got; rest = there.rest }

-- a thread's line comes first
pub threads_left-line : (m : PlainMachine) (t : ℕ) → t < length m.threads → threads_left m t ≡ thread_line m t ∷ threads_left m (t + 1)
threads_left-line m t h =
    let there = at_within m.threads t h in
    rw (there.rest, there.got, add-one) refl
