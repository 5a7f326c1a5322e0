-- What an instruction of a thread sees: its frame, and its holds as its pass has them.
use Rattle.std.specs.Prelude.{◌≡◌, ℕ, zero, suc, List, [], ◌∷◌, sum}
use Rattle.core_world.specs.Locks.{hold_count}
use Rattle.heap_table.specs.Kept.{all_holds}

-- how often each of n objects, from o on, is held by these hold words
abbrev pub counts_from : ℕ → ℕ → List ℕ → List ℕ
counts_from o zero words = []
counts_from o (suc n) words = hold_count o words ∷ counts_from (suc o) n words

-- these hold words name none but the first n objects, so that their number is the sum of these counts
abbrev pub AreOf : ℕ → List ℕ → Type 0
AreOf n words = all_holds words ≡ sum (counts_from 0 n words)
