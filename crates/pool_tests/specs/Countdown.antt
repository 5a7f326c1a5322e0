-- What a countdown may be where it lies in a pool.
use Rattle.std.specs.Prelude.{◌≡◌, ℕ}
use Rattle.turn_pool.specs.declared.word.Word.{Word}
use Rattle.turn_pool.specs.declared.word.Word.TheVariants.{Ended, Stopped}
use Rattle.pool_tests.specs.declared.countdown.Countdown.{Countdown}

-- it lies in the slot of its name, is at 0 where it has ended, and none stops all
abbrev pub MayBe : Word → ℕ → Countdown → Type 0
MayBe w i c = (c.name ≡ i) × (w ≡ Ended → c.left ≡ 0) × (w ≡ Stopped → ⊥)
