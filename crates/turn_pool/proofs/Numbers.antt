-- Words and their numbers.
use Rattle.std.proofs.Common.{◌≡◌, ◌<◌, refl, arith}
use Rattle.turn_pool.specs.declared.word.Word.{Word}
use Rattle.turn_pool.specs.declared.word.Word.TheVariants.{Ready}
use Rattle.turn_pool.specs.inner.Words.{number, word_of}

pub below : (w : Word) → number w < 3
below Ready = omega arith
below _ = omega arith

pub back : (w : Word) → word_of (number w) ≡ w
back Ready = refl
back _ = refl
