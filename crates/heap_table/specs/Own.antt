-- A mark that is the thread's own bias, valid by this prototype.
use Rattle.std.specs.Prelude.{◌≡◌, ℕ, Some}
use Rattle.mark_word.specs.Mark.{read_mark}
use Rattle.mark_word.specs.declared.mark.MarkForm.TheVariants.{Anonymous, Biased}

pub record IsOwn (mark prototype thread : ℕ) : Type 0 where
  pub epoch : ℕ
  pub age : ℕ
  pub prototype_age : ℕ
  pub mark_is : read_mark mark ≡ Some (Biased thread epoch age)
  pub prototype_is : read_mark prototype ≡ Some (Anonymous epoch prototype_age)
