-- What the prototype of a class may be.
use Rattle.std.specs.Prelude.{Option, Some}
use Rattle.mark_word.specs.declared.mark.MarkForm.{MarkForm}
use Rattle.mark_word.specs.declared.mark.MarkForm.TheVariants.{Anonymous, Neutral}

-- neutral, where the class has no biases any more, or biased to no thread
abbrev pub IsPrototypeForm : Option MarkForm → Type 0
IsPrototypeForm (Some (Neutral hash age)) = Unit {0}
IsPrototypeForm (Some (Anonymous epoch age)) = Unit {0}
IsPrototypeForm _ = ⊥
