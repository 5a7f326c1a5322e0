-- Which forms of a mark are neutral.
use Rattle.std.specs.Prelude.{◌-◌}
use Rattle.mark_word.specs.declared.mark.MarkForm.{MarkForm}
use Rattle.mark_word.specs.declared.mark.MarkForm.TheVariants.{Neutral}

-- the form is neutral
abbrev pub IsNeutralForm : MarkForm → Type 0
IsNeutralForm (Neutral hash age) = Unit {0}
IsNeutralForm _ = ⊥
