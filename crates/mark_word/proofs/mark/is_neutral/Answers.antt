-- A word that spells no form spells no neutral one.
use Rattle.mark_word.specs.declared.mark.MarkForm.TheVariants.{Neutral}
use Rattle.mark_word.proofs.mark.is_neutral.Goals as goal

pub returns-in-Err : goal.returns-in-Err
returns-in-Err c = ((λ yes. cc), λ (hash, (age, spells)). absurd (c.in-Err.ensures.none (Neutral hash age) spells))
