-- A word with the low bits 000 that is neither 0 nor a record's spells no mark.
use Rattle.std.proofs.Common.{arith, refl}
use Rattle.mark_word.specs.declared.mark.MarkForm.TheVariants.{Inflating, Locked}
use Rattle.mark_word.proofs.mark.decode_locked.Goals as goal

pub returns-in-None-2-clause-none : goal.returns-in-None-2-clause-none
returns-in-None-2-clause-none c Inflating h = absurd (omega (arith, c.if-word-eq0.false, h.1))
returns-in-None-2-clause-none c (Locked thread place) h = c.in-None.ensures.none refl thread place h.0 h.1
returns-in-None-2-clause-none c _ h = absurd (omega (arith, c.requires, h.1))
