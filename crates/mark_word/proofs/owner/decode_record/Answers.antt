-- A word with the low bits 000 that is neither 0 nor a record's spells no owner.
use Rattle.std.proofs.Common.{arith, refl}
use Rattle.mark_word.specs.declared.owner.OwnerForm.TheVariants.{Free, ByThread, ByRecord}
use Rattle.mark_word.proofs.owner.decode_record.Goals as goal

pub returns-in-None-2-clause-none : goal.returns-in-None-2-clause-none
returns-in-None-2-clause-none c Free h = absurd (omega (arith, c.if-word-eq0.false, h.1))
returns-in-None-2-clause-none c (ByThread thread) h = absurd (omega (arith, c.requires, h.1))
returns-in-None-2-clause-none c (ByRecord thread place) h = c.in-None.ensures.none refl thread place h.0 h.1
