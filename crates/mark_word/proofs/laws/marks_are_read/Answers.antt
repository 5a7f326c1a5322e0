use Rattle.std.proofs.Common.{ap, ◌∙◌}
use Rattle.mark_word.specs.Mark.{read_mark}
use Rattle.mark_word.proofs.ReadingMarks.{read_mark-mark_of, read_mark-spells}
use Rattle.mark_word.proofs.laws.marks_are_read.Goals as goal

pub returns : goal.returns
returns c = λ word form. (read_mark-spells word form, λ h. ap read_mark h.1 ∙ read_mark-mark_of form h.0)
