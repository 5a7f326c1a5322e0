use Rattle.std.proofs.Common.{ap, ◌∙◌}
use Rattle.mark_word.specs.Hold.{read_hold}
use Rattle.mark_word.proofs.ReadingHolds.{read_hold-hold_of, read_hold-spells}
use Rattle.mark_word.proofs.laws.holds_are_read.Goals as goal

pub returns : goal.returns
returns c = λ word form. (read_hold-spells word form, λ h. ap read_hold h.1 ∙ read_hold-hold_of form h.0)
