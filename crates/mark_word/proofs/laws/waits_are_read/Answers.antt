use Rattle.std.proofs.Common.{ap, ◌∙◌}
use Rattle.mark_word.specs.Wait.{read_wait}
use Rattle.mark_word.proofs.ReadingWaits.{read_wait-wait_of, read_wait-spells}
use Rattle.mark_word.proofs.laws.waits_are_read.Goals as goal

pub returns : goal.returns
returns c = λ word form. (read_wait-spells word form, λ h. ap read_wait h.1 ∙ read_wait-wait_of form h.0)
