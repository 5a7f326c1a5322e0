use Rattle.std.proofs.Common.{ap, ◌∙◌}
use Rattle.mark_word.specs.Safe.{read_safe}
use Rattle.mark_word.proofs.ReadingSafepoints.{read_safe-safe_of, read_safe-spells}
use Rattle.mark_word.proofs.laws.safepoints_are_read.Goals as goal

pub returns : goal.returns
returns c = λ word form. (read_safe-spells word form, λ h. ap read_safe h.1 ∙ read_safe-safe_of form h.0)
