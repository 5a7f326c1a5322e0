use Rattle.std.proofs.Common.{ap, ◌∙◌}
use Rattle.mark_word.specs.Owner.{read_owner}
use Rattle.mark_word.proofs.ReadingOwners.{read_owner-owner_of, read_owner-spells}
use Rattle.mark_word.proofs.laws.owners_are_read.Goals as goal

pub returns : goal.returns
returns c = λ word form. (read_owner-spells word form, λ h. ap read_owner h.1 ∙ read_owner-owner_of form h.0)
