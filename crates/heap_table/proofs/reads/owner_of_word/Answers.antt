use Rattle.std.proofs.Common.{◌∙◌}
use Rattle.heap_table.proofs.Reading.{owner_read}
use Rattle.heap_table.proofs.reads.owner_of_word.Goals as goal

pub returns : goal.returns
returns c = c.ok.ensures.value ∙ owner_read _ _ c.decode_owner.ensures.found c.decode_owner.ensures.none
