use Rattle.std.proofs.Common.{◌∙◌}
use Rattle.heap_table.proofs.Reading.{hold_read}
use Rattle.heap_table.proofs.reads.hold_of_word.Goals as goal

pub returns : goal.returns
returns c = c.ok.ensures.value ∙ hold_read _ _ c.decode_hold.ensures.found c.decode_hold.ensures.none
