use Rattle.std.proofs.Common.{◌∙◌}
use Rattle.heap_table.proofs.Reading.{wait_read}
use Rattle.heap_table.proofs.reads.wait_of_word.Goals as goal

pub returns : goal.returns
returns c = c.ok.ensures.value ∙ wait_read _ _ c.decode_wait.ensures.found c.decode_wait.ensures.none
