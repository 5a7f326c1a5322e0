use Rattle.std.specs.Prelude.{decimal}
use Rattle.sync_source.proofs.Same.{does_the_same}
use Rattle.sync_source.proofs.Names.{compiled_is_program, all_plain}
use Rattle.sync_source.proofs.laws.code_does_what_its_blocks_do.Goals as goal

pub returns : goal.returns
returns c = record { program = compiled_is_program; same = λ p h. does_the_same decimal p (all_plain p h) }
