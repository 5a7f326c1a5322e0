use Rattle.bias_cli.proofs.Exemplified.{blocks_code, blocks_met, blocks_read, code_short}
use Rattle.bias_cli.proofs.witnesses.a_small_program_with_a_block_can_be_run.Goals as goal

pub returns-clause-text : goal.returns-clause-text
returns-clause-text c = blocks_read

pub returns-clause-code : goal.returns-clause-code
returns-clause-code c = blocks_code

pub returns-clause-short : goal.returns-clause-short
returns-clause-short c = code_short

pub returns-clause-met : goal.returns-clause-met
returns-clause-met c = blocks_met
