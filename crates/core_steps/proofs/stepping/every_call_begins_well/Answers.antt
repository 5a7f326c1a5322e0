use Rattle.core_steps.proofs.Table.{calls_begin}
use Rattle.core_steps.proofs.stepping.every_call_begins_well.Goals as goal

pub returns : goal.returns
returns c = calls_begin
