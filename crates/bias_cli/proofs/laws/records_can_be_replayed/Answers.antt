use Rattle.bias_cli.proofs.Replayed.{replayed_legal, replayed_threads}
use Rattle.bias_cli.proofs.laws.records_can_be_replayed.Goals as goal

pub returns-clause-legal : goal.returns-clause-legal
returns-clause-legal c = replayed_legal

pub returns-clause-threads : goal.returns-clause-threads
returns-clause-threads c = replayed_threads
