use Rattle.bias_check.proofs.OrdersOfLogs.{run_splits}
use Rattle.bias_check.proofs.laws.runs_split_into_legal_logs.Goals as goal

pub returns : goal.returns
returns c = run_splits
