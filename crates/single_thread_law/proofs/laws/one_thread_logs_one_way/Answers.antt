use Rattle.single_thread_law.proofs.OneWay.{same_runs}
use Rattle.single_thread_law.proofs.laws.one_thread_logs_one_way.Goals as goal

pub returns-clause-logs : goal.returns-clause-logs
returns-clause-logs c = λ p fuel start logs others m n r q. (same_runs p fuel start logs others m n r q).same

pub returns-clause-machines : goal.returns-clause-machines
returns-clause-machines c = λ p fuel start logs others m n r q. (same_runs p fuel start logs others m n r q).machines
