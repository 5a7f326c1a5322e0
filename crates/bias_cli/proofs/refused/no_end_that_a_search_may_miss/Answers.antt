use Rattle.bias_cli.proofs.Refuted.{faulty_end, not_kept, stuck_end}
use Rattle.bias_cli.proofs.refused.no_end_that_a_search_may_miss.Goals as goal

pub returns-clause-found : goal.returns-clause-found
returns-clause-found c = not_kept

pub returns-clause-stuck : goal.returns-clause-stuck
returns-clause-stuck c = stuck_end

pub returns-clause-status : goal.returns-clause-status
returns-clause-status c = faulty_end
