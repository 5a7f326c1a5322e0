use Rattle.core_calls.proofs.Called.{has_called}
use Rattle.core_calls.proofs.moments.a_run_counts_by_the_moment_of_its_call.Goals as goal

pub returns : goal.returns
returns g c s start t d k l a says ran = has_called s start t d k l a says ran
