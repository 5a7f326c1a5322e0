use Rattle.thread_logs.proofs.WrongLogs.{not_through}
use Rattle.thread_logs.proofs.refused.no_machine_passes_through_a_cut_that_leaves_out_an_earlier_entry.Goals as goal

pub returns : goal.returns
returns c = not_through
