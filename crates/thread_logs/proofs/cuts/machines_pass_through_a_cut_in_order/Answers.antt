use Rattle.thread_logs.proofs.MachineSwaps.{machines_pass}
use Rattle.thread_logs.proofs.cuts.machines_pass_through_a_cut_in_order.Goals as goal

pub returns : goal.returns
returns c = machines_pass
