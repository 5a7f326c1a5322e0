use Rattle.bias_law.proofs.enter_exit.Enters.{entry_keeps}
use Rattle.bias_law.proofs.laws.a_logged_entry_keeps_enters_and_marks.Goals as goal

pub returns : goal.returns
returns c = entry_keeps
