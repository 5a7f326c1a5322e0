use Rattle.machine_words.proofs.Untouched.{untouched_first}
use Rattle.machine_words.proofs.laws.first_machines_are_untouched.Goals as goal

pub returns : goal.returns
returns c = untouched_first
