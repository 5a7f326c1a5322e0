use Rattle.machine_words.proofs.Untouched.{untouched_after}
use Rattle.machine_words.proofs.laws.machines_stay_untouched.Goals as goal

pub returns : goal.returns
returns c = untouched_after
