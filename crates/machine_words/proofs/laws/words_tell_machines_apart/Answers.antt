use Rattle.machine_words.proofs.ReadBack.{told_apart}
use Rattle.machine_words.proofs.laws.words_tell_machines_apart.Goals as goal

pub returns : goal.returns
returns c = told_apart
