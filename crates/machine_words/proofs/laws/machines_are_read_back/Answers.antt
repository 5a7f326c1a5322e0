use Rattle.machine_words.proofs.ReadBack.{read_back}
use Rattle.machine_words.proofs.laws.machines_are_read_back.Goals as goal

pub returns : goal.returns
returns c = read_back
