use Rattle.machine_words.proofs.ReadBack.{no_words_of_fuel}
use Rattle.machine_words.proofs.laws.fuel_makes_no_words.Goals as goal

pub returns : goal.returns
returns c = no_words_of_fuel
