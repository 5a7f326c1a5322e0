use Rattle.core_made.proofs.Readings.{there_by_class, class_told}
use Rattle.core_made.proofs.laws.class_words_tell_what_is_there.Goals as goal

pub returns-clause-there : goal.returns-clause-there
returns-clause-there c w o limits law unmade = there_by_class w limits law o unmade

pub returns-clause-class : goal.returns-clause-class
returns-clause-class c w law o d limits e = class_told w limits law o d e
