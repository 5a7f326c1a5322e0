use Rattle.core_made.proofs.Readings.{absent_is_free, absent_is_untouched}
use Rattle.core_made.proofs.laws.what_is_not_there_is_free.Goals as goal

pub returns-clause-free : goal.returns-clause-free
returns-clause-free c w objects o v law e = absent_is_free w objects o v law e

pub returns-clause-untouched : goal.returns-clause-untouched
returns-clause-untouched c w objects o v law e = absent_is_untouched w objects o v law e
