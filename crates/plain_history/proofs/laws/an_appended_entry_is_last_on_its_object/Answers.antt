use Rattle.plain_history.proofs.EntriesOn.{appended_on, appended_elsewhere}
use Rattle.plain_history.proofs.laws.an_appended_entry_is_last_on_its_object.Goals as goal

pub returns-clause-on : goal.returns-clause-on
returns-clause-on c = appended_on

pub returns-clause-elsewhere : goal.returns-clause-elsewhere
returns-clause-elsewhere c = appended_elsewhere
