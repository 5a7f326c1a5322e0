use Rattle.outcome_search.proofs.SpentKept.{some_state_is_kept, spent_is_counted, counted_is_led_to}
use Rattle.outcome_search.proofs.laws.spent_threads_are_counted_where_entries_lead_to_one.Goals as goal

pub returns-clause-some : goal.returns-clause-some
returns-clause-some c = some_state_is_kept

pub returns-clause-counted : goal.returns-clause-counted
returns-clause-counted c = spent_is_counted

pub returns-clause-led : goal.returns-clause-led
returns-clause-led c = counted_is_led_to
