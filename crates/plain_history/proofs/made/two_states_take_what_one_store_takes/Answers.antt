use Rattle.plain_history.proofs.StoreSteps.{store_takes_both}
use Rattle.plain_history.proofs.made.two_states_take_what_one_store_takes.Goals as goal

pub returns : goal.returns
returns c = store_takes_both
