use Rattle.core_locks.proofs.enter_exit.RefutedExchanges.{exchange_refused}
use Rattle.core_locks.proofs.refused.no_exchange_without_the_displaced_word.Goals as goal

pub returns : goal.returns
returns c = exchange_refused
