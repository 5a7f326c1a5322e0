use Rattle.core_calls.proofs.enter_exit.ShortCalls.{free_enter, unbiased_enter, own_enter}
use Rattle.core_calls.proofs.bounding.common_enters_are_short.Goals as goal

pub returns-clause-free : goal.returns-clause-free
returns-clause-free c = free_enter

pub returns-clause-unbiased : goal.returns-clause-unbiased
returns-clause-unbiased c = unbiased_enter

pub returns-clause-own : goal.returns-clause-own
returns-clause-own c = own_enter
