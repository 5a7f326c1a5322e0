use Rattle.core_calls.proofs.StandsCalls.{exit_stands, get_stands, put_stands, print_stands, finish_stands, create_stands}
use Rattle.core_calls.proofs.standing.short_operations_leave_their_thread_running.Goals as goal

pub returns-clause-exit : goal.returns-clause-exit
returns-clause-exit c k o low none = exit_stands k low none o

pub returns-clause-get : goal.returns-clause-get
returns-clause-get c k o slot low none = get_stands k low none o slot

pub returns-clause-put : goal.returns-clause-put
returns-clause-put c k o slot value low none = put_stands k low none o slot value

pub returns-clause-print : goal.returns-clause-print
returns-clause-print c k value low none = print_stands k low none value

pub returns-clause-finish : goal.returns-clause-finish
returns-clause-finish c k ending low none = finish_stands k low none ending

pub returns-clause-create : goal.returns-clause-create
returns-clause-create g s k c low none = create_stands k low none s c
