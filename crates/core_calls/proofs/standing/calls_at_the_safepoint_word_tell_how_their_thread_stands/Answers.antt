use Rattle.core_calls.proofs.StandsCalls.{poll_call_stands, stop_call_stands, resume_call_stands, check_stands}
use Rattle.core_calls.proofs.standing.calls_at_the_safepoint_word_tell_how_their_thread_stands.Goals as goal

pub returns-clause-poll : goal.returns-clause-poll
returns-clause-poll c k low none = poll_call_stands k low none

pub returns-clause-stop : goal.returns-clause-stop
returns-clause-stop c k low none = stop_call_stands k low none

pub returns-clause-resume : goal.returns-clause-resume
returns-clause-resume c k low = resume_call_stands k low

pub returns-clause-check : goal.returns-clause-check
returns-clause-check c s k low = check_stands k low s
