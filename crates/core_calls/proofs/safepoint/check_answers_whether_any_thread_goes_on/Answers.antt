use Rattle.core_calls.proofs.safepoint.WhoGoesOn.{check_finds}
use Rattle.core_calls.proofs.safepoint.check_answers_whether_any_thread_goes_on.Goals as goal

pub returns : goal.returns
returns c = check_finds
