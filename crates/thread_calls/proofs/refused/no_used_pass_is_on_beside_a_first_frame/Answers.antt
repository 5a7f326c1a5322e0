use Rattle.thread_calls.proofs.OtherPasses.{not_ended, not_dumped, not_requesting, not_other_room}
use Rattle.thread_calls.proofs.refused.no_used_pass_is_on_beside_a_first_frame.Goals as goal

pub returns-clause-ended : goal.returns-clause-ended
returns-clause-ended c = λ h p fuel n pass. not_ended h p fuel pass n

pub returns-clause-dumped : goal.returns-clause-dumped
returns-clause-dumped c = λ h p fuel n pass. not_dumped h p fuel pass n

pub returns-clause-requesting : goal.returns-clause-requesting
returns-clause-requesting c = not_requesting

pub returns-clause-room : goal.returns-clause-room
returns-clause-room c = not_other_room
