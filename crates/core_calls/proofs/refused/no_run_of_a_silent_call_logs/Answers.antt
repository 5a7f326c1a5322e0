use Rattle.core_calls.proofs.Untold.{unlogged}
use Rattle.core_calls.proofs.refused.no_run_of_a_silent_call_logs.Goals as goal

pub returns-clause-poll : goal.returns-clause-poll
returns-clause-poll z b x k l more t = unlogged k l t x more t.says.0.entries

pub returns-clause-stop : goal.returns-clause-stop
returns-clause-stop z b x k l more t = unlogged k l t x more t.says.0.entries

pub returns-clause-resume : goal.returns-clause-resume
returns-clause-resume z b x k l more t = unlogged k l t x more t.says.0.entries

pub returns-clause-check : goal.returns-clause-check
returns-clause-check z b x stuck k l more t = unlogged k l t x more t.says.0.entries

pub returns-clause-request : goal.returns-clause-request
returns-clause-request z b x k l more t = unlogged k l t x more t.says.0.entries

pub returns-clause-reached : goal.returns-clause-reached
returns-clause-reached z b x k l more t = unlogged k l t x more t.says.0.entries

pub returns-clause-release : goal.returns-clause-release
returns-clause-release z b x k l more t = unlogged k l t x more t.says.0.entries
