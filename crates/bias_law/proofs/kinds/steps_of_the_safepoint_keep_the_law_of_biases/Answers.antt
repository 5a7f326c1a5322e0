use Rattle.bias_law.proofs.QuietKinds.{stops, resumes, requests, releases, halts, keeps_shot}
use Rattle.bias_law.proofs.kinds.steps_of_the_safepoint_keep_the_law_of_biases.Goals as goal

pub returns-clause-stops : goal.returns-clause-stops
returns-clause-stops c = stops

pub returns-clause-resumes : goal.returns-clause-resumes
returns-clause-resumes c = resumes

pub returns-clause-requests : goal.returns-clause-requests
returns-clause-requests c = requests

pub returns-clause-releases : goal.returns-clause-releases
returns-clause-releases c = releases

pub returns-clause-halts : goal.returns-clause-halts
returns-clause-halts c = halts

pub returns-clause-shot : goal.returns-clause-shot
returns-clause-shot c = keeps_shot
