use Rattle.lock_runtime_c.proofs.calls.resume.Goals as goal

pub returns-clause-made : goal.returns-clause-made
returns-clause-made c = (c.resume.result, c.turned.ensures, c.resume.ensures.run.ran, c.resume.ensures.says, (c.resume.ensures.stands, c.resume.ensures.others))
