use Rattle.lock_runtime_c.proofs.calls.enter.Goals as goal

pub returns-clause-made : goal.returns-clause-made
returns-clause-made c = (c.enter.result, c.entered.ensures, c.enter.ensures.run.ran, c.enter.ensures.says, (c.enter.ensures.stands, c.enter.ensures.others))
