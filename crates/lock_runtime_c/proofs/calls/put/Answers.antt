use Rattle.lock_runtime_c.proofs.calls.put.Goals as goal

pub returns-clause-made : goal.returns-clause-made
returns-clause-made c = (c.put.result, c.stored.ensures, c.put.ensures.run.ran, c.put.ensures.says, (c.put.ensures.stands, c.put.ensures.owner))
