use Rattle.lock_runtime_c.proofs.calls.hash.Goals as goal

pub returns-clause-made : goal.returns-clause-made
returns-clause-made c = (c.hash.result, c.hashed.ensures, c.hash.ensures.run.ran, c.hash.ensures.says, (c.hash.ensures.stands, c.hash.ensures.others))
