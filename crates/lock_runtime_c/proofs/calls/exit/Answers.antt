use Rattle.lock_runtime_c.proofs.calls.exit.Goals as goal

pub returns-clause-made : goal.returns-clause-made
returns-clause-made c = (c.exit.result, c.owned.ensures, c.exit.ensures.run.ran, c.exit.ensures.says, (c.exit.ensures.stands, c.exit.ensures.owner))
