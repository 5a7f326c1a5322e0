use Rattle.lock_runtime_c.proofs.calls.get.Goals as goal

pub returns-clause-made : goal.returns-clause-made
returns-clause-made c =
    (c.get.result, c.got.ensures, c.get.ensures.run.ran, c.get.ensures.says, (c.get.ensures.stands, c.get.ensures.owner, c.get.ensures.value))
