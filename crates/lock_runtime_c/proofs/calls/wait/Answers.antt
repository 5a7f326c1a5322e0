use Rattle.lock_runtime_c.proofs.calls.wait.Goals as goal

pub returns-clause-made : goal.returns-clause-made
returns-clause-made c = (
  c.wait.result,
  c.owned.ensures,
  c.wait.ensures.run.ran,
  c.wait.ensures.says,
  (c.wait.ensures.stands, c.wait.ensures.others, c.wait.ensures.owner),
)
