use Rattle.lock_runtime_c.proofs.calls.notify.Goals as goal

pub returns-clause-made : goal.returns-clause-made
returns-clause-made c = (
  c.notify.result,
  c.woke.ensures,
  c.notify.ensures.run.ran,
  c.notify.ensures.says,
  (c.notify.ensures.wakes, c.notify.ensures.stands, c.notify.ensures.others, c.notify.ensures.owner),
)
