use Rattle.lock_runtime_c.proofs.calls.notify_all.Goals as goal

pub returns-clause-made : goal.returns-clause-made
returns-clause-made c = (
  c.notify_all.result,
  c.woke_all.ensures,
  c.notify_all.ensures.run.ran,
  c.notify_all.ensures.says,
  (c.notify_all.ensures.wakes, c.notify_all.ensures.stands, c.notify_all.ensures.others, c.notify_all.ensures.owner),
)
