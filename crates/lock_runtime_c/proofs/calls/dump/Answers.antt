use Rattle.lock_runtime_c.proofs.calls.dump.Goals as goal

pub returns-clause-made : goal.returns-clause-made
returns-clause-made c = (
  c.dump.result,
  c.dumped.ensures,
  c.dump.ensures.run.ran,
  c.dump.ensures.says,
  (c.dump.ensures.shots, c.dump.ensures.stands, c.dump.ensures.others),
)
