use Rattle.lock_runtime_c.proofs.calls.check_stuck.Goals as goal

pub returns-clause-made : goal.returns-clause-made
returns-clause-made c = (
  c.check_stuck.result,
  c.checked.ensures,
  c.check_stuck.ensures.run.ran,
  c.check_stuck.ensures.says,
  (c.check_stuck.ensures.finds, c.check_stuck.ensures.stands, c.check_stuck.ensures.others),
)
