use Rattle.lock_runtime_c.proofs.calls.poll.Goals as goal

pub returns-clause-made : goal.returns-clause-made
returns-clause-made c = (c.poll.result, c.turned.ensures, c.poll.ensures.run.ran, c.poll.ensures.says, (c.poll.ensures.stands, c.poll.ensures.others))
