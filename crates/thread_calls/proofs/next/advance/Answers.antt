use Rattle.thread_calls.proofs.next.advance.Goals as goal

pub call-requires-clause-may : goal.call-requires-clause-may
call-requires-clause-may g c = c.in-Calls.ensures.may

pub call-requires-clause-placed : goal.call-requires-clause-placed
call-requires-clause-placed g c = c.in-Calls.ensures.placed

pub returns-in-Calls-clause-advanced : goal.returns-in-Calls-clause-advanced
returns-in-Calls-clause-advanced g c = c.in-Calls.ensures.from _ _ _ c.call.ensures.advanced

pub returns-in-Unwinds-clause-timed : goal.returns-in-Unwinds-clause-timed
returns-in-Unwinds-clause-timed g c = c.unwind-progress.ensures.timed c.args.run.now.tick
