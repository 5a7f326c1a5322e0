use Rattle.outcome_search.proofs.Trails.{trail_on}
use Rattle.outcome_search.proofs.witness.LogWalker.make.Goals as goal

pub returns-in_ok-push_entry-in-Ok-clause-trail : goal.returns-in_ok-push_entry-in-Ok-clause-trail
returns-in_ok-push_entry-in-Ok-clause-trail c =
    trail_on c.args.machine.now c.take.new.self c.args.self.now.entries.items c.push_entry.new.entries.items c.args.t c.with_path-entry.result
    c.in-Ok.ensures.ok c.in_ok-push_entry-in-Ok.ensures
