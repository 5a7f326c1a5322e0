use Rattle.std.proofs.Common.{Some, ap}
use Rattle.heap_census.proofs.shots.look_at_owned.Goals as goal

pub look_at_holds-count-requires-clause-due : goal.look_at_holds-count-requires-clause-due
look_at_holds-count-requires-clause-due c = c.requires.due

pub returns-clause-run : goal.returns-clause-run
returns-clause-run c = c.look_at_holds-count.ensures.run

pub returns-clause-cell : goal.returns-clause-cell
returns-clause-cell c = λ l later. ap (λ n. (Some c.args.thread, n)) (c.look_at_holds-count.ensures.held l later)
