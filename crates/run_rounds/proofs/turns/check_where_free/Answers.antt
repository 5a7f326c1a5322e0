use Rattle.run_rounds.proofs.turns.check_where_free.Goals as goal

pub returns-clause-gone : goal.returns-clause-gone
returns-clause-gone g c = λ tick. record {
  may = record { runner = c.check.ensures.runner; unchecked = c.check.ensures.unchecked };
  same = c.check.ensures.same;
  timed = c.check.ensures.timed tick;
}
