use Rattle.std.proofs.Common.{◌≡◌, false, true, refl, sym, ap, ◌∙◌}
use Rattle.thread_frame.specs.Frames.{has_ended}
use Rattle.run_rounds.proofs.Stays.{same_on, asks_where_pending, over_where_done, halted_where_stuck}
use Rattle.run_rounds.proofs.turns.check.Goals as goal

pub loop-init : goal.loop-init
loop-init g c = record {
  runner = c.requires.runner;
  same = record { thread = refl; fuel = refl };
  free = c.requires.free.0 ∙ sym c.requires.free.1;
  live = c.requires.live;
  timed = λ tick timed. timed;
}

pub next-requires : goal.next-requires
next-requires g c = tt

pub check-requires-clause-heap : goal.check-requires-clause-heap
check-requires-clause-heap g c = c.requires.program

pub check-requires-clause-runner : goal.check-requires-clause-runner
check-requires-clause-runner g c = c.loop.invariant.runner

pub check-requires-clause-free : goal.check-requires-clause-free
check-requires-clause-free g c = c.loop.invariant.free

pub check-requires-clause-live : goal.check-requires-clause-live
check-requires-clause-live g c = c.loop.invariant.live

pub returns-in-Done-clause-runner : goal.returns-in-Done-clause-runner
returns-in-Done-clause-runner g c = c.check.ensures.runner

pub returns-in-Done-clause-unchecked : goal.returns-in-Done-clause-unchecked
returns-in-Done-clause-unchecked g c = over_where_done c.check.new.self.pass.known c.in-Done.stuck c.in-Done.ensures.stands

pub returns-in-Done-clause-same : goal.returns-in-Done-clause-same
returns-in-Done-clause-same g c = same_on c.args.runner.now c.loop.runner c.check.new.self c.loop.invariant.same c.check.ensures.same

pub returns-in-Done-clause-halted : goal.returns-in-Done-clause-halted
returns-in-Done-clause-halted g c = halted_where_stuck c.check.new.self.pass.known c.in-Done.stuck c.in-Done.ensures.stands

pub returns-in-Done-clause-timed : goal.returns-in-Done-clause-timed
returns-in-Done-clause-timed g c = λ tick timed. c.check.ensures.timed tick (c.loop.invariant.timed tick timed)

pub checking-requires : goal.checking-requires
checking-requires g c = tt

pub returns-then-not-checking-clause-runner : goal.returns-then-not-checking-clause-runner
returns-then-not-checking-clause-runner g c = c.check.ensures.runner

pub returns-then-not-checking-clause-unchecked : goal.returns-then-not-checking-clause-unchecked
returns-then-not-checking-clause-unchecked g c = sym c.checking.ensures ∙ c.if-not-checking.true

pub returns-then-not-checking-clause-same : goal.returns-then-not-checking-clause-same
returns-then-not-checking-clause-same g c = same_on c.args.runner.now c.loop.runner c.check.new.self c.loop.invariant.same c.check.ensures.same

pub returns-then-not-checking-clause-timed : goal.returns-then-not-checking-clause-timed
returns-then-not-checking-clause-timed g c = λ tick timed. c.check.ensures.timed tick (c.loop.invariant.timed tick timed)

pub loop-smaller : goal.loop-smaller
loop-smaller g c = (c.in-Some.ensures.goes.on tt).2

pub loop-preserved : goal.loop-preserved
loop-preserved g c =
    let checking = sym c.checking.ensures ∙ c.if-not-checking.false in
    record {
      runner = c.check.ensures.runner;
      same = same_on c.args.runner.now c.loop.runner c.check.new.self c.loop.invariant.same c.check.ensures.same;
      free = asks_where_pending c.check.new.self.pass.known c.check.result c.in_default.not-Done c.check.ensures.stands checking ∙ sym checking;
      live = ap has_ended c.check.ensures.frame ∙ c.loop.invariant.live;
      timed = λ tick timed. c.check.ensures.timed tick (c.loop.invariant.timed tick timed);
    }

pub unreachable-requires : goal.unreachable-requires
unreachable-requires g c = let none : false ≡ true = c.in-None.ensures.steps in cc none
