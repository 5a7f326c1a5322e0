use Rattle.std.proofs.Common.{refl, sym, ap, subst, arith, inl, inr}
use Rattle.thread_interp.specs.inner.Running.{HasPolled}
use Rattle.thread_interp.proofs.Added.{none_added}
use Rattle.thread_interp.proofs.Turns.{gone_blocked, gone_ended, gone_live, goes_on, is_done, not_done, went_done}
use Rattle.thread_interp.proofs.turn.run_quantum.Goals.{in-Done, in_default-went}
use Rattle.thread_interp.proofs.turn.run_quantum.Goals as goal

pub loop-cause-init : goal.loop-cause-init
loop-cause-init g c = (
  record {
    may = c.requires.may;
    thread = refl;
    spent = omega arith;
    few = c.requires.quantum;
    added = none_added c.args.pass.now;
    polls = omega arith;
  },
  λ timed. timed,
)

pub poll_and_advance-went-requires-clause-may : goal.poll_and_advance-went-requires-clause-may
poll_and_advance-went-requires-clause-may g c = c.loop-cause.invariant.0.may

pub returns-in-Pending-clause-gone : goal.returns-in-Pending-clause-gone
returns-in-Pending-clause-gone g c =
    let a = c.args in
    let run = a.run.now in
    let l = c.loop-cause in
    gone_blocked run.heap.now run.program.now run.fuel run.quantum a.pass.now l.pass
    c.poll_and_advance-went.new.pass a.frame.now l.frame c.poll_and_advance-went.new.frame
    l.instructions l.invariant.0 c.poll_and_advance-went.new.cause c.in-Pending.ensures.polled

pub returns-then-has_ended-clause-gone : goal.returns-then-has_ended-clause-gone
returns-then-has_ended-clause-gone g c =
    let a = c.args in
    let run = a.run.now in
    let l = c.loop-cause in
    let w = c.poll_and_advance-went.result in
    let did = subst (HasPolled run.heap.now run.program.now run.fuel l.pass c.poll_and_advance-went.new.pass l.frame c.poll_and_advance-went.new.frame)
    (went_done w c.poll_and_advance-went.new.cause (λ is. c.in_default.not-Pending is)) c.poll_and_advance-went.ensures.polled in
    gone_ended run.heap.now run.program.now run.fuel run.quantum a.pass.now l.pass
    c.poll_and_advance-went.new.pass a.frame.now l.frame c.poll_and_advance-went.new.frame
    l.instructions l.invariant.0 (is_done w) did c.match-went-2.instructions
    (elim c.match-went-2.branch [
      | in-Done x ↦ inl (ap is_done x.in-Done.is, x.instructions-is)
      | in_default-went x ↦ inr (not_done w (λ is. x.in_default-went.not-Done is), x.instructions-is)
    ])
    (sym c.if-has_ended.ensures)

pub returns-then-instructions-quantum-clause-gone : goal.returns-then-instructions-quantum-clause-gone
returns-then-instructions-quantum-clause-gone g c =
    let a = c.args in
    let run = a.run.now in
    let l = c.loop-cause in
    let w = c.poll_and_advance-went.result in
    let did = subst (HasPolled run.heap.now run.program.now run.fuel l.pass c.poll_and_advance-went.new.pass l.frame c.poll_and_advance-went.new.frame)
    (went_done w c.poll_and_advance-went.new.cause (λ is. c.in_default.not-Pending is)) c.poll_and_advance-went.ensures.polled in
    gone_live run.heap.now run.program.now run.fuel run.quantum a.pass.now l.pass
    c.poll_and_advance-went.new.pass a.frame.now l.frame c.poll_and_advance-went.new.frame
    l.instructions l.invariant.0 (is_done w) did c.match-went-2.instructions
    (elim c.match-went-2.branch [
      | in-Done x ↦ inl (ap is_done x.in-Done.is, x.instructions-is)
      | in_default-went x ↦ inr (not_done w (λ is. x.in_default-went.not-Done is), x.instructions-is)
    ])
    (sym c.if-has_ended.ensures) c.if-instructions-quantum.true

pub loop-cause-preserved : goal.loop-cause-preserved
loop-cause-preserved g c =
    let a = c.args in
    let run = a.run.now in
    let l = c.loop-cause in
    let w = c.poll_and_advance-went.result in
    let did = subst (HasPolled run.heap.now run.program.now run.fuel l.pass c.poll_and_advance-went.new.pass l.frame c.poll_and_advance-went.new.frame)
    (went_done w c.poll_and_advance-went.new.cause (λ is. c.in_default.not-Pending is)) c.poll_and_advance-went.ensures.polled in
    let goes = goes_on run.heap.now run.program.now run.fuel run.quantum a.pass.now l.pass
    c.poll_and_advance-went.new.pass a.frame.now l.frame c.poll_and_advance-went.new.frame
    l.instructions l.invariant.0 (is_done w) did c.match-went-2.instructions
    (elim c.match-went-2.branch [
      | in-Done x ↦ inl (ap is_done x.in-Done.is, x.instructions-is)
      | in_default-went x ↦ inr (not_done w (λ is. x.in_default-went.not-Done is), x.instructions-is)
    ])
    (sym c.if-has_ended.ensures) c.if-instructions-quantum.false in
    (goes, λ timed. c.poll_and_advance-went.ensures.timed (l.invariant.1 timed))

pub loop-cause-smaller : goal.loop-cause-smaller
loop-cause-smaller g c =
    let run = c.args.run.now in
    let l = c.loop-cause in
    let w = c.poll_and_advance-went.result in
    let did = subst (HasPolled run.heap.now run.program.now run.fuel l.pass c.poll_and_advance-went.new.pass l.frame c.poll_and_advance-went.new.frame)
    (went_done w c.poll_and_advance-went.new.cause (λ is. c.in_default.not-Pending is)) c.poll_and_advance-went.ensures.polled in
    did.fallen

pub returns-in-Pending-clause-timed : goal.returns-in-Pending-clause-timed
returns-in-Pending-clause-timed g c = λ timed. c.poll_and_advance-went.ensures.timed (c.loop-cause.invariant.1 timed)

pub returns-then-has_ended-clause-timed : goal.returns-then-has_ended-clause-timed
returns-then-has_ended-clause-timed g c = λ timed. c.poll_and_advance-went.ensures.timed (c.loop-cause.invariant.1 timed)

pub returns-then-instructions-quantum-clause-timed : goal.returns-then-instructions-quantum-clause-timed
returns-then-instructions-quantum-clause-timed g c = λ timed. c.poll_and_advance-went.ensures.timed (c.loop-cause.invariant.1 timed)
