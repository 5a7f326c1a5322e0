use Rattle.std.proofs.Common.{◌≡◌, ◌+◌, vec_len, arith}
use Rattle.bias_cli.proofs.Takes.{took_nothing, took_more, took_some, took_to_end}
use Rattle.bias_cli.proofs.input.read_text.Goals as goal
use Rattle.bias_cli.proofs.input.read_text.Goals.{else-loop-source-test, then-loop-source-test+in_ok-read_piece+then-branch-eq0}

pub loop-source-init : goal.loop-source-init
loop-source-init g c =
    let none = c.new-bytes.ensures.len in
    record {
      counted = omega arith;
      most = omega (arith, none);
      took = took_nothing (vec_len c.new-bytes.result) (g.S.Source.left c.args.source.now) c.new-bytes.result.items none c.new-bytes.ensures.items;
    }

pub read_piece-requires-clause-limit : goal.read_piece-requires-clause-limit
read_piece-requires-clause-limit g c = c.requires

pub read_piece-requires-clause-room : goal.read_piece-requires-clause-room
read_piece-requires-clause-room g c =
    omega (arith, c.len.ensures, c.loop-source-test.true)

pub loop-source-smaller : goal.loop-source-smaller
loop-source-smaller g c =
    omega (arith, c.len.ensures, c.loop-source-test.true, c.in_ok-read_piece.ensures.more, c.if-branch-eq0.false)

pub loop-source-preserved : goal.loop-source-preserved
loop-source-preserved g c =
    let all = took_more _ _ _ _ _ _ _ c.loop-source.invariant.took c.in_ok-read_piece.ensures.took in
    record {
      counted = omega (arith, c.in_ok-read_piece.ensures.counted);
      most = omega (arith, c.in_ok-read_piece.ensures.most);
      took = rw c.in_ok-read_piece.ensures.more all;
    }

pub returns-clause-fault : goal.returns-clause-fault
returns-clause-fault g c = λ e. absurd (cc e)

pub returns-clause-counted : goal.returns-clause-counted
returns-clause-counted g c =
    let before = c.loop-source.invariant.counted in
    elim c.loop-source-test.branch [
      | else-loop-source-test w ↦ rw w.source-is before
      | then-loop-source-test+in_ok-read_piece+then-branch-eq0 w ↦ rw w.source-is (omega (arith, before, w.in_ok-read_piece.ensures.counted))
    ]

pub returns-clause-took : goal.returns-clause-took
returns-clause-took g c =
    elim c.loop-source-test.branch [
      | else-loop-source-test w ↦
          let full : vec_len c.loop-source.bytes ≡ c.args.most + 1 = omega (arith, w.loop-source-test.false, c.len.ensures, c.loop-source.invariant.most) in
          rw (w.source-is, w.bytes-is) (rw full at c.loop-source.invariant.took)
      | then-loop-source-test+in_ok-read_piece+then-branch-eq0 w ↦
          let none : w.in_ok-read_piece.field-0 ≡ 0 = w.if-branch-eq0.true in
          rw (w.source-is, w.bytes-is) (took_to_end _ c.args.most _ _ _ _ _ (omega (arith, c.loop-source.invariant.most))
          c.loop-source.invariant.took (rw none at w.in_ok-read_piece.ensures.took) (w.in_ok-read_piece.ensures.ended none))
    ]

pub returns-in_err-read_piece-clause-counted : goal.returns-in_err-read_piece-clause-counted
returns-in_err-read_piece-clause-counted g c =
    omega (arith, c.loop-source.invariant.counted, c.read_piece.ensures.counted)

pub returns-in_err-read_piece-clause-some : goal.returns-in_err-read_piece-clause-some
returns-in_err-read_piece-clause-some g c =
    took_some _ (c.args.most + 1) _ _ _ _ c.loop-source.invariant.most c.loop-source.invariant.took c.read_piece.ensures.some

pub returns-clause-some : goal.returns-clause-some
returns-clause-some g c =
    let inv = c.loop-source.invariant in
    elim c.loop-source-test.branch [
      | else-loop-source-test w ↦ rw w.source-is (λ left e. (vec_len c.loop-source.bytes, inv.most, (inv.took left e).1))
      | then-loop-source-test+in_ok-read_piece+then-branch-eq0 w ↦
          rw w.source-is (took_some _ (c.args.most + 1) _ _ _ _ inv.most inv.took w.in_ok-read_piece.ensures.some)
    ]
