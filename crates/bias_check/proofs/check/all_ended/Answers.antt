use Rattle.std.proofs.Common.{◌≡◌, ◌∙◌, sym, arith, None}
use Rattle.bias_check.proofs.Standing.{ending_at, live_stops, ended_goes}
use Rattle.bias_check.proofs.check.all_ended.Goals as goal

pub returns-in-None : goal.returns-in-None
returns-in-None c =
    let ss = c.args.machine.now.threads in
    let none : ending_at ss c.loop-t.t ≡ None = cc (c.in-None.ensures) in
    sym (live_stops ss c.loop-t.t (omega (arith, c.loop-t-test.true, c.requires)) none) ∙ c.loop-t.invariant

pub loop-t-preserved : goal.loop-t-preserved
loop-t-preserved c =
    ended_goes c.args.machine.now.threads c.loop-t.t c.in-Some.field-0 (sym c.in-Some.ensures) ∙ c.loop-t.invariant
