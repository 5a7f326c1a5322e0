use Rattle.std.proofs.Common.{◌≡◌, ◌++◌, replicate, sym, ap, ◌∙◌, append-nil, arith}
use Rattle.program_run.proofs.Pushed.{one_more, pushed_well}
use Rattle.program_run.proofs.shape.push_class.Goals as goal

pub loop-init : goal.loop-init
loop-init c = sym (append-nil c.args.classes.now.items)

pub loop-preserved : goal.loop-preserved
loop-preserved c =
    one_more c.args.classes.now.items _ _ c.loop.counter c.args.class c.loop.invariant
    (pushed_well _ c.loop.classes.items c.push.new.self.items c.args.class c.push.ensures.items c.in_ok-map_err.ensures.variant)

pub returns : goal.returns
returns c =
    let all : c.loop.counter ≡ c.args.size = omega (arith, c.loop-test.false, c.loop.auto.counter-end) in
    c.loop.invariant ∙ ap (λ n. c.args.classes.now.items ++ replicate n c.args.class) all
