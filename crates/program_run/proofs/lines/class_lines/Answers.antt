use Rattle.std.proofs.Common.{◌≡◌, ap, ◌∙◌, arith}
use Rattle.core_world.specs.Words.Shape.{Shape}
use Rattle.program_run.specs.Lines.{lines_below}
use Rattle.program_run.proofs.LinesBelow.{line_more}
use Rattle.program_run.proofs.lines.class_lines.Goals as goal

pub loop-class-init : goal.loop-class-init
loop-class-init c = c.in_ok-lines.ensures.items

pub class_line-requires-clause-class : goal.class_line-requires-clause-class
class_line-requires-clause-class c =
    let many : c.classes-classes.result ≡ c.args.closed.now.heap.shape.classes = c.classes-classes.ensures ∙ ap (λ (s : Shape). s.classes) c.shape.ensures in
    omega (arith, many, c.loop-class-test.true)

pub class_line-requires-clause-small : goal.class_line-requires-clause-small
class_line-requires-clause-small c = c.requires

pub loop-class-preserved : goal.loop-class-preserved
loop-class-preserved c = line_more c.args.closed.now c.loop-class.class _ _ _ c.loop-class.invariant c.in_ok-push.ensures.items c.class_line.ensures

pub returns : goal.returns
returns c =
    let many : c.classes-classes.result ≡ c.args.closed.now.heap.shape.classes = c.classes-classes.ensures ∙ ap (λ (s : Shape). s.classes) c.shape.ensures in
    let all : c.loop-class.class ≡ c.args.closed.now.heap.shape.classes = omega (arith, many, c.loop-class-test.false, c.loop-class.auto.class-end) in
    c.of.ensures ∙ c.loop-class.invariant ∙ ap (lines_below c.args.closed.now) all
