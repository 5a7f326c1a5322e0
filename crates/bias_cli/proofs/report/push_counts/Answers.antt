use Rattle.std.proofs.Common.{refl, ap, ◌∙◌}
use Rattle.program_run.proofs.Pushed.{pushed_well}
use Rattle.bias_cli.specs.Report.{count_line}
use Rattle.bias_cli.proofs.Gathered.{one_more, all_in}
use Rattle.bias_cli.proofs.report.push_counts.Goals as goal

pub loop-count-init : goal.loop-count-init
loop-count-init c = refl

pub bounds-counts-count-index : goal.bounds-counts-count-index
bounds-counts-count-index c = c.loop-count-test.true

pub loop-count-preserved : goal.loop-count-preserved
loop-count-preserved c =
    let a = c.args in
    let before = c.loop-count.lines.items in
    let after = c.push.new.self.items in
    one_more (count_line a.program.now) a.counts.now _ c.loop-count.count-index c.count-item.result c.of.result before after
    c.loop-count.invariant c.loop-count-test.true (pushed_well _ before after c.of.result c.push.ensures.items c.in_ok-map_err.ensures.variant)
    (c.of.ensures ∙ c.in_ok-line.ensures ∙ ap (count_line a.program.now) c.count-item.is)

pub returns : goal.returns
returns c =
    let a = c.args in
    all_in (count_line a.program.now) a.counts.now _ c.loop-count.count-index c.loop-count.lines.items c.loop-count.invariant c.loop-count-test.false
