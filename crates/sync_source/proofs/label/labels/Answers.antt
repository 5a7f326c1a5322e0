use Rattle.std.proofs.Common.{◌≡◌, ◌<◌, ◌∙◌, false, length, arith}
use Rattle.std.proofs.lemmas.List.{get_or_default}
use Rattle.std.specs.List.{list_any}
use Rattle.sync_source.specs.Compiled.{goes_to}
use Rattle.sync_source.proofs.Labels.{labels_go}
use Rattle.sync_source.proofs.label.labels.Goals as goal

pub loop-number-preserved : goal.loop-number-preserved
loop-number-preserved c =
    let l = c.loop-number in
    let within : l.number < length c.in_ok-marks.marks.items = omega (arith, l.invariant.marks.count, c.loop-number-test.true) in
    let marked : c.index.result.now ≡ list_any (goes_to l.number) c.args.code.now = c.index.ensures
    ∙ get_or_default c.in_ok-marks.marks.items l.number c.index.result.now false within ∙ l.invariant.marks.marked l.number within in
    record {
      labels = labels_go (λ n. list_any (goes_to n) c.args.code.now) _ _ _ l.number _
          c.index.result.now c.loop-number-test.true marked c.in_ok-put_label.ensures l.invariant.labels;
      from = omega arith;
      to = omega (arith, c.loop-number-test.true);
      count = l.invariant.count;
      marks = l.invariant.marks;
    }
