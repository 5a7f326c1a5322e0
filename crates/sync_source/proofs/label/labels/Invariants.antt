use Rattle.std.proofs.Common.{◌≡◌, ◌≤◌, ◌+◌, ◌-◌, ◌++◌, length, map, filter}
use Rattle.std.specs.Prelude.{decimal}
use Rattle.std.specs.List.{list_any}
use Rattle.sync_source.specs.Compiled.{goes_to, targets, label, numbers_from}
use Rattle.sync_source.specs.inner.Marks.{HasMarks}
use Rattle.sync_source.proofs.label.labels.Given as goal

abbrev pub invariant-loop-number : goal.invariant-loop-number
invariant-loop-number l =
    let rest = filter (λ n. list_any (goes_to n) l.code) (numbers_from l.number (l.length + 1 - l.number)) in
    record {
      labels : l.all.items ++ map (label decimal) rest ≡ map (label decimal) (targets l.code);
      from : 1 ≤ l.number;
      to : l.number ≤ l.length + 1;
      count : l.length ≡ length l.code;
      marks : HasMarks l.code l.marks.items;
    }

abbrev pub decreases-loop-number : goal.decreases-loop-number
decreases-loop-number l = l.length + 1 - l.number
