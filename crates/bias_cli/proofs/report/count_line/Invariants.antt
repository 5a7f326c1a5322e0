use Rattle.std.proofs.Common.{◌≡◌, ◌++◌, drop, codes}
use Rattle.std.specs.List.{flat_map}
use Rattle.lock_journal.specs.Words.{object_text}
use Rattle.bias_cli.specs.Report.{number_text}
use Rattle.bias_cli.proofs.report.count_line.Given as goal

abbrev pub invariant-loop-number : goal.invariant-loop-number
invariant-loop-number l = record {
  items : l.number-items ≡ l.count.paths;
  gathered : l.line.items ++ flat_map number_text (drop l.number-index l.number-items)
      ≡ (codes "object " ++ object_text l.program l.count.object) ++ flat_map number_text l.number-items;
}
