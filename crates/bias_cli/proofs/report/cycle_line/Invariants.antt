use Rattle.std.proofs.Common.{◌≡◌, ◌++◌, drop, codes}
use Rattle.std.specs.List.{flat_map}
use Rattle.bias_cli.specs.Report.{link_text}
use Rattle.bias_cli.proofs.report.cycle_line.Given as goal

abbrev pub invariant-loop-link : goal.invariant-loop-link
invariant-loop-link l = record {
  items : l.link-items ≡ l.cycle.links;
  gathered : l.line.items ++ flat_map (link_text l.program) (drop l.link-index l.link-items) ≡ codes "cycle" ++ flat_map (link_text l.program) l.link-items;
}
