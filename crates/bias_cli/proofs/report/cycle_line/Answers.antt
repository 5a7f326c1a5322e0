use Rattle.std.proofs.Common.{List, ◌++◌, codes, ap, ◌∙◌}
use Rattle.std.specs.List.{flat_map}
use Rattle.lock_journal.specs.RunText.{newline}
use Rattle.wait_report.specs.declared.cycles.Link.{Link}
use Rattle.bias_cli.specs.Report.{link_text}
use Rattle.bias_cli.proofs.Gathered.{some_more, all_put}
use Rattle.bias_cli.proofs.report.cycle_line.Goals as goal

pub bounds-link-items-link-index : goal.bounds-link-items-link-index
bounds-link-items-link-index c = c.loop-link-test.true

pub loop-link-preserved : goal.loop-link-preserved
loop-link-preserved c =
    let none : Link = record { thread = 0; object = 0 } in
    record {
      items = c.loop-link.invariant.items;
      gathered = some_more (link_text c.args.program.now) c.items-link-items.result.now _ c.loop-link.link-index none c.bytes.result.now
          c.loop-link.line.items c.push_bytes.new.line.items c.loop-link.invariant.gathered c.loop-link-test.true c.in_ok-push_bytes.ensures
          (c.bytes.ensures.text ∙ c.link_text.ensures);
    }

pub returns : goal.returns
returns c =
    let text = link_text c.args.program.now in
    let inv = c.loop-link.invariant in
    let put = all_put text c.items-link-items.result.now _ c.loop-link.link-index c.loop-link.line.items inv.gathered c.loop-link-test.false in
    c.in_ok-push_bytes-2.ensures ∙ ap (λ l. l ++ newline) put
    ∙ ap (λ (links : List Link). (codes "cycle" ++ flat_map text links) ++ newline) inv.items
