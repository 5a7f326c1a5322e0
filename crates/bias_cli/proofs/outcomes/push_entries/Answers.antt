use Rattle.std.proofs.Common.{◌∙◌, arith}
use Rattle.plain_monitor.specs.declared.entry.Path.TheVariants.{BiasOwn}
use Rattle.plain_monitor.specs.declared.entry.Entry.TheVariants.{Enter}
use Rattle.bias_cli.proofs.Journals.{entry_written}
use Rattle.bias_cli.proofs.outcomes.push_entries.Goals as goal

pub loop-entry-preserved : goal.loop-entry-preserved
loop-entry-preserved c =
    entry_written c.args.program.now c.args.entries.now c.loop-entry.entry-index (0, record { stamp = 0; entry = Enter 0 BiasOwn })
    c.loop-entry.text.items c.push_entry.new.text.items (omega arith) c.in_ok-push_entry.ensures
    ∙ c.loop-entry.invariant
