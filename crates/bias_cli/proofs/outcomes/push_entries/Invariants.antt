use Rattle.std.proofs.Common.{◌≡◌, ◌++◌, drop, map}
use Rattle.lock_journal.specs.RunText.{journal_line, text_of_lines}
use Rattle.bias_cli.proofs.outcomes.push_entries.Given as goal

abbrev pub invariant-loop-entry : goal.invariant-loop-entry
invariant-loop-entry l =
    l.text.items ++ text_of_lines (map (journal_line l.program) (drop l.entry-index l.entries))
    ≡ l.fn.text.items ++ text_of_lines (map (journal_line l.program) l.entries)
