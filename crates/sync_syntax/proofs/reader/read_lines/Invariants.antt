use Rattle.std.proofs.Common.{◌≡◌, ◌+◌, ◌≤◌, length}
use Rattle.program_syntax.specs.Text.{most_bytes}
use Rattle.program_syntax.specs.Refusal.{lines_of}
use Rattle.program_syntax.proofs.AllowedParts.{ahead_of}
use Rattle.sync_syntax.specs.Reading.{nothing_read}
use Rattle.sync_syntax.specs.Refusal.{read_from}
use Rattle.sync_syntax.specs.inner.State.{sync_before}
use Rattle.sync_syntax.proofs.Kept.{IsKept}
use Rattle.sync_syntax.proofs.reader.read_lines.Given as goal

-- the lines that are left decide, the declarations so far are allowed before them, and each is counted
abbrev pub invariant-lines : goal.invariant-lines
invariant-lines l = record {
  same : read_from l.number (sync_before l.reader) l.left ≡ read_from 1 nothing_read (lines_of l.bytes);
  kept : IsKept (sync_before l.reader) (ahead_of l.left);
  first : 1 ≤ l.number;
  few : l.number + length l.left ≤ most_bytes + 2;
}

abbrev pub decreases-lines : goal.decreases-lines
decreases-lines l = length l.left
