use Rattle.std.proofs.Common.{◌≡◌, ◌+◌, ◌≤◌, length}
use Rattle.program_syntax.specs.Text.{most_bytes}
use Rattle.program_syntax.specs.Reading.{nothing}
use Rattle.program_syntax.specs.Refusal.{read_from, lines_of}
use Rattle.program_syntax.specs.State.{before_of, HasAhead}
use Rattle.program_syntax.proofs.reader.read_lines.Given as goal

-- the lines that are left decide, and each is counted
abbrev pub invariant-lines : goal.invariant-lines
invariant-lines l = record {
  same : read_from l.number (before_of l.reader) l.left ≡ read_from 1 nothing (lines_of l.bytes);
  ahead : HasAhead l.reader.section l.left;
  first : 1 ≤ l.number;
  few : l.number + length l.left ≤ most_bytes + 2;
}

abbrev pub decreases-lines : goal.decreases-lines
decreases-lines l = length l.left
