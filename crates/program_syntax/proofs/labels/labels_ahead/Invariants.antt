use Rattle.std.proofs.Common.{◌≡◌, ◌+◌, ◌≤◌, ◌++◌, length}
use Rattle.program_syntax.specs.Text.{most_bytes}
use Rattle.program_syntax.specs.Reading.{labels_ahead}
use Rattle.program_syntax.proofs.labels.labels_ahead.Given as goal

-- the labels so far and those of the lines that are left are all, and each line is counted once at most
abbrev pub invariant-lines : goal.invariant-lines
invariant-lines l = record {
  same : l.labels ++ labels_ahead l.number l.left ≡ labels_ahead 1 l.lines;
  few : l.number + length l.left ≤ most_bytes + 2;
}

abbrev pub decreases-lines : goal.decreases-lines
decreases-lines l = length l.left
