use Rattle.std.proofs.Common.{◌≡◌, ◌+◌, length, take}
use Rattle.bias_check.proofs.Marked.{IsLeft}
use Rattle.bias_check.proofs.parts.split_text.Given as goal

abbrev pub invariant-loop-left : goal.invariant-loop-left
invariant-loop-left l = record {
  whole : l.at + length l.left ≡ length l.text;
  left : IsLeft l.text (take l.at l.text) l.left;
}

abbrev pub decreases-loop-left : goal.decreases-loop-left
decreases-loop-left l = length l.left
