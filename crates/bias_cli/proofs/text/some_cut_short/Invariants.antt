use Rattle.std.proofs.Common.{◌≡◌, drop}
use Rattle.bias_cli.proofs.CutShort.{any_cut_short}
use Rattle.bias_cli.proofs.text.some_cut_short.Given as goal

-- none of the threads so far was cut short
abbrev pub invariant-loop-t : goal.invariant-loop-t
invariant-loop-t l = any_cut_short (drop l.t l.machine.threads) ≡ any_cut_short l.machine.threads
