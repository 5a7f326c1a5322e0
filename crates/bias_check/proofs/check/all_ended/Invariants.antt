use Rattle.std.proofs.Common.{◌≡◌, not, drop}
use Rattle.std.specs.List.{list_all}
use Rattle.plain_machine.specs.Machine.{is_live}
use Rattle.bias_check.proofs.check.all_ended.Given as goal

abbrev pub invariant-loop-t : goal.invariant-loop-t
invariant-loop-t l = list_all (λ s. not (is_live s)) (drop l.t l.machine.threads) ≡ list_all (λ s. not (is_live s)) l.machine.threads
