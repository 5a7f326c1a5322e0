use Rattle.std.proofs.Common.{◌≡◌, drop, pos}
use Rattle.std.specs.List.{list_all}
use Rattle.plain_monitor.specs.declared.entry.Value.TheVariants.{Int}
use Rattle.plain_monitor.specs.Objects.{same_value}
use Rattle.machine_words.proofs.object_words.are_zeros.Given as goal

abbrev pub invariant-loop-value : goal.invariant-loop-value
invariant-loop-value l =
    list_all (same_value (Int (pos 0))) (drop l.value-index l.values) ≡ list_all (same_value (Int (pos 0))) l.values
