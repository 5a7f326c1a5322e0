use Rattle.std.proofs.Common.{◌≡◌, ◌++◌, Some, map}
use Rattle.program_run.proofs.copies.all_of.Given as goal

abbrev pub invariant-loop-copy : goal.invariant-loop-copy
invariant-loop-copy l = record {
  whole : l.yielded ++ l.copy-iterator.rest.items ≡ l.fn.copies.items;
  copied : l.yielded ≡ map Some l.copied.items;
}
