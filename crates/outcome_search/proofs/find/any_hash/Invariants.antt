use Rattle.std.proofs.Common.{◌≡◌, drop}
use Rattle.std.specs.List.{list_any}
use Rattle.every_outcome.specs.NoHash.{is_hash_code}
use Rattle.outcome_search.proofs.find.any_hash.Given as goal

abbrev pub invariant-loop-instruction : goal.invariant-loop-instruction
invariant-loop-instruction l = list_any is_hash_code (drop l.instruction-index l.code) ≡ list_any is_hash_code l.code
