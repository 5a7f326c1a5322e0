use Rattle.std.proofs.Common.{◌≡◌, drop}
use Rattle.std.specs.List.{list_any}
use Rattle.object_program.specs.declared.program.ThreadDef.{ThreadDef}
use Rattle.every_outcome.specs.NoHash.{is_hash_code}
use Rattle.outcome_search.proofs.find.has_hash.Given as goal

abbrev pub invariant-loop-thread : goal.invariant-loop-thread
invariant-loop-thread l =
    list_any (λ (t : ThreadDef). list_any is_hash_code t.code) (drop l.thread-index l.threads)
    ≡ list_any (λ (t : ThreadDef). list_any is_hash_code t.code) l.threads
