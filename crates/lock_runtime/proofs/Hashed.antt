-- Hashes: the next draw of a thread is what its call takes.
use Rattle.std.proofs.Common.{◌≡◌, ℕ, ◌+◌, refl, sym}
use Rattle.core_world.specs.Threads.ThreadView.{Start, draw_of}
use Rattle.core_world.specs.Trees.HashSteps.{hash_header_steps}
use Rattle.core_world.specs.Trees.Operations.{no_bias}
use Rattle.core_world.specs.Trees.Plans.{CallContext}
use Rattle.core_world.specs.Words.Shape.{Shape}
use Rattle.heap_table.specs.Resting.{start_now}
use Rattle.heap_table.specs.Seen.{HeapSeen, PassSeen}
use Rattle.heap_table.proofs.Aside.{StartsAlike}
use Rattle.heap_table.proofs.Resting.{IsCallOf}
use Rattle.lock_runtime.specs.inner.HashParts.{hash_unbiased, hash_going}
use Rattle.lock_runtime.proofs.Unbiased.{first_after}

-- THE NEXT DRAW is the one of the pass's generator
pub hash_alike : (h : HeapSeen) (p q : PassSeen) (e : CallContext) (o : ℕ) → StartsAlike p.known q.known
    → hash_unbiased h.heap.shape e (start_now h p) o ≡ hash_unbiased h.heap.shape e (start_now h q) o
hash_alike h p q e o alike = λ i.
    hash_header_steps h.heap.shape e (sym alike.local i) (sym alike.kept i)
    (record { number = sym alike.draws i + 1; value = draw_of h.heap.start (sym alike.local i).thread (sym alike.draws i + 1) }) o

-- its first step is one of its call
pub first_hash : (s : Shape) (e : CallContext) (k : Start) (o now : ℕ) → IsCallOf e.task (hash_going s e k o now)
first_hash s e k o now = first_after s e k (no_bias o now) (hash_unbiased s e k o) refl
