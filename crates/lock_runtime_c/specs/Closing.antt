-- What is left of a heap that C closes.
use Rattle.std.specs.Prelude.{◌≡◌, ◌⊎◌, List, length, All, None, ℕ, ◌<◌, false, slice_index}
use Rattle.plain_monitor.specs.History.{LegalObjects}
use Rattle.plain_history.specs.ExactStamps.{StampsAreExact}
use Rattle.core_world.specs.declared.heap_call.Operation.TheVariants as op
use Rattle.core_world.specs.Clauses.Safepoints.{IsUnfinished}
use Rattle.core_world.specs.Words.Forms.{runs_in, asks_in}
use Rattle.core_law.specs.HeapLaw.{HeapLaw}
use Rattle.heap_table.specs.BiasesAtEnd.{BiasesAtEnd}
use Rattle.heap_table.specs.Seen.{HeapSeen, PassSeen, ClosedSeen, LastWorld, knowns, logs_of, pages_of, shots_of, counts_of_all}
use Rattle.lending.specs.Lending.{AreAt}
use Rattle.lock_runtime_c.specs.Rest.{IsHome}
use Rattle.lock_runtime_c.specs.declared.inner.Inner.{Inner}
use Rattle.lock_runtime_c.specs.declared.inner.Inner.TheVariants as inner
use Rattle.lock_runtime_c.specs.declared.outcome.Misuse.TheVariants.{InUse, OtherKind, PassLost}
use Rattle.lock_runtime_c.specs.declared.outcome.Outcome.{Outcome}
use Rattle.lock_runtime_c.specs.declared.outcome.Outcome.TheVariants.{Done, Misused, NoMemory}
use Rattle.lock_runtime_c.specs.declared.outcome.Said.TheVariants.{Nothing}

-- All passes of the heap were at home, and this is what they left: the words of its last world, and of each log what no page had. The whole logs, pages and
-- rest, are legal, and their stamps exact; and the law of biases holds of them where
-- nothing is unfinished, and of logs with one verdict more where no hash is. By the last safepoint word no thread runs or asks.
pub record IsLeftOf (h : HeapSeen) (c : ClosedSeen) : Type 0 where
  pub passes : List PassSeen
  pub home : AreAt (IsHome h) passes
  pub count : length passes ≡ h.heap.shape.threads
  pub heap : c.heap ≡ h.heap
  pub world : LastWorld h.heap c.words (knowns passes)
  pub logs : c.logs ≡ pages_of passes
  pub shots : c.shots ≡ shots_of passes
  pub counts : c.counts ≡ counts_of_all passes
  pub legal : LegalObjects h.heap.shape.objects (logs_of passes)
  pub stamps : StampsAreExact (logs_of passes)
  pub biases : All (λ (p : PassSeen). p.known.unfinished ≡ None) passes → BiasesAtEnd 0 h.heap c.words (logs_of passes) (knowns passes)
  pub biases_stuck : All (λ (p : PassSeen). (o : ℕ) → IsUnfinished p.known.unfinished op.Hash o → ⊥) passes
      → BiasesAtEnd 1 h.heap c.words (logs_of passes) (knowns passes)
  pub law : HeapLaw h.heap
  pub still : (t : ℕ) → t < h.heap.shape.threads → (runs_in (slice_index c.words 0) t ≡ false) × (asks_in (slice_index c.words 0) t ≡ false)

-- a heap is closed, or stays where a thread has a pass still or memory is wanting; where a pass was lost nothing is left of it
abbrev pub ClosesHeap : HeapSeen → Inner → Inner → Outcome → Type 0
ClosesHeap h before after out =
    ((out ≡ Done Nothing) × (c : ClosedSeen) × (after ≡ inner.Closed c) × IsLeftOf h c)
    ⊎ ((out ≡ Misused InUse) × (after ≡ before))
    ⊎ ((out ≡ NoMemory) × (after ≡ before))
    ⊎ ((out ≡ Misused PassLost) × (after ≡ inner.Gone))

-- anything else isn't
abbrev pub Closes : Inner → Inner → Outcome → Type 0
Closes (inner.Room r) after out = ClosesHeap r.value.heap (inner.Room r) after out
Closes before after out = (after ≡ before) × (out ≡ Misused OtherKind)
