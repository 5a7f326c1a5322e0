-- Small heaps come to their worlds by turns, by computing.
use Rattle.std.proofs.Common.{◌≡◌, ◌≢◌, ℕ, true, List, [], ◌∷◌, Some, refl}
use Rattle.mark_word.specs.Mark.{read_mark}
use Rattle.mark_word.specs.Safe.{read_safe}
use Rattle.mark_word.specs.Owner.{read_owner, owner_of}
use Rattle.mark_word.specs.Wait.{read_wait}
use Rattle.mark_word.specs.Hold.{read_hold}
use Rattle.mark_word.specs.declared.owner.OwnerForm.TheVariants.{ByThread, ByRecord}
use Rattle.core_world.specs.declared.word_id.WordId.TheVariants.{Safepoint, Mark, Waiting, Owner}
use Rattle.core_world.specs.declared.heap_call.HeapCall.{HeapCall}
use Rattle.core_world.specs.declared.heap_call.Operation.TheVariants as op
use Rattle.core_world.specs.Due.{steps_due}
use Rattle.core_world.specs.Opening.{opening}
use Rattle.core_world.specs.RevocationRules.{writes_in}
use Rattle.core_world.specs.Steps.{is_idle}
use Rattle.core_world.specs.Threads.Stages.{revocation_in}
use Rattle.core_world.specs.Trees.Calls.{steps_of}
use Rattle.core_world.specs.Words.Forms.{monitor_in, waits_on, is_halted}
use Rattle.core_world.specs.Words.Shape.{ring_bits}
use Rattle.core_law.specs.Logic.{Heap}
use Rattle.core_law.specs.Reached.{IsReachable, opens}
use Rattle.step_history.specs.Examples.{lone, biased, world_of, waits, halts, contends, owns_beside, revokes}
use Rattle.step_history.specs.Race.{rivals, at_first}
use Rattle.core_world.specs.Threads.ThreadView.{StepMade}
use Rattle.step_history.specs.Leads.{Leads}
use Rattle.step_history.specs.Turns.{all_step}
use Rattle.step_history.proofs.Turned.{turns_lead, turns_reach}

pub by_turns : (heap : Heap) (turns : List (ℕ × HeapCall))
    → all_step turns (opening heap.shape heap.start heap.biasing) ≡ true → IsReachable heap (world_of heap turns)
by_turns heap turns all = turns_reach heap (opening heap.shape heap.start heap.biasing) turns opens all

pub contended : IsReachable rivals (world_of rivals contends) × (monitor_in ((world_of rivals contends).words (Mark 0)) ≡ Some 0)
    × ((world_of rivals contends).words (Owner 0) ≡ owner_of (ByRecord 0 0))
    × (is_idle rivals.shape ((world_of rivals contends).known 1) ≡ true)
    × (((world_of rivals contends).known 1).unfinished ≡ Some (record { op = op.Enter; object = 0 }))
unfolding steps_due is_idle steps_of read_safe read_mark read_hold read_wait read_owner ring_bits
contended = (by_turns rivals contends refl, refl, refl, refl, refl)

pub waiting : IsReachable lone (world_of lone (waits 0)) × (waits_on ((world_of lone (waits 0)).words (Waiting 0)) 0 ≡ true)
unfolding steps_due is_idle steps_of read_safe read_mark read_hold read_wait read_owner ring_bits
waiting = (by_turns lone (waits 0) refl, refl)

pub beside : IsReachable rivals (world_of rivals owns_beside) × (waits_on ((world_of rivals owns_beside).words (Waiting 0)) 0 ≡ true)
    × ((world_of rivals owns_beside).words (Owner 0) ≡ owner_of (ByThread 1))
unfolding steps_due is_idle steps_of read_safe read_mark read_hold read_wait read_owner ring_bits
beside = (by_turns rivals owns_beside refl, refl, refl)

pub halted : IsReachable lone (world_of lone (halts 0)) × (is_halted ((world_of lone (halts 0)).words Safepoint) ≡ true)
unfolding steps_due is_idle steps_of read_safe read_mark read_hold read_wait read_owner ring_bits
halted = (by_turns lone (halts 0) refl, refl)

some_write : {A : Type 0} (x : A) (xs : List A) → x ∷ xs ≢ []
some_write x xs h = absurd (cc h)

pub revoking : IsReachable biased (world_of biased revokes)
    × (revocation_in ((world_of biased revokes).known 1).stage ≡ Some (record { object = 0; rebias = true; now = 0 }))
    × (writes_in ((world_of biased revokes).known 1).seen_at_safepoint ≢ [])
unfolding steps_due is_idle steps_of read_safe read_mark read_hold read_wait read_owner ring_bits
revoking = (by_turns biased revokes refl, refl, some_write _ [])

each_has : all_step contends at_first ≡ true
unfolding steps_due is_idle steps_of read_safe read_mark read_hold read_wait read_owner ring_bits
each_has = refl

pub taken : IsReachable rivals at_first × (all_step contends at_first ≡ true) × ((xs : List (ℕ × StepMade)) × Leads at_first xs (world_of rivals contends))
taken = (opens, each_has, turns_lead at_first contends each_has)
