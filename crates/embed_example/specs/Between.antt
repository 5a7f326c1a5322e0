-- A thread between two calls: what of its pass lets the next call begin.
use Rattle.std.specs.Prelude.{◌≡◌, ℕ, ◌≤◌, ◌&&◌, ◌||◌, true, false, None, is_none}
use Rattle.plain_monitor.specs.Limits.{entries_for}
use Rattle.core_world.specs.declared.heap_call.Operation.{Operation}
use Rattle.core_world.specs.Clauses.Lengths.{log_limit}
use Rattle.core_world.specs.Clauses.Safepoints.{ends}
use Rattle.core_world.specs.Trees.Operations.{goes_on_with}
use Rattle.heap_table.specs.Fresh.{IsFresh}
use Rattle.heap_table.specs.Resting.{Rests}
use Rattle.heap_table.specs.Seen.{HeapSeen, PassSeen}
use Rattle.lock_runtime.specs.Standing.{IsStopped}

-- The pass of thread t on which no call was made yet, on a heap that was made for so much fuel.
pub record IsNew (h : HeapSeen) (fuel t : ℕ) (p : PassSeen) : Type 0 where
  pub fresh : IsFresh h t p
  pub limit : p.limit ≡ entries_for fuel
  pub room : h.room ≡ entries_for fuel

-- Its last call is over, it makes no check, it hasn't ended, its log is no longer than any log may be, and no page of it was handed out.
pub record IsLive (h : HeapSeen) (p : PassSeen) : Type 0 where
  pub rests : Rests h p
  pub unchecked : p.known.checking ≡ false
  pub unended : ends p.known.log ≡ false
  pub limit : p.limit ≤ log_limit
  pub whole : p.limit ≡ h.room

-- Any operation may begin: the thread runs, and nothing is unfinished.
pub record IsFree (h : HeapSeen) (p : PassSeen) : Type 0 where
  pub live : IsLive h p
  pub runs : p.known.running ≡ true
  pub none : p.known.unfinished ≡ None

-- This operation on o may begin, or go on: the thread runs, or has asked for a safepoint for it; and nothing else is unfinished.
pub record MayTry (w : Operation) (o : ℕ) (h : HeapSeen) (p : PassSeen) : Type 0 where
  pub live : IsLive h p
  pub stands : (p.known.running || (p.known.requesting && goes_on_with w o p.known.unfinished)) ≡ true
  pub free : (is_none p.known.unfinished || goes_on_with w o p.known.unfinished) ≡ true

-- Its thread is stopped, its last call is over, and no page of its log was handed out.
pub record IsOver (h : HeapSeen) (p : PassSeen) : Type 0 where
  pub rests : Rests h p
  pub stopped : IsStopped p.known
  pub whole : p.limit ≡ h.room

-- The pass was p, and is q after calls that log nothing, and leave what is unfinished so.
pub record IsBeside (h : HeapSeen) (p q : PassSeen) : Type 0 where
  pub rests : Rests h q
  pub log : q.known.log ≡ p.known.log
  pub unfinished : q.known.unfinished ≡ p.known.unfinished
  pub checking : q.known.checking ≡ p.known.checking
  pub limit : q.limit ≡ p.limit

-- These are the passes of a heap of two threads, in the order of their threads.
abbrev pub AreInOrder : HeapSeen → PassSeen → PassSeen → Type 0
AreInOrder h first second = (h.heap.shape.threads ≡ 2) × ((first.known.thread ≡ 0) × (second.known.thread ≡ 1))
