-- A thread between two calls, and what its next call asks.
use Rattle.std.specs.Prelude.{◌≡◌, ◌+◌, ◌≤◌, true, length}
use Rattle.core_world.specs.declared.heap_call.HeapCall.{HeapCall}
use Rattle.core_world.specs.Steps.{is_idle}
use Rattle.core_world.specs.Threads.ThreadView.{Start, start_of}
use Rattle.core_world.specs.Trees.Calls.{may_begin, most_logged}
use Rattle.heap_table.specs.Seen.{HeapSeen, PassSeen, IsOf}

-- It is in the middle of nothing: its last call is over.
pub record Rests (h : HeapSeen) (p : PassSeen) : Type 0 where
  pub is_of : IsOf h p
  pub over : is_idle h.heap.shape p.known ≡ true

-- A call of this task may begin: the thread rests, and the call's own conditions hold.
pub record MayCall (h : HeapSeen) (p : PassSeen) (t : HeapCall) : Type 0 where
  pub rests : Rests h p
  pub may : may_begin h.heap.shape h.heap.biasing p.known t ≡ true

-- So may an operation: the log has room for the entries that it logs at most.
pub record MayOperate (h : HeapSeen) (p : PassSeen) (t : HeapCall) : Type 0 where
  pub call : MayCall h p t
  pub room : length p.known.log + most_logged p.known t ≤ p.limit

-- what a call that begins now takes of the thread's knowledge
abbrev pub start_now : HeapSeen → PassSeen → Start
start_now h p = start_of h.heap.start p.known
