-- A pass that has made no step, and one that is stopped.
use Rattle.std.specs.Prelude.{◌≡◌, ℕ, false}
use Rattle.core_world.specs.Opening.{first_known}
use Rattle.heap_table.specs.Seen.{HeapSeen, PassSeen, IsOf}

pub record IsFresh (h : HeapSeen) (t : ℕ) (p : PassSeen) : Type 0 where
  pub is_of : IsOf h p
  pub knows : p.known ≡ first_known t

pub record IsStoppedPass (h : HeapSeen) (t : ℕ) (p : PassSeen) : Type 0 where
  pub is_of : IsOf h p
  pub thread : p.known.thread ≡ t
  pub stopped : p.known.running ≡ false
  pub quiet : p.known.requesting ≡ false
