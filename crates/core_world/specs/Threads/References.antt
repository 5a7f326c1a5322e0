-- To which objects a thread has a reference, and which values it may hand on.
use Rattle.std.specs.Prelude.{◌≡◌, ℕ, ◌<◌, nat_lt, ◌==◌, Bool, true, false, ◌&&◌, Option, Some, None, List, take, map, length}
use Rattle.plain_monitor.specs.declared.entry.Value.{Value}
use Rattle.plain_monitor.specs.declared.entry.Value.TheVariants.{Nil, Int, Ref}
use Rattle.plain_monitor.specs.Made.{Numbering}
use Rattle.plain_monitor.specs.Numbers.{is_in_range}
pub use Rattle.plain_history.specs.Known.{tells_of, is_told, knows_by_log}
use Rattle.core_world.specs.declared.heap_call.Operation.{Operation}
use Rattle.core_world.specs.declared.heap_call.Operation.TheVariants as op
use Rattle.core_world.specs.declared.heap_call.Unfinished.{Unfinished}
use Rattle.core_world.specs.Words.Shape.{Shape}
use Rattle.core_world.specs.Threads.ThreadView.{ThreadView}

-- the heap has the object
abbrev pub is_object : Shape → ℕ → Bool
is_object s o = nat_lt o (length s.objects)

-- which numbers the heap's objects have
abbrev pub numbering : Shape → Numbering
numbering s = record { declared = take s.declared (map (λ x. x.0) s.objects); threads = s.threads; classes = s.classes }

-- the thread has a reference to the object: the heap has it, and the thread knows it by its log
pub record HasReference (s : Shape) (k : ThreadView) (o : ℕ) : Type 0 where
  pub within : o < length s.objects
  pub known : knows_by_log (numbering s) k.log o ≡ true

-- the same as a test
abbrev pub has_reference : Shape → ThreadView → ℕ → Bool
has_reference s k o = is_object s o && knows_by_log (numbering s) k.log o

-- WHAT IS UNFINISHED is an operation on an object that is there, but for a dump and the making of an object
abbrev pub has_object : Operation → Bool
has_object op.Dump = false
has_object op.Create = false
has_object _ = true

-- it is an operation on this object
abbrev pub is_on : Option Unfinished → ℕ → Bool
is_on None o = false
is_on (Some u) o = has_object u.op && (u.object == o)

-- it is the making of an object: this one
abbrev pub made_by_op : Operation → ℕ → Option ℕ
made_by_op op.Create o = Some o
made_by_op _ o = None

abbrev pub making_in : Option Unfinished → Option ℕ
making_in None = None
making_in (Some u) = made_by_op u.op u.object

-- VALUES. The value is in its range, and where it refers to an object, that one passes the test
abbrev pub is_value_over : (ℕ → Bool) → Value → Bool
is_value_over test Nil = true
is_value_over test (Int i) = is_in_range i
is_value_over test (Ref o) = test o

-- the value is one of the heap
abbrev pub is_value : Shape → Value → Bool
is_value s v = is_value_over (λ o. is_object s o) v

-- the thread may store or print the value: where it refers to an object, the thread has a reference to that
abbrev pub has_value : Shape → ThreadView → Value → Bool
has_value s k v = is_value_over (λ o. has_reference s k o) v

-- the thread has a reference to the object to which the value refers, where it does
abbrev pub HasValue : Shape → ThreadView → Value → Type 0
HasValue s k (Ref o) = HasReference s k o
HasValue s k _ = Unit {0}
