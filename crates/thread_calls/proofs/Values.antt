-- Values that may stand beside a heap's objects.
use Rattle.std.proofs.Common.{◌≡◌, ◌<◌, ◌&&◌, Bool, ℕ, ltb-true, true, false, length, arith, refl}
use Rattle.std.specs.List.{AllByRecursion}
use Rattle.std.proofs.lemmas.Int.{ints}
use Rattle.plain_monitor.specs.declared.entry.Value.{Value}
use Rattle.plain_monitor.specs.declared.entry.Value.TheVariants.{Nil, Int, Ref}
use Rattle.plain_monitor.specs.Made.{refers}
use Rattle.plain_monitor.specs.Numbers.{IsInRange, is_in_range}
use Rattle.core_world.specs.Threads.ThreadView.{ThreadView}
use Rattle.core_world.specs.Threads.References.{is_object, numbering, knows_by_log, has_reference, has_value}
use Rattle.core_world.specs.Trees.Calls.{is_value}
use Rattle.heap_table.specs.Seen.{HeapSeen}
use Rattle.plain_machine.specs.Values.{IsValueOf}

range_test : (z : _) → IsInRange z → is_in_range z ≡ true
range_test z r = let a = r.0 in let b = r.1 in grind (arith, ints)

in_range : (z : _) → is_in_range z ≡ true → IsInRange z
in_range z r = grind (arith, ints)

-- the thread may store and print such a value where it knows the object to which the value refers
pub value_is : (h : HeapSeen) (k : ThreadView) (n : ℕ) (Knows : ℕ → Type 0) (v : Value)
    → ((o : ℕ) → o < n → Knows o → has_reference h.heap.shape k o ≡ true) → AllByRecursion Knows (refers v) → IsValueOf n v
    → has_value h.heap.shape k v ≡ true
value_is h k n Knows Nil has knows is = refl
value_is h k n Knows (Int z) has knows is = range_test z is.1
value_is h k n Knows (Ref o) has knows is = has o is.0 knows.0

-- the heap has an object to which a thread has a reference
first_of : (a b : Bool) → (a && b) ≡ true → a ≡ true
first_of true b is = refl
first_of false b is = absurd (cc (is))

pub within : (h : HeapSeen) (k : ThreadView) (o : ℕ) → has_reference h.heap.shape k o ≡ true → o < length h.heap.shape.objects
within h k o is =
    ltb-true o (length h.heap.shape.objects) (first_of (is_object h.heap.shape o) (knows_by_log (numbering h.heap.shape) k.log o) is)

pub value_of : (h : HeapSeen) (v : Value) → is_value h.heap.shape v ≡ true → IsValueOf (length h.heap.shape.objects) v
value_of h Nil is = (tt, tt)
value_of h (Int z) is = (tt, in_range z is)
value_of h (Ref o) is = (ltb-true o (length h.heap.shape.objects) is, tt)
