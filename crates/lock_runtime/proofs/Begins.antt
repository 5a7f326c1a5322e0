-- What the conditions of a call give its code.
use Rattle.std.proofs.Common.{◌≡◌, ℕ, ◌<◌, ◌≤◌, ◌&&◌, Bool, true, false, cond, length, arith, ltb-true}
use Rattle.std.proofs.lemmas.Float.{T_from_true}
use Rattle.std.specs.Int.Signed.{le_z_yes}
use Rattle.std.proofs.lemmas.Bool.{and_parts}
use Rattle.plain_monitor.specs.Limits.{most_in_all}
use Rattle.plain_monitor.specs.declared.entry.Value.{Value}
use Rattle.plain_monitor.specs.declared.entry.Value.TheVariants.{Nil, Int, Ref}
use Rattle.plain_monitor.specs.ValueWords.{IsSpellable}
use Rattle.core_world.specs.declared.heap_call.HeapCall.{HeapCall}
use Rattle.core_world.specs.declared.heap_call.HeapCall.TheVariants.{Wait}
use Rattle.core_world.specs.Threads.ThreadView.{ThreadView}
use Rattle.core_world.specs.Threads.References.{is_object, numbering, knows_by_log, has_reference, has_value}
use Rattle.core_world.specs.Trees.Calls.{most_logged}
use Rattle.core_world.specs.Words.Forms.{waits_on}
use Rattle.core_world.specs.Words.Shape.{Shape}
use Rattle.heap_table.specs.Resting.{MayOperate}
use Rattle.heap_table.specs.Seen.{HeapSeen, PassSeen}

pub first_of : (a b : Bool) → (a && b) ≡ true → a ≡ true
first_of a b e = (and_parts a b e).0

pub second_of : (a b : Bool) → (a && b) ≡ true → b ≡ true
second_of a b e = (and_parts a b e).1

-- the object is there
pub object_there : (s : Shape) (k : ThreadView) (o : ℕ) (b : Bool) → (has_reference s k o && b) ≡ true → o < length s.objects
object_there s k o b e =
    ltb-true o (length s.objects)
    (first_of (is_object s o) (knows_by_log (numbering s) k.log o) (first_of (has_reference s k o) b e))

-- an operation may log an entry
one_or_more : (b : Bool) → 1 ≤ cond b 1 2
one_or_more true = omega arith
one_or_more false = omega arith

may_log : (k : ThreadView) (t : HeapCall) → 1 ≤ most_logged k t
may_log k (Wait o now) = one_or_more (waits_on k.wait o)
may_log k t = omega arith

-- and the log has room for one
pub room_one : (h : HeapSeen) (p : PassSeen) (t : HeapCall) → MayOperate h p t → length p.known.log < p.limit
room_one h p t c = let room = c.room in let one = may_log p.known t in omega (arith, room, one)

-- a value that the thread may store has its word
pub spellable : (s : Shape) (k : ThreadView) (v : Value) → length s.objects ≤ most_in_all → has_value s k v ≡ true → IsSpellable v
spellable s k Nil few e = tt
spellable s k (Int i) few e = (le_z_yes (T_from_true _ (first_of _ _ e)), le_z_yes (T_from_true _ (second_of _ _ e)))
spellable s k (Ref o) few e =
    let here = ltb-true o (length s.objects) (first_of (is_object s o) (knows_by_log (numbering s) k.log o) e) in omega (arith, here, few)
