-- A thread knows each declared object of its heap, whatever it has logged.
use Rattle.std.proofs.Common.{◌≡◌, ℕ, ◌<◌, ◌≤◌, true, length, lt-ltb, sym, subst, arith, inl, inr}
use Rattle.std.proofs.lemmas.Bool.{and_from, or_left}
use Rattle.std.proofs.lemmas.List.{length-take, length-map}
use Rattle.plain_monitor.specs.Made.{first_made}
use Rattle.core_world.specs.Threads.ThreadView.{ThreadView}
use Rattle.core_world.specs.Threads.References.{is_object, numbering, is_told, knows_by_log, has_reference}
use Rattle.core_world.specs.Words.Shape.{Shape}
use Rattle.core_world.specs.World.{World}
use Rattle.core_law.specs.Logic.{Heap}
use Rattle.core_law.specs.Sound.{Sound}
use Rattle.heap_table.specs.Resting.{Rests}
use Rattle.heap_table.specs.Seen.{HeapSeen, PassSeen, IsOf}

-- the declared objects are among those of the heap
sound_declared : (w : World) → Sound w → w.shape.declared ≤ length w.shape.objects
sound_declared w sound = elim sound.valid.is [
  | inl a ↦ a.0.limits.declared
  | inr s ↦ subst (λ (z : Shape). z.declared ≤ length z.objects) (sym s.0.shape) s.0.fits.limits.declared
]

pub declared_among : (h : HeapSeen) (p : PassSeen) → IsOf h p → h.heap.shape.declared ≤ length h.heap.shape.objects
declared_among h p is_of =
    let r = is_of.real in
    subst (λ (z : Heap). z.shape.declared ≤ length z.shape.objects) r.is_of (sound_declared r.world r.sound)

-- so the first object that a thread makes has the number after them
pub first_is_declared : (s : Shape) → s.declared ≤ length s.objects → first_made (numbering s) ≡ s.declared
first_is_declared s most = grind (arith, length-take, length-map, most)

known_of : (s : Shape) (k : ThreadView) (o : ℕ) → s.declared ≤ length s.objects → o < s.declared → has_reference s k o ≡ true
known_of s k o most l =
    let first = first_is_declared s most in
    and_from (is_object s o) (knows_by_log (numbering s) k.log o) (lt-ltb o (length s.objects) (omega (arith, l, most)))
    (or_left _ (is_told k.log o) (lt-ltb o (first_made (numbering s)) (omega (arith, l, first))))

pub declared_known : (h : HeapSeen) (p : PassSeen) (o : ℕ) → Rests h p → o < h.heap.shape.declared → has_reference h.heap.shape p.known o ≡ true
declared_known h p o rests l = known_of h.heap.shape p.known o (declared_among h p rests.is_of) l
