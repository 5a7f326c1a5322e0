use Rattle.std.proofs.Common.{◌^◌, ap, ◌∙◌, arith}
use Rattle.core_world.specs.Words.Shape.{Shape, ring_bits}
use Rattle.heap_table.proofs.RingPlaces.{ring_is, places_some, places_few}
use Rattle.heap_table.proofs.shape.HeapShape.ring_places.Goals as goal

pub returns-clause-places : goal.returns-clause-places
returns-clause-places c =
    let own = c.self.inside in
    let s : Shape = record { threads = own.threads; classes = own.classes; declared = own.declared; objects = own.objects.items } in
    let next = c.next_power_of_two.ensures in
    let objects = c.len.ensures in
    ring_is s c.next_power_of_two.result next.power.0 c.self.invariant.0 next.power.1
    (omega (arith, next.lower_bound, objects)) (omega (arith, next.upper_bound, objects))
    ∙ ap (λ (s : Shape). 2 ^ ring_bits s) c.self.view_is

pub returns-clause-few : goal.returns-clause-few
returns-clause-few c =
    let s : Shape = c.args.self.now in
    let is = returns-clause-places c in
    let some = places_some s in
    let few = places_few s in (omega (arith, is, some), omega (arith, is, few))
