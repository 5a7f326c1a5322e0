use Rattle.std.proofs.Common.{subst, arith}
use Rattle.core_world.specs.declared.word_id.WordId.{WordId}
use Rattle.core_world.specs.declared.word_id.WordId.TheVariants.{Slot}
use Rattle.core_world.specs.There.{IsIn}
use Rattle.heap_table.proofs.Places.{within}
use Rattle.heap_table.proofs.shape.HeapShape.place.Goals as goal

pub returns-in-Slot-clause-within : goal.returns-in-Slot-clause-within
returns-in-Slot-clause-within c =
    let s = c.args.self.now in
    let low = within s (Slot c.in-Slot.object c.in-Slot.slot) (subst (λ (n : WordId). IsIn s n) c.in-Slot.is c.requires) in
    let place = c.slot_at.ensures in omega (arith, low, place)
