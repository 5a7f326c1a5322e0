use Rattle.std.proofs.Common.{◌≤◌, length}
use Rattle.plain_monitor.specs.Limits.{most_objects}
use Rattle.heap_table.proofs.Opens.{made_fits}
use Rattle.heap_table.proofs.shape.HeapShape.with_made.Goals as goal

pub with_size-requires : goal.with_size-requires
with_size-requires c =
    let room : length c.self.inside.objects.items ≤ most_objects = rw (← c.self.view_is) at c.requires.room in
    let class : 1 ≤ c.self.inside.classes = rw (← c.self.view_is) at c.requires.class in
    made_fits _ c.args.slots _ c.self.invariant.0 room class c.requires.slots c.in-Ok.ensures
