use Rattle.std.proofs.Common.{◌≤◌, ◌∙◌, length, sym, subst}
use Rattle.core_world.specs.Words.Shape.{Shape}
use Rattle.object_program.proofs.Made.{made_slots_few}
use Rattle.plain_monitor.specs.Limits.{most_objects, most_slots}
use Rattle.program_run.proofs.Shaped.{has_class, has_room}
use Rattle.program_run.proofs.shape.heap_shape.Goals as goal

pub with_made-requires-clause-room : goal.with_made-requires-clause-room
with_made-requires-clause-room c =
    let shape = c.in_ok-shape.ensures.shape in
    subst (λ (s : Shape). length s.objects ≤ most_objects) (sym shape) (has_room c.args.program.now c.in_ok-shape.ensures.program)

pub with_made-requires-clause-class : goal.with_made-requires-clause-class
with_made-requires-clause-class c =
    subst (λ (s : Shape). 1 ≤ s.classes) (sym c.in_ok-shape.ensures.shape) (has_class c.args.program.now c.in_ok-shape.ensures.program
    (λ e. c.if-total-declared.false (c.objects_total-total.ensures ∙ e ∙ sym c.declared_total-declared.ensures)))

pub with_made-requires-clause-slots : goal.with_made-requires-clause-slots
with_made-requires-clause-slots c =
    subst (λ n. n ≤ most_slots) (sym c.made_slots.ensures) (made_slots_few c.args.program.now c.in_ok-shape.ensures.program)
