use Rattle.std.proofs.Common.{◌≡◌, ◌∙◌, ◌++◌, ◌-◌, replicate, ap, sym, arith, length}
use Rattle.plain_monitor.specs.Objects.{new_object, new_objects}
use Rattle.std.proofs.lemmas.List.{length-append, length-replicate}
use Rattle.object_program.specs.Program.{made_total, shape_from, made_slots}
use Rattle.plain_machine.proofs.Starts.{new_objects_made}
use Rattle.plain_machine.proofs.build.new_objects.Goals as goal

pub overflow_sub-made : goal.overflow_sub-made
overflow_sub-made c = omega (arith, c.objects_total.ensures, c.declared_total.ensures)

many : (c : goal.In_ok-push_objects) → c.objects_total.result - c.declared_total.result ≡ made_total c.args.program.now
many c = omega (arith, c.objects_total.ensures, c.declared_total.ensures)

pub returns-clause-objects : goal.returns-clause-objects
returns-clause-objects c =
    c.in_ok-push_objects.ensures ∙ ap (λ xs. xs
    ++ replicate (c.objects_total.result - c.declared_total.result) (new_object c.made_slots.result)) c.in_ok-objects.ensures.objects
    ∙ ap (λ n. new_objects (shape_from c.args.program.now.classes c.args.program.now.objects) ++ replicate n (new_object c.made_slots.result)) (many c)
    ∙ ap (λ n. new_objects (shape_from c.args.program.now.classes c.args.program.now.objects)
    ++ replicate (made_total c.args.program.now) (new_object n)) c.made_slots.ensures
    ∙ sym (new_objects_made (shape_from c.args.program.now.classes c.args.program.now.objects)
    (made_total c.args.program.now) 0 (made_slots c.args.program.now))

pub returns-clause-total : goal.returns-clause-total
returns-clause-total c =
    let all = ap length c.in_ok-push_objects.ensures in
    let joined = length-append c.in_ok-objects.objects.items (replicate (c.objects_total.result - c.declared_total.result) (new_object c.made_slots.result)) in
    let more = length-replicate (c.objects_total.result - c.declared_total.result) (new_object c.made_slots.result) in
    omega (arith, all, joined, more, c.in_ok-objects.ensures.total, many c, c.push_objects.new.objects.ok.0, c.in_ok-objects.objects.ok.0)
