use Rattle.std.proofs.Common.{◌≡◌, List, ap, length, arith, ◌∙◌}
use Rattle.std.proofs.lemmas.List.{length-replicate}
use Rattle.object_program.specs.declared.program.ObjectDef.{ObjectDef}
use Rattle.object_program.specs.Program.{classes_from}
use Rattle.plain_machine.proofs.NeededObjects.{first_is_total}
use Rattle.plain_machine.proofs.register.Register.new.Goals as goal

pub invariant_of-result : goal.invariant_of-result
invariant_of-result c =
    let total = first_is_total c.program.inside.objects in
    let declared : length c.in_ok-declared.declared.items ≡ length (classes_from c.program.inside.objects) =
    ap length c.in_ok-declared.ensures ∙ ap (λ (ds : List ObjectDef). length (classes_from ds)) c.items.ensures in
    let rows : length c.in_ok-rows.rows.items ≡ length c.program.inside.threads =
    ap length c.in_ok-rows.ensures ∙ length-replicate _ _ ∙ ap length c.items-3.ensures in
    record {
      declared = omega (arith, total, c.program.invariant.objects_few, declared, c.in_ok-declared.declared.ok.0);
      threads = omega (arith, c.program.invariant.threads_few, rows, c.in_ok-rows.rows.ok.0);
    }
