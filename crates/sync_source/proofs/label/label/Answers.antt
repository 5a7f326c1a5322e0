use Rattle.std.proofs.Common.{◌+◌, ◌∷◌, length, arith, ◌∙◌, ap, refl}
use Rattle.object_program.specs.Name.{is_name}
use Rattle.sync_source.proofs.Names.{label_is_name}
use Rattle.sync_source.proofs.Labels.{label_cut}
use Rattle.sync_source.proofs.label.label.Goals as goal

pub of-requires : goal.of-requires
of-requires c =
    let text = c.as_bytes-text.result.now in
    let is = c.as_bytes-text.ensures.value ∙ c.format.ensures.text in
    ap is_name (label_cut (length text + 1) _ text _ c.copy_from_slice.ensures.after refl)
    ∙ ap (λ xs. is_name (76 ∷ xs)) is ∙ label_is_name c.args.number (omega (arith, c.requires))
