use Rattle.std.proofs.Common.{refl}
use Rattle.object_program.specs.declared.program.LabelDef.{LabelDef}
use Rattle.program_syntax.proofs.Labelled.{is_among-take}
use Rattle.program_syntax.proofs.cause.is_label_before.Goals as goal

pub returns-in-None-place_of : goal.returns-in-None-place_of
returns-in-None-place_of c =
    let among = is_among-take (λ (l : LabelDef). l.name) c.in-Some.section.labels c.in-Some.section.declared c.args.word.now in
    rw (c.in-Some.is, among, c.in-None-place_of.ensures) refl

pub returns-in-Some-place_of : goal.returns-in-Some-place_of
returns-in-Some-place_of c =
    let among = is_among-take (λ (l : LabelDef). l.name) c.in-Some.section.labels c.in-Some.section.declared c.args.word.now in
    rw (c.in-Some.is, among, c.in-Some-place_of.ensures.0, ← c.in-Some-place_of.ensures.1) refl
