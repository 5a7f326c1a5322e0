use Rattle.std.proofs.Common.{◌≡◌, ◌∙◌, sym, ap, subst}
use Rattle.std.specs.Prelude.{decimal}
use Rattle.object_program.specs.Valid.{IsProgram}
use Rattle.sync_source.specs.Compiled.{compiled}
use Rattle.sync_source.specs.SameMeaning.{DoesTheSame}
use Rattle.sync_source.specs.SourceView.{sync_text}
use Rattle.sync_source.specs.Valid.{IsSyncText}
use Rattle.sync_source.proofs.compiler.assemble.Goals as goal

pub invariant_of-result : goal.invariant_of-result
invariant_of-result c =
    let a = c.args in
    let e : record { classes = a.classes; objects = a.objects; threads = a.threads } ≡ compiled decimal (sync_text a.source.now) =
    ap (λ x. record { classes = x; objects = a.objects; threads = a.threads }) c.requires.classes
    ∙ ap (λ x. record { classes = a.source.now.classes; objects = x; threads = a.threads }) c.requires.objects
    ∙ ap (λ x. record { classes = a.source.now.classes; objects = a.source.now.objects; threads = x }) c.requires.threads in
    subst IsProgram (sym e) (c.code_does_what_its_blocks_do.ensures.program (sync_text a.source.now)
    (subst (λ x. IsSyncText (sync_text x)) c.source.view_is c.source.invariant))

pub returns-clause-same : goal.returns-clause-same
returns-clause-same c =
    let a = c.args in
    let e : record { classes = a.classes; objects = a.objects; threads = a.threads } ≡ compiled decimal (sync_text a.source.now) =
    ap (λ x. record { classes = x; objects = a.objects; threads = a.threads }) c.requires.classes
    ∙ ap (λ x. record { classes = a.source.now.classes; objects = x; threads = a.threads }) c.requires.objects
    ∙ ap (λ x. record { classes = a.source.now.classes; objects = a.source.now.objects; threads = x }) c.requires.threads in
    subst (DoesTheSame (sync_text a.source.now)) (sym e) (c.code_does_what_its_blocks_do.ensures.same (sync_text a.source.now)
    (subst (λ x. IsSyncText (sync_text x)) c.source.view_is c.source.invariant))
