use Rattle.std.proofs.Common.{subst}
use Rattle.sync_source.specs.SourceView.{sync_text}
use Rattle.sync_source.specs.Valid.{IsSyncText}
use Rattle.sync_syntax.proofs.write.write_sync.Goals as goal

pub returns-in_err-write_parts-clause-read : goal.returns-in_err-write_parts-clause-read
returns-in_err-write_parts-clause-read c =
    c.canonical_texts_are_read_back.ensures (sync_text c.args.program.now) (subst (λ a. IsSyncText (sync_text a)) c.program.view_is c.program.invariant)

pub returns-clause-read : goal.returns-clause-read
returns-clause-read c =
    c.canonical_texts_are_read_back.ensures (sync_text c.args.program.now) (subst (λ a. IsSyncText (sync_text a)) c.program.view_is c.program.invariant)
