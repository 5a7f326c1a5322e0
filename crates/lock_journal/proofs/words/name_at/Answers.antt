use Rattle.std.proofs.Common.{◌≡◌, subst, Some, refl}
use Rattle.std.specs.Prelude.{slice_get}
use Rattle.std.proofs.lemmas.Option.{slice_get_read}
use Rattle.lock_journal.proofs.Names.{length_name_at}
use Rattle.lock_journal.proofs.words.name_at.Goals as goal

pub returns-clause-short : goal.returns-clause-short
returns-clause-short c =
    let h = c.in_ok-thread.ensures.lookup in
    let at : slice_get c.items.result.now c.args.t ≡ Some c.in_ok-thread.thread.now = slice_get_read _ _ _ _ refl h.3.0 h.1 in
    length_name_at (λ x. x.name) c.program.inside.threads c.args.t _ c.program.invariant.thread_names
    (subst (λ xs. slice_get xs c.args.t ≡ Some c.in_ok-thread.thread.now) c.items.ensures at)
