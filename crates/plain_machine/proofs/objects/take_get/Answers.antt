use Rattle.std.proofs.Common.{◌≡◌, Some, refl}
use Rattle.plain_monitor.specs.declared.entry.Entry.TheVariants as entry
use Rattle.plain_monitor.specs.Objects.{take_at}
use Rattle.plain_machine.proofs.Taking.{taken_same}
use Rattle.plain_machine.proofs.objects.take_get.Goals as goal

pub returns-clause-ok : goal.returns-clause-ok
returns-clause-ok c =
    let x = c.index-objects-at.result in
    let same : take_at x c.args.t (entry.Get c.args.object c.args.slot c.args.value) ≡ Some x = rw (← c.if-not-reads.ensures) refl in
    taken_same _ _ c.args.t (entry.Get c.args.object c.args.slot c.args.value) _ c.if-at-objects.false c.index-objects-at.is same
