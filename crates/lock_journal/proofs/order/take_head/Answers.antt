use Rattle.std.proofs.Common.{◌≤◌, [], length, arith, refl}
use Rattle.std.proofs.lemmas.List.{get_or_read_under}
use Rattle.lock_journal.proofs.Merging.{least_given}
use Rattle.lock_journal.proofs.order.take_head.Goals as goal

pub returns-clause-first : goal.returns-clause-first
returns-clause-first c =
    let fit : length c.args.logs.now ≤ length c.args.places.now = omega (arith, c.requires.few, c.fits-places) in
    let log = get_or_read_under _ _ _ _ [] c.index-logs-index.is c.requires.least.thread refl in
    rw (c.items.ensures, log) (least_given _ _ _ _ c.requires.rising fit c.requires.least)
