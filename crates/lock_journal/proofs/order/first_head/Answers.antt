use Rattle.lock_journal.proofs.Merging.{first_is_least}
use Rattle.lock_journal.proofs.order.first_head.Goals as goal

pub returns-then-least-lt18446744073709551615 : goal.returns-then-least-lt18446744073709551615
returns-then-least-lt18446744073709551615 c = (
  first_is_least _ _ c.args.stamps.now _ c.requires.few c.requires.stamps
      c.first_stamp-first.ensures.first c.if-least-lt18446744073709551615.true,
  c.first_stamp-first.ensures.limit,
)
