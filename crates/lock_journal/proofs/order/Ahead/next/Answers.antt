use Rattle.std.proofs.Common.{◌≡◌, ◌<◌, [], length, Some, None, arith, refl}
use Rattle.std.proofs.lemmas.List.{get_or_read_under}
use Rattle.plain_monitor.specs.Limits.{most_threads}
use Rattle.lock_journal.specs.inner.Heads.{stamp_of, or_greatest, HasStamps}
use Rattle.lock_journal.proofs.Merging.{limit_given, none_left, stamps_given}
use Rattle.lock_journal.proofs.Sixteen.{given_by_first, held_by_first, held_in_first}
use Rattle.lock_journal.proofs.order.Ahead.next.Goals as goal

pub first_head-requires-clause-stamps : goal.first_head-requires-clause-stamps
first_head-requires-clause-stamps c =
    held_in_first c.args.run.now.logs c.first_logs-logs.result.now c.args.self.now.places
    c.args.self.now.stamps c.first_logs-logs.ensures.first c.requires.stamps.held

pub returns-in_err-first-clause-first : goal.returns-in_err-first-clause-first
returns-in_err-first-clause-first c =
    let places = c.args.self.now.places in
    rw c.from_residual.ensures
    (given_by_first c.args.run.now.logs c.first_logs-logs.result.now places places None c.requires.few c.first_logs-logs.ensures.first
    (none_left _ _ (rw c.in_err-first.was at c.first_head.ensures)))

pub returns-clause-first : goal.returns-clause-first
returns-clause-first c =
    given_by_first c.args.run.now.logs c.first_logs-logs.result.now c.args.self.now.places c.take_head-head.new.places
    (Some (c.in_ok-first.first.0.0, c.take_head-head.result))
    c.requires.few c.first_logs-logs.ensures.first c.take_head-head.ensures.first

pub returns-clause-stamps : goal.returns-clause-stamps
returns-clause-stamps c =
    let all = c.args.run.now.logs in
    let logs = c.first_logs-logs.result.now in
    let is = c.first_logs-logs.ensures.first in
    let few = c.first_logs-logs.ensures.few in
    let t = c.in_ok-first.first.0.0 in
    let first = rw c.in_ok-first.was at c.first_head.ensures in
    let long : length c.args.self.now.stamps ≡ most_threads = omega arith in
    let thread : t < length logs = first.0.thread in
    let log = get_or_read_under _ _ _ _ [] c.index-logs-index.is thread refl in
    let at : c.cached_stamp.result ≡ or_greatest (stamp_of logs c.take_head-head.new.places t) = rw (c.cached_stamp.ensures, log) refl in
    let held : HasStamps logs c.args.self.now.places c.args.self.now.stamps =
    held_in_first all logs c.args.self.now.places c.args.self.now.stamps is c.requires.stamps.held in
    record {
      held = held_by_first all logs _ _ is (stamps_given logs _ _ _ t _ _ long (omega (arith, few, thread)) c.take_head-head.ensures.places held at);
      limit = limit_given c.args.self.now.stamps t c.in_ok-first.first.1 c.cached_stamp.result first.1;
    }
