use Rattle.std.proofs.Common.{◌≡◌, ℕ, List, [], ◌∷◌, MatchOption, subst}
use Rattle.plain_monitor.specs.Order.{order}
use Rattle.lock_journal.specs.Merging.{left_of}
use Rattle.lock_journal.proofs.Sixteen.{given_by_first}
use Rattle.lock_journal.proofs.order.Merge.next.Goals as goal

pub returns-clause-first : goal.returns-clause-first
returns-clause-first c =
    let logs = c.args.run.now.logs in
    let new = c.take_least.new.places in
    let given = c.take_least.result in
    subst (λ (old : List ℕ). MatchOption given (order (left_of logs old) ≡ []) (λ x. order (left_of logs old) ≡ x ∷ order (left_of logs new))) c.self.view_is
    (given_by_first logs c.first_logs.result.now c.self.inside.places new given c.requires.few c.first_logs.ensures.first c.take_least.ensures.first)
