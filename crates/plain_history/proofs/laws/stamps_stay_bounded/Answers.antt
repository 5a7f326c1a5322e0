use Rattle.plain_history.proofs.Bounds.{empty_bounded, kept_by_unbound, kept_by_owner, kept_where_let_go}
use Rattle.plain_history.proofs.laws.stamps_stay_bounded.Goals as goal

pub returns-clause-at_first : goal.returns-clause-at_first
returns-clause-at_first c = empty_bounded

pub returns-clause-unbound : goal.returns-clause-unbound
returns-clause-unbound c = kept_by_unbound

pub returns-clause-owned : goal.returns-clause-owned
returns-clause-owned c = kept_by_owner

pub returns-clause-let_go : goal.returns-clause-let_go
returns-clause-let_go c = kept_where_let_go
