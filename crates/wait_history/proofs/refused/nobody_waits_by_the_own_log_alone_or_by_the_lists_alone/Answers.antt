use Rattle.wait_history.proofs.WaitsByLog.{object_waits_by_log}
use Rattle.wait_history.proofs.refused.nobody_waits_by_the_own_log_alone_or_by_the_lists_alone.Goals as goal

pub returns-clause-log : goal.returns-clause-log
returns-clause-log c = λ shape logs objects t o x legal after at waits none.
    let same = object_waits_by_log shape logs objects t o x legal after at in absurd (cc (same, waits, none))

pub returns-clause-lists : goal.returns-clause-lists
returns-clause-lists c = λ shape logs objects t o x legal after at none stands.
    let same = object_waits_by_log shape logs objects t o x legal after at in absurd (cc (same, none, stands))
