use Rattle.std.proofs.Common.{sym, subst}
use Rattle.lock_runtime_c.specs.ByHandle.{IsNeverFull}
use Rattle.lock_runtime_c.proofs.NeverFull.{never_full}
use Rattle.lock_runtime_c.proofs.exports.biasrun_exit.Goals as goal

pub returns-clause-full : goal.returns-clause-full
returns-clause-full c =
    let before = c.args.at.now in
    let told = c.exit_by.ensures in
    subst (IsNeverFull before) (sym told.is) (never_full before c.exit_by.new.at c.args.object told.outcome told.by_handle)
