use Rattle.std.specs.Prelude.{false}
use Rattle.core_steps.proofs.deflation.AllDeflations.{deflation_leaves}
use Rattle.core_steps.proofs.Trees.{follows}
use Rattle.core_steps.proofs.stepping.a_deflation_leaves_no_monitor_idle.Goals as goal

pub returns-clause-in_use : goal.returns-clause-in_use
returns-clause-in_use c heap e k stage may = follows heap false _ k _ _ (deflation_leaves heap e k stage may) (λ b a l x. x.in_use)

pub returns-clause-settled : goal.returns-clause-settled
returns-clause-settled c heap e k stage may some = follows heap false _ k _ _ (deflation_leaves heap e k stage may) (λ b a l x. x.settled some)

pub returns-clause-clean : goal.returns-clause-clean
returns-clause-clean c heap e k stage may = follows heap false _ k _ _ (deflation_leaves heap e k stage may) (λ b a l x. x.clean)
