use Rattle.std.specs.Prelude.{false}
use Rattle.core_steps.proofs.deflation.AllDeflations.{deflation_leaves}
use Rattle.core_steps.proofs.Trees.{follows}
use Rattle.core_steps.proofs.stepping.a_deflation_does_its_steps.Goals as goal

pub returns : goal.returns
returns c heap e k stage may = follows heap false _ k _ _ (deflation_leaves heap e k stage may) (λ b a l x. tt)
