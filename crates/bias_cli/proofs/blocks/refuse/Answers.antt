use Rattle.std.proofs.Common.{◌≡◌, ◌≢◌, false, true, inr}
use Rattle.program_syntax.specs.declared.error.RefusalCause.TheVariants as why
use Rattle.sync_syntax.specs.declared.error.SyncRefusalCause.TheVariants.{Plain}
use Rattle.bias_cli.proofs.blocks.refuse.Goals as goal

pub returns-else-eq : goal.returns-else-eq
returns-else-eq g c =
    let another : c.args.error.why ≢ Plain why.NoMemory = λ e. let bad : false ≡ true = rw e at c.if-eq.ensures in absurd (cc bad) in
    inr (another, (c.finish_with.ensures.left, rw (c.bytes.ensures.text, c.sync_refusal_line.ensures) at c.finish_with.ensures.written))
