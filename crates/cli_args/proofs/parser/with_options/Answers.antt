use Rattle.std.proofs.Common.{◌∙◌, ℕ, ◌+◌, List, [], map, drop, sym, ap, arith}
use Rattle.std.specs.Borrow.{Bor}
use Rattle.clap.specs.Words.{app_of}
use Rattle.clap.specs.Simple.{with_rule}
use Rattle.cli_args.specs.inner.Clap.{with_options}
use Rattle.cli_args.proofs.Texts.{rest_at_index}
use Rattle.cli_args.proofs.parser.with_options.Goals as goal

pub loop-name-preserved : goal.loop-name-preserved
loop-name-preserved c =
    let action = c.args.action in
    let i = c.loop-name.name-index in
    let nothing : Bor (List ℕ) = record { ref_ptr = (0, 0); now = [] } in
    let rest = map (λ s. s.now) c.args.names.now in
    let next = rest_at_index (λ ns. with_options action ns (app_of c.loop-name.command)) (λ s. s.now) c.args.names.now i nothing (omega arith) in
    let added = c.in_ok-command.ensures.shape c.option_named.ensures.local
    ∙ ap (with_rule (app_of c.loop-name.command)) c.option_named.ensures.rule in
    ap (with_options action (drop (i + 1) rest)) added ∙ sym next ∙ c.loop-name.invariant
