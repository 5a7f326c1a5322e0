use Rattle.std.proofs.Common.{◌≡◌, map, drop}
use Rattle.clap.specs.Words.{app_of}
use Rattle.cli_args.specs.inner.Clap.{with_options}
use Rattle.cli_args.proofs.parser.with_options.Given as goal

-- The command with the options that are left is the command with all of them.
abbrev pub invariant-loop-name : goal.invariant-loop-name
invariant-loop-name l = with_options l.action (drop l.name-index (map (λ s. s.now) l.names)) (app_of l.command)
    ≡ with_options l.action (map (λ s. s.now) l.names) (app_of l.initial.command)
