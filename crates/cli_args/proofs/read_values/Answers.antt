use Rattle.std.proofs.Common.{map, rules}
use Rattle.std.specs.Prelude.{string_bytes}
use Rattle.cli_args.specs.inner.Clap.{values_held}
use Rattle.cli_args.proofs.Runs.{values_of_no_shape, values_of_words}
use Rattle.cli_args.proofs.read_values.Goals as goal

pub returns-then-not-has_shape-clause-refused : goal.returns-then-not-has_shape-clause-refused
returns-then-not-has_shape-clause-refused c e = values_of_no_shape (map (λ w. string_bytes w) c.args.words.now) (search rules)

pub returns-clause-ok : goal.returns-clause-ok
returns-clause-ok c = values_of_words (map (λ w. string_bytes w) c.args.words.now) (values_held c.in_ok-values.values) (search rules) (search rules)
