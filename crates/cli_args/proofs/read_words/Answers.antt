use Rattle.std.specs.Prelude.{string_bytes}
use Rattle.cli_args.proofs.Runs.{accepted_short}
use Rattle.cli_args.proofs.read_words.Goals as goal

pub returns-in_default-clause-refused : goal.returns-in_default-clause-refused
returns-in_default-clause-refused c e = accepted_short (λ w. string_bytes w) c.args.words.now c.in_default.len_below
