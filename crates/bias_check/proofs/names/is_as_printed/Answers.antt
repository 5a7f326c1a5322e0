use Rattle.std.proofs.Common.{sym, ◌∙◌}
use Rattle.bias_check.proofs.PrintedNumbers.{printed}
use Rattle.bias_check.proofs.names.is_as_printed.Goals as goal

pub returns : goal.returns
returns c = c.is_printed.ensures ∙ sym (printed c.args.word.now c.args.number c.requires)
