use Rattle.std.proofs.Common.{lit<, sym, None}
use Rattle.std.proofs.lemmas.Str.Pattern.{split_once_first}
use Rattle.cli_args.specs.Command.{is_equals}
use Rattle.cli_args.proofs.Texts.{list_any_at_no_place}
use Rattle.cli_args.proofs.words.at_equals.Goals as goal

pub returns-in-None-clause-attached : goal.returns-in-None-clause-attached
returns-in-None-clause-attached c =
    let text = c.args.text.now in
    sym (list_any_at_no_place is_equals text (split_once_first 61 text None c.in-None.ensures.cases (lit< tt)))
