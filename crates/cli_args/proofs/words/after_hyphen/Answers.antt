use Rattle.std.proofs.Common.{lit<}
use Rattle.std.proofs.lemmas.Str.Pattern.{strip_prefix_char}
use Rattle.cli_args.proofs.Texts.{after_hyphen_by_strip}
use Rattle.cli_args.proofs.words.after_hyphen.Goals as goal

pub returns : goal.returns
returns c =
    let text = c.args.word.now in
    after_hyphen_by_strip c.strip_prefix.result text (strip_prefix_char 45 text c.strip_prefix.result c.strip_prefix.ensures.cases (lit< tt))
