use Rattle.std.proofs.Common.{◌∙◌, ◌≡◌, rules, arith, None}
use Rattle.std.specs.Result.{result_ok}
use Rattle.cli_args.proofs.Digits.{number_too_great}
use Rattle.cli_args.proofs.numbers.number.Goals as goal

pub returns-in_err-value : goal.returns-in_err-value
returns-in_err-value c =
    let none : result_ok c.parse.result ≡ None = search rules in
    let is_none : c.from_residual.result ≡ None = search rules in
    is_none ∙ number_too_great c.args.text.now c.parse.result c.args.least c.args.most c.parse.ensures.value.0 none (search rules) (omega arith)
