use Rattle.std.proofs.Common.{rules}
use Rattle.bias_cli.proofs.Texts.{on_err, wrote_both, wrote_of_first, wrote_of_second}
use Rattle.bias_cli.proofs.text.write_text.Goals as goal

pub returns-clause-ok : goal.returns-clause-ok
returns-clause-ok g c = wrote_both _ _ _ _ _ c.in_ok-write_lines.ensures.ok c.in_ok-write_report.ensures.ok

pub returns-in_err-write_lines-clause-front : goal.returns-in_err-write_lines-clause-front
returns-in_err-write_lines-clause-front g c =
    on_err _ c.from_residual.result (wrote_of_first _ _ _ _ c.in_err-write_lines.ensures.front)

pub returns-in_err-write_report-clause-front : goal.returns-in_err-write_report-clause-front
returns-in_err-write_report-clause-front g c =
    let front = wrote_of_second _ _ _ _ _ c.in_ok-write_lines.ensures.ok c.in_err-write_report.ensures.front in search rules
