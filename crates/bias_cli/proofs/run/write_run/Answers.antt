use Rattle.std.proofs.Common.{ap, Some}
use Rattle.program_run.specs.declared.settings.Ran.{Ran}
use Rattle.bias_cli.proofs.Briefly.{is_under}
use Rattle.bias_cli.proofs.run.write_run.Goals as goal

pub returns : goal.returns
returns g c p is =
    let done = c.args.done in
    let ran = done.ran.value in
    let under = is_under c.args.options.now p ran.record ran.closed done.machine done.report.items is c.requires.reported in (
      ran.record,
      ran.closed,
      ap (λ (r : Ran). Some r.record) c.into_inner-run.ensures,
      ap (λ (r : Ran). Some r.closed) c.into_inner-run.ensures,
      record {
        machine = under.machine;
        run = under.run;
        report = done.report.items;
        reported = under.reported;
        written = rw (c.deref.ensures, c.deref-2.ensures.value, under.status, under.lines) at c.write_done-status.ensures;
      },
    )
