use Rattle.std.proofs.Common.{sym, ◌∙◌}
use Rattle.bias_cli.proofs.WaysShown.{has_first, none_cut}
use Rattle.bias_cli.proofs.outcomes.way_to.Goals as goal

pub returns-in_ok-choices-in-Some-clause-none : goal.returns-in_ok-choices-in-Some-clause-none
returns-in_ok-choices-in-Some-clause-none c = λ search shows.
    none_cut c.find_witness.result c.args.program.now c.args.found.now c.args.counts.now c.args.end c.in-Some.number
    c.in_ok-choices-in-Some.choices.items c.as_slice.result.now search (sym c.first_end.ensures ∙ c.in-Some.is) c.in_ok-choices-in-Some.ensures
    c.as_slice.ensures.value c.find_witness.ensures.none

pub returns-in-None-clause-none : goal.returns-in-None-clause-none
returns-in-None-clause-none c = λ search shows.
    absurd (has_first c.args.program.now c.args.found.now c.args.counts.now c.args.end search shows (sym c.first_end.ensures ∙ c.in-None.is))
