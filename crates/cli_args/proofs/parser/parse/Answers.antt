use Rattle.std.proofs.Common.{◌≡◌, ◌∙◌, map, ap, rules}
use Rattle.std.specs.Prelude.{string_bytes}
use Rattle.clap.specs.Words.{app_of, found_of, first_of, first_value, is_simple, matches_of, rows_of}
use Rattle.clap.specs.Takes.{takes}
use Rattle.clap.proofs.TakesLemmas.{passed_up}
use Rattle.clap.proofs.WalkLemmas.{first_value-rows}
use Rattle.cli_args.specs.inner.Clap.{run_app, values_found}
use Rattle.cli_args.proofs.Rules.{run_is_simple}
use Rattle.cli_args.proofs.Taken.{takes_gathered}
use Rattle.cli_args.proofs.Parses.{values_found_alike, values_of_parse}
use Rattle.cli_args.proofs.parser.parse.Goals as goal

pub returns-clause-values : goal.returns-clause-values
returns-clause-values c given e =
    let words = map (λ w. string_bytes w) c.args.words.now in
    let found = found_of c.in_ok-matches.matches in
    let app : app_of c.in_ok-run_command.field-0 ≡ run_app = search rules in
    let rows : rows_of found ≡ matches_of run_app words =
    (c.in_ok-matches.ensures.matches (ap is_simple app ∙ run_is_simple)).0 ∙ ap (λ a. matches_of a words) app in
    c.values_in.ensures
    ∙ values_found_alike (first_value found) (λ id. first_of id (rows_of found)) (first_value-rows found)
    ∙ ap (λ rs. values_found (λ id. first_of id rs)) rows
    ∙ values_of_parse words given e

pub returns-in_err-matches-clause-fails : goal.returns-in_err-matches-clause-fails
returns-in_err-matches-clause-fails c =
    let words = map (λ w. string_bytes w) c.args.words.now in
    let app : app_of c.in_ok-run_command.field-0 ≡ run_app = search rules in
    passed_up c.from_residual-in_err-matches.result c.in_err-matches.field-0.0 _ c.from_residual-in_err-matches.ensures.1
    (λ given e. c.in_err-matches.ensures.passes (ap (λ a. takes a words) app ∙ takes_gathered words given e))
