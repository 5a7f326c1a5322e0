use Rattle.std.proofs.Common.{[], ◌∷◌, map, inl, inr, refl, sym, subst}
use Rattle.std.specs.Prelude.{codes}
use Rattle.lock_journal.specs.RunText.{journal_line}
use Rattle.bias_check.specs.Parts.{marker}
use Rattle.outcome_search.specs.Witness.{IsWitness}
use Rattle.outcome_search.proofs.Trails.{on_ok}
use Rattle.bias_cli.proofs.outcomes.push_way.Goals as goal

pub returns-in-Some : goal.returns-in-Some
returns-in-Some c = λ search shows.
    let p = c.args.program.now in
    let shown = c.as_slice.result.now in
    let found : IsWitness p c.args.end c.in-Some.entries.items = rw c.in-Some.is at c.in_ok-entries.ensures.entries in
    let leads : IsWitness p c.args.end shown = subst (IsWitness p c.args.end) (sym c.as_slice.ensures.value) found in
    on_ok c.push_journal.result (λ is. record { lines = marker ∷ map (journal_line p) shown; holds = inr (shown, leads, refl); text = is })
    c.push_journal.ensures

pub returns-in-None : goal.returns-in-None
returns-in-None c = λ search shows.
    let cut = c.in_ok-entries.ensures.none search shows c.in-None.is in
    on_ok c.push_bytes.result (λ is. record { lines = codes "witness none\n" ∷ []; holds = inl (refl, cut); text = is }) c.push_bytes.ensures
