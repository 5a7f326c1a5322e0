-- What a search has found, and what is written of it.
use Rattle.std.proofs.Common.{◌≡◌, ◌≢◌, ℕ, Bool, true, false, List, ◌++◌, refl, sym, ◌∙◌, subst}
use Rattle.std.specs.Prelude.{◌↔◌, Result, Ok, Err}
use Rattle.object_program.specs.Program.{ProgramText}
use Rattle.lock_journal.specs.RunText.{text_of_lines}
use Rattle.outcome_search.specs.declared.find.OutcomeError.{OutcomeError}
use Rattle.outcome_search.specs.declared.find.OutcomeError.TheVariants.{Hash}
use Rattle.outcome_search.specs.declared.outcome.Outcomes.{Outcomes}
use Rattle.outcome_search.specs.EveryEnd.{IsEveryEnd}
use Rattle.outcome_search.specs.Outcomes.{has_hash}
use Rattle.bias_cli.specs.Seen.{SinkSeen}
use Rattle.bias_cli.specs.Finish.{HasSearched, IsWritten}
use Rattle.bias_cli.specs.Outcomes.{outcome_lines, outcome_status}
use Rattle.bias_cli.specs.inner.Ends.{TellsEnds}
use Rattle.bias_cli.proofs.Texts.{texts_append}

another : {A E : Type 0} (x : A) (e : E) → ◌≢◌ {A = Result A E} (Ok x) (Err e)
another x e is = absurd (cc is)

-- a program whose ends were found has no `hash`
pub no_hash : {A : Type 0} (p : ProgramText) (r : Result A OutcomeError) (x : A) → ((r ≡ Err Hash) ↔ (has_hash p ≡ true)) → r ≡ Ok x
    → has_hash p ≡ false
no_hash p r x just found = go (has_hash p) refl
  where
    go : (b : Bool) → has_hash p ≡ b → has_hash p ≡ false
    go true e = absurd (another x Hash (sym found ∙ just.1 e))
    go false e = e

-- the text of a search was written
pub found_by : (p : ProgramText) (states : ℕ) (witness : Bool) (counts : Outcomes) (before after : SinkSeen) (status due : ℕ) (text told : List ℕ)
    → IsEveryEnd p states counts → TellsEnds p witness counts text → due ≡ outcome_status counts → told ≡ text
    → IsWritten before after status due told → HasSearched p states witness before after status
found_by p states witness counts before after status due text told every tells same is written = record {
  counts = counts;
  lines = tells.lines;
  searched = record { every = every; shown = tells.holds };
  written = subst (λ (s : ℕ). IsWritten before after status s (text_of_lines (outcome_lines counts ++ tells.lines))) same
      (subst (IsWritten before after status due) (is ∙ tells.text ∙ sym (texts_append (outcome_lines counts) tells.lines)) written);
}
