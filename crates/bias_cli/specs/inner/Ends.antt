-- The text of a search, while it is put together, and what it is put together of.
use Rattle.std.specs.Prelude.{◌≡◌, ℕ, Bool, false, if◌then◌else◌, List, ◌++◌, Option, None}
use Rattle.object_program.specs.Program.{ProgramText}
use Rattle.object_program.specs.Valid.{IsProgram}
use Rattle.lock_journal.specs.RunText.{text_of_lines}
use Rattle.state_search.specs.Found.{Keys}
use Rattle.outcome_search.specs.declared.ends.End.{End}
use Rattle.outcome_search.specs.declared.ends.End.TheVariants.{Stuck, Faulted}
use Rattle.outcome_search.specs.declared.outcome.Outcomes.{Outcomes}
use Rattle.outcome_search.specs.Outcomes.{has_hash, IsCounted}
use Rattle.bias_cli.specs.Outcomes.{IsShown, end_to_show, outcome_lines}

-- the text has some lines more, of which this holds
pub record Adds (Holds : List (List ℕ) → Type 0) (before after : List ℕ) : Type 0 where
  pub lines : List (List ℕ)
  pub holds : Holds lines
  pub text : after ≡ before ++ text_of_lines lines

abbrev pub TellsEnds : ProgramText → Bool → Outcomes → List ℕ → Type 0
TellsEnds p witness counts text =
    Adds (IsShown p (if witness then end_to_show counts else None)) (text_of_lines (outcome_lines counts)) text

-- these are the counts of what was found of the program, which has no `hash`
pub record IsSearchOf (p : ProgramText) (found : Keys) (counts : Outcomes) : Type 0 where
  pub valid : IsProgram p
  pub free : has_hash p ≡ false
  pub states : ℕ
  pub counted : IsCounted p states found counts

-- the first machine that ends so, of the ends to which a way is shown
abbrev pub first_of : End → Outcomes → Option ℕ
first_of Stuck counts = counts.first_stuck
first_of Faulted counts = counts.first_faulted
first_of end counts = None
