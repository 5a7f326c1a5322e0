-- What is written of the ways in which a program may end.
use Rattle.std.specs.Prelude.{◌≡◌, ◌⊎◌, ℕ, Bool, ◌||◌, nat_lt, if◌then◌else◌, List, [], ◌∷◌, ◌++◌, codes, decimal, map, Option, Some, None}
use Rattle.plain_monitor.specs.declared.entry.Logged.{Logged}
use Rattle.object_program.specs.Program.{ProgramText}
use Rattle.lock_journal.specs.RunText.{newline, journal_line, only_where}
use Rattle.bias_check.specs.Parts.{marker}
use Rattle.outcome_search.specs.declared.ends.End.{End}
use Rattle.outcome_search.specs.declared.ends.End.TheVariants.{Stuck, Faulted}
use Rattle.outcome_search.specs.declared.outcome.Outcomes.{Outcomes}
use Rattle.outcome_search.specs.EveryEnd.{IsEveryEnd}
use Rattle.outcome_search.specs.Witness.{IsWitness, IsCutShort}

-- 4 where some end is stuck; else 1 where one has a fault, or a thread was spent; else 8 where the search stopped at its limit; else 0
abbrev pub outcome_status : Outcomes → ℕ
outcome_status o =
    if nat_lt 0 o.stuck then 4
    else if nat_lt 0 o.faulted || nat_lt 0 o.spent then 1
    else if nat_lt 0 o.«open» then 8
    else 0

abbrev pub outcome_line : List ℕ → ℕ → List ℕ
outcome_line name count = name ++ codes " " ++ decimal count ++ newline

-- a count that is told only where it isn't 0
abbrev pub rare_line : List ℕ → ℕ → List (List ℕ)
rare_line name count = only_where (nat_lt 0 count) (outcome_line name count ∷ [])

abbrev pub outcome_lines : Outcomes → List (List ℕ)
outcome_lines o =
    outcome_line (codes "states") o.states ∷ outcome_line (codes "ended") o.ended ∷ outcome_line (codes "faulted") o.faulted
    ∷ outcome_line (codes "stuck") o.stuck ∷ rare_line (codes "spent") o.spent ++ rare_line (codes "open") o.«open»

-- the end that a witness is to lead to: a stuck one where there is one, else one with a fault
abbrev pub end_to_show : Outcomes → Option End
end_to_show o = if nat_lt 0 o.stuck then Some Stuck else if nat_lt 0 o.faulted then Some Faulted else None

-- where one is to be shown, the lines after the marker are a journal that leads to such an end; or it is said that there is none, and a way to such an
-- end is cut short
abbrev pub IsShown : ProgramText → Option End → List (List ℕ) → Type 0
IsShown p None lines = lines ≡ []
IsShown p (Some end) lines =
    ((lines ≡ codes "witness none\n" ∷ []) × IsCutShort p end)
    ⊎ ((entries : List (ℕ × Logged)) × IsWitness p end entries × (lines ≡ marker ∷ map (journal_line p) entries))

-- a search of the program that keeps at most so many states: its counts, and where it is asked for the way to an end
pub record IsSearched (p : ProgramText) (most : ℕ) (witness : Bool) (counts : Outcomes) (lines : List (List ℕ)) : Type 0 where
  pub every : IsEveryEnd p most counts
  pub shown : IsShown p (if witness then end_to_show counts else None) lines
