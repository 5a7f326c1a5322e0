-- The lines of entries, written one after the other.
use Rattle.std.proofs.Common.{◌≡◌, ℕ, ◌+◌, ◌<◌, List, ◌∷◌, ◌++◌, length, drop, map, get_or, sym, ap, ◌∙◌, append_assoc}
use Rattle.std.proofs.lemmas.List.{at_drop_more}
use Rattle.plain_monitor.specs.declared.entry.Logged.{Logged}
use Rattle.object_program.specs.Program.{ProgramText}
use Rattle.lock_journal.specs.RunText.{journal_line, text_of_lines}

-- with the line of the next entry less is left; d stands where there is none
pub entry_written : (p : ProgramText) (xs : List (ℕ × Logged)) (i : ℕ) (d : ℕ × Logged) (before after : List ℕ) → i < length xs
    → after ≡ before ++ journal_line p (get_or xs i d)
    → after ++ text_of_lines (map (journal_line p) (drop (i + 1) xs)) ≡ before ++ text_of_lines (map (journal_line p) (drop i xs))
entry_written p xs i d before after within wrote =
    let left : List (ℕ × Logged) = drop (i + 1) xs in
    let next : drop i xs ≡ get_or xs i d ∷ left = at_drop_more (λ ys. ys) xs i d within in
    ap (λ (bs : List ℕ). bs ++ text_of_lines (map (journal_line p) left)) wrote
    ∙ append_assoc before (journal_line p (get_or xs i d)) (text_of_lines (map (journal_line p) left))
    ∙ ap (λ (ys : List (ℕ × Logged)). before ++ text_of_lines (map (journal_line p) ys)) (sym next)
