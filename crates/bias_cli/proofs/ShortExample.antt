-- The journal of the small program is short, whichever paths its enters have.
use Rattle.std.proofs.Common.{◌≡◌, ℕ, ◌+◌, ◌*◌, ◌≤◌, List, [], ◌∷◌, ◌++◌, codes, decimal, length, map, sym, ap, ◌∙◌, arith}
use Rattle.std.proofs.lemmas.Fmt.{decimal_digit}
use Rattle.std.proofs.lemmas.List.{length-append, length-map}
use Rattle.plain_monitor.specs.declared.entry.Entry.{Entry}
use Rattle.plain_monitor.specs.declared.entry.Entry.TheVariants.{Enter, Exit, Get, Put, Wait, Resume, Notify, NotifyAll}
use Rattle.plain_monitor.specs.declared.entry.Entry.TheVariants.{Hash, New, Print, Dump, Trap, Spent, Done}
use Rattle.plain_monitor.specs.declared.entry.Path.{Path}
use Rattle.plain_monitor.specs.declared.entry.Path.TheVariants.{BiasOwn, StackFirst}
use Rattle.plain_monitor.specs.declared.entry.Logged.{Logged}
use Rattle.plain_monitor.specs.Order.{order}
use Rattle.object_program.specs.Program.{ProgramText}
use Rattle.lock_journal.specs.RunText.{entry_text, journal_line, newline, text_of_lines}
use Rattle.lock_journal.specs.Words.{object_text, path_text, thread_text}
use Rattle.single_thread_law.specs.LoneExample.{lone_logs, lone_program}
use Rattle.single_thread_law.specs.LoneRun.{with_no_paths, without_path}
use Rattle.program_run.proofs.NoPaths.{bare_at, order_bare}
use Rattle.bias_check.specs.Printed.{journal_of}
use Rattle.bias_cli.specs.Example.{lone_text}
use Rattle.bias_cli.specs.Input.{most_of_journal}
use Rattle.bias_cli.specs.Verdict.{with_journal}

-- PATHS. A line with another path has a few bytes more at most.
after : (front a b : List ℕ) → length a ≤ length b + 13 → length (front ++ a) ≤ length (front ++ b) + 13
after front a b few =
    let one = length-append front a in
    let two = length-append front b in
    omega (arith, one, two, few)

before : (a b rest : List ℕ) → length a ≤ length b + 13 → length (a ++ rest) ≤ length (b ++ rest) + 13
before a b rest few =
    let one = length-append a rest in
    let two = length-append b rest in
    omega (arith, one, two, few)

path_short : (path : Path) → length (path_text path) ≤ length (path_text StackFirst) + 13
path_short BiasOwn = omega arith
path_short _ = omega arith

module _ (p : ProgramText) where
  same : (e : Entry) → length (entry_text p e) ≤ length (entry_text p e) + 13
  same e = omega arith

  entry_longer : (e : Entry) → length (entry_text p e) ≤ length (entry_text p (without_path e)) + 13
  entry_longer (Enter o path) =
      after (codes "enter " ++ object_text p o ++ codes " ") (path_text path) (path_text StackFirst) (path_short path)
  entry_longer (Exit o) = same (Exit o)
  entry_longer (Get o k v) = same (Get o k v)
  entry_longer (Put o k v) = same (Put o k v)
  entry_longer (Wait o) = same (Wait o)
  entry_longer (Resume o) = same (Resume o)
  entry_longer (Notify o woken) = same (Notify o woken)
  entry_longer (NotifyAll o n) = same (NotifyAll o n)
  entry_longer (Hash o v drawn) = same (Hash o v drawn)
  entry_longer (New o k) = same (New o k)
  entry_longer (Print v) = same (Print v)
  entry_longer (Dump n) = same (Dump n)
  entry_longer (Trap fault index) = same (Trap fault index)
  entry_longer Spent = same Spent
  entry_longer Done = same Done

  line_longer : (x : ℕ × Logged) → length (journal_line p x) ≤ length (journal_line p (bare_at x)) + 13
  line_longer x =
      let entry : List ℕ = entry_text p x.1.entry in
      let bare : List ℕ = entry_text p (without_path x.1.entry) in
      let front : List ℕ = codes "@" ++ decimal x.1.stamp ++ codes " " ++ thread_text p x.0 ++ codes " " in
      before (front ++ entry) (front ++ bare) newline (after front entry bare (entry_longer x.1.entry))

  lines_longer : (xs : List (ℕ × Logged)) → length (text_of_lines (map (journal_line p) xs))
      ≤ length (text_of_lines (map (journal_line p) (map bare_at xs))) + 13 * length xs
  lines_longer [] = omega arith
  lines_longer (x ∷ xs) =
      let one = length-append (journal_line p x) (text_of_lines (map (journal_line p) xs)) in
      let two = length-append (journal_line p (bare_at x)) (text_of_lines (map (journal_line p) (map bare_at xs))) in
      omega (arith, one, two, line_longer x, lines_longer xs)

-- THE JOURNAL
bare_journal : length (text_of_lines (journal_of lone_program lone_logs)) ≤ 100
bare_journal =
    rw (
      decimal_digit 1 (omega arith),
      decimal_digit 2 (omega arith),
      decimal_digit 3 (omega arith),
      decimal_digit 4 (omega arith),
      decimal_digit 5 (omega arith),
    ) (omega arith)

pub lone_short : (logs : List (List Logged)) → with_no_paths logs ≡ lone_logs → length (with_journal lone_text lone_program logs) ≤ most_of_journal
lone_short logs same =
    let bare : map bare_at (order logs) ≡ order lone_logs = sym (order_bare logs) ∙ ap order same in
    let text = ap (λ (xs : List (ℕ × Logged)). length (text_of_lines (map (journal_line lone_program) xs))) bare in
    let many : length (order logs) ≡ 5 = sym (length-map (order logs) bare_at) ∙ ap length bare in
    let few = lines_longer lone_program (order logs) in
    let journal : length (text_of_lines (journal_of lone_program logs)) ≤ 200 = omega (arith, text, many, few, bare_journal) in
    omega (arith, journal)
