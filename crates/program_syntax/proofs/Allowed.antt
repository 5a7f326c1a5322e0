-- The program that a text has is allowed: its names, numbers, targets and counts are those that programs may have.
use Rattle.std.proofs.Common.{◌≡◌, ℕ, ◌+◌, ◌≤◌, Bool, true, false, ◌==◌, if◌then◌else◌, List, [], ◌∷◌}
use Rattle.std.proofs.Common.{length, refl, subst, arith, Option, Some, None, Result, Ok, Err}
use Rattle.std.proofs.lemmas.Bool.Decides.{nat_tests}
use Rattle.program_syntax.specs.Text.{words_of}
use Rattle.object_program.specs.Program.{ProgramText}
use Rattle.object_program.specs.Valid.{IsProgram}
use Rattle.program_syntax.specs.Reading.{Before, nothing, first_keyword, after_words, after_line}
use Rattle.program_syntax.specs.Refusal.{keyword_cause, words_cause, line_cause, read_on, read_from, with_thread, finished, lines_of, program_of}
use Rattle.program_syntax.specs.Line.{keyword_of}
use Rattle.program_syntax.specs.declared.keyword.Keyword.{Keyword}
use Rattle.program_syntax.specs.declared.error.RefusalCause.{RefusalCause}
use Rattle.program_syntax.specs.declared.error.ProgramError.{ProgramError}
use Rattle.program_syntax.proofs.AllowedCause.{no_cause}
use Rattle.program_syntax.proofs.AllowedParts.{IsAllowedText, ahead_of, ahead_with, IsAllowedSoFar}
use Rattle.program_syntax.proofs.AllowedKept.{line_kept}

keyword_kept : (b : Before) (later : List (List ℕ)) (w : List ℕ) (ws : List (List ℕ)) (k : Option Keyword) → IsAllowedSoFar b (ahead_with (w ∷ ws) k later)
    → keyword_cause b later ws k ≡ None → IsAllowedSoFar (after_words b later (w ∷ ws) k) (ahead_of later)
keyword_kept b later w ws None h clean = absurd (cc clean)
keyword_kept b later w ws (Some k) h clean = line_kept b.text b.section later w ws k h.text h.section (no_cause b later ws k clean)

words_kept : (b : Before) (later words : List (List ℕ)) → IsAllowedSoFar b (ahead_with words (first_keyword words) later)
    → words_cause b later words ≡ None → IsAllowedSoFar (after_words b later words (first_keyword words)) (ahead_of later)
words_kept b later [] h clean = h
words_kept b later (w ∷ ws) h clean = keyword_kept b later w ws (keyword_of w) h clean

-- a test that has to hold for there to be no cause
cond_clean : (t : Bool) (o : Option RefusalCause) (w : RefusalCause) → (if t then o else Some w) ≡ None → o ≡ None
cond_clean true o w h = h
cond_clean false o w h = absurd (cc h)

after_kept : (b : Before) (later : List (List ℕ)) (line : List ℕ) → IsAllowedSoFar b (ahead_of (line ∷ later)) → line_cause b later line ≡ None
    → IsAllowedSoFar (after_line b later line) (ahead_of later)
after_kept b later line h clean = words_kept b later (words_of line) h (cond_clean _ _ _ clean)

-- a line before others that are read on has no cause
read_on_ok : (cause : Option RefusalCause) (n : ℕ) (rest : Result Before ProgramError) (b : Before)
    → read_on cause n rest ≡ Ok b → (cause ≡ None) × (rest ≡ Ok b)
read_on_ok None n rest b h = (refl, h)
read_on_ok (Some why) n rest b h = absurd (cc h)

read_kept : (lines : List (List ℕ)) (n : ℕ) (b e : Before) → IsAllowedSoFar b (ahead_of lines) → read_from n b lines ≡ Ok e → IsAllowedText e.text
read_kept [] n b e h read = let same : b ≡ e = cc in subst (λ x. IsAllowedText x.text) same h.text
read_kept (line ∷ later) n b e h read =
    let parts = read_on_ok (line_cause b later line) n (read_from (n + 1) (after_line b later line) later) e read in
    read_kept later (n + 1) (after_line b later line) e (after_kept b later line h parts.0) parts.1

-- a text that is read has a thread
thread_at : (p q : ProgramText) (t : Bool) → (length p.threads == 0) ≡ t → with_thread p ≡ Ok q → (p ≡ q) × (1 ≤ length p.threads)
thread_at p q true none h = absurd (cc (none, h))
thread_at p q false some h = let same : p ≡ q = cc (some, h) in (same, grind (arith, nat_tests))

allowed_text : (p : ProgramText) → IsAllowedText p → 1 ≤ length p.threads → IsProgram p
allowed_text p h some = record {
  class_names = h.class_names;
  class_slots = h.class_slots;
  classes_few = h.classes_few;
  object_names = h.object_names;
  objects = h.objects;
  objects_few = h.objects_few;
  thread_names = h.thread_names;
  threads = h.threads;
  threads_some = some;
  threads_few = h.threads_few;
}

finished_allowed : (r : Result Before ProgramError) (p : ProgramText) → ((b : Before) → r ≡ Ok b → IsAllowedText b.text) → finished r ≡ Ok p → IsProgram p
finished_allowed (Err e) p kept h = absurd (cc h)
finished_allowed (Ok b) p kept h =
    let parts = thread_at b.text p (length b.text.threads == 0) refl h in
    subst IsProgram parts.0 (allowed_text b.text (kept b refl) parts.1)

nothing_allowed : (lines : List (List ℕ)) → IsAllowedSoFar nothing (ahead_of lines)
nothing_allowed lines = record {
  text = record {
    class_names = tt;
    class_slots = tt;
    classes_few = omega arith;
    object_names = tt;
    objects = tt;
    objects_few = omega arith;
    thread_names = tt;
    threads = tt;
    threads_few = omega arith;
  };
  section = tt;
}

-- a text whose length is no cause is read
cond_read : (t : Bool) (e : ProgramError) (r : Result ProgramText ProgramError) (p : ProgramText) → (if t then Err e else r) ≡ Ok p → r ≡ Ok p
cond_read true e r p h = absurd (cc h)
cond_read false e r p h = h

-- a text's program is one that a text may have
pub allowed_law : (bytes : List ℕ) (p : ProgramText) → program_of bytes ≡ Ok p → IsProgram p
allowed_law bytes p h =
    let read : finished (read_from 1 nothing (lines_of bytes)) ≡ Ok p = cond_read _ _ _ p h in
    finished_allowed (read_from 1 nothing (lines_of bytes)) p (λ b. read_kept (lines_of bytes) 1 nothing b (nothing_allowed (lines_of bytes))) read
