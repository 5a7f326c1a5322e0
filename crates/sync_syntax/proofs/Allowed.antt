-- The program with blocks that a text has is one that a text may have.
use Rattle.std.proofs.Common.{◌≡◌, ℕ, ◌+◌, ◌≤◌, ◌⊎◌, inl, inr, Bool, true, false, ◌==◌, if◌then◌else◌, List, []}
use Rattle.std.proofs.Common.{◌∷◌, length, refl, sym, ap, ◌∙◌, subst, arith, Option, Some, None, Result, Ok}
use Rattle.std.proofs.lemmas.Bool.Decides.{nat_tests}
use Rattle.std.proofs.lemmas.List.{length-map}
use Rattle.object_program.specs.Limits.{most_threads}
use Rattle.object_program.specs.Valid.{AreNames}
use Rattle.object_program.specs.declared.program.ThreadDef.{ThreadDef}
use Rattle.program_syntax.specs.Text.{words_of}
use Rattle.program_syntax.specs.Line.{keyword_of}
use Rattle.program_syntax.specs.Reading.{first_keyword}
use Rattle.program_syntax.specs.Refusal.{lines_of, keyword_cause}
use Rattle.program_syntax.specs.declared.keyword.Keyword.{Keyword}
use Rattle.program_syntax.specs.declared.error.RefusalCause.{RefusalCause}
use Rattle.program_syntax.proofs.AllowedCause.{no_cause}
use Rattle.program_syntax.proofs.AllowedParts.{ahead_of, ahead_with}
use Rattle.sync_source.specs.Source.{SyncThreadText}
use Rattle.sync_source.specs.Valid.{IsSyncText}
use Rattle.sync_syntax.specs.declared.error.SyncRefusalCause.{SyncRefusalCause}
use Rattle.sync_syntax.specs.declared.error.SyncError.{SyncError}
use Rattle.sync_syntax.specs.declared.word.Word.{Word}
use Rattle.sync_syntax.specs.declared.word.Word.TheVariants as word
use Rattle.sync_syntax.specs.Word.{word_of, first_word}
use Rattle.sync_syntax.specs.Reading.{SyncBefore, nothing_read, after_word, after_words, after_line, text_read}
use Rattle.sync_syntax.specs.Refusal.{plain_cause, statement_cause, cause_or, word_cause, words_cause, line_cause, read_on, read_from}
use Rattle.sync_syntax.proofs.BlockLines.{no_block_cause, IsPlainWord, IsBlockWord, word_cases}
use Rattle.sync_syntax.proofs.Kept.{IsKept, keyword_kept, block_kept}

-- no cause of either kind
pub cause_none : (o : Option RefusalCause) (q : Option SyncRefusalCause) → cause_or o q ≡ None → (o ≡ None) × (q ≡ None)
cause_none None q h = (refl, h)
cause_none (Some why) q h = absurd (cc h)

keyword_line : (b : SyncBefore) (later : List (List ℕ)) (w : List ℕ) (ws : List (List ℕ)) (l : Word) (k : Keyword) → IsPlainWord w l k
    → IsKept b (ahead_with (w ∷ ws) (keyword_of w) later) → plain_cause b.plain later ws l ≡ None → statement_cause b later ws l ≡ None
    → IsKept (after_word b later ws l) (ahead_of later)
keyword_line b later w ws l k p h plain clean =
    let kept : IsKept b (ahead_with (w ∷ ws) (Some k) later) = rw p.spelled at h in
    let none : keyword_cause b.plain later ws (Some k) ≡ None = rw p.same at plain in
    let blocks : statement_cause b later ws (word.Plain k) ≡ None = rw p.same at clean in
    subst (λ x. IsKept (after_word b later ws x) (ahead_of later)) (sym p.same)
    (keyword_kept b.plain.text b.plain.section b.threads b.blocks later w ws k kept
    (no_cause b.plain later ws k none) (no_block_cause b later ws (word.Plain k) blocks) p.kept)

block_line : (b : SyncBefore) (later : List (List ℕ)) (w : List ℕ) (ws : List (List ℕ)) (l : Word) → IsBlockWord w l
    → IsKept b (ahead_with (w ∷ ws) (keyword_of w) later) → plain_cause b.plain later ws l ≡ None → statement_cause b later ws l ≡ None
    → IsKept (after_word b later ws l) (ahead_of later)
block_line b later w ws l p h plain clean =
    let kept : IsKept b (ahead_with (w ∷ ws) None later) = rw p.other at h in
    block_kept b.plain.text b.plain.section b.threads b.blocks later w ws l p.block kept plain (no_block_cause b later ws l clean)

word_line : (b : SyncBefore) (later : List (List ℕ)) (w : List ℕ) (ws : List (List ℕ)) (o : Option Word) → word_of w ≡ o
    → IsKept b (ahead_with (w ∷ ws) (keyword_of w) later) → word_cause b later ws o ≡ None → IsKept (after_words b later (w ∷ ws) o) (ahead_of later)
word_line b later w ws None e h clean = absurd (cc clean)
word_line b later w ws (Some l) e h clean = by_cases (word_cases w l e) (cause_none _ _ clean) where
  by_cases : ((k : Keyword) × IsPlainWord w l k) ⊎ IsBlockWord w l → (plain_cause b.plain later ws l ≡ None) × (statement_cause b later ws l ≡ None)
      → IsKept (after_word b later ws l) (ahead_of later)
  by_cases (inl p) n = keyword_line b later w ws l p.0 p.1 h n.0 n.1
  by_cases (inr p) n = block_line b later w ws l p h n.0 n.1

words_kept : (b : SyncBefore) (later words : List (List ℕ)) → IsKept b (ahead_with words (first_keyword words) later) → words_cause b later words ≡ None
    → IsKept (after_words b later words (first_word words)) (ahead_of later)
words_kept b later [] h clean = h
words_kept b later (w ∷ ws) h clean = word_line b later w ws (word_of w) refl h clean

pub cond_clean : (t : Bool) (o : Option SyncRefusalCause) (w : SyncRefusalCause) → (if t then o else Some w) ≡ None → o ≡ None
cond_clean true o w h = h
cond_clean false o w h = absurd (cc h)

pub line_kept : (b : SyncBefore) (later : List (List ℕ)) (line : List ℕ) → IsKept b (ahead_of (line ∷ later)) → line_cause b later line ≡ None
    → IsKept (after_line b later line) (ahead_of later)
line_kept b later line h clean = words_kept b later (words_of line) h (cond_clean _ _ _ clean)

-- a line before others that are read on has no cause
read_on_ok : (cause : Option SyncRefusalCause) (n : ℕ) (rest : Result SyncBefore SyncError) (b : SyncBefore)
    → read_on cause n rest ≡ Ok b → (cause ≡ None) × (rest ≡ Ok b)
read_on_ok None n rest b h = (refl, h)
read_on_ok (Some why) n rest b h = absurd (cc h)

read_kept : (lines : List (List ℕ)) (n : ℕ) (b e : SyncBefore) → IsKept b (ahead_of lines) → read_from n b lines ≡ Ok e → IsKept e (ahead_of [])
read_kept [] n b e h read = let same : b ≡ e = cc in subst (λ x. IsKept x (ahead_of [])) same h
read_kept (line ∷ later) n b e h read =
    let parts = read_on_ok (line_cause b later line) n (read_from (n + 1) (after_line b later line) later) e read in
    read_kept later (n + 1) (after_line b later line) e (line_kept b later line h parts.0) parts.1

pub nothing_kept : (lines : List (List ℕ)) → IsKept nothing_read (ahead_of lines)
nothing_kept lines = record {
  plain = record {
    text = record {
      class_names = tt;
      class_slots = tt;
      classes_few = omega arith;
      object_names = tt;
      objects = tt;
      objects_few = omega arith;
      thread_names = tt;
      threads = tt;
      threads_few = omega arith;
    };
    section = tt;
  };
  section = tt;
  threads = tt;
  names = refl;
}

kept_text : (b : SyncBefore) → IsKept b (ahead_of []) → 1 ≤ length b.threads → IsSyncText (text_read b)
kept_text b h some =
    let p = h.plain.text in
    let count : length b.threads ≡ length b.plain.text.threads =
    sym (length-map b.threads (λ (t : SyncThreadText). t.name)) ∙ ap length h.names ∙ length-map b.plain.text.threads (λ (t : ThreadDef). t.name) in
    record {
      class_names = p.class_names;
      class_slots = p.class_slots;
      classes_few = p.classes_few;
      object_names = p.object_names;
      objects = p.objects;
      objects_few = p.objects_few;
      thread_names = subst AreNames (sym h.names) p.thread_names;
      threads = h.threads;
      threads_some = some;
      threads_few = subst (λ n. n ≤ most_threads) (sym count) p.threads_few;
    }

pub allowed_read : (bytes : List ℕ) (b : SyncBefore) → read_from 1 nothing_read (lines_of bytes) ≡ Ok b
    → (length b.threads == 0) ≡ false → IsSyncText (text_read b)
allowed_read bytes b read some =
    kept_text b (read_kept (lines_of bytes) 1 nothing_read b (nothing_kept (lines_of bytes)) read) (counted (length b.threads) some) where
      counted : (n : ℕ) → (n == 0) ≡ false → 1 ≤ n
      counted n e = grind (arith, nat_tests)

-- a line without a cause is passed
pub read_more : (n : ℕ) (b c : SyncBefore) (lines later : List (List ℕ)) (line : List ℕ)
    → lines ≡ line ∷ later → line_cause b later line ≡ None → c ≡ after_line b later line
    → read_from (n + 1) c later ≡ read_from n b lines
read_more n b c lines later line cut clean same =
    ap (λ x. read_from (n + 1) x later) same
    ∙ sym (ap (read_from n b) cut ∙ ap (λ o. read_on o n (read_from (n + 1) (after_line b later line) later)) clean)
