-- Which texts with blocks aren't read back, where a block is open, and a text that is read.
use Rattle.std.proofs.Common.{◌≡◌, ◌<◌, ◌≤◌, ◌==◌, ℕ, nat_lt, Bool, true, false, if◌then◌else◌, List, [], length, slice_get}
use Rattle.std.proofs.Common.{Some, None, Result, Ok, Err, refl, subst, arith}
use Rattle.std.proofs.lemmas.Bool.Decides.{nat_tests}
use Rattle.std.specs.Fmt.{digits}
use Rattle.program_syntax.specs.Refusal.{lines_of}
use Rattle.program_syntax.specs.Text.{words_of, most_bytes}
use Rattle.program_syntax.specs.declared.keyword.Keyword.TheVariants as keyword
use Rattle.sync_source.specs.Examples.{changes_local, ends_inside, guarded}
use Rattle.sync_source.specs.Source.{SyncText}
use Rattle.sync_source.specs.Valid.{IsSyncText}
use Rattle.sync_source.proofs.Guarded.{is_text}
use Rattle.sync_syntax.specs.Canonical.{canonical_sync}
use Rattle.sync_syntax.specs.Examples.{unclosed}
use Rattle.sync_syntax.specs.Reading.{SyncBefore, nothing_read, text_read}
use Rattle.sync_syntax.specs.Refusal.{read_first, read_from, finished, sync_program_of}
use Rattle.sync_syntax.specs.Word.{first_word}
use Rattle.sync_syntax.specs.declared.error.SyncError.{SyncError}
use Rattle.sync_syntax.specs.declared.error.SyncRefusalCause.TheVariants.{Open, Assigned}
use Rattle.sync_syntax.specs.declared.word.Word.TheVariants as word
use Rattle.sync_syntax.proofs.Allowed.{allowed_read}

-- what is read where a test is no cause
where_false : (t : Bool) (e : SyncError) (r : Result SyncText SyncError) (p : SyncText) → (if t then Err e else r) ≡ Ok p → (t ≡ false) × (r ≡ Ok p)
where_false true e r p h = absurd (cc h)
where_false false e r p h = (refl, h)

finished_is : (bytes : List ℕ) (r : Result SyncBefore SyncError) (p : SyncText) → read_from 1 nothing_read (lines_of bytes) ≡ r
    → finished r ≡ Ok p → IsSyncText p
finished_is bytes (Err e) p read h = absurd (cc h)
finished_is bytes (Ok b) p read h =
    let parts = where_false (length b.threads == 0) _ (Ok (text_read b)) p h in
    let same : text_read b ≡ p = cc in
    subst IsSyncText same (allowed_read bytes b read parts.0)

pub not_barred : (p : SyncText) → (IsSyncText p → ⊥) → sync_program_of (canonical_sync p) ≡ Ok p → ⊥
not_barred p none h =
    let text = canonical_sync p in
    none (finished_is text (read_from 1 nothing_read (lines_of text)) p refl (where_false _ _ _ p h).1)

pub not_long : (p : SyncText) → most_bytes < length (canonical_sync p) → sync_program_of (canonical_sync p) ≡ Ok p → ⊥
not_long p long h =
    let short : nat_lt most_bytes (length (canonical_sync p)) ≡ false = (where_false _ _ _ p h).0 in
    let over : nat_lt most_bytes (length (canonical_sync p)) ≡ true = grind (arith, nat_tests, long) in
    absurd (cc (short, over))

pub changed_refused : sync_program_of (canonical_sync changes_local) ≡ Err (record { line = 8; why = Assigned })
unfolding digits
changed_refused = refl

pub ended_refused : sync_program_of (canonical_sync ends_inside) ≡ Err (record { line = 7; why = Open })
unfolding digits
ended_refused = refl

-- OPEN BLOCKS
pub open_at_done : ((b : SyncBefore) → read_first 8 nothing_read (lines_of (canonical_sync guarded)) ≡ Some b → b.blocks.opened ≡ []) → ⊥
unfolding digits
open_at_done none = let empty = none _ refl in absurd (cc empty)

pub nothing_unclosed : read_first 7 nothing_read (lines_of unclosed) ≡ None
nothing_unclosed = refl

-- A TEXT
pub has_text : IsSyncText guarded × (length (canonical_sync guarded) ≤ most_bytes)
unfolding digits
has_text = (is_text, omega arith)

pub has_end : (b : SyncBefore) × (line : List ℕ)
    × (read_first 9 nothing_read (lines_of (canonical_sync guarded)) ≡ Some b)
    × (slice_get (lines_of (canonical_sync guarded)) 9 ≡ Some line)
    × (first_word (words_of line) ≡ Some (word.Plain keyword.End))
unfolding digits
has_end = (_, _, refl, refl, refl)
