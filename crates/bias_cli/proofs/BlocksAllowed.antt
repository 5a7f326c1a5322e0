-- The program with blocks that a text has is one that a text may have.
use Rattle.std.proofs.Common.{◌≡◌, ℕ, ◌==◌, Bool, true, false, if◌then◌else◌, List, length, refl, subst, Result, Ok, Err}
use Rattle.program_syntax.specs.Refusal.{lines_of}
use Rattle.sync_source.specs.Source.{SyncText}
use Rattle.sync_source.specs.Valid.{IsSyncText}
use Rattle.sync_syntax.specs.declared.error.SyncError.{SyncError}
use Rattle.sync_syntax.specs.Reading.{SyncBefore, nothing_read, text_read}
use Rattle.sync_syntax.specs.Refusal.{finished, read_from, sync_program_of}
use Rattle.sync_syntax.proofs.Allowed.{allowed_read}

-- what is read where a test is no cause
cond_ok : (t : Bool) (e : SyncError) (r : Result SyncText SyncError) (s : SyncText) → (if t then Err e else r) ≡ Ok s → (t ≡ false) × (r ≡ Ok s)
cond_ok true e r s h = absurd (cc h)
cond_ok false e r s h = (refl, h)

finished_allowed : (bytes : List ℕ) (r : Result SyncBefore SyncError) (s : SyncText) → read_from 1 nothing_read (lines_of bytes) ≡ r → finished r ≡ Ok s
    → IsSyncText s
finished_allowed bytes (Err e) s read h = absurd (cc h)
finished_allowed bytes (Ok b) s read h =
    let parts = cond_ok (length b.threads == 0) _ (Ok (text_read b)) s h in
    let same : text_read b ≡ s = cc in
    subst IsSyncText same (allowed_read bytes b read parts.0)

pub blocks_allowed : (bytes : List ℕ) (s : SyncText) → sync_program_of bytes ≡ Ok s → IsSyncText s
blocks_allowed bytes s h = finished_allowed bytes (read_from 1 nothing_read (lines_of bytes)) s refl (cond_ok _ _ _ s h).1
