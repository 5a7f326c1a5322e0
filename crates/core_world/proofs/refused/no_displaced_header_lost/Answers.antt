use Rattle.std.proofs.Common.{◌≡◌, ◌<◌, ℕ, false, List, refl, ap, ◌∙◌}
use Rattle.mark_word.specs.declared.mark.MarkForm.TheVariants.{Locked}
use Rattle.mark_word.specs.Mark.{mark_of, read_mark}
use Rattle.mark_word.proofs.ReadingMarks.{read_mark-mark_of}
use Rattle.plain_monitor.specs.Objects.{PlainObject}
use Rattle.core_world.specs.declared.word_id.WordId.TheVariants.{Mark, Displaced}
use Rattle.core_world.specs.Words.Forms.{is_neutral}
use Rattle.core_world.specs.World.{World}
use Rattle.core_world.specs.Locks.{OnRecord, lock}
use Rattle.core_world.specs.Valid.{Fits}
use Rattle.core_world.proofs.enter_exit.OwnersShown.{running_fits, lock_by_form}
use Rattle.core_world.proofs.refused.no_displaced_header_lost.Goals as goal

-- the word 0 is no header
zero_is_no_header : is_neutral 0 ≡ false
unfolding read_mark
zero_is_no_header = refl

no_displaced_header_lost : (w : World) (objects : List PlainObject) (o t p : ℕ) → t < 32 → p < 64 → w.words (Mark o) ≡ mark_of (Locked t p)
    → w.words (Displaced t p) ≡ 0 → Fits w objects → ⊥
no_displaced_header_lost w objects o t p few place mark lost fits =
    let rests : lock w o ≡ OnRecord t p = lock_by_form w o (Locked t p) (ap read_mark mark ∙ read_mark-mark_of (Locked t p) (few, place)) in
    let header = fits.records.header o t p rests in
    let none : is_neutral (w.words (Displaced t p)) ≡ false = ap is_neutral lost ∙ zero_is_no_header in
    absurd (cc (header, none))

pub returns : goal.returns
returns c w o t p s v runs few place mark lost = no_displaced_header_lost w v.objects o t p few place mark lost (running_fits w v s runs)
