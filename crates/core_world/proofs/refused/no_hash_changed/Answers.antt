use Rattle.std.proofs.Common.{◌≡◌, ◌≢◌, ◌<◌, ◌^◌, ℕ, List, Some, sym, ap, ◌∙◌, arith}
use Rattle.mark_word.specs.declared.mark.MarkForm.TheVariants.{Neutral}
use Rattle.mark_word.specs.Mark.{mark_of}
use Rattle.plain_monitor.specs.Objects.{PlainObject}
use Rattle.core_world.specs.declared.word_id.WordId.TheVariants.{Mark}
use Rattle.core_world.specs.Words.Names.{with_word}
use Rattle.core_world.specs.Words.Forms.{hash_form, hash_in}
use Rattle.core_world.specs.World.{World}
use Rattle.core_world.specs.Locks.{header, header_form, marks, displaced_words, headers, inflations, hash_at}
use Rattle.core_world.specs.Valid.{Fits}
use Rattle.core_world.proofs.enter_exit.OwnersShown.{running_fits, with_word_mark}
use Rattle.core_world.proofs.refused.no_hash_changed.Goals as goal

-- the world in which the mark is neutral and has this hash
abbrev hashed : World → ℕ → ℕ → World
hashed w o h = record w { words = with_word (Mark o) (mark_of (Neutral h 0)) w.words }

no_hash_changed : (w : World) (objects : List PlainObject) (o h : ℕ) → h < 2 ^ 31 → hash_at objects o ≢ h → Fits (hashed w o h) objects → ⊥
no_hash_changed w objects o h few other fits =
    let v = hashed w o h in
    let age : 0 < 16 = omega arith in
    let form = with_word_mark o (Neutral h 0) w.words (few, age) in
    let stands : header v o ≡ Some (marks v o) = ap (λ f. header_form f (marks v o) (displaced_words v) (headers v) (inflations v o)) form in
    let has : hash_in (marks v o) ≡ h = ap hash_form form in
    other (sym (fits.hashes.stands o (marks v o) stands) ∙ has)

pub returns : goal.returns
returns c w o h s v runs few other = no_hash_changed w v.objects o h few other (running_fits (hashed w o h) v s runs)
