use Rattle.std.proofs.Common.{◌≡◌, ◌≢◌, ◌<◌, ◌||◌, ℕ, true, List, Some, sym, ap, ◌∙◌, eqb-true}
use Rattle.mark_word.specs.declared.mark.MarkForm.TheVariants.{Locked}
use Rattle.mark_word.specs.Mark.{mark_of}
use Rattle.plain_monitor.specs.Monitor.{is_thread}
use Rattle.plain_monitor.specs.Objects.{PlainObject}
use Rattle.core_world.specs.declared.word_id.WordId.TheVariants.{Mark}
use Rattle.core_world.specs.Words.Names.{with_word}
use Rattle.core_world.specs.Threads.Stages.{bears}
use Rattle.core_world.specs.World.{World}
use Rattle.core_world.specs.Locks.{OnRecord, lock, who, holder, hold_count, owner_at}
use Rattle.core_world.specs.Valid.{Fits}
use Rattle.core_world.proofs.enter_exit.OwnersShown.{running_fits, with_word_mark, lock_by_form}
use Rattle.core_world.proofs.refused.no_two_owners.Goals as goal

-- the world in which the mark names the record
abbrev locked : World → ℕ → ℕ → ℕ → World
locked w o t p = record w { words = with_word (Mark o) (mark_of (Locked t p)) w.words }

no_two_owners : (w : World) (objects : List PlainObject) (o t u p : ℕ) → t < 32
    → p < 64 → t ≢ u → owner_at objects o u ≡ true → Fits (locked w o t p) objects → ⊥
no_two_owners w objects o t u p few place other owns fits =
    let rests : lock (locked w o t p) o ≡ OnRecord t p = lock_by_form (locked w o t p) o (Locked t p) (with_word_mark o (Locked t p) w.words (few, place)) in
    let has : who (locked w o t p) o ≡ Some t = ap (λ l. holder l (λ i. hold_count o (w.known i).holds)) rests in
    let also : is_thread (who (locked w o t p) o) u ≡ true = fits.owners.same o u ∙ ap (λ b. b || bears (w.known u).stage o) owns in
    let same : is_thread (Some t) u ≡ true = sym (ap (λ a. is_thread a u) has) ∙ also in
    other (eqb-true t u same)

pub returns : goal.returns
returns c w o t u p s v runs few place other owns = no_two_owners w v.objects o t u p few place other owns (running_fits (locked w o t p) v s runs)
