use Rattle.std.proofs.Common.{◌≡◌, ◌<◌, ℕ, true, false, if◌then◌else◌, List, ap, ◌∙◌, arith}
use Rattle.mark_word.specs.declared.mark.MarkForm.TheVariants.{Biased}
use Rattle.mark_word.specs.Mark.{mark_of, read_mark}
use Rattle.mark_word.proofs.ReadingMarks.{read_mark-mark_of}
use Rattle.plain_monitor.specs.Objects.{PlainObject}
use Rattle.core_world.specs.declared.word_id.WordId.TheVariants.{Mark, Hold}
use Rattle.core_world.specs.Words.Forms.{names, epoch_in, is_biased, is_biased_form}
use Rattle.core_world.specs.World.{World}
use Rattle.core_world.specs.Locks.{Open, BiasedTo, has_epoch, prototype_of, lock}
use Rattle.core_world.specs.Valid.{Fits}
use Rattle.core_world.proofs.enter_exit.ObjectHolds.{word_is_hold}
use Rattle.core_world.proofs.enter_exit.OwnersShown.{running_fits, lock_by_form}
use Rattle.core_world.proofs.refused.no_stale_bias_held.Goals as goal

no_stale_bias_held : (w : World) (objects : List PlainObject) (o t e p : ℕ) → t < 32 → e < 4 → w.words (Mark o) ≡ mark_of (Biased t e 0)
    → has_epoch (epoch_in (prototype_of w o)) e ≡ false → names o (w.words (Hold t p)) ≡ true → Fits w objects → ⊥
no_stale_bias_held w objects o t e p few epoch mark stale holds fits =
    let age : 0 < 16 = omega arith in
    let form = ap read_mark mark ∙ read_mark-mark_of (Biased t e 0) (few, epoch, age) in
    let biased : is_biased (w.words (Mark o)) ≡ true = ap is_biased_form form in
    let open_lock : lock w o ≡ Open = lock_by_form w o (Biased t e 0) form ∙ ap (λ b. if b then BiasedTo t else Open) stale in
    let unheld = fits.biases.unheld o t biased (λ leans. cc (leans, open_lock)) in
    absurd (omega (arith, unheld, word_is_hold w objects t p o fits holds))

pub returns : goal.returns
returns c w o t e p s v runs few epoch mark stale holds = no_stale_bias_held w v.objects o t e p few epoch mark stale holds (running_fits w v s runs)
