-- The exchange that gives a header the hash drawn.
use Rattle.std.proofs.Common.{◌≡◌, ℕ, Some, ap}
use Rattle.mark_word.specs.declared.mark.MarkForm.TheVariants.{Neutral}
use Rattle.mark_word.specs.Mark.{mark_of}
use Rattle.plain_monitor.specs.declared.entry.Entry.TheVariants as entry
use Rattle.core_world.specs.declared.word_id.WordId.{WordId}
use Rattle.core_world.specs.declared.stage.Stage.TheVariants.{Settled}
use Rattle.core_world.specs.Trees.HashSteps.{NextDraw, draw_plan}
use Rattle.core_world.specs.Trees.Plans.{CallContext}
use Rattle.heap_table.specs.StepPlans.{log_swap_plan}

-- its word is the neutral mark with that hash
pub draws : (e : CallContext) (d : NextDraw) (at : WordId) (o header word : ℕ) → word ≡ mark_of (Neutral d.value 0)
    → log_swap_plan e Settled at header word (entry.Hash o d.value (Some d.number)) ≡ draw_plan e d at o header
draws e d at o header word is = ap (λ w. log_swap_plan e Settled at header w (entry.Hash o d.value (Some d.number))) is
