-- What comes after the first step of an enter or an exit under a bias, and of the end of one.
use Rattle.std.specs.Prelude.{ℕ, if◌then◌else◌, Bool, true, false}
use Rattle.mark_word.specs.Mark.{read_mark}
use Rattle.core_world.specs.declared.answer.BiasTry.{BiasTry}
use Rattle.core_world.specs.declared.word_id.WordId.TheVariants.{Mark, Prototype}
use Rattle.core_world.specs.Threads.ThreadView.{Local}
use Rattle.core_world.specs.Words.Forms.{epoch_in, is_biased}
use Rattle.core_world.specs.Trees.BiasSteps.{bias_enter_by, bias_drop_by}
use Rattle.core_world.specs.Trees.LockSteps.{leave_steps}
use Rattle.core_world.specs.Trees.Plans.{CallContext, load}
use Rattle.core_world.specs.Trees.StepTree.{StepTree, done, ◌>>=◌, ask}

-- after the raise of the stamp: where the mark of o has the bias pattern, the hold word is cleared, which logs Exit
abbrev pub marked_exit : CallContext → Local → ℕ → StepTree Bool
marked_exit e k o = do
  mark ← ask (load e (Mark o))
  if is_biased mark then (do
    _ ← leave_steps e k o
    done true) else done false

-- after the load of a mark of o, which is of class c, with the bias pattern
abbrev pub prototype_enter : CallContext → Local → ℕ → ℕ → ℕ → StepTree BiasTry
prototype_enter e k c o mark = do
  prototype ← ask (load e (Prototype c))
  bias_enter_by (read_mark prototype) e k o mark prototype

abbrev pub prototype_drop : CallContext → ℕ → ℕ → ℕ → StepTree BiasTry
prototype_drop e c o mark = do
  prototype ← ask (load e (Prototype c))
  bias_drop_by (epoch_in prototype) e o mark prototype
