use Rattle.std.proofs.Common.{[], ◌∷◌, replicate, refl}
use Rattle.mark_word.specs.Hold.{read_hold}
use Rattle.mark_word.specs.Mark.{read_mark}
use Rattle.mark_word.specs.Owner.{read_owner}
use Rattle.mark_word.specs.Safe.{read_safe}
use Rattle.mark_word.specs.Wait.{read_wait}
use Rattle.core_world.specs.Words.Forms.{hold_word}
use Rattle.core_calls.proofs.Followed.{ran_by}
use Rattle.core_calls.proofs.Walkers.{small, running, owner, neutral, own_bias, own_record, inflated, biasing, held, by_other}
use Rattle.core_calls.proofs.witnesses.enters_and_exits_are_run.Goals as goal

pub returns-clause-enter_by_bias : goal.returns-clause-enter_by_bias
unfolding read_mark read_wait read_owner read_hold read_safe
returns-clause-enter_by_bias z now = ran_by _ small running (0 ∷ 0 ∷ biasing ∷ own_bias ∷ []) _ refl

pub returns-clause-enter_by_record : goal.returns-clause-enter_by_record
unfolding read_mark read_wait read_owner read_hold read_safe
returns-clause-enter_by_record z now = ran_by _ small running (0 ∷ 0 ∷ neutral ∷ 0 ∷ neutral ∷ []) _ refl

pub returns-clause-enter_pends : goal.returns-clause-enter_pends
unfolding read_mark read_wait read_owner read_hold read_safe
returns-clause-enter_pends z now = ran_by _ small running (0 ∷ by_other ∷ inflated ∷ []) _ refl

pub returns-clause-enter_refused : goal.returns-clause-enter_refused
unfolding read_mark read_wait read_owner read_hold read_safe
returns-clause-enter_refused z now = ran_by _ small (record running { holds = replicate 64 (hold_word 1 1) }) [] _ refl

pub returns-clause-exit_by_bias : goal.returns-clause-exit_by_bias
unfolding read_mark read_wait read_owner read_hold read_safe
returns-clause-exit_by_bias z = ran_by _ small owner (held ∷ own_bias ∷ 0 ∷ []) _ refl

pub returns-clause-exit_by_record : goal.returns-clause-exit_by_record
unfolding read_mark read_wait read_owner read_hold read_safe
returns-clause-exit_by_record z = ran_by _ small owner (held ∷ own_record ∷ own_record ∷ neutral ∷ 0 ∷ own_record ∷ 0 ∷ []) _ refl

pub returns-clause-stack_enter : goal.returns-clause-stack_enter
unfolding read_mark read_wait read_owner read_hold read_safe
returns-clause-stack_enter z = ran_by _ small running (0 ∷ 0 ∷ neutral ∷ 0 ∷ []) _ refl

pub returns-clause-stack_exit : goal.returns-clause-stack_exit
unfolding read_mark read_wait read_owner read_hold read_safe
returns-clause-stack_exit z = ran_by _ small owner (held ∷ own_record ∷ own_record ∷ neutral ∷ 0 ∷ []) _ refl

pub returns-clause-stack_exit_to_monitor : goal.returns-clause-stack_exit_to_monitor
unfolding read_mark read_wait read_owner read_hold read_safe
returns-clause-stack_exit_to_monitor z = ran_by _ small owner (inflated ∷ neutral ∷ 0 ∷ []) _ refl
