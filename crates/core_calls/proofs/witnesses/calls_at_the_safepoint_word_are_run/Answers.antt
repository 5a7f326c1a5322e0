use Rattle.std.proofs.Common.{[], ◌∷◌, refl}
use Rattle.mark_word.specs.Hold.{read_hold}
use Rattle.mark_word.specs.Mark.{read_mark}
use Rattle.mark_word.specs.Owner.{read_owner}
use Rattle.mark_word.specs.Safe.{read_safe}
use Rattle.mark_word.specs.Wait.{read_wait}
use Rattle.core_world.specs.Opening.{first_known}
use Rattle.core_calls.proofs.Followed.{ran_by}
use Rattle.core_calls.proofs.Walkers.{small, running, asking, going, reached, check_words}
use Rattle.core_calls.proofs.witnesses.calls_at_the_safepoint_word_are_run.Goals as goal

pub returns-clause-poll : goal.returns-clause-poll
unfolding read_mark read_wait read_owner read_hold read_safe
returns-clause-poll z = ran_by _ small running (going ∷ []) _ refl

pub returns-clause-stop : goal.returns-clause-stop
unfolding read_mark read_wait read_owner read_hold read_safe
returns-clause-stop z = ran_by _ small running (going ∷ 0 ∷ []) _ refl

pub returns-clause-resume : goal.returns-clause-resume
unfolding read_mark read_wait read_owner read_hold read_safe
returns-clause-resume z = ran_by _ small (first_known 0) (0 ∷ 0 ∷ []) _ refl

pub returns-clause-check : goal.returns-clause-check
unfolding read_mark read_wait read_owner read_hold read_safe
returns-clause-check z = ran_by _ small running check_words _ refl

pub returns-clause-request : goal.returns-clause-request
unfolding read_mark read_wait read_owner read_hold read_safe
returns-clause-request z = ran_by _ small running (going ∷ going ∷ []) _ refl

pub returns-clause-reached : goal.returns-clause-reached
unfolding read_mark read_wait read_owner read_hold read_safe
returns-clause-reached z = ran_by _ small asking (reached ∷ []) _ refl

pub returns-clause-release : goal.returns-clause-release
unfolding read_mark read_wait read_owner read_hold read_safe
returns-clause-release z = ran_by _ small asking (reached ∷ []) _ refl
