use Rattle.std.proofs.Common.{[], ◌∷◌, refl}
use Rattle.mark_word.specs.Hold.{read_hold}
use Rattle.mark_word.specs.Mark.{read_mark}
use Rattle.mark_word.specs.Owner.{read_owner}
use Rattle.mark_word.specs.Safe.{read_safe}
use Rattle.mark_word.specs.Wait.{read_wait}
use Rattle.core_calls.proofs.Followed.{ran_by}
use Rattle.core_calls.proofs.Walkers.{small, pair, owner, own_record, inflated, by_self, waits, notified, wait_words}
use Rattle.core_calls.proofs.witnesses.waits_and_notifies_are_run.Goals as goal

pub returns-clause-wait_lets_go : goal.returns-clause-wait_lets_go
unfolding read_mark read_wait read_owner read_hold read_safe
returns-clause-wait_lets_go z now = ran_by _ small owner wait_words _ refl

pub returns-clause-wait_is_done : goal.returns-clause-wait_is_done
unfolding read_mark read_wait read_owner read_hold read_safe
returns-clause-wait_is_done z now =
    ran_by _ small owner (0 ∷ notified ∷ 0 ∷ 0 ∷ inflated ∷ notified ∷ by_self ∷ 0 ∷ 0 ∷ 0 ∷ 0 ∷ by_self ∷ inflated ∷ inflated ∷ []) _ refl

pub returns-clause-notify : goal.returns-clause-notify
unfolding read_mark read_wait read_owner read_hold read_safe
returns-clause-notify z now = ran_by _ pair owner (waits ∷ waits ∷ 0 ∷ inflated ∷ inflated ∷ []) _ refl

pub returns-clause-notify_all : goal.returns-clause-notify_all
unfolding read_mark read_wait read_owner read_hold read_safe
returns-clause-notify_all z now = ran_by _ pair owner (waits ∷ waits ∷ 0 ∷ inflated ∷ inflated ∷ []) _ refl

pub returns-clause-notify_none : goal.returns-clause-notify_none
unfolding read_mark read_wait read_owner read_hold read_safe
returns-clause-notify_none z now = ran_by _ pair owner (0 ∷ own_record ∷ own_record ∷ []) _ refl
