use Rattle.std.proofs.Common.{[], ◌∷◌, refl}
use Rattle.mark_word.specs.Hold.{read_hold}
use Rattle.mark_word.specs.Mark.{read_mark}
use Rattle.mark_word.specs.Owner.{read_owner}
use Rattle.mark_word.specs.Safe.{read_safe}
use Rattle.mark_word.specs.Wait.{read_wait}
use Rattle.core_calls.proofs.Followed.{ran_by}
use Rattle.core_calls.proofs.Walkers.{small, running, maker, neutral, full_refuses}
use Rattle.core_calls.proofs.witnesses.creates_are_run.Goals as goal

pub returns-clause-made : goal.returns-clause-made
unfolding read_mark read_wait read_owner read_hold read_safe
returns-clause-made z = (_, ran_by _ small running (0 ∷ 0 ∷ neutral ∷ []) _ refl)

pub returns-clause-refused : goal.returns-clause-refused
returns-clause-refused z = ran_by _ small maker [] _ (full_refuses small)
