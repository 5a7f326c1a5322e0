use Rattle.plain_history.proofs.SlotsKnown.{new_slots_known, slots_stay_known, owner_knows}
use Rattle.plain_history.proofs.made.owners_know_what_their_slots_refer_to.Goals as goal

pub returns-clause-at_first : goal.returns-clause-at_first
returns-clause-at_first c = new_slots_known

pub returns-clause-stays : goal.returns-clause-stays
returns-clause-stays c = slots_stay_known

pub returns-clause-owner : goal.returns-clause-owner
returns-clause-owner c = owner_knows
