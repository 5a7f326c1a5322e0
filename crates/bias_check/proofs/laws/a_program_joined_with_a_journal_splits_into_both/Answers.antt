use Rattle.bias_check.proofs.Joined.{joined_parts}
use Rattle.bias_check.proofs.Unmarked.{unmarked}
use Rattle.bias_check.proofs.laws.a_program_joined_with_a_journal_splits_into_both.Goals as goal

pub returns-clause-unmarked : goal.returns-clause-unmarked
returns-clause-unmarked c = unmarked

pub returns-clause-parts : goal.returns-clause-parts
returns-clause-parts c text journal p has terminated = joined_parts text journal terminated (unmarked text p has)
