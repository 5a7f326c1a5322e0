use Rattle.lock_runtime_c.proofs.Rarely.{exit_amid, exit_ends}
use Rattle.lock_runtime_c.proofs.exits.exit_rarely.Goals as goal

pub exit_inflating-answer-requires-clause-amid : goal.exit_inflating-answer-requires-clause-amid
exit_inflating-answer-requires-clause-amid c = exit_amid _ _ _ _ c.in-Inflating.is c.requires.amid

pub returns-in-Inflating : goal.returns-in-Inflating
returns-in-Inflating c = exit_ends _ _ _ _ _ _ c.in-Inflating.is c.exit_inflating-answer.ensures

pub exit_raced-answer-requires-clause-amid : goal.exit_raced-answer-requires-clause-amid
exit_raced-answer-requires-clause-amid c = exit_amid _ _ _ _ c.in-Raced.is c.requires.amid

pub returns-in-Raced : goal.returns-in-Raced
returns-in-Raced c = exit_ends _ _ _ _ _ _ c.in-Raced.is c.exit_raced-answer.ensures

pub exit_owned-answer-requires-clause-amid : goal.exit_owned-answer-requires-clause-amid
exit_owned-answer-requires-clause-amid c = exit_amid _ _ _ _ c.in-Owned.is c.requires.amid

pub returns-in-Owned : goal.returns-in-Owned
returns-in-Owned c = exit_ends _ _ _ _ _ _ c.in-Owned.is c.exit_owned-answer.ensures
