use Rattle.lock_runtime_c.proofs.Rarely.{enter_amid, enter_ends}
use Rattle.lock_runtime_c.proofs.enters.enter_rarely.Goals as goal

pub enter_raced-answer-requires-clause-amid : goal.enter_raced-answer-requires-clause-amid
enter_raced-answer-requires-clause-amid c = enter_amid _ _ _ _ _ c.in-Raced.is c.requires.amid

pub returns-in-Raced : goal.returns-in-Raced
returns-in-Raced c = enter_ends _ _ _ _ _ _ _ c.in-Raced.is c.enter_raced-answer.ensures

pub enter_marked-answer-requires-clause-amid : goal.enter_marked-answer-requires-clause-amid
enter_marked-answer-requires-clause-amid c = enter_amid _ _ _ _ _ c.in-Unbiased.is c.requires.amid

pub returns-in-Unbiased : goal.returns-in-Unbiased
returns-in-Unbiased c = enter_ends _ _ _ _ _ _ _ c.in-Unbiased.is c.enter_marked-answer.ensures

pub enter_biased-answer-requires-clause-amid : goal.enter_biased-answer-requires-clause-amid
enter_biased-answer-requires-clause-amid c = enter_amid _ _ _ _ _ c.in-Biased.is c.requires.amid

pub returns-in-Biased : goal.returns-in-Biased
returns-in-Biased c = enter_ends _ _ _ _ _ _ _ c.in-Biased.is c.enter_biased-answer.ensures

pub enter_taken-answer-requires-clause-amid : goal.enter_taken-answer-requires-clause-amid
enter_taken-answer-requires-clause-amid c = enter_amid _ _ _ _ _ c.in-Taken.is c.requires.amid

pub returns-in-Taken : goal.returns-in-Taken
returns-in-Taken c = enter_ends _ _ _ _ _ _ _ c.in-Taken.is c.enter_taken-answer.ensures
