use Rattle.std.proofs.Common.{inl, inr}
use Rattle.core_world.proofs.RefusedWorlds.{no_two_words_found}
use Rattle.core_world.proofs.refused.no_word_changed_at_a_safepoint.Goals as goal

pub returns-clause-now : goal.returns-clause-now
returns-clause-now c w t n at v reached saw differs = elim v.is [
  | inl fits ↦ differs (fits.seen.stands t at n reached saw)
  | inr s ↦ differs (s.seen.stands t at n reached saw)
]

pub returns-clause-before : goal.returns-clause-before
returns-clause-before c = no_two_words_found
