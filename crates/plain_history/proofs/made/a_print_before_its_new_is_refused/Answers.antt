use Rattle.std.proofs.Common.{refl, [], ◌∷◌, arith}
use Rattle.plain_history.proofs.made.a_print_before_its_new_is_refused.Goals as goal

pub returns-clause-there : goal.returns-clause-there
returns-clause-there c = ((0 ∷ []) ∷ [] ∷ [], refl, refl)

pub returns-clause-above : goal.returns-clause-above
returns-clause-above c = omega arith

pub returns-clause-refused : goal.returns-clause-refused
returns-clause-refused c = refl
