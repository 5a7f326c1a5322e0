use Rattle.std.proofs.Common.{ℕ, List, [], ◌∷◌, sym, ap, ◌∙◌}
use Rattle.std.proofs.lemmas.List.{append_cancel_left}
use Rattle.plain_monitor.specs.declared.entry.Logged.{Logged}
use Rattle.core_calls.proofs.made.CreatesSay.{create_stamps, create_refuses}
use Rattle.core_calls.proofs.refused.no_create_makes_another_object.Goals as goal

abbrev stamp_of : List Logged → ℕ
stamp_of [] = 0
stamp_of (x ∷ xs) = x.stamp

pub returns-clause-number : goal.returns-clause-number
returns-clause-number z s k c o differ says = differ (says.by 0 0 0).1.0

pub returns-clause-class : goal.returns-clause-class
returns-clause-class z s k c o mark says = let all = (says.by 0).1.2.all in absurd (cc all)

pub returns-clause-stamped : goal.returns-clause-stamped
returns-clause-stamped z s k c shape start o stamp before after differ logs ran =
    let stamps = create_stamps s k c shape start before after o ran in
    differ (ap stamp_of (append_cancel_left before.log _ _ (sym logs ∙ stamps)))

pub returns-clause-refused : goal.returns-clause-refused
returns-clause-refused z s k c shape start before after e differ ran = differ (create_refuses s k c shape start before after e ran)
