use Rattle.bias_law.proofs.LoggedKinds.{finds_mark, finds_record, finds_header, draws_mark_kind, draws_header_kind}
use Rattle.bias_law.proofs.kinds.hashing_keeps_the_law_of_biases.Goals as goal

pub returns-clause-in_mark : goal.returns-clause-in_mark
returns-clause-in_mark c = finds_mark

pub returns-clause-in_record : goal.returns-clause-in_record
returns-clause-in_record c = finds_record

pub returns-clause-in_monitor : goal.returns-clause-in_monitor
returns-clause-in_monitor c = finds_header

pub returns-clause-drawn_into_mark : goal.returns-clause-drawn_into_mark
returns-clause-drawn_into_mark c = draws_mark_kind

pub returns-clause-drawn_into_monitor : goal.returns-clause-drawn_into_monitor
returns-clause-drawn_into_monitor c = draws_header_kind
