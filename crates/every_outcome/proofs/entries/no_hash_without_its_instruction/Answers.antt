use Rattle.every_outcome.proofs.NoHash.{takes_no_hash, first_asks_none, stays, full_asks_none, makes_none}
use Rattle.every_outcome.proofs.entries.no_hash_without_its_instruction.Goals as goal

pub returns-clause-led : goal.returns-clause-led
returns-clause-led c = takes_no_hash

pub returns-clause-first : goal.returns-clause-first
returns-clause-first c = first_asks_none

pub returns-clause-each : goal.returns-clause-each
returns-clause-each c = stays

pub returns-clause-full : goal.returns-clause-full
returns-clause-full c = full_asks_none

pub returns-clause-none : goal.returns-clause-none
returns-clause-none c = makes_none
