use Rattle.sync_source.proofs.WrongCode.{not_late, not_unguarded, are_programs, not_endless}
use Rattle.sync_source.proofs.refused.no_other_code_does_what_the_blocks_do.Goals as goal

pub returns-clause-late : goal.returns-clause-late
returns-clause-late c = not_late

pub returns-clause-unguarded : goal.returns-clause-unguarded
returns-clause-unguarded c = not_unguarded

pub returns-clause-programs : goal.returns-clause-programs
returns-clause-programs c = are_programs

pub returns-clause-endless : goal.returns-clause-endless
returns-clause-endless c = not_endless
