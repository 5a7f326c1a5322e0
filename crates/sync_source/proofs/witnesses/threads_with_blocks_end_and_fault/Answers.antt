use Rattle.std.proofs.Common.{refl}
use Rattle.sync_source.proofs.Guarded.{is_text, is_legal, leads}
use Rattle.sync_source.proofs.witnesses.threads_with_blocks_end_and_fault.Goals as goal

pub returns-clause-program : goal.returns-clause-program
returns-clause-program c = is_text

pub returns-clause-legal : goal.returns-clause-legal
returns-clause-legal c = is_legal

pub returns-clause-ended : goal.returns-clause-ended
returns-clause-ended c = leads

pub returns-clause-logged : goal.returns-clause-logged
returns-clause-logged c = (refl, refl, refl)
