use Rattle.sync_syntax.proofs.CanonicalSyncs.{sync_program_of-canonical}
use Rattle.sync_syntax.proofs.laws.canonical_texts_are_read_back.Goals as goal

pub returns : goal.returns
returns c = sync_program_of-canonical
