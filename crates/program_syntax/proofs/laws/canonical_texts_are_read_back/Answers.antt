use Rattle.program_syntax.proofs.CanonicalPrograms.{program_of-canonical}
use Rattle.program_syntax.proofs.laws.canonical_texts_are_read_back.Goals as goal

pub returns : goal.returns
returns c = program_of-canonical
