use Rattle.single_thread_law.proofs.Texts.{one_text}
use Rattle.single_thread_law.proofs.laws.one_thread_writes_one_text.Goals as goal

pub returns : goal.returns
returns c = one_text
