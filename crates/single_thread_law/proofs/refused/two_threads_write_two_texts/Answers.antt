use Rattle.single_thread_law.proofs.PairExample.{other_texts}
use Rattle.single_thread_law.proofs.refused.two_threads_write_two_texts.Goals as goal

pub returns : goal.returns
returns c = other_texts
