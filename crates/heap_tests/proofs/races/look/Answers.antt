use Rattle.std.proofs.Common.{refl}
use Rattle.heap_tests.proofs.Resuming.{first_is}
use Rattle.heap_tests.proofs.races.look.Goals as goal

pub look-requires : goal.look-requires
look-requires c = record {
  heap = c.requires.is_of;
  next = first_is _ _ _ _ _ _ c.requires.knows refl;
  room = tt;
  drafted = tt;
}
