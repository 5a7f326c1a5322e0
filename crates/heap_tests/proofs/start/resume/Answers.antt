use Rattle.std.proofs.Common.{refl}
use Rattle.heap_tests.proofs.Known.{goes, can, look_next}
use Rattle.heap_tests.proofs.start.resume.Goals as goal

pub look-found-requires : goal.look-found-requires
look-found-requires c = can _ _ _ _ c.requires.knows (look_next c.args.heap.now.heap.biasing c.args.thread) tt refl

pub exchange-left-requires : goal.exchange-left-requires
exchange-left-requires c = can _ _ _ _ (goes _ _ _ _ _ _ _ c.requires.knows c.look-found.ensures.stepped c.if-found-from.false) c.requires.next tt refl

pub returns : goal.returns
returns c =
    λ e. goes _ _ _ _ _ _ _ (goes _ _ _ _ _ _ _ c.requires.knows c.look-found.ensures.stepped c.if-found-from.false)
    c.exchange-left.ensures c.if-left-from.false
