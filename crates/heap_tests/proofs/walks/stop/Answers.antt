use Rattle.std.proofs.Common.{refl}
use Rattle.heap_tests.proofs.Walking.{goes, can, stop_one, stop_two}
use Rattle.heap_tests.proofs.walks.stop.Goals as goal

pub store-length-requires : goal.store-length-requires
store-length-requires c = can _ _ _ _ c.requires stop_one tt refl

pub mask-all-requires : goal.mask-all-requires
mask-all-requires c = can _ _ _ _ (goes _ _ _ _ _ _ 0 c.requires c.store-length.ensures c.if-length-ne0.false) stop_two tt refl

pub returns : goal.returns
returns c = λ e. goes _ _ _ _ _ _ 1 (goes _ _ _ _ _ _ 0 c.requires c.store-length.ensures c.if-length-ne0.false) c.mask-all.ensures c.if-all-ne1.false
