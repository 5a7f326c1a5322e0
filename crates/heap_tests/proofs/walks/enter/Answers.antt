use Rattle.std.proofs.Common.{refl, arith}
use Rattle.heap_tests.proofs.Walking.{goes, can, enter_one, enter_two, enter_three, enter_four}
use Rattle.heap_tests.proofs.walks.enter.Goals as goal

pub store-found-requires : goal.store-found-requires
store-found-requires c = can _ _ _ _ c.requires enter_one tt refl

pub exchange-mark-requires : goal.exchange-mark-requires
exchange-mark-requires c = can _ _ _ _ (goes _ _ _ _ _ _ 0 c.requires c.store-found.ensures c.if-found-ne0.false) enter_two tt refl

pub store-hold-requires : goal.store-hold-requires
store-hold-requires c =
    let one = goes _ _ _ _ _ _ 0 c.requires c.store-found.ensures c.if-found-ne0.false in
    can _ _ _ _ (goes _ _ _ _ _ _ 1 one c.exchange-mark.ensures c.if-mark-ne1.false) enter_three tt refl

pub log_load-stamp-requires : goal.log_load-stamp-requires
log_load-stamp-requires c =
    let one = goes _ _ _ _ _ _ 0 c.requires c.store-found.ensures c.if-found-ne0.false in
    let two = goes _ _ _ _ _ _ 1 one c.exchange-mark.ensures c.if-mark-ne1.false in
    can _ _ _ _ (goes _ _ _ _ _ _ 0 two c.store-hold.ensures c.if-hold-ne0.false) enter_four (omega arith) refl

pub returns : goal.returns
returns c = λ e.
    let one = goes _ _ _ _ _ _ 0 c.requires c.store-found.ensures c.if-found-ne0.false in
    let two = goes _ _ _ _ _ _ 1 one c.exchange-mark.ensures c.if-mark-ne1.false in
    let three = goes _ _ _ _ _ _ 0 two c.store-hold.ensures c.if-hold-ne0.false in
    goes _ _ _ _ _ _ 0 three c.log_load-stamp.ensures c.if-stamp-ne0.false
