use Rattle.std.proofs.Common.{refl, arith}
use Rattle.heap_tests.proofs.Walking.{goes, can, leave_one, leave_two, leave_three, leave_four, leave_five}
use Rattle.heap_tests.proofs.walks.leave.Goals as goal

pub raise-stamp-requires : goal.raise-stamp-requires
raise-stamp-requires c = can _ _ _ _ c.requires leave_one tt refl

pub load-header-requires : goal.load-header-requires
load-header-requires c =
    let one = goes _ _ _ _ _ _ 0 c.requires c.raise-stamp.ensures c.if-stamp-ne0.false in
    can _ _ _ _ one leave_two tt refl

pub load-mark-requires : goal.load-mark-requires
load-mark-requires c =
    let one = goes _ _ _ _ _ _ 0 c.requires c.raise-stamp.ensures c.if-stamp-ne0.false in
    let two = goes _ _ _ _ _ _ 1 one c.load-header.ensures c.if-header-ne1.false in
    can _ _ _ _ two leave_three tt refl

pub log_exchange-found-requires : goal.log_exchange-found-requires
log_exchange-found-requires c =
    let one = goes _ _ _ _ _ _ 0 c.requires c.raise-stamp.ensures c.if-stamp-ne0.false in
    let two = goes _ _ _ _ _ _ 1 one c.load-header.ensures c.if-header-ne1.false in
    let three = goes _ _ _ _ _ _ 4096 two c.load-mark.ensures c.if-mark-ne4096.false in
    can _ _ _ _ three leave_four (omega arith) refl

pub store-hold-requires : goal.store-hold-requires
store-hold-requires c =
    let one = goes _ _ _ _ _ _ 0 c.requires c.raise-stamp.ensures c.if-stamp-ne0.false in
    let two = goes _ _ _ _ _ _ 1 one c.load-header.ensures c.if-header-ne1.false in
    let three = goes _ _ _ _ _ _ 4096 two c.load-mark.ensures c.if-mark-ne4096.false in
    let four = goes _ _ _ _ _ _ 4096 three c.log_exchange-found.ensures c.if-found-ne4096.false in
    can _ _ _ _ four leave_five tt refl

pub returns : goal.returns
returns c = λ e.
    let one = goes _ _ _ _ _ _ 0 c.requires c.raise-stamp.ensures c.if-stamp-ne0.false in
    let two = goes _ _ _ _ _ _ 1 one c.load-header.ensures c.if-header-ne1.false in
    let three = goes _ _ _ _ _ _ 4096 two c.load-mark.ensures c.if-mark-ne4096.false in
    let four = goes _ _ _ _ _ _ 4096 three c.log_exchange-found.ensures c.if-found-ne4096.false in
    goes _ _ _ _ _ _ 257 four c.store-hold.ensures c.if-hold-ne257.false
