use Rattle.std.proofs.Common.{Some, arith}
use Rattle.lending.proofs.Laws.{taken, holds_only}
use Rattle.lending.proofs.lends.Lending.take.Goals as goal

pub swap_new_seat-found-requires : goal.swap_new_seat-found-requires
swap_new_seat-found-requires g c =
    let key = c.args.self.now.table.shared.key in
    let sized = c.args.self.now.sized in
    let inside = c.requires in (
      omega (arith, sized, inside),
      taken (g.P.LendRule.may_lie key) c.args.self.now.table.shared.table_id.slots c.args.place key inside (omega (arith, sized, inside)),
    )

pub exchange-requires : goal.exchange-requires
exchange-requires g c =
    let came = c.swap_new_seat-found.ensures in
    let took = came.1 c.if-found-ne-HOME.false in
    (came.0, (Some took.0, holds_only _ c.args.place (Some took.0) took.2))
