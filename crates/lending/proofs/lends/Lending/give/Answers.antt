use Rattle.std.proofs.Common.{arith, rules}
use Rattle.lending.proofs.Laws.{gave}
use Rattle.lending.proofs.lends.Lending.give.Goals as goal

pub store-requires : goal.store-requires
store-requires g c =
    let loan = c.args.loan in
    let shared = c.args.self.now.table.shared in (
      search rules,
      (let wide = c.args.self.now.sized.0 in let low = loan.in_range in omega (arith, wide, low)),
      gave (g.P.LendRule.may_lie shared.key) shared.table_id.slots c.exchange.new.seat.id loan.place loan.seat.me c.exchange.new.seat.me loan.thing
          loan.in_range c.requires.lies loan.emptied c.exchange.ensures.3,
    )
