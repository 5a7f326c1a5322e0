use Rattle.std.proofs.Common.{refl, arith}
use Rattle.heap_table.proofs.Allowed.{allows_as}
use Rattle.heap_table.proofs.Places.{within}
use Rattle.heap_table.proofs.steps.step_as.Goals as goal

pub load-requires : goal.load-requires
load-requires g c =
    let r = c.requires in (
      r.seat.0,
      omega (arith, r.setting.1, within _ _ r.may.at, r.place),
      allows_as _ _ _ _ _ _ _ _ _ _ _ r.chosen.0 r.chosen.1 r.setting.0 r.seat.1 r.place c.in-Load.is (λ n. refl) r.may,
    )

pub swap-requires : goal.swap-requires
swap-requires g c =
    let r = c.requires in (
      r.seat.0,
      omega (arith, r.setting.1, within _ _ r.may.at, r.place),
      allows_as _ _ _ _ _ _ _ _ _ _ _ r.chosen.0 r.chosen.1 r.setting.0 r.seat.1 r.place c.in-Store.is (λ n. refl) r.may,
    )

pub compare_exchange-requires : goal.compare_exchange-requires
compare_exchange-requires g c =
    let r = c.requires in (
      r.seat.0,
      omega (arith, r.setting.1, within _ _ r.may.at, r.place),
      allows_as _ _ _ _ _ _ _ _ _ _ _ r.chosen.0 r.chosen.1 r.setting.0 r.seat.1
          r.place c.in-CompareExchange.is (λ n. refl) r.may,
    )

pub fetch_max-requires : goal.fetch_max-requires
fetch_max-requires g c =
    let r = c.requires in (
      r.seat.0,
      omega (arith, r.setting.1, within _ _ r.may.at, r.place),
      allows_as _ _ _ _ _ _ _ _ _ _ _ r.chosen.0 r.chosen.1 r.setting.0 r.seat.1 r.place c.in-FetchMax.is (λ n. refl) r.may,
    )

pub fetch_and-requires : goal.fetch_and-requires
fetch_and-requires g c =
    let r = c.requires in (
      r.seat.0,
      omega (arith, r.setting.1, within _ _ r.may.at, r.place),
      allows_as _ _ _ _ _ _ _ _ _ _ _ r.chosen.0 r.chosen.1 r.setting.0 r.seat.1 r.place c.in-FetchAnd.is (λ n. refl) r.may,
    )

pub fetch_add-requires : goal.fetch_add-requires
fetch_add-requires g c =
    let r = c.requires in (
      r.seat.0,
      omega (arith, r.setting.1, within _ _ r.may.at, r.place),
      allows_as _ _ _ _ _ _ _ _ _ _ _ r.chosen.0 r.chosen.1 r.setting.0 r.seat.1 r.place c.in-FetchAdd.is (λ n. refl) r.may,
    )
