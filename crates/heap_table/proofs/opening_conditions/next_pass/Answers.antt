use Rattle.std.proofs.Common.{◌≡◌, List, ap, ◌∙◌, arith}
use Rattle.core_world.specs.Threads.ThreadView.{ThreadView}
use Rattle.atomic_table.specs.Table.{Me}
use Rattle.heap_table.proofs.Opens.{knowns_next, others_next, own_pass}
use Rattle.heap_table.proofs.Seats.{splits_as}
use Rattle.heap_table.specs.declared.shots.Shots.{Shots}
use Rattle.heap_table.specs.Kept.{limit_by}
use Rattle.heap_table.specs.Cells.{cells_shown}
use Rattle.heap_table.specs.Ruled.{only}
use Rattle.heap_table.proofs.opening_conditions.next_pass.Goals as goal

pub split_seat-own-requires : goal.split_seat-own-requires
split_seat-own-requires c =
    let v = ap (λ (m : Me (Unit {0}) (List ThreadView)). m.0) c.requires.seat.1
    ∙ knowns_next c.args.thread c.args.setting.now.shape.threads c.requires.thread in
    (c.requires.seat.0, omega (arith, c.requires.setting.2), splits_as _ _ _ _ _ v)

pub returns-clause-seat : goal.returns-clause-seat
returns-clause-seat c =
    let e = c.split_seat-own.ensures in
    let n = others_next c.args.thread c.args.setting.now.shape.threads _ c.requires.thread
    (ap (λ (m : Me (Unit {0}) (List ThreadView)). m.0) c.requires.seat.1) in
    (e.0, e.2 ∙ λ i. (n i, (c.requires.seat.1 i).1))

pub invariant_of-result : goal.invariant_of-result
invariant_of-result c =
    own_pass c.in_ok-mirror.mirror c.split_seat-own.result.me c.args.seat.now.me c.args.thread c.args.setting.now.shape.threads c.split_seat-own.ensures.4
    (ap (λ (m : Me (Unit {0}) (List ThreadView)). m.0) c.requires.seat.1) c.requires.thread c.in_ok-mirror.ensures.follows

pub returns-clause-pass : goal.returns-clause-pass
returns-clause-pass c =
    let t = c.args.thread in
    let own = c.split_seat-own.ensures in
    let fixed = c.in_ok-mirror.ensures.fixed in
    let fresh = c.in_ok-shots.ensures in
    let knew = ap (λ (m : Me (Unit {0}) (List ThreadView)). m.0) c.requires.seat.1 ∙ knowns_next t c.args.setting.now.shape.threads c.requires.thread in
    let table = own.3 ∙ c.requires.seat.0 in
    let known = ap (λ (m : Me (Unit {0}) (List ThreadView)). only m.0) own.4 ∙ ap only knew in
    let mirror = c.in_ok-mirror.mirror in
    let limit : limit_by mirror.keeps mirror.given mirror.room ≡ limit_by c.args.keeps 0 c.args.room =
    λ i. limit_by (fixed.5 i) (fixed.1 i) (fixed.0 i) in
    let home = c.in_ok-mirror.ensures.home ∙ c.hold_at-home.ensures.place in
    let classes = fixed.2 ∙ c.classes.ensures in
    let threads = ap (λ (z : Shots). z.threads) fixed.4 ∙ fresh.0 ∙ c.threads.ensures.same in
    let objects = ap (λ (z : Shots). z.objects) fixed.4 ∙ fresh.1 ∙ c.objects.ensures in
    let cut = ap (λ (z : Shots). z.draft.cut.items) fixed.4 ∙ fresh.3 in
    let cells = ap (λ (z : Shots). cells_shown z.draft.cells.items) fixed.4 ∙ ap cells_shown fresh.4 in
    λ i. record {
      table = table i;
      known = known i;
      limit = limit i;
      room = fixed.0 i;
      home = home i;
      classes = classes i;
      first = fixed.3 i;
      threads = threads i;
      objects = objects i;
      cut = cut i;
      cells = cells i;
    }
