use Rattle.std.proofs.Common.{◌≡◌, ◌+◌, ◌-◌, [], None, false, ap, ◌∙◌, arith}
use Rattle.turn_pool.specs.Pool.{seat_view, all_parts}
use Rattle.run_rounds.specs.declared.workers.Worker.{Worker}
use Rattle.run_rounds.proofs.Pushed.{all_with}
use Rattle.run_rounds.proofs.Seats.{parts_left}
use Rattle.run_rounds.proofs.workers.hire.Goals as goal

pub hire-requires-clause-table : goal.hire-requires-clause-table
hire-requires-clause-table g c = c.loop-i.invariant.table ∙ c.requires.table

pub hire-requires-clause-knows : goal.hire-requires-clause-knows
hire-requires-clause-knows g c =
    (all_parts - c.loop-i.i, false, omega (arith, c.requires.few), c.loop-i.invariant.free)

pub loop-i-preserved : goal.loop-i-preserved
loop-i-preserved g c =
    let inv = c.loop-i.invariant in
    let pushed = c.push_reserved.ensures in
    let table = c.args.pool.now.slots.shared.table_id in
    let room = inv.room in
    let less : all_parts - c.loop-i.i - 1 ≡ all_parts - (c.loop-i.i + 1) = omega arith in
    record {
      table = c.hire.ensures.seat.0 ∙ c.loop-i.invariant.table;
      len = c.push_reserved.ensures.len ∙ ap (λ n. n + 1) c.loop-i.invariant.len;
      room = omega (arith, room, pushed.capacity);
      free = parts_left c.loop-i.own.me c.hire.new.seat.me (all_parts - c.loop-i.i) (all_parts - (c.loop-i.i + 1)) inv.free c.hire.ensures.seat.1 less;
      all = all_with (λ (w : Worker). (w.seat.table_id ≡ table) × (w.seat.me ≡ (seat_view 1 None false, []))) c.loop-i.workers.items
          c.push_reserved.new.self.items (record { seat = c.hire.result }) pushed.items inv.all
          (c.hire.ensures.worker.0 ∙ c.loop-i.invariant.table ∙ c.requires.table, c.hire.ensures.worker.1);
    }
