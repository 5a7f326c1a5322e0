use Rattle.std.proofs.Common.{◌≡◌, ℕ, ◌+◌, List, ◌||◌, [], None, ap, ◌∙◌, arith}
use Rattle.turn_pool.specs.declared.rule.SeatView.{SeatView}
use Rattle.turn_pool.specs.Pool.{seat_view, all_parts}
use Rattle.pool_tests.specs.declared.countdown.Countdown.{Countdown}
use Rattle.pool_tests.proofs.workers.run.Goals as goal

parts : SeatView × List (ℕ × Countdown) → ℕ
parts me = me.0.parts

pub end-requires-clause-whole : goal.end-requires-clause-whole
unfolding parts
end-requires-clause-whole g c =
    let opened = ap parts c.in_ok-pool.ensures.ok.2 in
    let first = ap parts c.hire-first.ensures.seat.1 in
    let second = ap parts c.hire-second.ensures.seat.1 in
    let back = ap parts c.dismiss.ensures.seat.1 in
    let all : c.dismiss.new.seat.me.0.parts + 1 ≡ all_parts = omega (arith, opened, first, second, back) in
    let over = c.dismiss.new.seat.me.0.over || c.serve_both-first.result.1.me.0.over in
    (over, c.dismiss-2.ensures.seat.1 ∙ ap (λ (p : ℕ). (seat_view p None over, [])) all)
