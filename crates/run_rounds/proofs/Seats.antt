-- What a seat of the pool knows after a step of its worker.
use Rattle.std.proofs.Common.{◌≡◌, ℕ, ◌-◌, List, [], ◌∷◌, get_or, Some, None, false, sym, ap, ◌∙◌}
use Rattle.thread_interp.specs.Runners.{RunnerSeen}
use Rattle.turn_pool.specs.declared.rule.SeatView.{SeatView}
use Rattle.turn_pool.specs.Pool.{seat_view}
use Rattle.turn_pool.specs.Table.{Me, rest}

-- a worker that has taken a runner holds that one alone
pub holds_taken : (m q : Me RunnerSeen SeatView) (i : ℕ) (r : RunnerSeen) → m ≡ (seat_view 1 None false, [])
    → q ≡ (seat_view m.0.parts (Some i) m.0.over, (i, r) ∷ []) → q ≡ (seat_view 1 (Some i) false, (i, r) ∷ [])
holds_taken m q i r free taken =
    taken ∙ ap (λ (x : Me RunnerSeen SeatView). (seat_view x.0.parts (Some i) x.0.over, (i, r) ∷ [])) free

-- one part less after a worker was hired
pub parts_left : (m q : Me RunnerSeen SeatView) (before after : ℕ) → m ≡ (seat_view before None false, [])
    → q ≡ (seat_view (m.0.parts - 1) None m.0.over, []) → before - 1 ≡ after → q ≡ (seat_view after None false, [])
parts_left m q before after free hired less =
    hired ∙ ap (λ (x : Me RunnerSeen SeatView). (seat_view (x.0.parts - 1) None x.0.over, [])) free ∙ ap (λ n. (seat_view n None false, [])) less

-- the runner that it holds is the first thing in its hand
pub first_held : (m : Me RunnerSeen SeatView) (i : ℕ) (r : RunnerSeen) → m ≡ (seat_view 1 (Some i) false, (i, r) ∷ []) → m.1 ≡ (i, r) ∷ rest m.1
first_held m i r holds =
    ap (λ (x : Me RunnerSeen SeatView). x.1) holds ∙ ap (λ (l : List (ℕ × RunnerSeen)). (i, r) ∷ l) (sym (ap (λ (x : Me RunnerSeen SeatView). rest x.1) holds))

pub same_held : (m : Me RunnerSeen SeatView) (i : ℕ) (r x : RunnerSeen) → m ≡ (seat_view 1 (Some i) false, (i, r) ∷ []) → m.1 ≡ (i, x) ∷ rest m.1
    → r ≡ x
same_held m i r x holds is =
    ap (λ (l : List (ℕ × RunnerSeen)). (get_or l 0 (0, r)).1) (sym (ap (λ (y : Me RunnerSeen SeatView). y.1) holds) ∙ is)

-- a worker that has given it back is free
pub free_again : (m q : Me RunnerSeen SeatView) (i : ℕ) (r : RunnerSeen) → m ≡ (seat_view 1 (Some i) false, (i, r) ∷ [])
    → q ≡ (seat_view m.0.parts None m.0.over, []) → q ≡ (seat_view 1 None false, [])
free_again m q i r holds given = given ∙ ap (λ (x : Me RunnerSeen SeatView). (seat_view x.0.parts None x.0.over, [])) holds
