use Rattle.std.proofs.Common.{◌≡◌, ◌==◌, cond, Bool, true, false, Some, None, sym, ap, ◌∙◌, ne_eqb}
use Rattle.core_world.specs.Locks.{owner_and_count_by}
use Rattle.heap_census.specs.inner.ShotParts.{held_in}
use Rattle.heap_census.proofs.shots.look_at_biased.Goals as goal

pub look_at_holds-count-requires-clause-due : goal.look_at_holds-count-requires-clause-due
look_at_holds-count-requires-clause-due c = c.requires.due

pub returns-then-count-eq0-clause-run : goal.returns-then-count-eq0-clause-run
returns-then-count-eq0-clause-run c = c.look_at_holds-count.ensures.run

pub returns-then-count-eq0-clause-cell : goal.returns-then-count-eq0-clause-cell
returns-then-count-eq0-clause-cell c = λ l later.
    let a = c.args in
    let t = a.thread in
    let held = c.look_at_holds-count.ensures.held l later in
    let none : (held_in a.object l t == 0) ≡ true = ap (λ n. n == 0) (held ∙ c.if-count-eq0.true) in
    ap (λ (b : Bool). owner_and_count_by (cond b None (Some t)) (held_in a.object l)) none ∙ ap (λ n. (None, n)) (sym c.if-count-eq0.true)

pub returns-else-count-eq0-clause-run : goal.returns-else-count-eq0-clause-run
returns-else-count-eq0-clause-run c = c.look_at_holds-count.ensures.run

pub returns-else-count-eq0-clause-cell : goal.returns-else-count-eq0-clause-cell
returns-else-count-eq0-clause-cell c = λ l later.
    let a = c.args in
    let t = a.thread in
    let held = c.look_at_holds-count.ensures.held l later in
    let some : (held_in a.object l t == 0) ≡ false = ap (λ n. n == 0) held ∙ ne_eqb _ _ c.if-count-eq0.false in
    ap (λ (b : Bool). owner_and_count_by (cond b None (Some t)) (held_in a.object l)) some
    ∙ ap (λ n. owner_and_count_by (Some t) (λ _. n)) held
