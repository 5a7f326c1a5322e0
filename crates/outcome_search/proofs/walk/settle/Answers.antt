use Rattle.std.proofs.Common.{◌≡◌, ℕ, suc, ◌+◌, ◌-◌, true, false, length, is_some, refl, sym, ap, ◌∙◌, arith}
use Rattle.outcome_search.specs.Settled.{first_alone, settled_by}
use Rattle.outcome_search.specs.inner.Going.{gone_on}
use Rattle.outcome_search.proofs.Going.{settles_on, settles_there}
use Rattle.outcome_search.proofs.walk.settle.Goals as goal

pub loop-init : goal.loop-init
loop-init g c =
    let whole : c.args.steps - 0 ≡ c.args.steps = omega arith in
    record {
      after = refl;
      left = ap (λ (n : ℕ). settled_by (g.W.Walker.after c.args.walker.now) n c.args.machine.now) whole;
      trail = λ p h. h;
    }

pub loop-preserved : goal.loop-preserved
loop-preserved g c =
    let inv = c.loop.invariant in
    let m = c.loop.machine in
    let after = g.W.Walker.after c.args.walker.now in
    let less : ℕ = c.args.steps - (c.loop.counter + 1) in
    let left : c.args.steps - c.loop.counter ≡ suc less = omega arith in
    let some : is_some (first_alone m 0 (length m.threads)) ≡ true = sym c.in_ok-make_first.ensures.made ∙ c.if-not-branch.false in
    let made : c.make_first.new.machine ≡ gone_on after m (first_alone m 0 (length m.threads)) =
    c.in_ok-make_first.ensures.machine ∙ (λ i. gone_on (inv.after i) m (first_alone m 0 (length m.threads))) in
    record {
      after = c.make_first.ensures.after_stays ∙ inv.after;
      left = settles_on after less m c.make_first.new.machine some made ∙ ap (λ (n : ℕ). settled_by after n m) (sym left) ∙ inv.left;
      trail = λ p h. c.in_ok-make_first.ensures.trail p (inv.trail p h);
    }

pub returns-then-not-branch-clause-machine : goal.returns-then-not-branch-clause-machine
returns-then-not-branch-clause-machine g c =
    let inv = c.loop.invariant in
    let m = c.loop.machine in
    let after = g.W.Walker.after c.args.walker.now in
    let less : ℕ = c.args.steps - (c.loop.counter + 1) in
    let left : c.args.steps - c.loop.counter ≡ suc less = omega arith in
    let none : is_some (first_alone m 0 (length m.threads)) ≡ false = sym c.in_ok-make_first.ensures.made ∙ c.if-not-branch.true in
    let made : c.make_first.new.machine ≡ gone_on after m (first_alone m 0 (length m.threads)) =
    c.in_ok-make_first.ensures.machine ∙ (λ i. gone_on (inv.after i) m (first_alone m 0 (length m.threads))) in
    settles_there after less m c.make_first.new.machine none made ∙ ap (λ (n : ℕ). settled_by after n m) (sym left) ∙ inv.left

pub returns-clause-machine : goal.returns-clause-machine
returns-clause-machine g c =
    let none : c.args.steps - c.loop.counter ≡ 0 = omega arith in
    ap (λ (n : ℕ). settled_by (g.W.Walker.after c.args.walker.now) n c.loop.machine) (sym none) ∙ c.loop.invariant.left
