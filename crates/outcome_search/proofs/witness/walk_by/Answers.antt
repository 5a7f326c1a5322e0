use Rattle.std.proofs.Common.{◌≡◌, ℕ, ◌+◌, ◌-◌, None, Some, length, drop, slice_index_or, sym, ap, ◌∙◌, subst, arith}
use Rattle.std.proofs.lemmas.List.{drop_all}
use Rattle.plain_monitor.specs.Limits.{most_fuel}
use Rattle.plain_machine.specs.Machine.{PlainMachine, new_machine}
use Rattle.outcome_search.specs.Outcomes.{top_steps}
use Rattle.outcome_search.specs.Settled.{settled_by, gone, walked}
use Rattle.outcome_search.specs.inner.Trails.{IsTrail}
use Rattle.outcome_search.proofs.Choosing.{walks_more, walks_nowhere, first_trail}
use Rattle.outcome_search.proofs.witness.walk_by.Goals as goal

pub loop-left-init : goal.loop-left-init
unfolding top_steps
loop-left-init c =
    let choices = c.args.choices.now in
    let first = new_machine c.args.program.now most_fuel in
    let is : c.deref_mut.result.now ≡ first = c.deref_mut.ensures.value ∙ c.in_ok-machine.ensures in
    let settles : c.settle.new.machine ≡ settled_by (λ m. m) 64 first =
    c.in_ok-settle.ensures.machine ∙ ap (settled_by (λ m. m) 64) is in
    record {
      within = omega arith;
      walks = ap (walked (λ m. m) 64 first) (drop_all (length choices) choices (omega arith)) ∙ ap Some (sym settles);
      trail = c.in_ok-settle.ensures.trail c.args.program.now (first_trail c.args.program.now c.deref_mut.result.now _ is c.requires);
    }

pub returns-then-not-branch-clause-machine : goal.returns-then-not-branch-clause-machine
returns-then-not-branch-clause-machine c =
    let inv = c.loop-left.invariant in
    let choices = c.args.choices.now in
    let first = new_machine c.args.program.now most_fuel in
    let m = c.loop-left.machine.value in
    let k : ℕ = c.loop-left.left - 1 in
    let after : c.loop-left.left ≡ k + 1 = omega (arith, c.loop-left-test.true) in
    let more : walked (λ m. m) top_steps first (drop k choices) ≡ gone (λ m. m) top_steps m (slice_index_or choices k 0) =
    walks_more (λ m. m) top_steps first m choices k 0 (omega (arith, c.loop-left-test.true, inv.within))
    (ap (λ (n : ℕ). walked (λ m. m) top_steps first (drop n choices)) (sym after) ∙ inv.walks) in
    let none : None ≡ gone (λ m. m) top_steps c.deref_mut-in-loop-left.result.now (slice_index_or choices k 0) =
    rw c.if-not-branch.true at c.in_ok-choose.ensures.machine in
    sym (walks_nowhere (λ m. m) top_steps first choices k
    (more ∙ ap (λ (z : PlainMachine). gone (λ m. m) top_steps z (slice_index_or choices k 0)) (sym c.deref_mut-in-loop-left.ensures.value) ∙ sym none))

pub loop-left-preserved : goal.loop-left-preserved
loop-left-preserved c =
    let inv = c.loop-left.invariant in
    let choices = c.args.choices.now in
    let first = new_machine c.args.program.now most_fuel in
    let m = c.loop-left.machine.value in
    let k : ℕ = c.loop-left.left - 1 in
    let after : c.loop-left.left ≡ k + 1 = omega (arith, c.loop-left-test.true) in
    let more : walked (λ m. m) top_steps first (drop k choices) ≡ gone (λ m. m) top_steps m (slice_index_or choices k 0) =
    walks_more (λ m. m) top_steps first m choices k 0 (omega (arith, c.loop-left-test.true, inv.within))
    (ap (λ (n : ℕ). walked (λ m. m) top_steps first (drop n choices)) (sym after) ∙ inv.walks) in
    let some : Some c.choose.new.machine ≡ gone (λ m. m) top_steps c.deref_mut-in-loop-left.result.now (slice_index_or choices k 0) =
    rw c.if-not-branch.false at c.in_ok-choose.ensures.machine in
    record {
      within = omega (arith, inv.within);
      walks =
          more ∙ ap (λ (z : PlainMachine). gone (λ m. m) top_steps z (slice_index_or choices k 0)) (sym c.deref_mut-in-loop-left.ensures.value)
          ∙ sym some;
      trail =
          c.in_ok-choose.ensures.trail c.args.program.now
          (subst (λ (z : PlainMachine). IsTrail c.args.program.now z c.loop-left.log.entries.items) (sym c.deref_mut-in-loop-left.ensures.value) inv.trail);
    }
