use Rattle.std.proofs.Common.{◌≡◌, ◌-◌, ◌++◌, option_to_list, length, sym, ap, ◌∙◌, subst, arith, append-nil}
use Rattle.wait_report.specs.inner.Walk.{cycle_from, cycles_from}
use Rattle.wait_report.specs.Cycles.{AreCycles}
use Rattle.wait_report.proofs.Walked.{cycles_on}
use Rattle.wait_report.proofs.Circles.{all_are_cycles}
use Rattle.wait_report.proofs.cycles.find_cycles.Goals as goal

pub loop-first-preserved : goal.loop-first-preserved
loop-first-preserved c =
    let n = length c.items.result.now in
    let added : c.add.new.cycles.items ≡ c.loop-first.cycles.items ++ option_to_list (cycle_from c.args.machine.now n c.loop-first.first) =
    c.in_ok-add.ensures ∙ ap (λ cycle. c.loop-first.cycles.items ++ option_to_list cycle) c.in_ok-cycle.ensures in
    cycles_on c.args.machine.now n c.loop-first.first c.loop-first.cycles.items c.add.new.cycles.items _ c.loop-first-test.true c.loop-first.invariant added

pub returns : goal.returns
returns c =
    let n = length c.items.result.now in
    let none : n - c.loop-first.first ≡ 0 = omega arith in
    let whole : cycles_from c.args.machine.now n 0 n ≡ c.of.result =
    c.loop-first.invariant ∙ ap (λ k. c.loop-first.cycles.items ++ cycles_from c.args.machine.now n c.loop-first.first k) none
    ∙ append-nil c.loop-first.cycles.items ∙ sym c.of.ensures in
    let count : n ≡ length c.args.machine.now.threads = ap length c.items.ensures ∙ ap (λ p. length p.threads) c.program.view_is ∙ sym c.requires in
    subst (AreCycles c.args.machine.now) whole (all_are_cycles c.args.machine.now n count)
