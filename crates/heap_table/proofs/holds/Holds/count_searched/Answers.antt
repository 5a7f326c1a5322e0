use Rattle.std.proofs.Common.{rules, ◌≡◌, ◌+◌, ◌==◌, not, refl, ap, sym, ◌∙◌, arith, add-one, take}
use Rattle.core_world.specs.Locks.{count_where}
use Rattle.heap_table.proofs.Counting.{number_more}
use Rattle.heap_table.proofs.Held.{number_used}
use Rattle.heap_table.proofs.holds.Holds.count_searched.Goals as goal

pub loop-i-preserved : goal.loop-i-preserved
loop-i-preserved c =
    let i = c.loop-i.i in
    let words = c.args.self.now.words in
    let more = number_more (λ p h. not (h == 0)) 0 i words (omega (arith, c.loop-i-test.true, c.args.self.now.within)) in
    let next = add-one i in
    let inv = c.loop-i.invariant in
    let one = c.one_if-filled.ensures in
    ((λ j. inv.0 j + one.value j) ∙ sym more ∙ ap (λ n. count_where (λ p h. not (h == 0)) 0 (take n words)) (sym next), omega (arith, inv.1, one.few))

pub returns-clause-holds : goal.returns-clause-holds
returns-clause-holds c =
    let holds = c.args.self.now in
    let all : c.loop-i.i ≡ holds.used = search rules in
    c.loop-i.invariant.0 ∙ ap (λ n. count_where (λ p h. not (h == 0)) 0 (take n holds.words)) all
    ∙ number_used (λ h. not (h == 0)) 0 holds.used holds.words refl holds.rest
