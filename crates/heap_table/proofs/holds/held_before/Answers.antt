use Rattle.std.proofs.Common.{◌+◌, ap, sym, ◌∙◌, arith, add-one, take}
use Rattle.core_world.specs.Locks.{count_where}
use Rattle.core_world.specs.Threads.Stages.{one_if}
use Rattle.core_world.specs.Words.Forms.{names}
use Rattle.heap_table.proofs.Counting.{number_more}
use Rattle.heap_table.proofs.holds.held_before.Goals as goal

pub loop-i-preserved : goal.loop-i-preserved
loop-i-preserved c =
    let i = c.loop-i.i in
    let words = c.args.words.now in
    let more = number_more (λ p h. names c.args.object h) 0 i words (omega (arith, c.loop-i-test.true, c.requires)) in
    let next = add-one i in
    let inv = c.loop-i.invariant in
    let one = c.one_if-held.ensures in
    let value = one.value ∙ ap one_if c.names.ensures in
    ((λ j. inv.0 j + value j) ∙ sym more ∙ ap (λ n. count_where (λ p h. names c.args.object h) 0 (take n words)) (sym next), omega (arith, inv.1, one.few))
