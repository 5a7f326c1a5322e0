use Rattle.std.proofs.Common.{◌+◌, ap, sym, ◌∙◌, arith, add-one, take}
use Rattle.core_world.specs.Locks.{count_where}
use Rattle.core_world.specs.Threads.Stages.{one_if}
use Rattle.core_world.specs.Words.Forms.{names}
use Rattle.heap_table.proofs.Counting.{number_more}
use Rattle.safepoint_work.proofs.words.held_of.Goals as goal

pub loop-hold-preserved : goal.loop-hold-preserved
loop-hold-preserved c =
    let i = c.loop-hold.hold-index in
    let more = number_more (λ p h. names c.args.object h) 0 i c.args.holds.now (omega (arith, c.loop-hold-test.true)) in
    let next = add-one i in
    let inv = c.loop-hold.invariant in
    let one = c.one_if-held.ensures in
    let value = one.value ∙ ap one_if c.names.ensures in (
      (λ j. inv.0 j + value j) ∙ sym more ∙ ap (λ n. count_where (λ p h. names c.args.object h) 0 (take n c.args.holds.now)) (sym next),
      omega (arith, inv.1, one.few),
    )
