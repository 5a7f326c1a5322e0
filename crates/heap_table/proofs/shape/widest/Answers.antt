use Rattle.std.proofs.Common.{ℕ, max, ap, ◌∙◌, sym, arith, add-one}
use Rattle.std.specs.Prelude.{take, get_or}
use Rattle.heap_table.specs.Layout.{widest}
use Rattle.heap_table.proofs.Sizes.{larger_is, widest_more}
use Rattle.heap_table.proofs.shape.widest.Goals as goal

pub loop-object-preserved : goal.loop-object-preserved
loop-object-preserved c =
    let xs = c.args.objects.now in
    let i = c.loop-object.object-index in
    c.max-most.ensures ∙ larger_is c.loop-object.most (get_or xs i (0, 0)).1 ∙ ap (λ (n : ℕ). max n (get_or xs i (0, 0)).1) c.loop-object.invariant
    ∙ widest_more xs i (omega (arith, c.loop-object-test.true))
    ∙ ap (λ (k : ℕ). widest (take k xs)) (sym (add-one i))
