use Rattle.std.proofs.Common.{arith, ◌∙◌, ap, ◌+◌}
use Rattle.std.proofs.lemmas.Bool.{eqb-true}
use Rattle.heap_table.proofs.LowBits.{own_by_sum, prototype_small}
use Rattle.heap_table.proofs.reads.is_own_by_sum.Goals as goal

pub overflow_add-result : goal.overflow_add-result
overflow_add-result c =
    let small = prototype_small c.args.prototype c.requires.prototype in
    let few = c.requires.few in
    omega (arith, small, few)

pub returns : goal.returns
returns c = λ is thread bits.
    own_by_sum c.args.mark c.args.prototype thread c.requires.prototype c.requires.biased (eqb-true _ _ is ∙ ap (λ n. c.args.prototype + n) bits)
