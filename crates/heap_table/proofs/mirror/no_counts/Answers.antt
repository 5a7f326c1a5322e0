use Rattle.std.proofs.Common.{[], ◌∷◌, ◌++◌, ap, sym, ◌∙◌, arith, add-one}
use Rattle.heap_table.specs.Tallies.{counts_shown}
use Rattle.heap_table.proofs.Counting.{counts_more}
use Rattle.heap_table.proofs.mirror.no_counts.Goals as goal

pub loop-class-preserved : goal.loop-class-preserved
loop-class-preserved c =
    let n = c.loop-class._class in
    c.in_ok-push.ensures.items ∙ (λ i. c.loop-class.invariant i ++ record { single = 0; rebias = 0; revoke = 0; reset = 0 } ∷ [])
    ∙ counts_more 0 n n [] (omega arith) ∙ ap (λ m. counts_shown 0 m []) (sym (add-one n))
