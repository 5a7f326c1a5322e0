use Rattle.std.proofs.Common.{◌+◌, ◌<◌, ◌≤◌, List, length, get_or, sym, ap, ◌∙◌, arith}
use Rattle.std.specs.Prelude.{slice_set}
use Rattle.core_world.specs.Threads.Counts.{counts_of}
use Rattle.core_world.specs.Steps.{counts_after}
use Rattle.heap_table.specs.Tallies.{counts_shown}
use Rattle.heap_table.specs.declared.counts.ClassCounts.{ClassCounts}
use Rattle.heap_table.proofs.Counting.{counts_length, counts_below, counts_set, counts_at}
use Rattle.heap_table.proofs.counts.count_next.Goals as goal

pub returns-then-at-len : goal.returns-then-at-len
returns-then-at-len c = λ n k e.
    let class = c.in-CountVerdict.class in
    let long = ap length e ∙ counts_length 0 n k in
    let low : class < n = (let t = c.if-at-len.true in let l = c.len.ensures in omega (arith, t, l, long)) in
    let was = c.index.ensures ∙ ap (λ (l : List ClassCounts). get_or l class c.index.result.now) e
    ∙ counts_at 0 n class class k c.index.result.now low (omega arith) in
    let now = c.next_counts.ensures (counts_of k class) was in
    (λ i. slice_set (e i) class (now i)) ∙ counts_set 0 n class class c.in-CountVerdict.verdict c.in-CountVerdict.reset k (omega arith)
    ∙ ap (λ o. counts_shown 0 n (counts_after o k)) (sym c.in-CountVerdict.is)

pub returns-else-at-len : goal.returns-else-at-len
returns-else-at-len c = λ n k e.
    let class = c.in-CountVerdict.class in
    let long = ap length e ∙ counts_length 0 n k in
    let high : 0 + n ≤ class = (let t = c.if-at-len.false in let l = c.len.ensures in omega (arith, t, l, long)) in
    e ∙ sym (counts_below 0 n class c.in-CountVerdict.verdict c.in-CountVerdict.reset k high)
    ∙ ap (λ o. counts_shown 0 n (counts_after o k)) (sym c.in-CountVerdict.is)
