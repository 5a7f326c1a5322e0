use Rattle.std.proofs.Common.{◌≡◌, All, vec_len, []}
use Rattle.heap_table.proofs.shots.spares.Given as goal

abbrev pub invariant-loop-i : goal.invariant-loop-i
invariant-loop-i l =
    record {
      spares : All (λ d. (d.threads ≡ l.threads) × (d.objects ≡ l.objects) × (d.cut.items ≡ []) × (d.cells.items ≡ [])) l.spare.items;
      count : vec_len l.spare ≡ l._i;
    }
