use Rattle.std.proofs.Common.{◌≡◌, ◌-◌, ◌≤◌, vec_capacity, vec_len, []}
use Rattle.heap_table.specs.inner.Firsts.{first_knowns}
use Rattle.heap_table.specs.Seen.{first_passes}
use Rattle.heap_table.specs.Kept.{limit_by}
use Rattle.heap_table.specs.Ruled.{heap_in}
use Rattle.heap_table.proofs.opening_conditions.begin.Given as goal

abbrev pub invariant-loop-thread : goal.invariant-loop-thread
invariant-loop-thread l =
    record {
      seat : (l.seat.table_id ≡ l.words.shared.table_id) × (l.seat.me ≡ (first_knowns l.thread (l.setting.shape.threads - l.thread), []));
      made : l.passes.items ≡ first_passes (record { table = l.words.shared.table_id; heap = heap_in l.setting; room = l.room }) (limit_by l.keeps 0 l.room) 0 l.thread;
      len : vec_len l.passes ≡ l.thread;
      room : l.setting.shape.threads ≤ vec_capacity l.passes;
    }
