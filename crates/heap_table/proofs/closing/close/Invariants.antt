use Rattle.std.proofs.Common.{◌≡◌, ◌≤◌, length, take, vec_len, vec_capacity, ◌++◌, []}
use Rattle.std.specs.Slots.{slots_items}
use Rattle.heap_table.specs.Seen.{knowns, pages_of, shots_of, counts_of_all}
use Rattle.heap_table.specs.inner.Seen.{AllOf}
use Rattle.heap_table.proofs.closing.close.Given as goal

abbrev pub invariant-loop-pass : goal.invariant-loop-pass
invariant-loop-pass l =
    record {
      seat : (l.all.table_id ≡ l.words.shared.table_id) × (l.all.me ≡ (knowns l.yielded, []));
      whole : l.yielded ++ l.pass-iterator.rest.items ≡ l.fn.passes;
      mine : AllOf l.words.shared.table_id l.pass-iterator.rest.items;
      logs : l.logs.items ≡ pages_of l.yielded;
      shots : l.shots.items ≡ shots_of l.yielded;
      counts : l.counts.items ≡ counts_of_all l.yielded;
      len : (vec_len l.logs ≡ length l.yielded) × (vec_len l.shots ≡ length l.yielded) × (vec_len l.counts ≡ length l.yielded);
      room : (l.setting.shape.threads ≤ vec_capacity l.logs)
          × (l.setting.shape.threads ≤ vec_capacity l.shots) × (l.setting.shape.threads ≤ vec_capacity l.counts);
    }

abbrev pub invariant-loop-i : goal.invariant-loop-i
invariant-loop-i l =
    record {
      copied : l.copy.items ≡ take l.i (slots_items l.closed.words);
      room : l.count ≤ vec_capacity l.copy;
    }
