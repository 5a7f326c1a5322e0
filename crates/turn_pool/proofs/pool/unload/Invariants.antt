use Rattle.std.proofs.Common.{◌≡◌, ℕ, ◌<◌, ◌≤◌, true, false, take, vec_len, vec_capacity, slice_index_or}
use Rattle.std.specs.Slots.{slots_items, slots_filled, slots_len}
use Rattle.turn_pool.proofs.pool.unload.Given as goal

abbrev pub invariant-loop-i : goal.invariant-loop-i
invariant-loop-i g l =
    record {
      items : slots_items l.closed.slots ≡ slots_items l.fn.closed.slots;
      len : slots_len l.closed.slots ≡ l.count;
      so_far : l.things.items ≡ take l.i (slots_items l.closed.slots);
      taken : (k : ℕ) → k < l.i → slice_index_or (slots_filled l.closed.slots) k false ≡ false;
      full : (k : ℕ) → l.i ≤ k → k < l.count → slice_index_or (slots_filled l.closed.slots) k false ≡ true;
      room : (vec_len l.things ≡ l.i) × (l.count ≤ vec_capacity l.things);
    }
