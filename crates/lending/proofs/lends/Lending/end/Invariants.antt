use Rattle.std.proofs.Common.{◌≡◌, ℕ, ◌<◌, ◌≤◌, true, false, vec_len, vec_capacity, slice_index_or}
use Rattle.std.specs.Slots.{slots_items, slots_filled, slots_len}
use Rattle.lending.specs.inner.Kept.{SoFar}
use Rattle.lending.proofs.lends.Lending.end.Given as goal

abbrev pub invariant-loop-i : goal.invariant-loop-i
invariant-loop-i g l =
    record {
      words : l.closed.words ≡ l.initial.closed.words;
      items : slots_items l.closed.slots ≡ slots_items l.initial.closed.slots;
      len : slots_len l.closed.slots ≡ l.count;
      taken : (k : ℕ) → k < l.i → slice_index_or (slots_filled l.closed.slots) k false ≡ false;
      full : (k : ℕ) → l.i ≤ k → k < l.count → slice_index_or (slots_filled l.closed.slots) k false ≡ true;
      room : (vec_len l.things ≤ l.i) × (l.count ≤ vec_capacity l.things);
      so_far : SoFar (g.P.LendRule.may_lie l.fn.self.table.shared.key) l.i l.things.items;
    }
