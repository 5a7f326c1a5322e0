use Rattle.std.proofs.Common.{◌≡◌, ◌++◌, ◌≤◌, List, map, length, vec_len, vec_capacity, Some}
use Rattle.lending.proofs.slots.out_of_slots.Given as goal

abbrev pub invariant-loop-slot : goal.invariant-loop-slot
invariant-loop-slot g l = record {
  whole : l.yielded ++ l.slot-iterator.rest.items ≡ l.fn.slots.items;
  items : (xs : List g.row.T.Denot) → l.fn.slots.items ≡ map Some xs → map Some l.things.items ≡ l.yielded;
  len : vec_len l.things ≤ length l.yielded;
  room : length l.fn.slots.items ≤ vec_capacity l.things;
}
