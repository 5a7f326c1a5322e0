use Rattle.std.proofs.Common.{◌≡◌, ◌++◌, ◌≤◌, map, length, vec_len, vec_capacity, Some}
use Rattle.lending.proofs.slots.into_slots.Given as goal

abbrev pub invariant-loop-thing : goal.invariant-loop-thing
invariant-loop-thing g l = record {
  whole : l.yielded ++ l.thing-iterator.rest.items ≡ l.fn.things.items;
  items : l.slots.items ≡ map Some l.yielded;
  len : vec_len l.slots ≡ length l.yielded;
  room : length l.fn.things.items ≤ vec_capacity l.slots;
}
