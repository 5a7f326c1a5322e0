-- What contracts see of a `MemorySink`.
use Rattle.std.specs.Prelude.{◌<◌, ◌≤◌, vec_len, vec_capacity}
use Rattle.run_io.specs.declared.memory_sink.MemorySink.TheInside.{Inside}
use Rattle.run_io.specs.Store.{Store}

abbrev pub store_of : Inside → Store
store_of a =
    record {
      held = a.bytes.items;
      room = a.room;
      faults = a.faults;
      calls = a.calls;
      fails = a.fails.items;
      cut = a.cut;
    }

-- it holds no more than its room, all of its room was taken, and a write takes some
pub record IsStore (a : Inside) : Type 0 where
  pub within : vec_len a.bytes ≤ a.room
  pub reserved : a.room ≤ vec_capacity a.bytes
  pub some : 0 < a.cut
