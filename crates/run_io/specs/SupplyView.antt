-- What contracts see of a `MemorySource`.
use Rattle.std.specs.Prelude.{◌<◌, ◌≤◌, drop, vec_len}
use Rattle.run_io.specs.declared.memory_source.MemorySource.TheInside.{Inside}
use Rattle.run_io.specs.Supply.{Supply}

abbrev pub supply_of : Inside → Supply
supply_of a =
    record {
      left = drop a.start a.bytes.items;
      faults = a.faults;
      calls = a.calls;
      fails = a.fails.items;
      cut = a.cut;
    }

-- what was given is among the bytes, and a read gives some
pub record IsSupply (a : Inside) : Type 0 where
  pub within : a.start ≤ vec_len a.bytes
  pub some : 0 < a.cut
