-- A `Register` as contracts see it.
use Rattle.std.specs.Prelude.{◌≤◌, length, vec_len}
use Rattle.plain_monitor.specs.Limits.{most_threads, most_objects}
use Rattle.plain_machine.specs.declared.register.Register.TheInside.{Inside}
use Rattle.plain_machine.specs.Registered.{Registered}

abbrev pub registered : Inside → Registered
registered a = record {
  numbering = record { declared = a.declared.items; threads = length a.rows.items; classes = a.classes };
  made = a.rows.items;
}

-- so that each number has 32 bits
pub record IsSmall (a : Inside) : Type 0 where
  pub declared : vec_len a.declared ≤ most_objects
  pub threads : vec_len a.rows ≤ most_threads
