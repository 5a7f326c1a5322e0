-- What contracts see of a `Row`: the classes of the objects that a thread has made.
use Rattle.std.specs.Prelude.{ℕ, ◌≤◌, List, vec_len, vec_capacity}
use Rattle.plain_monitor.specs.Limits.{most_made}
use Rattle.plain_machine.specs.declared.register.Row.TheInside.{Inside}

abbrev pub row : Inside → List ℕ
row a = a.classes.items

-- there is room for all that a thread may make, and it has made no more
pub record RowHasRoom (a : Inside) : Type 0 where
  pub room : most_made ≤ vec_capacity a.classes
  pub few : vec_len a.classes ≤ most_made
