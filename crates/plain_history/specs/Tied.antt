-- Which entries keep their order in every history that has the same outcome.
use Rattle.std.specs.Prelude.{ℕ, Bool, false, ◌==◌, Option, Some, None}
use Rattle.plain_monitor.specs.declared.entry.Entry.{Entry}
use Rattle.plain_monitor.specs.declared.entry.Entry.TheVariants.{Hash}
use Rattle.plain_monitor.specs.Objects.{named}

-- the object to whose other entries an entry is bound: the one that it names, and none for a hash
abbrev pub bound_to : Entry → Option ℕ
bound_to (Hash object value drawn) = None
bound_to e = named e

-- both are there, and they are one object
abbrev pub is_same_object : Option ℕ → Option ℕ → Bool
is_same_object None p = false
is_same_object (Some o) None = false
is_same_object (Some o) (Some p) = o == p

-- both name one object, and neither is a hash
abbrev pub is_tied : Entry → Entry → Bool
is_tied e f = is_same_object (bound_to e) (bound_to f)
