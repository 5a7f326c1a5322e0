-- What contracts see of a `Found`.
use Rattle.std.specs.Prelude.{map}
use Rattle.state_search.specs.declared.found.Found.TheInside.{Inside}
use Rattle.state_search.specs.Found.{Keys}

abbrev pub found_keys : Inside → Keys
found_keys a = record { keys = map (λ v. v.items) a.keys.keys; origins = a.origins.items; gone = a.gone }
