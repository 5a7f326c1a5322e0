-- How many entries a log of a planned heap may have before its first page is handed out.
use Rattle.std.specs.Prelude.{ℕ, ◌==◌, ◌^◌, if◌then◌else◌}
use Rattle.plain_monitor.specs.Limits.{entries_for}

-- where entries aren't kept, more than a log may have
abbrev pub first_limit : ℕ → ℕ
first_limit fuel = if fuel == 0 then 2 ^ 42 else entries_for fuel
