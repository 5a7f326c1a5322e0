-- Where a log ends for a pass.
use Rattle.std.specs.Prelude.{ℕ, ◌+◌, min, Bool, true, false}
use Rattle.core_world.specs.Clauses.Lengths.{log_limit}

-- How many entries the log may have before the pass hands out its next page: no more than the page has room for, where entries are kept, and no more than
-- stamps allow.
abbrev pub end_by : Bool → ℕ → ℕ → ℕ
end_by true given room = min (given + room) log_limit
end_by false given room = log_limit
