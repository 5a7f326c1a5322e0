-- What is counted of the machines that a search of a program found.
use Rattle.std.specs.Prelude.{◌≡◌, ℕ, ◌+◌, Bool, true, false, if◌then◌else◌, List, [], ◌∷◌, length, map, Option, Some, None, count_by}
use Rattle.std.specs.List.{list_any}
use Rattle.plain_monitor.specs.Limits.{most_fuel}
use Rattle.object_program.specs.Program.{ProgramText}
use Rattle.every_outcome.specs.NoHash.{is_hash_code}
use Rattle.machine_words.specs.MachineWords.{machine_of}
use Rattle.state_search.specs.Found.{Keys}
use Rattle.state_search.specs.Search.{IsSearch}
use Rattle.outcome_search.specs.declared.ends.End.{End}
use Rattle.outcome_search.specs.declared.ends.End.TheVariants.{Spent, Stuck, Faulted, Ended}
use Rattle.outcome_search.specs.declared.outcome.Outcomes.{Outcomes}
use Rattle.outcome_search.specs.Ends.{end_of}
use Rattle.outcome_search.specs.NextWords.{first_key, next_key}

-- the most fuel that a run may have
unfoldable pub top_fuel : ℕ
top_fuel = most_fuel

-- entries that go alone, made at once
unfoldable pub top_steps : ℕ
top_steps = 64

-- some thread has a `hash` instruction
abbrev pub has_hash : ProgramText → Bool
has_hash p = list_any (λ d. list_any is_hash_code d.code) p.threads

abbrev pub is_end : End → Option End → Bool
is_end Spent (Some Spent) = true
is_end Stuck (Some Stuck) = true
is_end Faulted (Some Faulted) = true
is_end Ended (Some Ended) = true
is_end end other = false

-- how the machines of these keys end
abbrev pub ends_of : ProgramText → ℕ → List (List ℕ) → List (Option End)
ends_of p fuel keys = map (λ key. end_of (machine_of p fuel key)) keys

-- how many end so
abbrev pub ends_so : End → List (Option End) → ℕ
ends_so end ends = count_by (λ e. is_end end e) ends

-- which is the first that ends so, where these have the numbers from k on
abbrev pub first_so : End → ℕ → List (Option End) → Option ℕ
first_so end k [] = None
first_so end k (e ∷ es) = if is_end end e then Some k else first_so end (k + 1) es

-- the counts of a search with this fuel, so many entries that go alone at once, and at most so many machines
pub record IsCountedBy (p : ProgramText) (fuel steps most : ℕ) (found : Keys) (o : Outcomes) : Type 0 where
  pub search : IsSearch (next_key p fuel steps) (length p.threads) (first_key p fuel steps) most found
  pub states : o.states ≡ length found.keys
  pub «open» : o.«open» + found.gone ≡ length found.keys
  pub ended : o.ended ≡ ends_so Ended (ends_of p fuel found.keys)
  pub faulted : o.faulted ≡ ends_so Faulted (ends_of p fuel found.keys)
  pub stuck : o.stuck ≡ ends_so Stuck (ends_of p fuel found.keys)
  pub spent : o.spent ≡ ends_so Spent (ends_of p fuel found.keys)
  pub first_stuck : o.first_stuck ≡ first_so Stuck 0 (ends_of p fuel found.keys)
  pub first_faulted : o.first_faulted ≡ first_so Faulted 0 (ends_of p fuel found.keys)

-- the counts of a search that has the most fuel
abbrev pub IsCounted : ProgramText → ℕ → Keys → Outcomes → Type 0
IsCounted p most found o = IsCountedBy p top_fuel top_steps most found o
