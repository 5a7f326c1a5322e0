-- How often a thread stands at a monitor, and with which counts.
use Rattle.std.specs.Prelude.{ℕ, ◌+◌, ◌==◌, if◌then◌else◌, List, [], ◌∷◌}
use Rattle.plain_monitor.specs.Monitor.{PlainMonitor, owns}

-- what the places of t in the list weigh together
abbrev pub tally : (ℕ × ℕ → ℕ) → List (ℕ × ℕ) → ℕ → ℕ
tally weight [] t = 0
tally weight (p ∷ ps) t = (if p.0 == t then weight p else 0) + tally weight ps t

-- how often t is listed
abbrev pub times_in : List (ℕ × ℕ) → ℕ → ℕ
times_in ps t = tally (λ p. 1) ps t

-- the counts that t is listed with, together
abbrev pub counts_in : List (ℕ × ℕ) → ℕ → ℕ
counts_in ps t = tally (λ p. p.1) ps t

-- how often t stands among the owner, those who wait and those who were called
abbrev pub presence : PlainMonitor → ℕ → ℕ
presence m t = (if owns m t then 1 else 0) + times_in m.waits t + times_in m.called t
