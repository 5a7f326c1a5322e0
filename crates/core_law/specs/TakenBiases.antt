-- What the logs say of whose a bias is: who took the bias of an object, and who entered by a bias of its own.
use Rattle.std.specs.Prelude.{◌≡◌, ℕ, ◌+◌, ◌==◌, Bool, true, false, List, [], ◌∷◌, ◌++◌}
use Rattle.std.specs.List.{list_any}
use Rattle.plain_monitor.specs.declared.entry.Entry.{Entry}
use Rattle.plain_monitor.specs.declared.entry.Entry.TheVariants.{Enter}
use Rattle.plain_monitor.specs.declared.entry.Logged.{Logged}
use Rattle.plain_monitor.specs.declared.entry.Path.TheVariants.{BiasOwn, BiasTaken}
use Rattle.core_world.specs.Threads.Stages.{one_if}

-- an Enter of o with which its thread took the bias
abbrev pub takes_bias : ℕ → Entry → Bool
takes_bias o (Enter object BiasTaken) = object == o
takes_bias o _ = false

abbrev pub has_taken : ℕ → List Logged → Bool
has_taken o log = list_any (λ l. takes_bias o l.entry) log

-- who enters an object by a bias of its own has logged before that it took the bias of that object
abbrev pub OwnsAreTaken : List Logged → Type 0
OwnsAreTaken log =
    (o : ℕ) (before : List Logged) (l : Logged) (later : List Logged)
    → log ≡ before ++ l ∷ later → l.entry ≡ Enter o BiasOwn → has_taken o before ≡ true

-- how often the bias of o was taken, by these entries
abbrev pub times_taken : ℕ → List Entry → ℕ
times_taken o [] = 0
times_taken o (e ∷ es) = one_if (takes_bias o e) + times_taken o es
