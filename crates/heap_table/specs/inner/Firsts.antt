-- What the threads know at first.
use Rattle.std.specs.Prelude.{ℕ, zero, suc, List, [], ◌∷◌}
use Rattle.core_world.specs.Threads.ThreadView.{ThreadView}
use Rattle.core_world.specs.Opening.{first_known}

-- n threads from t on
abbrev pub first_knowns : ℕ → ℕ → List ThreadView
first_knowns t zero = []
first_knowns t (suc n) = first_known t ∷ first_knowns (suc t) n
