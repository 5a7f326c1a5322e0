-- Looking through the threads of a machine for one that was cut short.
use Rattle.std.proofs.Common.{◌≡◌, ℕ, zero, suc, ◌+◌, ◌<◌, ◌||◌, Bool, List, [], ◌∷◌, length, drop, refl, arith, option_and_then, slice_get}
use Rattle.std.specs.List.{list_any}
use Rattle.plain_machine.specs.Thread.{ThreadState}
use Rattle.plain_machine.specs.Machine.{ending_in}
use Rattle.bias_cli.specs.Finish.{is_cut_short}

-- some of these threads was cut short
abbrev pub any_cut_short : List ThreadState → Bool
any_cut_short ss = list_any (λ s. is_cut_short (ending_in s.mode)) ss

pub any_next : (ss : List ThreadState) (t : ℕ) → t < length ss
    → any_cut_short (drop t ss) ≡ (is_cut_short (option_and_then (λ s. ending_in s.mode) (slice_get ss t)) || any_cut_short (drop (t + 1) ss))
any_next [] t h = absurd (omega arith)
any_next (s ∷ ss) zero h = refl
any_next (s ∷ ss) (suc t) h = let e : suc t + 1 ≡ suc (t + 1) = omega arith in rw e (any_next ss t (omega arith))
