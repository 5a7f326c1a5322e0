-- How the threads stand after the last line.
use Rattle.std.proofs.Common.{◌≡◌, ℕ, zero, suc, ◌+◌, ◌<◌, Bool, false, not, List, [], ◌∷◌, length, drop, refl, arith, add-one, Option, Some, None, slice_get}
use Rattle.std.specs.Prelude.{option_and_then}
use Rattle.std.specs.List.{list_all}
use Rattle.plain_monitor.specs.declared.entry.Ending.{Ending}
use Rattle.plain_machine.specs.Thread.{ThreadState}
use Rattle.plain_machine.specs.Machine.{ending_in, is_live}

abbrev pub all_over : List ThreadState → Bool
all_over ss = list_all (λ s. not (is_live s)) ss

abbrev pub ending_at : List ThreadState → ℕ → Option Ending
ending_at ss t = option_and_then (λ s. ending_in s.mode) (slice_get ss t)

live_by : (s : ThreadState) (ss : List ThreadState) (e : Option Ending) → ending_in s.mode ≡ e → e ≡ None → all_over (s ∷ ss) ≡ false
live_by s ss None h k = rw h refl
live_by s ss (Some e) h k = absurd (cc k)

-- a thread that has not ended
pub live_stops : (ss : List ThreadState) (t : ℕ) → t < length ss → ending_at ss t ≡ None → all_over (drop t ss) ≡ false
live_stops [] t h e = absurd (omega (arith, h))
live_stops (s ∷ ss) zero h e = live_by s ss (ending_in s.mode) refl e
live_stops (s ∷ ss) (suc t) h e = live_stops ss t (omega (arith, h)) e

over_by : (s : ThreadState) (ss : List ThreadState) (e : Ending) (f : Option Ending) → ending_in s.mode ≡ f → f ≡ Some e → all_over ss ≡ all_over (s ∷ ss)
over_by s ss e None h k = absurd (cc k)
over_by s ss e (Some g) h k = rw h refl

over_goes : (ss : List ThreadState) (t : ℕ) (e : Ending) → ending_at ss t ≡ Some e → all_over (drop (suc t) ss) ≡ all_over (drop t ss)
over_goes [] t e h = absurd (cc h)
over_goes (s ∷ ss) zero e h = over_by s ss e (ending_in s.mode) refl h
over_goes (s ∷ ss) (suc t) e h = over_goes ss t e h

-- one that has
pub ended_goes : (ss : List ThreadState) (t : ℕ) (e : Ending) → ending_at ss t ≡ Some e → all_over (drop (t + 1) ss) ≡ all_over (drop t ss)
ended_goes ss t e h = rw add-one (over_goes ss t e h)
