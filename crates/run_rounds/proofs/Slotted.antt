-- Runners in the slots of a pool.
use Rattle.std.proofs.Common.{◌≡◌, ℕ, ◌<◌, true, false, Bool, List, [], ◌∷◌, Some, length, sym, ap, subst, arith, ⊎_elim, inl, inr}
use Rattle.std.specs.Prelude.{slice_get}
use Rattle.heap_table.specs.Seen.{HeapSeen}
use Rattle.object_program.specs.Program.{ProgramText}
use Rattle.thread_calls.specs.Timed.{IsTimed}
use Rattle.thread_frame.specs.Frames.{has_ended}
use Rattle.thread_interp.specs.Runners.{RunnerSeen}
use Rattle.turn_pool.specs.declared.word.Word.{Word}
use Rattle.turn_pool.specs.declared.word.Word.TheVariants.{Ready, Ended, Stopped}
use Rattle.turn_pool.specs.declared.rule.SeatView.{SeatView}
use Rattle.turn_pool.specs.Pool.{EndsOver, seat_view}
use Rattle.turn_pool.specs.Table.{Me, rest}
use Rattle.run_rounds.specs.Rounds.{IsRunnerAt, AreRunners, AreTimed}
use Rattle.run_rounds.specs.inner.Ends.{AreOver, AreDone}
use Rattle.run_rounds.specs.inner.Slots.{IsCourse, MayLie, StandsUnder}
use Rattle.run_rounds.specs.inner.Turns.{HasGoneOn}
use Rattle.run_rounds.proofs.Lists.{all_pass}
use Rattle.run_rounds.proofs.Seats.{same_held}
use Rattle.run_rounds.proofs.Stays.{stays_at}

-- a course is that of the call
pub as_called : (ch : HeapSeen) (cp : ProgramText) (cf ct : ℕ) (h : HeapSeen) (p : ProgramText) (fuel tick : ℕ) (w : Word) (i : ℕ)
    (r : RunnerSeen) → IsCourse ch cp cf ct h p fuel tick → MayLie ch cp cf ct w i r → MayLie h p fuel tick w i r
as_called ch cp cf ct h p fuel tick w i r is lies = record {
  at = subst (λ (x : HeapSeen × ProgramText × ℕ). IsRunnerAt x.0 x.1 x.2 i r) (λ j. (is.heap j, is.program j, is.fuel_is j)) lies.at;
  timed = subst (λ (x : ℕ). IsTimed x r.pass.known) is.tick_is lies.timed;
  stands = lies.stands;
}

pub as_course : (ch : HeapSeen) (cp : ProgramText) (cf ct : ℕ) (h : HeapSeen) (p : ProgramText) (fuel tick : ℕ) (w : Word) (i : ℕ)
    (r : RunnerSeen) → IsCourse ch cp cf ct h p fuel tick → MayLie h p fuel tick w i r → MayLie ch cp cf ct w i r
as_course ch cp cf ct h p fuel tick w i r is lies = as_called h p fuel tick ch cp cf ct w i r
    (record { heap = sym is.heap; program = sym is.program; fuel_is = sym is.fuel_is; tick_is = sym is.tick_is }) lies

-- what a worker holds that took the runner of this place
pub lies_held : {ch : HeapSeen} {cp : ProgramText} {cf ct : ℕ} {h : HeapSeen} {p : ProgramText} {fuel tick i : ℕ} {m : Me RunnerSeen SeatView}
    {x : RunnerSeen} → IsCourse ch cp cf ct h p fuel tick
    → ((r : RunnerSeen) × MayLie ch cp cf ct Ready i r × (m ≡ (seat_view 1 (Some i) false, (i, r) ∷ []))) → m.1 ≡ (i, x) ∷ rest m.1
    → MayLie h p fuel tick Ready i x
lies_held {ch} {cp} {cf} {ct} {h} {p} {fuel} {tick} {i} {m} {x} is t value =
    subst (λ (r : RunnerSeen). MayLie h p fuel tick Ready i r) (same_held m i t.0 x t.2 value) (as_called ch cp cf ct h p fuel tick Ready i t.0 is t.1)

-- after turns it may lie in its slot again
pub lies_on : (h : HeapSeen) (p : ProgramText) (fuel tick : ℕ) (u w : Word) (i : ℕ) (r q : RunnerSeen) → MayLie h p fuel tick u i r
    → HasGoneOn h p tick r q → StandsUnder w q → MayLie h p fuel tick w i q
lies_on h p fuel tick u w i r q lies gone stands = record {
  at = stays_at h p fuel i r q lies.at gone.may.runner gone.same gone.may.unchecked;
  timed = gone.timed lies.timed;
  stands = stands;
}

-- and who gave it turns may give it back
pub gives_back : {ch : HeapSeen} {cp : ProgramText} {cf ct : ℕ} {h : HeapSeen} {p : ProgramText} {fuel tick i : ℕ} {m : Me RunnerSeen SeatView}
    {x y : RunnerSeen} {w : Word} → IsCourse ch cp cf ct h p fuel tick
    → ((r : RunnerSeen) × MayLie ch cp cf ct Ready i r × (m ≡ (seat_view 1 (Some i) false, (i, r) ∷ []))) → m.1 ≡ (i, x) ∷ rest m.1
    → HasGoneOn h p tick x y → StandsUnder w y
    → let now : Me RunnerSeen SeatView = (m.0, (i, y) ∷ rest m.1) in (parts : ℕ) × (over : Bool) × (r : RunnerSeen) × (0 < parts)
    × (now ≡ (seat_view parts (Some i) over, (i, r) ∷ [])) × MayLie ch cp cf ct w i r
gives_back {ch} {cp} {cf} {ct} {h} {p} {fuel} {tick} {i} {m} {x} {y} {w} is t value gone stands =
    let none-left : rest m.1 ≡ [] = ap (λ (n : Me RunnerSeen SeatView). rest n.1) t.2 in (
      1,
      false,
      y,
      omega arith,
      (λ j. ((t.2 j).0, (i, y) ∷ none-left j)),
      as_course ch cp cf ct h p fuel tick w i y is (lies_on h p fuel tick Ready w i x y (lies_held is t value) gone stands),
    )

pub over_as_called : (ch : HeapSeen) (cp : ProgramText) (cf ct : ℕ) (h : HeapSeen) (p : ProgramText) (fuel tick : ℕ) (rs : List RunnerSeen)
    → IsCourse ch cp cf ct h p fuel tick → EndsOver (MayLie ch cp cf ct) rs → EndsOver (MayLie h p fuel tick) rs
over_as_called ch cp cf ct h p fuel tick rs is over = ⊎_elim
    (λ (all : (i : ℕ) (r : RunnerSeen) → slice_get rs i ≡ Some r → MayLie ch cp cf ct Ended i r).
    inl (λ i r e. as_called ch cp cf ct h p fuel tick Ended i r is (all i r e)))
    (λ (one : (i : ℕ) × (r : RunnerSeen) × (slice_get rs i ≡ Some r) × MayLie ch cp cf ct Stopped i r).
    inr (one.0, one.1, one.2, as_called ch cp cf ct h p fuel tick Stopped one.0 one.1 is one.3))
    over

module _ (h : HeapSeen) (p : ProgramText) (fuel tick : ℕ) (rs : List RunnerSeen) where
  pub all_lie : AreRunners h p fuel rs → AreTimed tick rs → (i : ℕ) (r : RunnerSeen) → slice_get rs i ≡ Some r → MayLie h p fuel tick Ready i r
  all_lie are timed i r e = record { at = are i r e; timed = timed i r e; stands = tt }

  are_over : EndsOver (MayLie h p fuel tick) rs → (halted : Bool) × AreOver rs halted
  are_over over = ⊎_elim
      (λ (all : (i : ℕ) (r : RunnerSeen) → slice_get rs i ≡ Some r → MayLie h p fuel tick Ended i r).
      (false, all_pass (λ (r : RunnerSeen). has_ended r.frame) rs (λ i r e. (all i r e).stands)))
      (λ (one : (i : ℕ) × (r : RunnerSeen) × (slice_get rs i ≡ Some r) × MayLie h p fuel tick Stopped i r).
      (true, (one.0, one.1, one.2, one.3.stands)))
      over

  -- those that lie there at the end
  pub are_done : (count : ℕ) → length rs ≡ count
      → ((i : ℕ) (r : RunnerSeen) → slice_get rs i ≡ Some r → (w : Word) × MayLie h p fuel tick w i r) → EndsOver (MayLie h p fuel tick) rs
      → AreDone h p fuel tick count rs
  are_done count many lie over = record {
    runners = λ i r e. (lie i r e).1.at;
    timed = λ i r e. (lie i r e).1.timed;
    many = many;
    over = are_over over;
  }
