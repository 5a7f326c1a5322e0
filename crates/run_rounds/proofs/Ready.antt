-- The runners on the passes of a heap that begins are ready.
use Rattle.std.proofs.Common.{◌≡◌, ℕ, zero, suc, ◌+◌, ◌<◌, ◌≤◌, length, map, Some, refl, ap, ◌∙◌, subst, arith}
use Rattle.std.specs.Prelude.{slice_get}
use Rattle.std.proofs.lemmas.Option.{none-some, same_Some}
use Rattle.plain_monitor.specs.Limits.{most_fuel, entries_for}
use Rattle.core_world.specs.Opening.{first_known}
use Rattle.heap_table.specs.Fresh.{IsFresh}
use Rattle.heap_table.specs.Resting.{Rests}
use Rattle.heap_table.specs.Seen.{HeapSeen, PassSeen, first_pass, first_passes}
use Rattle.heap_table.proofs.Resting.{fresh_rests}
use Rattle.object_program.specs.Program.{ProgramText}
use Rattle.run_rounds.specs.Rounds.{AreReady, IsRunnerAt}
use Rattle.thread_calls.specs.Between.{IsHeapOf, IsOn}
use Rattle.thread_calls.specs.Timed.{IsTimed}
use Rattle.thread_frame.specs.Frames.{first_frame}
use Rattle.thread_interp.specs.Runners.{RunnerSeen}
use Rattle.run_rounds.specs.inner.First.{runner_on}

-- the law that is asked of unused passes
abbrev pub Unused : Type 0
Unused = (h : HeapSeen) (p : ProgramText) (fuel : ℕ) (pass : PassSeen) → IsHeapOf h p → Rests h pass
    → pass.known ≡ first_known pass.known.thread → fuel ≤ most_fuel → pass.limit ≡ entries_for fuel → IsOn h p fuel pass (first_frame fuel)

-- which runner has a place
runner_at : (h : HeapSeen) (limit fuel u n t : ℕ) (r : RunnerSeen) → slice_get (map (runner_on fuel) (first_passes h limit u n)) t ≡ Some r
    → (t < n) × (runner_on fuel (first_pass h limit (u + t)) ≡ r)
runner_at h limit fuel u zero t r e = absurd (none-some r e)
runner_at h limit fuel u (suc n) zero r e =
    let same : u + 0 ≡ u = omega arith in
    (omega arith, ap (λ v. runner_on fuel (first_pass h limit v)) same ∙ same_Some (runner_on fuel (first_pass h limit u)) r e)
runner_at h limit fuel u (suc n) (suc t) r e =
    let others = runner_at h limit fuel (suc u) n t r e in
    let same : u + suc t ≡ suc u + t = omega arith in
    (omega (arith, others.0), ap (λ v. runner_on fuel (first_pass h limit v)) same ∙ others.1)

passes_many : (h : HeapSeen) (limit fuel u n : ℕ) → length (map (runner_on fuel) (first_passes h limit u n)) ≡ n
passes_many h limit fuel u zero = refl
passes_many h limit fuel u (suc n) = ap suc (passes_many h limit fuel (suc u) n)

module _ (unused : Unused) (h : HeapSeen) (p : ProgramText) (fuel tick : ℕ) (is : IsHeapOf h p) (few : fuel ≤ most_fuel)
    (fresh : (t : ℕ) → t < h.heap.shape.threads → IsFresh h t (first_pass h (entries_for fuel) t)) where
  abbrev seated : ℕ → RunnerSeen
  seated t = runner_on fuel (first_pass h (entries_for fuel) t)

  new_at : (t : ℕ) → t < h.heap.shape.threads → IsRunnerAt h p fuel t (seated t)
  new_at t within =
      let rests = fresh_rests h t (first_pass h (entries_for fuel) t) (fresh t within) in
      record {
        runner = record { on = unused h p fuel (first_pass h (entries_for fuel) t) is rests refl few refl; still = refl };
        thread = refl;
        fuel_is = refl;
        unchecked = refl;
      }

  here : (t : ℕ) (r : RunnerSeen) → (t < h.heap.shape.threads) × (seated t ≡ r) → IsRunnerAt h p fuel t r
  here t r at = subst (IsRunnerAt h p fuel t) at.1 (new_at t at.0)

  pub are_ready : h.room ≡ entries_for fuel → AreReady h p fuel tick (map (runner_on fuel) (first_passes h (entries_for fuel) 0 h.heap.shape.threads))
  are_ready room =
      record {
        runners = λ t r e.
            let at = runner_at h (entries_for fuel) fuel 0 h.heap.shape.threads t r e in
            let same : t ≡ 0 + t = omega arith in
            here t r (at.0, ap seated same ∙ at.1);
        timed = λ t r e.
            subst (λ (x : RunnerSeen). IsTimed tick x.pass.known)
            (runner_at h (entries_for fuel) fuel 0 h.heap.shape.threads t r e).1 (record { calls = tt; counts = tt });
        room = room;
        count = passes_many h (entries_for fuel) fuel 0 h.heap.shape.threads;
      }
