-- A reached machine stays reached with more fuel, and its holds are told by its monitors.
use Rattle.std.proofs.Common.{◌≡◌, ℕ, zero, suc, ◌<◌, ◌≤◌, List, [], ◌∷◌, length, map, slice_get, Some, refl, sym, ap, ◌∙◌, subst, arith}
use Rattle.std.specs.List.{AllByRecursion}
use Rattle.std.proofs.lemmas.Option.{none-some, same_Some}
use Rattle.plain_monitor.specs.Objects.{PlainObject}
use Rattle.object_program.specs.Program.{ProgramText, objects_total}
use Rattle.plain_machine.specs.declared.monitor_call.Mode.{Mode}
use Rattle.plain_machine.specs.declared.monitor_call.Mode.TheVariants.{Calling, Waiting, Unwinding, Ended}
use Rattle.plain_machine.specs.Thread.{ThreadState}
use Rattle.plain_machine.specs.Machine.{PlainMachine}
use Rattle.machine_laws.specs.Reached.{AtEach, HasMonitor, HasMade, IsReached}
use Rattle.machine_laws.specs.References.{IsThere, ThreadRefersTo}
use Rattle.machine_laws.specs.ReachedMonitor.{StandsAt}
use Rattle.machine_laws.specs.ReachedThread.{IsStateOf, IsThreadOf, IsModeOf}
use Rattle.every_outcome.specs.Fuel.{with_fuel, refuelled}
use Rattle.every_outcome.proofs.Places.{length_map, get_unmap, same_list}

mode_full : (top : ℕ) (p : ProgramText) (s : ThreadState) (mode : Mode) → 1 ≤ top → IsModeOf p s mode → IsModeOf p (with_fuel top s) mode
mode_full top p s (Calling c) some h = (some, h.1)
mode_full top p s (Waiting o) some h = h
mode_full top p s (Unwinding e) some h = tt
mode_full top p s (Ended e) some h = h

threads_full : (top : ℕ) (p : ProgramText) (ss : List ThreadState) → 1 ≤ top → AllByRecursion (IsThreadOf p) ss
    → AllByRecursion (IsThreadOf p) (map (λ s. with_fuel top s) ss)
threads_full top p [] some h = tt
threads_full top p (s ∷ ss) some h =
    let st = h.0.state in
    let state : IsStateOf p (with_fuel top s) = record { holds = st.holds; few = st.few; dumps = st.dumps; locals = st.locals } in
    (record { state = state; mode = mode_full top p s s.mode some h.0.mode }, threads_full top p ss some h.1)

references_full : (top : ℕ) (These : ℕ → Type 0) (ss : List ThreadState) → AllByRecursion (ThreadRefersTo These) ss
    → AllByRecursion (ThreadRefersTo These) (map (λ s. with_fuel top s) ss)
references_full top These [] h = tt
references_full top These (s ∷ ss) h =
    (record { locals = h.0.locals; holds = h.0.holds; mode = h.0.mode }, references_full top These ss h.1)

pub reached_full : (top : ℕ) (m : PlainMachine) → 1 ≤ top → IsReached m → IsReached (refuelled top m)
reached_full top m some h =
    let same : length (map (λ s. with_fuel top s) m.threads) ≡ length m.threads = length_map (λ s. with_fuel top s) m.threads in
    record {
      program = h.program;
      thread_count = same ∙ h.thread_count;
      object_count = h.object_count;
      threads = threads_full top m.program m.threads some h.threads;
      slots = h.slots;
      hashes = h.hashes;
      monitors = subst (λ (n : ℕ). AtEach (HasMonitor n) m.objects) (sym same) h.monitors;
      standing = λ o x at t s here.
          let u = get_unmap (λ s. with_fuel top s) m.threads t s here in
          let k = h.standing o x at t u.0 u.1 in
          subst (λ (z : ThreadState). StandsAt o t x.monitor z) u.2 (record { holds = k.holds; listed = k.listed });
      row_count = h.row_count;
      rows = h.rows;
      made = λ t s here.
          let u = get_unmap (λ s. with_fuel top s) m.threads t s here in
          subst (λ (z : ThreadState). HasMade m.made t z) u.2 (h.made t u.0 u.1);
      references = references_full top (IsThere m.program m.made) m.threads h.references;
      slot_references = h.slot_references;
    }

there : (xs : List PlainObject) (k : ℕ) → k < length xs → (x : PlainObject) × (slice_get xs k ≡ Some x)
there [] k lt = absurd (omega (arith, lt))
there (x ∷ xs) zero lt = (x, refl)
there (x ∷ xs) (suc k) lt = there xs k (omega (arith, lt))

state_at : (p : ProgramText) (ss : List ThreadState) (t : ℕ) (s : ThreadState) → AllByRecursion (IsThreadOf p) ss → slice_get ss t ≡ Some s → IsThreadOf p s
state_at p [] t s h at = absurd (none-some s at)
state_at p (x ∷ ss) zero s h at = subst (IsThreadOf p) (same_Some x s at) h.0
state_at p (x ∷ ss) (suc t) s h at = state_at p ss t s h.1 at

-- so the encoding may leave the holds out
pub holds_told : (m n : PlainMachine) (t : ℕ) (s u : ThreadState) → IsReached m → IsReached n → m.program ≡ n.program → m.objects ≡ n.objects
    → slice_get m.threads t ≡ Some s → slice_get n.threads t ≡ Some u → s.holds ≡ u.holds
holds_told m n t s u h k same objects at at2 =
    let a = (state_at m.program m.threads t s h.threads at).state.holds in
    let b = (state_at n.program n.threads t u k.threads at2).state.holds in
    let lengths : length s.holds ≡ length u.holds = a ∙ ap objects_total same ∙ sym b in
    same_list s.holds u.holds lengths (λ o lt.
    let x = there m.objects o (omega (arith, lt, a, h.object_count)) in
    let there2 : slice_get n.objects o ≡ Some x.0 = ap (λ (xs : List PlainObject). slice_get xs o) (sym objects) ∙ x.1 in
    (h.standing o x.0 x.1 t s at).holds ∙ sym (k.standing o x.0 there2 t u at2).holds)
