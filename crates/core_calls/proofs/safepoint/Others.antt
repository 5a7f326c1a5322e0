-- What the safepoint word says of other threads, and of a thread that changes it.
use Rattle.std.proofs.Common.{◌≡◌, ◌⊎◌, ℕ, zero, suc, ◌-◌, ◌^◌, ◌<◌, ◌==◌, Bool, true, false, Option}
use Rattle.std.proofs.Common.{Some, None, refl, sym, ap, ◌∙◌, inl, inr, eq-eqb, true≢false, arith}
use Rattle.std.proofs.lemmas.Bool.{cases_lt}
use Rattle.std.proofs.lemmas.Nat.{pow_below}
use Rattle.std.proofs.lemmas.Nat.Bits.{bit_at-zero, bit_at-pow_same, bit_at_above}
use Rattle.std.specs.Prelude.{bit_and}
use Rattle.mark_word.specs.declared.safe.SafeForm.{SafeForm}
use Rattle.mark_word.specs.Safe.{IsSafeInRange, read_safe}
use Rattle.mark_word.proofs.ReadingSafepoints.{read_safe-safe_of, read_safe-spells}
use Rattle.plain_monitor.specs.Monitor.{is_thread}
use Rattle.core_world.specs.declared.answer.PendingCause.TheVariants.{Stopping, Requested}
use Rattle.core_world.specs.Words.Forms.{runs_form, runs_in, requester_form, requester_in, asks_in, still_form, is_still}
use Rattle.core_world.specs.Trees.SafepointSteps.{has_requester, all_but, running_too, requested_by, released_word, halted_word}
use Rattle.core_world.proofs.safepoint.SafeBits.{no_bits, without, including, masked, without_range, without_mine, including_range, including_mine}
use Rattle.core_calls.specs.Stands.{Stand, IsGoing, IsOff, IsHeld, IsOfAnother}

-- ANOTHER THREAD HAS THE REQUEST, where the word has one that is not the thread's own.
pub other_asks : (t word : ℕ) → has_requester word ≡ true → asks_in word t ≡ false → IsOfAnother t (Requested word)
other_asks t word has mine = cases (requester_in word) refl
  where
    cases : (r : Option ℕ) → requester_in word ≡ r → IsOfAnother t (Requested word)
    cases None is = absurd (true≢false (sym has ∙ ap (λ (r : Option ℕ). elim r [ None ↦ false | Some u ↦ true ]) is))
    cases (Some u) is = (
      u,
      (λ same. true≢false (sym (ap (λ r. is_thread r t) is ∙ eq-eqb u t same) ∙ mine)),
      ap (λ r. is_thread r u) is ∙ eq-eqb u u refl,
    )

-- ANOTHER THREAD RUNS, where some thread does, and the thread itself doesn't.
look_below : (f : SafeForm) (n : ℕ) → ((u : ℕ) × (runs_form (Some f) u ≡ true)) ⊎ ((u : ℕ) → u < n → runs_form (Some f) u ≡ false)
look_below f zero = inr (λ u low. absurd (omega (arith, low)))
look_below f (suc n) = cases (runs_form (Some f) n) refl (look_below f n)
  where
    cases : (b : Bool) → runs_form (Some f) n ≡ b → ((u : ℕ) × (runs_form (Some f) u ≡ true)) ⊎ ((u : ℕ) → u < n → runs_form (Some f) u ≡ false)
        → ((u : ℕ) × (runs_form (Some f) u ≡ true)) ⊎ ((u : ℕ) → u < suc n → runs_form (Some f) u ≡ false)
    cases b is (inl found) = inl found
    cases true is (inr none) = inl (n, is)
    cases false is (inr none) =
        inr (λ u low. elim (cases_lt u n) [
          | inl less ↦ none u less
          | inr more ↦ let same : u ≡ n = omega (arith, low, more) in ap (runs_form
              (Some f)) same ∙ is
        ])

some_runs : (f : SafeForm) → IsSafeInRange f → (f.running == 0) ≡ false → (u : ℕ) × (runs_form (Some f) u ≡ true)
some_runs f range moves = elim (look_below f 32) [
  | inl found ↦ found
  | inr none ↦ absurd (true≢false (sym (eq-eqb f.running 0 (no_bits f range (λ u. elim (cases_lt u 32) [
    | inl less ↦ none u less
    | inr more ↦ ap (λ n. n == 1) (bit_at_above f.running 32 u range.0 more)
  ]))) ∙ moves))
]

pub other_runs : (t word : ℕ) (f : SafeForm) → read_safe word ≡ Some f → is_still word ≡ false → runs_in word t ≡ false
    → IsOfAnother t (Stopping word)
other_runs t word f spells moves mine =
    let found = some_runs f (read_safe-spells word f spells).0 (ap still_form (sym spells) ∙ moves) in
    let runs : runs_in word found.0 ≡ true = ap (λ z. runs_form z found.0) spells ∙ found.1 in
    (found.0, (λ same. true≢false (sym runs ∙ ap (runs_in word) same ∙ mine)), runs)

-- HOW A THREAD STANDS by the safepoint word
abbrev pub stand_in : ℕ → ℕ → Stand
stand_in word t = record { running = runs_in word t; asking = asks_in word t }

module _ (t : ℕ) (low : t < 32) where
  -- after its release, and after the halt
  pub released_going : IsGoing (stand_in (released_word t) t)
  released_going =
      let reads = read_safe-safe_of (record { running = 2 ^ t; requester = None; halted = false }) (pow_below t 32 low, tt) in
      record { runs = ap (λ z. runs_form z t) reads ∙ ap (λ n. n == 1) (bit_at-pow_same t); asks = ap (λ z. is_thread (requester_form z) t) reads }

  pub halted_off : IsOff (stand_in halted_word t)
  halted_off =
      let reads = read_safe-safe_of (record { running = 0; requester = None; halted = true }) (omega arith, tt) in
      record { runs = ap (λ z. runs_form z t) reads ∙ ap (λ n. n == 1) (bit_at-zero t); asks = ap (λ z. is_thread (requester_form z) t) reads }

  module _ (word : ℕ) (f : SafeForm) (spells : read_safe word ≡ Some f) where
    range : IsSafeInRange f
    range = (read_safe-spells word f spells).0

    bit : (b : Bool) → runs_in word t ≡ b → runs_form (Some f) t ≡ b
    bit b is = ap (λ z. runs_form z t) (sym spells) ∙ is

    -- after its request
    pub requested_held : runs_in word t ≡ true → IsHeld (stand_in (requested_by (read_safe word) t) t)
    requested_held runs =
        let reads = ap (λ z. read_safe (requested_by z t)) spells ∙ read_safe-safe_of (record f { running = f.running - 2 ^ t; requester = Some t })
        ((without_range f t range low).0, low) in
        record {
          runs = ap (λ z. runs_form z t) reads ∙ without_mine f t range low (bit true runs);
          asks = ap (λ z. is_thread
              (requester_form z) t) reads ∙ eq-eqb t t refl;
        }

    -- after a resume
    pub resumed_going : runs_in word t ≡ false → asks_in word t ≡ false → IsGoing (stand_in (running_too (read_safe word) t) t)
    resumed_going stopped none =
        let reads = ap (λ z. read_safe (running_too z t)) spells ∙ read_safe-safe_of (including f t) (including_range f t range low (bit false stopped)) in
        record {
          runs = ap (λ z. runs_form z t) reads ∙ including_mine f t range low (bit false stopped);
          asks = ap (λ z. is_thread (requester_form z) t) reads ∙ ap (λ z. is_thread (requester_form z) t) (sym spells) ∙ none;
        }

    -- after a stop
    pub stopped_off : runs_in word t ≡ true → asks_in word t ≡ false → IsOff (stand_in (bit_and word (all_but t)) t)
    stopped_off runs none =
        let same = ap (λ n. bit_and n (all_but t)) (read_safe-spells word f spells).1 ∙ masked f t range low (bit true runs) in
        let reads = ap read_safe same ∙ read_safe-safe_of (without f t) (without_range f t range low) in
        record {
          runs = ap (λ z. runs_form z t) reads ∙ without_mine f t range low (bit true runs);
          asks = ap (λ z. is_thread (requester_form z) t) reads ∙ ap (λ z. is_thread (requester_form z) t) (sym spells) ∙ none;
        }
