-- Releases of a safepoint after which some clause fails: a revocation has left something undone.
use Rattle.core_locks.proofs.Prelude.{◌≡◌, ◌≢◌, ◌⊎◌, ℕ, ◌<◌, ◌≤◌, ◌^◌, ◌==◌, ◌||◌, ne_eqb, Bool, true, false, cond, if◌then◌else◌, List}
use Rattle.core_locks.proofs.Prelude.{slice_index, Some, None, refl, sym, ap, ◌∙◌, arith, inl, inr, pow_below, bit_at-pow_same, bit_at-pow_other}
use Rattle.core_locks.proofs.Prelude.{read_mark, mark_of, Biased, Locked, read_safe-safe_of, is_thread, is_listed, PlainObject, Safepoint}
use Rattle.core_locks.proofs.Prelude.{Mark, Displaced, StepPlan, hold_word, is_biased_form, is_neutral, monitor_in, runs_in, runs_form}
use Rattle.core_locks.proofs.Prelude.{epoch_in, bears, hold_words_ahead, ThreadView, World, Open, BiasedTo, OnRecord, lock, lock_form}
use Rattle.core_locks.proofs.Prelude.{has_epoch, holder, hold_count, owner_words, prototype_of, inflations, holds_by_monitor, monitor_of}
use Rattle.core_locks.proofs.Prelude.{owner_at, waits_at, notified_at, CallContext, hits, word_after, Fits, Valid, world_after, reached_word}
use Rattle.core_locks.proofs.Prelude.{released_word, each_with_known, with_known_here, by_equal, unlisted_count, hold_some}
use Rattle.core_world.specs.Trees.BiasSteps.{stage_after}
use Rattle.core_world.specs.Threads.Stages.{Revocation}
use Rattle.core_locks.proofs.enter_exit.HoldCounts.{hold_tells}
use Rattle.core_locks.proofs.MarkMeanings.{locked_read, locked_lock, neutral_bare, neutral_lock}
use Rattle.core_locks.proofs.RefutedSteps.{hit, hit_fits, knows, swap_hits}
use Rattle.core_bias.specs.Revoking.{IsReleasing}
use Rattle.core_bias.proofs.Releases.{not_true}
use Rattle.core_world.specs.Trees.SafepointSteps.{release_plan}

module _ (w : World) (r : ℕ) (e : CallContext) (b : Revocation) (took : Bool) (is : IsReleasing w r)
    (valid : Valid (world_after (release_plan e (stage_after took b.object) r) r w)) where
  abbrev plan : StepPlan
  plan = release_plan e (stage_after took b.object) r

  -- the world after it, in which the thread runs
  abbrev x : World
  x = hit plan r w

  left : (hits plan.act (w.words Safepoint) ≡ true) × (word_after plan.act (w.words Safepoint) ≡ released_word r)
  left = swap_hits (w.words Safepoint) (reached_word r) (released_word r) is.safe

  runs : (knows plan r w).running ≡ true
  runs =
      let reads = read_safe-safe_of (record { running = 2 ^ r; requester = None; halted = false }) (pow_below r 32 is.few, tt) in
      ap (λ n. runs_in n (w.known r).thread) left.1 ∙ ap (λ f. runs_form f (w.known r).thread) reads
      ∙ ap (runs_form (Some (record { running = 2 ^ r; requester = None; halted = false }))) is.thread ∙ ap (λ n. n == 1) (bit_at-pow_same r)

  released : (Q : List PlainObject) × Fits x Q
  released = hit_fits plan r w left.0 runs valid

  abbrev Q : List PlainObject
  Q = released.0

  v : Fits x Q
  v = released.1

  holds : (u : ℕ) → (x.known u).holds ≡ (w.known u).holds
  holds u = each_with_known (λ u y. y.holds ≡ (w.known u).holds) r (knows plan r w) w.known u refl (λ d. refl)

  -- nobody else runs
  stopped : (u : ℕ) → u ≢ r → (x.known u).running ≡ false
  stopped u d =
      let reads = read_safe-safe_of (record { running = 2 ^ r; requester = None; halted = false }) (pow_below r 32 is.few, tt) in
      sym (v.safe.bits u) ∙ ap (λ n. runs_in n u) left.1 ∙ ap (λ f. runs_form f u) reads ∙ ap (λ n. n == 1) (bit_at-pow_other r u d)

  -- so neither a thread that is stopped, and stands in the middle of nothing, nor the one that released has hold words besides those of its log
  no_more : (t o : ℕ) → hold_words_ahead (x.known t).stage o ≡ 0
  no_more t o = by_equal t r
      (λ e. ap (λ u. hold_words_ahead (x.known u).stage o) e
      ∙ ap (λ (k : ThreadView). hold_words_ahead k.stage o) (with_known_here r (knows plan r w) w.known) ∙ after_release took)
      (λ d. elim (v.quiet.quiet t (stopped t d)) [ inl a ↦ ap (λ s. hold_words_ahead s o) a | inr a ↦ ap (λ s. hold_words_ahead s o) a.1.1 ])
    where
      after_release : (a : Bool) → hold_words_ahead (stage_after a b.object) o ≡ 0
      after_release true = refl
      after_release false = refl

  -- AN OBJECT THAT IS NEUTRAL has no owner, and nobody waits on it
  module _ (t o : ℕ) (neutral : is_neutral (w.words (Mark o)) ≡ true) where
    unnamed : monitor_in (w.words (Mark o)) ≡ None
    unnamed = (neutral_bare (w.words (Mark o)) neutral).unnamed

    unlisted : (is_listed (waits_at Q o) t ≡ true) ⊎ (is_listed (notified_at Q o) t ≡ true) → ⊥
    unlisted h = let some = (v.waits.inflated o t h).1 in absurd (cc (some, unnamed))

    unowned : owner_at Q o t ≡ false
    unowned = not_true (owner_at Q o t) (λ h.
        let open_now : lock x o ≡ Open = neutral_lock (w.words (Mark o)) (prototype_of x o) (owner_words x) (inflations x o) neutral in
        let nobody = ap (λ f. is_thread (holder f (λ u. hold_count o (x.known u).holds)) t) open_now in
        let somebody = v.owners.same o t ∙ ap (λ a. a || bears (x.known t).stage o) h in
        absurd (cc (nobody, somebody)))

    stands_not : holds_by_monitor (monitor_of Q o) t ≡ 0
    stands_not =
        let waits = unlisted_count (waits_at Q o) t (not_true _ (λ h. unlisted (inl h))) in
        let called = unlisted_count (notified_at Q o) t (not_true _ (λ h. unlisted (inr h))) in
        let owns = ap (λ a. cond a (monitor_of Q o).count 0) unowned in
        omega (arith, waits, called, owns)

  -- A MARK THAT IS BIASED to a thread, and not validly
  stale : (t o epoch age : ℕ) → read_mark (w.words (Mark o)) ≡ Some (Biased t epoch age)
      → has_epoch (epoch_in (prototype_of w o)) epoch ≡ false → 1 ≤ hold_count o (w.known t).holds → ⊥
  stale t o epoch age reads old held =
      let open_now : lock x o ≡ Open = ap (λ f. lock_form f (prototype_of x o) (owner_words x) (inflations x o)) reads
      ∙ ap (λ (c : Bool). if c then BiasedTo t else Open) old in
      let none = v.biases.unheld o t (ap is_biased_form reads) (λ h. absurd (cc (open_now, h))) in
      omega (arith, none, held, ap (hold_count o) (holds t))

pub no_neutral : (w : World) (r t o : ℕ) (e : CallContext) (b : Revocation) (took : Bool)
    → IsReleasing w r → is_neutral (w.words (Mark o)) ≡ true → 1 ≤ hold_count o (w.known t).holds
    → Valid (world_after (release_plan e (stage_after took b.object) r) r w) → ⊥
no_neutral w r t o e b took is neutral held valid =
    let number = (v w r e b took is valid).holds.number t o in
    omega (
      arith,
      number,
      stands_not w r e b took is valid t o neutral,
      no_more w r e b took is valid t o,
      held,
      ap (hold_count o) (holds w r e b took is valid t),
    )

pub no_header : (w : World) (r t o p q d : ℕ) (e : CallContext) (b : Revocation) (took : Bool)
    → IsReleasing w r → t < 32 → p < 64 → w.words (Mark o) ≡ mark_of (Locked t p)
    → slice_index (w.known t).holds q ≡ hold_word o d → 2 ≤ d → d ≤ 64 → w.words (Displaced t q) ≢ 0
    → Valid (world_after (release_plan e (stage_after took b.object) r) r w) → ⊥
no_header w r t o p q d e b took is few place mark held deep small some valid =
    let y = x w r e b took is valid in
    let f = v w r e b took is valid in
    let rests : lock y o ≡ OnRecord t p =
    locked_lock (w.words (Mark o)) t p (prototype_of y o) (owner_words y) (inflations y o) (ap read_mark mark ∙ locked_read t p few place) in
    let hold : slice_index (y.known t).holds q ≡ hold_word o d = ap (λ hs. slice_index hs q) (holds w r e b took is valid t) ∙ held in
    let other : q ≢ p = λ s.
    let here : slice_index (y.known t).holds p ≡ hold_word o d = ap (slice_index (y.known t).holds) (sym s) ∙ hold in
    elim (f.records.first o t p rests) [
      | inl a ↦ let same = (hold_tells o d o 1 small (omega arith) (sym here ∙ a)).1 in omega (arith, same, deep)
      | inr a ↦ hold_some o d (sym here ∙ (f.records.seized o t p a).1)
    ] in
    some (f.records.others o t p q d rests hold small other)

pub no_old_epoch : (w : World) (r t o epoch age now : ℕ) (e : CallContext) (b : Revocation) (took : Bool)
    → IsReleasing w r → read_mark (w.words (Mark o)) ≡ Some (Biased t epoch age)
    → epoch_in (prototype_of w o) ≡ Some now → now ≢ epoch → 1 ≤ hold_count o (w.known t).holds
    → Valid (world_after (release_plan e (stage_after took b.object) r) r w) → ⊥
no_old_epoch w r t o epoch age now e b took is reads class old held valid =
    stale w r e b took is valid t o epoch age reads (ap (λ z. has_epoch z epoch) class ∙ ne_eqb now epoch old) held

pub no_revoked : (w : World) (r t o epoch age : ℕ) (e : CallContext) (b : Revocation) (took : Bool)
    → IsReleasing w r → read_mark (w.words (Mark o)) ≡ Some (Biased t epoch age)
    → epoch_in (prototype_of w o) ≡ None → 1 ≤ hold_count o (w.known t).holds → Valid (world_after (release_plan e (stage_after took b.object) r) r w) → ⊥
no_revoked w r t o epoch age e b took is reads class held valid = stale w r e b took is valid t o epoch age reads (ap (λ z. has_epoch z epoch) class) held
