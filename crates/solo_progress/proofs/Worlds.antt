-- What a valid world's words are where all threads but one have stopped.
use Rattle.core_locks.proofs.Prelude.{◌≡◌, ◌≢◌, ℕ, ◌+◌, ◌^◌, ◌<◌, ◌==◌, ◌||◌, ◌*◌, cond, not, Bool, true, false, List, Some, None, refl}
use Rattle.core_locks.proofs.Prelude.{sym, ap, ◌∙◌, arith, inl, inr, nat_tests, eq-eqb, eqb-true, by_equal, or-false, PlainObject, Safepoint}
use Rattle.core_locks.proofs.Prelude.{Mark, Prototype, Settled, inflation_in, revocation_in, World, Fits, class_by, who, lock_form}
use Rattle.core_locks.proofs.Prelude.{owner_words, owner_at, monitor_of, hold_count, SafeForm, safe_of, read_safe, read_mark, bears}
use Rattle.core_locks.proofs.Prelude.{bit_at-pow_same, bit_at-pow_other, bit_at-lt, pow_below, same_from_bits_below, bit_at-zero}
use Rattle.std.specs.Int.{bit_at}
use Rattle.core_world.specs.Locks.{holder}
use Rattle.mark_word.proofs.ReadingSafepoints.{read_safe-spells}
use Rattle.core_world.proofs.enter_exit.ObjectHolds.{same_owner}
use Rattle.core_world.specs.RevocationRules.{holds_in}
use Rattle.core_world.specs.Valid.{IsValid}
use Rattle.core_world.specs.Words.Forms.{runs_form, requester_form, halted_form, is_halted}
use Rattle.plain_monitor.specs.Monitor.{is_thread}
use Rattle.core_bias.proofs.DisplacedTurns.{no_inflation}
use Rattle.core_bias.proofs.Places.{holds_are}
use Rattle.core_locks.proofs.safepoint.SafeFacts.{safe_form, running_unhalted, asking_unhalted, few_bits}
use Rattle.solo_progress.specs.Alone.{Quiet, word_of_one}
use Rattle.solo_progress.specs.Answers.{who_in}
use Rattle.solo_progress.specs.LeftAlone.{IsLeftAlone}

-- every clause holds: a revocation is under way only where its thread asks and stands in the middle of it
pub alone_fits : (w : World) (P : List PlainObject) (t : ℕ) → IsLeftAlone w t → IsValid w P → Fits w P
alone_fits w P t a (inl fits) = fits
alone_fits w P t a (inr s) =
    let reached : (w.known s.requester).reached ≡ true = ap (λ k. k.reached) s.knows ∙ s.reached in
    let asks = (s.safe.safepoint s.requester reached).0 in
    by_equal s.requester t
    (λ e. let none = ap (λ u. revocation_in (w.known u).stage) e ∙ ap revocation_in a.calm in let some = s.its_revocation in absurd
    (cc (none, some)))
    (λ d. let none = a.unasked s.requester d in absurd (cc (none, asks)))

module _ (w : World) (P : List PlainObject) (t : ℕ) (a : IsLeftAlone w t) (fits : Fits w P) where
  pub all_calm : (u : ℕ) → (w.known u).stage ≡ Settled
  all_calm u =
      by_equal u t (λ e. ap (λ i. (w.known i).stage) e ∙ a.calm)
      (λ d. elim (fits.quiet.quiet u (a.stopped u d)) [
        | inl calm ↦ calm
        | inr (reached, takes) ↦ (let none = a.unasked u d in let asks = (fits.safe.safepoint u reached).0 in absurd (cc (none, asks)))
      ])

  pub no_mark_0 : (o : ℕ) → w.words (Mark o) ≢ 0
  no_mark_0 o z =
      let i = fits.inflating.some o z in
      let none = ap inflation_in (all_calm i.0) in
      let some = i.2 in
      absurd (cc (none, some))

  pub prototype_some : (c : ℕ) → w.words (Prototype c) ≢ 0
  prototype_some c z = cases w.biasing refl
    where
      some_of : (b : Bool) (n : ℕ) → cond b (n * 256 + 5) 1 ≢ 0
      some_of true n e = absurd (omega (arith, e))
      some_of false n e = absurd (omega (arith, e))

      cases : (b : Bool) → w.biasing ≡ b → ⊥
      cases false e = let one = (fits.classes.plain e c).0 in absurd (omega (arith, one, z))
      cases true e = some_of _ _ (sym (fits.classes.prototypes e c) ∙ z)

  -- THE SAFEPOINT WORD
  low : t < 32
  low = few_bits w P t fits a.within

  bits : (f : SafeForm) → read_safe (w.words Safepoint) ≡ Some f → (r : Bool) → (w.known t).running ≡ r → f.running ≡ cond r (2 ^ t) 0
  bits f reads r runs =
      same_from_bits_below 32 f.running (cond r (2 ^ t) 0) (read_safe-spells (w.words Safepoint) f reads).0.0 (small r) each
    where
      small : (r : Bool) → cond r (2 ^ t) 0 < 2 ^ 32
      small true = pow_below t 32 low
      small false = omega arith

      tested : (u : ℕ) → (bit_at f.running u == 1) ≡ (w.known u).running
      tested u = ap (λ z. runs_form z u) (sym reads) ∙ fits.safe.bits u

      bit_is : (u : ℕ) (b : Bool) → (w.known u).running ≡ b → bit_at f.running u ≡ cond b 1 0
      bit_is u true e = eqb-true (bit_at f.running u) 1 (tested u ∙ e)
      bit_is u false e = let unset = tested u ∙ e in let few = bit_at-lt f.running u in grind (arith, nat_tests, unset, few)

      mine : (r : Bool) → cond r 1 0 ≡ bit_at (cond r (2 ^ t) 0) t
      mine true = sym (bit_at-pow_same t)
      mine false = sym (bit_at-zero t)

      other : (u : ℕ) (r : Bool) → u ≢ t → 0 ≡ bit_at (cond r (2 ^ t) 0) u
      other u true d = sym (bit_at-pow_other t u d)
      other u false d = sym (bit_at-zero u)

      each : (u : ℕ) → u < 32 → bit_at f.running u ≡ bit_at (cond r (2 ^ t) 0) u
      each u few =
          by_equal u t
          (λ e. bit_is u r (ap (λ i. (w.known i).running) e ∙ runs) ∙ mine r ∙ ap (bit_at (cond r (2 ^ t) 0)) (sym e))
          (λ d. bit_is u false (a.stopped u d) ∙ other u r d)

  asked : (f : SafeForm) → read_safe (w.words Safepoint) ≡ Some f → (r : Bool) → (w.known t).requesting ≡ r
      → f.requester ≡ cond r (Some t) None
  asked f reads r asks = same_owner f.requester (cond r (Some t) None) each
    where
      mine : (r : Bool) → r ≡ is_thread (cond r (Some t) None) t
      mine true = sym (eq-eqb t t refl)
      mine false = refl

      other : (u : ℕ) (r : Bool) → u ≢ t → false ≡ is_thread (cond r (Some t) None) u
      other u true d = differs (t == u) refl
        where
          differs : (b : Bool) → (t == u) ≡ b → false ≡ b
          differs true e = absurd (d (sym (eqb-true t u e)))
          differs false e = refl
      other u false d = refl

      tested : (u : ℕ) → is_thread f.requester u ≡ (w.known u).requesting
      tested u = ap (λ z. is_thread (requester_form z) u) (sym reads) ∙ fits.safe.requester u

      each : (u : ℕ) → is_thread f.requester u ≡ is_thread (cond r (Some t) None) u
      each u =
          by_equal u t
          (λ e. tested u ∙ ap (λ i. (w.known i).requesting) e ∙ asks ∙ mine r ∙ ap (is_thread (cond r (Some t) None)) (sym e))
          (λ d. tested u ∙ a.unasked u d ∙ other u r d)

  unhalted : (r : Bool) → (w.known t).requesting ≡ r → is_halted (w.words Safepoint) ≡ false
  unhalted true asks = asking_unhalted w P t fits.safe asks
  unhalted false none = running_unhalted w P t fits.safe (a.runs ∙ ap not none)

  pub safepoint_word : w.words Safepoint ≡ word_of_one (w.known t).requesting t
  safepoint_word = by_asking (w.known t).requesting refl
    where
      form : (f : SafeForm) × (read_safe (w.words Safepoint) ≡ Some f)
      form = safe_form w P fits

      by_asking : (r : Bool) → (w.known t).requesting ≡ r → w.words Safepoint ≡ word_of_one r t
      by_asking r asks =
          (read_safe-spells (w.words Safepoint) form.0 form.1).1
          ∙ (λ i. safe_of (record {
            running = bits form.0 form.1 (not r) (a.runs ∙ ap not asks) i;
            requester = asked form.0 form.1 r asks i;
            halted = (ap halted_form (sym form.1) ∙ unhalted r asks) i;
          }))
          ∙ told r
        where
          told : (r : Bool)
              → safe_of (record { running = cond (not r) (2 ^ t) 0; requester = cond r (Some t) None; halted = false }) ≡ word_of_one r t
          told true = refl
          told false = refl

  pub quiet : Quiet (word_of_one (w.known t).requesting t) w.words
  quiet = record { marks = no_mark_0; safepoint = safepoint_word }

  -- WHO HAS THE LOCK by the words is the plain owner
  pub who_is_owner : (o : ℕ) → who_in w.shape w.words o ≡ (monitor_of P o).owner
  who_is_owner o = by_words ∙ same_owner (who w o) (monitor_of P o).owner each
    where
      each : (u : ℕ) → is_thread (who w o) u ≡ is_thread (monitor_of P o).owner u
      each u = fits.owners.same o u ∙ ap (λ s. owner_at P o u || bears s o) (all_calm u) ∙ or-false (owner_at P o u)

      held : (u : ℕ) → hold_count o (holds_in w.words u) ≡ hold_count o (w.known u).holds
      held u = ap (hold_count o) (holds_are w.words u (w.known u).holds (fits.holds.places u) (fits.holds.stored u))

      by_words : who_in w.shape w.words o ≡ who w o
      by_words =
          λ i. holder
          (lock_form (read_mark (w.words (Mark o))) (w.words (Prototype (class_by w.shape w.words o))) (owner_words w)
          (sym (no_inflation w all_calm o) i))
          (λ u. held u i)
