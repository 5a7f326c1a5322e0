-- A thread whose safepoint is reached releases it, or halts the run.
use Rattle.core_locks.proofs.Prelude.{◌≡◌, ◌≢◌, ℕ, ◌<◌, ◌^◌, ◌==◌, ◌&&◌, not, eq-eqb, ne_eqb, Bool, true, false, cond, List, [], Some, None}
use Rattle.core_locks.proofs.Prelude.{refl, sym, ap, ◌∙◌, arith, inl, inr, pow_below, bit_at-zero, bit_at-pow_same, bit_at-pow_other}
use Rattle.core_locks.proofs.Prelude.{SafeForm, safe_of, read_safe-safe_of, is_thread, PlainObject, Safepoint, Settled, asks_in, runs_form}
use Rattle.core_locks.proofs.Prelude.{requester_form, word_after, ThreadView, World, CallContext, world_after, seen_before, kept_by_act}
use Rattle.core_locks.proofs.Prelude.{Fits, CompareExchange, reached_word, released_word, halted_word, by_equal, KeepsValid, FindsWord}
use Rattle.core_locks.proofs.Prelude.{MayHalt, MayRelease, release_plan, halt_plan, Stage, BiasAcquired, Still, revocation_in}
use Rattle.core_locks.specs.SafepointLaws.{MayReleaseTaking}
use Rattle.core_locks.proofs.safepoint.Standing.{fits_standing}
use Rattle.core_locks.proofs.safepoint.SafeFacts.{fits_calm, few_bits, one_reached, reached_form, reached_reads, reached_found}
use Rattle.core_locks.proofs.safepoint.SafeCounts.{headers_seen, counts_since}
use Rattle.core_locks.proofs.safepoint.SafeStuck.{stuck}
use Rattle.core_locks.proofs.safepoint.SafeChanges.{Changes, known_then, changed_fits}

-- the states after the release, and after the halt
abbrev released_form : ℕ → SafeForm
released_form t = record { running = 2 ^ t; requester = None; halted = false }

abbrev halted_form : SafeForm
halted_form = record { running = 0; requester = None; halted = true }

-- the word at a thread's reached safepoint, also while it revokes a bias there
pub reached_finds : FindsWord (λ w t. (w.known t).reached ≡ true) Safepoint reached_word
reached_finds w P t reached valid = elim valid [
  | inl v ↦ reached_found w P t v reached
  | inr s ↦
      let reached_before : (s.before.known t).reached ≡ true = by_equal t s.requester (λ e. ap (λ z. (s.before.known z).reached) e ∙ s.reached)
      (λ d. ap (λ (k : ThreadView). k.reached) (sym (s.others t d)) ∙ reached) in
      s.untouched ∙ reached_found s.before P t s.fits reached_before
]

module _ (w : World) (P : List PlainObject) (t : ℕ) (e : CallContext) (within : t < w.shape.threads) (v : Fits w P) (reached : (w.known t).reached ≡ true) where
  found : (w.words Safepoint == reached_word t) ≡ true
  found = eq-eqb (w.words Safepoint) (reached_word t) (reached_found w P t v reached)

  -- the step leaves the word that it stores
  left : (word : ℕ) → word_after (CompareExchange (reached_word t) word) (w.words Safepoint) ≡ word
  left word = ap (λ b. cond b word (w.words Safepoint)) found

  -- nobody runs by the word before
  nobody_ran : (u : ℕ) → runs_form (Some (reached_form t)) u ≡ false
  nobody_ran u = ap (λ n. n == 1) (bit_at-zero u)

  -- the other threads don't ask, before and after
  others_unasking : (u : ℕ) → u ≢ t → is_thread None u ≡ is_thread (Some t) u
  others_unasking u d = sym (ne_eqb t u (λ s. d (sym s)))

  -- no other safepoint was reached, and the thread asks no more
  reached_no_more : (u : ℕ) → (w.known u).reached ≡ true → (u ≡ t → false ≡ true) → ⊥
  reached_no_more u r a = by_equal u t (λ s. cc (a s)) (λ d. one_reached w P t u v.safe reached d r)

  -- whether the word that it stores has its request
  abbrev asks_after : ℕ → Bool
  asks_after word = asks_in (word_after (CompareExchange (reached_word t) word) (w.words Safepoint)) (w.known t).thread

  -- where it has none, the thread goes on to count on what it saw at its safepoint of the unfinished operation's object and of prototypes
  kept_since : (word : ℕ) → asks_after word ≡ false
      → kept_by_act Safepoint (CompareExchange (reached_word t) word) (word_after (CompareExchange (reached_word t) word) (w.words Safepoint))
      (w.known t) (seen_before w.shape (w.known t)) ≡ headers_seen w t
  kept_since word unasking =
      let call = cond (w.known t).running (seen_before w.shape (w.known t)) [] in
      ap (λ b. cond (b && not (asks_after word)) (headers_seen w t) call) reached ∙ ap (λ b. cond (not b) (headers_seen w t) call) unasking

  release_changes : (st : Stage) → (w.known t).stage ≡ st → (w.known t).moving ≡ Still → e.unfinished ≡ (w.known t).unfinished
      → Changes w P t e (CompareExchange (reached_word t) (released_word t)) (reached_form t) (released_form t) st
  release_changes st at still goes_on =
      let runs : runs_form (Some (released_form t)) t ≡ true = ap (λ n. n == 1) (bit_at-pow_same t) in
      record {
        hit = found;
        left = left (released_word t);
        told = (refl, refl, refl);
        calm = at;
        standing = λ r. absurd (cc (r, runs));
        still = still;
        goes_on = inl goes_on;
        was = reached_reads w P t v reached;
        unhalted = refl;
        range = (pow_below t 32 (few_bits w P t v within), tt);
        here = tt;
        others_run = λ u d. ap (λ n. n == 1) (bit_at-pow_other t u d) ∙ sym (nobody_ran u);
        others_ask = others_unasking;
        unreached = reached_no_more;
        halts = λ h r. absurd (cc h);
        published = λ r a h. absurd (cc (r, runs));
        ended = λ a r. absurd (cc (r, runs));
        old = headers_seen w t;
        kept = kept_since (released_word t);
        counts = λ r. counts_since w P t (safe_of (released_form t)) (known_then w t e (CompareExchange (reached_word t) (released_word t)) st) reached refl v;
      }

  halt_changes : MayHalt w.shape.threads (w.known t) e → Changes w P t e (CompareExchange (reached_word t) halted_word) (reached_form t) halted_form Settled
  halt_changes may = record {
    hit = found;
    left = left halted_word;
    told = (refl, refl, refl);
    calm = may.calm;
    standing = λ r. refl;
    still = may.still;
    goes_on = inl may.goes_on;
    was = reached_reads w P t v reached;
    unhalted = refl;
    range = (omega arith, tt);
    here = tt;
    others_run = λ u d. refl;
    others_ask = others_unasking;
    unreached = reached_no_more;
    halts = λ h r. record {
      unasked = ap requester_form (read_safe-safe_of halted_form (omega arith, tt));
      stopped = r ∙ nobody_ran t;
      nobody = (v.safe.safepoint t reached).1;
      unfinished = sym may.goes_on;
      stuck = stuck w P t v reached within may;
    };
    published = λ r a h. absurd (cc h);
    ended = λ a r. let live = may.live in absurd (cc (a, live));
    old = headers_seen w t;
    kept = kept_since halted_word;
    counts = λ r. counts_since w P t (safe_of halted_form) (known_then w t e (CompareExchange (reached_word t) halted_word) Settled) reached refl v;
  }

  pub released_fits : MayRelease (w.known t) e → Fits (world_after (release_plan e Settled t) t w) P
  released_fits may = changed_fits w P t e (CompareExchange (reached_word t) (released_word t))
      (reached_form t) (released_form t) Settled within (release_changes Settled may.calm may.still may.goes_on) v

  -- the thread has given itself a bias there, and takes it after the release
  pub released_taking : (o : ℕ) → MayReleaseTaking (w.known t) e o → Fits (world_after (release_plan e (BiasAcquired o) t) t w) P
  released_taking o may = changed_fits w P t e (CompareExchange (reached_word t) (released_word t)) (reached_form t)
      (released_form t) (BiasAcquired o) within (release_changes (BiasAcquired o) may.takes may.still may.goes_on) v

-- THE LAWS
pub releasing_valid : (e : CallContext) → KeepsValid (λ w t. MayRelease (w.known t) e) (λ w t. release_plan e Settled t)
releasing_valid e w P t within may valid = inl (released_fits w P t e within (fits_calm w P t may.reached may.calm valid) may.reached may)

pub releasing_taking : (e : CallContext) (o : ℕ) → KeepsValid (λ w t. MayReleaseTaking (w.known t) e o) (λ w t. release_plan e (BiasAcquired o) t)
releasing_taking e o w P t within may valid =
    inl (released_taking w P t e within (fits_standing w P t may.reached (ap revocation_in may.takes) valid) may.reached o may)

pub halting_valid : (e : CallContext) → KeepsValid (λ w t. MayHalt w.shape.threads (w.known t) e) (λ w t. halt_plan e t)
halting_valid e w P t within may valid =
    let v = fits_calm w P t may.reached may.calm valid in
    inl (changed_fits w P t e (CompareExchange (reached_word t) halted_word)
    (reached_form t) halted_form Settled within (halt_changes w P t e within v may.reached may) v)
