-- A thread stops, resumes, and requests a safepoint.
use Rattle.core_locks.proofs.Prelude.{◌≡◌, ℕ, ◌<◌, ◌^◌, ◌==◌, ◌&&◌, not, eq-eqb, ne_eqb, Bool, true, false, cond, List, [], Option, Some, None}
use Rattle.core_locks.proofs.Prelude.{refl, sym, ap, ◌∙◌, subst, inl, inr, eqb-true, ◌-◌, IfSome, bit_and, read_wait, SafeForm, safe_of, read_safe}
use Rattle.core_locks.proofs.Prelude.{WaitForm, read_safe-spells, is_thread, PlainObject, Safepoint, Waiting, waits_on, says_ended, is_halted}
use Rattle.core_locks.proofs.Prelude.{asks_in, runs_form, waits_form, ended_form, requester_form, requester_in, halted_form, word_after, World}
use Rattle.core_locks.proofs.Prelude.{CallContext, swap, world_after, seen_before, Fits, IsValid, CompareExchange, FetchAnd, IsSafepoint, all_but}
use Rattle.core_locks.proofs.Prelude.{running_too, requested_by, same_number, fits_running, seen_is_part, miss_valid, KeepsValid, MayStop, MayResume}
use Rattle.core_locks.proofs.Prelude.{MayRequest, stop_plan, resume_plan, request_plan, Moving, Still, Fetches, Returns, Settled}
use Rattle.mark_word.specs.declared.wait.WaitForm.TheVariants as wait
use Rattle.core_locks.proofs.LookOn.{may_look_safe}
use Rattle.core_world.proofs.safepoint.SafeBits.{without, including, without_other, without_mine, without_range}
use Rattle.core_world.proofs.safepoint.SafeBits.{including_other, including_mine, including_range, masked}
use Rattle.core_locks.proofs.safepoint.SafeFacts.{fits_unasked, safe_form, few_bits, running_unhalted, running_unreached, unasked_unreached}
use Rattle.core_locks.proofs.safepoint.SafeCounts.{headers_seen, counts_stopped, counts_begun}
use Rattle.core_locks.proofs.safepoint.SafeChanges.{Changes, known_then, changed_fits}

-- a waiting word that says it waits doesn't say Ended
waits_unended : (n o : ℕ) → waits_on n o ≡ true → says_ended n ≡ true → ⊥
waits_unended n o waits ended = by_form (read_wait n) waits ended
  where
    by_form : (a : Option WaitForm) → waits_form a o ≡ true → ended_form a ≡ true → ⊥
    by_form (Some (wait.Waiting i s)) x y = absurd (cc y)
    by_form _ x y = absurd (cc x)

-- the waiting word says Ended where its thread stored that
ended_stands : (w : World) (P : List PlainObject) (t : ℕ) → Fits w P → says_ended (w.known t).wait ≡ true → says_ended (w.words (Waiting t)) ≡ true
ended_stands w P t v e = elim (v.waits.stored t) [
  | inl a ↦ ap says_ended a ∙ e
  | inr a ↦ absurd (waits_unended (w.known t).wait a.0 a.1 e)
]

-- a thread that neither runs nor asks stands in the middle of nothing
pub stopped_calm : (w : World) (P : List PlainObject) (t : ℕ) → Fits w P
    → (w.known t).running ≡ false → (w.known t).requesting ≡ false → (w.known t).stage ≡ Settled
stopped_calm w P t v stopped unasking =
    elim (v.quiet.quiet t stopped) [ inl a ↦ a | inr a ↦ (let asks = (v.safe.safepoint t a.0).0 in absurd (cc (asks, unasking))) ]

-- a thread that neither runs nor asks has nothing in hand of the ring
stopped_still : (w : World) (P : List PlainObject) (t : ℕ) → Fits w P
    → (w.known t).running ≡ false → (w.known t).requesting ≡ false → (w.known t).moving ≡ Still
stopped_still w P t v stopped unasking = by_moving (w.known t).moving refl
  where
    by_moving : (m : Moving) → (w.known t).moving ≡ m → (w.known t).moving ≡ Still
    by_moving Still e = e
    by_moving (Fetches p) e = let runs = v.moves.runs t p e in absurd (cc (runs, stopped))
    by_moving (Returns m) e = let asks = (v.safe.safepoint t (v.moves.reaches t m e)).0 in absurd (cc (asks, unasking))

module _ (w : World) (P : List PlainObject) (t : ℕ) (e : CallContext) (within : t < w.shape.threads) where
  -- a thread that runs, by the state that the word spells
  runs_by : Fits w P → (f : SafeForm) → read_safe (w.words Safepoint) ≡ Some f → (w.known t).running ≡ true → runs_form (Some f) t ≡ true
  runs_by v f reads runs = ap (λ z. runs_form z t) (sym reads) ∙ v.safe.bits t ∙ runs

  unhalted_by : Fits w P → (f : SafeForm) → read_safe (w.words Safepoint) ≡ Some f → (w.known t).running ≡ true → f.halted ≡ false
  unhalted_by v f reads runs = ap halted_form (sym reads) ∙ running_unhalted w P t v.safe runs

  here_by : Fits w P → (f : SafeForm) → read_safe (w.words Safepoint) ≡ Some f → IfSome f.requester (λ u. u < w.shape.threads)
  here_by v f reads = subst (IsSafepoint w.shape) reads v.forms.safepoint

  stop_changes : (v : Fits w P) (f : SafeForm) → read_safe (w.words Safepoint) ≡ Some f
      → MayStop (w.known t) e → Changes w P t e (FetchAnd (all_but t)) f (without f t) Settled
  stop_changes v f reads may =
      let spells = read_safe-spells (w.words Safepoint) f reads in
      let bits = few_bits w P t v within in
      let runs = runs_by v f reads may.runs in
      record {
        hit = refl;
        left = ap (λ n. bit_and n (all_but t)) spells.1 ∙ masked f t spells.0 bits runs;
        told = (refl, refl, refl);
        calm = may.calm;
        standing = λ r. refl;
        still = may.still;
        goes_on = inl may.goes_on;
        was = reads;
        unhalted = unhalted_by v f reads may.runs;
        range = without_range f t spells.0 bits;
        here = here_by v f reads;
        others_run = λ u d. without_other f t spells.0 bits u runs d;
        others_ask = λ u d. refl;
        unreached = λ u r a. running_unreached w P t u v.safe may.runs r;
        halts = λ h r. let not_halted = unhalted_by v f reads may.runs in absurd (cc (h, not_halted));
        published = λ r a h. may.published;
        ended = λ a r. ended_stands w P t v (may.ended a);
        old = seen_before w.shape (w.known t);
        kept = λ a. refl;
        counts = λ r. counts_stopped w P t (safe_of (without f t)) (known_then w t e (FetchAnd (all_but t)) Settled)
            (seen_before w.shape (w.known t)) (seen_is_part w.shape (w.known t))
            may.runs (r ∙ without_mine f t spells.0 bits runs) v.seen;
      }

  -- a stopped thread sets its bit in a word with no requester and no halt
  resume_changes : (v : Fits w P) (f : SafeForm) (word : ℕ) → read_safe (w.words Safepoint) ≡ Some f → MayResume (w.known t) e word → w.words Safepoint ≡ word
      → Changes w P t e (CompareExchange word (running_too (read_safe word) t)) f (including f t) Settled
  resume_changes v f word reads may found =
      let spells = read_safe-spells (w.words Safepoint) f reads in
      let bits = few_bits w P t v within in
      let stopped : runs_form (Some f) t ≡ false = ap (λ z. runs_form z t) (sym reads) ∙ v.safe.bits t ∙ may.stopped in
      let test : (w.words Safepoint == word) ≡ true = eq-eqb (w.words Safepoint) word found in
      let unasked : requester_in (w.words Safepoint) ≡ None = ap requester_in found ∙ may.unasked in
      let new : running_too (read_safe word) t ≡ safe_of (including f t) =
      ap (λ n. running_too (read_safe n) t) (sym found) ∙ ap (λ z. running_too z t) reads in
      let not_halted : f.halted ≡ false = ap halted_form (sym reads) ∙ ap is_halted found ∙ may.unhalted in
      let runs = including_mine f t spells.0 bits stopped in
      record {
        hit = test;
        left = ap (λ b. cond b (running_too (read_safe word) t) (w.words Safepoint)) test ∙ new;
        told = (refl, refl, refl);
        calm = stopped_calm w P t v may.stopped may.unasking;
        standing = λ r. refl;
        still = stopped_still w P t v may.stopped may.unasking;
        goes_on = inl may.goes_on;
        was = reads;
        unhalted = not_halted;
        range = including_range f t spells.0 bits stopped;
        here = here_by v f reads;
        others_run = λ u d. including_other f t spells.0 bits u stopped d;
        others_ask = λ u d. refl;
        unreached = λ u r a. unasked_unreached w P u v.safe unasked r;
        halts = λ h r. absurd (cc (h, not_halted));
        published = λ r a h. absurd (cc (r, runs));
        ended = λ a r. absurd (cc (r, runs));
        old = [];
        kept = λ a. anew (w.known t).reached refl
            (asks_in (word_after (CompareExchange word (running_too (read_safe word) t)) (w.words Safepoint)) (w.known t).thread) unasked;
        counts = λ r. counts_begun w P t (safe_of (including f t)) (known_then w t e (CompareExchange word (running_too (read_safe word) t)) Settled);
      }
    where
      anew : (b : Bool) → (w.known t).reached ≡ b → (asks : Bool) → requester_in (w.words Safepoint) ≡ None
          → cond (b && not asks) (headers_seen w t) (cond (w.known t).running (seen_before w.shape (w.known t)) []) ≡ []
      anew true r asks unasked = absurd (unasked_unreached w P t v.safe unasked r)
      anew false r asks unasked = ap (λ b. cond b (seen_before w.shape (w.known t)) []) may.stopped

  -- an exchange of the safepoint word, which changes it so where it finds this word, and where it misses is a look
  by_word : (word new : ℕ) (g : SafeForm → SafeForm) → (w.words Safepoint ≡ word → Fits w P)
      → ((v : Fits w P) (f : SafeForm) → read_safe (w.words Safepoint) ≡ Some f
      → w.words Safepoint ≡ word → Changes w P t e (CompareExchange word new) f (g f) Settled)
      → IsValid w P → IsValid (world_after (swap e Safepoint word new) t w) P
  by_word word new g fits changes valid = cases (w.words Safepoint == word) refl
    where
      cases : (b : Bool) → (w.words Safepoint == word) ≡ b → IsValid (world_after (swap e Safepoint word new) t w) P
      cases true h =
          let found = eqb-true (w.words Safepoint) word h in
          let v = fits found in
          let s = safe_form w P v in
          inl (changed_fits w P t e (CompareExchange word new) s.0 (g s.0) Settled within (changes v s.0 s.1 found) v)
      cases false h = miss_valid w P t (swap e Safepoint word new) within (record { missed = h; may = may_look_safe (w.known t) }) valid

  -- the state with t's request, and t not running
  abbrev requested : SafeForm → SafeForm
  requested f = record f { running = f.running - 2 ^ t; requester = Some t }

  -- a running thread exchanges its bit for its request, in a word with no requester
  request_changes : (v : Fits w P) (f : SafeForm) (word : ℕ) → read_safe (w.words Safepoint) ≡ Some f → MayRequest (w.known t) e word → w.words Safepoint ≡ word
      → Changes w P t e (CompareExchange word (requested_by (read_safe word) t)) f (requested f) Settled
  request_changes v f word reads may found =
      let spells = read_safe-spells (w.words Safepoint) f reads in
      let bits = few_bits w P t v within in
      let runs = runs_by v f reads may.runs in
      let test : (w.words Safepoint == word) ≡ true = eq-eqb (w.words Safepoint) word found in
      let none : f.requester ≡ None = ap requester_form (sym reads) ∙ ap requester_in found ∙ may.unasked in
      let new : requested_by (read_safe word) t ≡ safe_of (requested f) =
      ap (λ n. requested_by (read_safe n) t) (sym found) ∙ ap (λ z. requested_by z t) reads in
      record {
        hit = test;
        left = ap (λ b. cond b (requested_by (read_safe word) t) (w.words Safepoint)) test ∙ new;
        told = (refl, refl, refl);
        calm = may.calm;
        standing = λ r. refl;
        still = may.still;
        goes_on = may.goes_on;
        was = reads;
        unhalted = unhalted_by v f reads may.runs;
        range = let low = without_range f t spells.0 bits in (low.0, bits);
        here = within;
        others_run = λ u d. without_other f t spells.0 bits u runs d;
        others_ask = λ u d. ne_eqb t u (λ s. d (sym s)) ∙ ap (λ a. is_thread a u) (sym none);
        unreached = λ u r a. running_unreached w P t u v.safe may.runs r;
        halts = λ h r. let not_halted = unhalted_by v f reads may.runs in absurd (cc (h, not_halted));
        published = λ r a h. let asks = same_number t in absurd (cc (a, asks));
        ended = λ a r. ended_stands w P t v (may.ended a);
        old = seen_before w.shape (w.known t);
        kept = λ a. goes_on_seen (w.known t).reached refl
            (asks_in (word_after (CompareExchange word (requested_by (read_safe word) t)) (w.words Safepoint)) (w.known t).thread);
        counts = λ r. counts_stopped w P t (safe_of (requested f))
            (known_then w t e (CompareExchange word (requested_by (read_safe word) t)) Settled) (seen_before w.shape (w.known t))
            (seen_is_part w.shape (w.known t)) may.runs (r ∙ without_mine f t spells.0 bits runs) v.seen;
      }
    where
      goes_on_seen : (b : Bool) → (w.known t).reached ≡ b → (asks : Bool)
          → cond (b && not asks) (headers_seen w t) (cond (w.known t).running (seen_before w.shape (w.known t)) []) ≡ seen_before w.shape (w.known t)
      goes_on_seen true r asks = absurd (running_unreached w P t t v.safe may.runs r)
      goes_on_seen false r asks = ap (λ b. cond b (seen_before w.shape (w.known t)) []) may.runs

-- THE LAWS
pub stopping_valid : (e : CallContext) → KeepsValid (λ w t. MayStop (w.known t) e) (λ w t. stop_plan e t)
stopping_valid e w P t within may valid =
    let v = fits_running w P t may.runs valid in
    let s = safe_form w P v in
    inl (changed_fits w P t e (FetchAnd (all_but t)) s.0 (without s.0 t) Settled within (stop_changes w P t e within v s.0 s.1 may) v)

pub resuming_valid : (e : CallContext) (word : ℕ) → KeepsValid (λ w t. MayResume (w.known t) e word) (λ w t. resume_plan e t word)
resuming_valid e word w P t within may valid =
    by_word w P t e within word (running_too (read_safe word) t) (λ f. including f t) (λ found. fits_unasked w P (ap requester_in found ∙ may.unasked) valid)
    (λ v f reads. resume_changes w P t e within v f word reads may) valid

pub requesting_valid : (e : CallContext) (word : ℕ) → KeepsValid (λ w t. MayRequest (w.known t) e word) (λ w t. request_plan e t word)
requesting_valid e word w P t within may valid =
    by_word w P t e within word (requested_by (read_safe word) t) (requested w P t e within) (λ found. fits_running w P t may.runs valid)
    (λ v f reads. request_changes w P t e within v f word reads may) valid
