-- What the safepoint word and the threads' requests say in a valid world.
use Rattle.core_locks.proofs.Prelude.{◌≡◌, ◌≢◌, ℕ, ◌<◌, true, false, List, Option, Some, None, refl, sym, ap, ◌∙◌, arith, inl, inr}
use Rattle.core_locks.proofs.Prelude.{SafeForm, safe_of, read_safe, read_safe-spells, is_thread, PlainObject, Safepoint, Settled}
use Rattle.core_locks.proofs.Prelude.{is_halted, runs_form, requester_form, requester_in, halted_form, revocation_in, ThreadView}
use Rattle.core_locks.proofs.Prelude.{World, Fits, IsValid, SafepointFits, IsRevoking, Shape, IsSafepoint, thread_is}
use Rattle.core_world.proofs.NoWordChanges.{one_requester}
use Rattle.core_world.proofs.safepoint.SafeBits.{no_bits}
use Rattle.core_locks.proofs.WaitOut.{fails}

-- while a bias is being revoked, its thread's safepoint is reached, and its request stands
revoking_reached : (w : World) (P : List PlainObject) (s : IsRevoking w P) → (w.known s.requester).reached ≡ true
revoking_reached w P s = ap (λ (k : ThreadView). k.reached) s.knows ∙ s.reached

revoking_asks : (w : World) (P : List PlainObject) (s : IsRevoking w P) → (w.known s.requester).requesting ≡ true
revoking_asks w P s = (s.safe.safepoint s.requester (revoking_reached w P s)).0

-- and where the safepoint word has no requester
pub fits_unasked : (w : World) (P : List PlainObject) → requester_in (w.words Safepoint) ≡ None → IsValid w P → Fits w P
fits_unasked w P none valid = elim valid [
  | inl v ↦ v
  | inr s ↦
      let asks = s.safe.requester s.requester ∙ revoking_asks w P s in
      let not_asked = ap (λ a. is_thread a s.requester) none in
      absurd (cc (asks, not_asked))
]

-- and where the thread whose safepoint is reached is in the middle of nothing
pub fits_calm : (w : World) (P : List PlainObject) (t : ℕ) → (w.known t).reached ≡ true → (w.known t).stage ≡ Settled → IsValid w P → Fits w P
fits_calm w P t reached calm valid = elim valid [
  | inl v ↦ v
  | inr s ↦
      let same = one_requester w P s.safe t s.requester (s.safe.safepoint t reached).0 (revoking_asks w P s) in
      let none = ap (λ u. revocation_in (w.known u).stage) (sym same) ∙ ap revocation_in calm in
      let some = s.its_revocation in
      absurd (cc (none, some))
]

-- the state that the safepoint word spells
spelled : (s : Shape) (a : Option SafeForm) → IsSafepoint s a → (f : SafeForm) × (a ≡ Some f)
spelled s None h = absurd h
spelled s (Some f) h = (f, refl)

pub safe_form : (w : World) (P : List PlainObject) → Fits w P → (f : SafeForm) × (read_safe (w.words Safepoint) ≡ Some f)
safe_form w P v = spelled w.shape (read_safe (w.words Safepoint)) v.forms.safepoint

-- a thread below the heap's number of threads has a bit in the word
pub few_bits : (w : World) (P : List PlainObject) (t : ℕ) → Fits w P → t < w.shape.threads → t < 32
few_bits w P t v within = let few = v.limits.threads in omega (arith, few, within)

-- nothing is halted while a thread runs, or a request stands
pub running_unhalted : (w : World) (P : List PlainObject) (t : ℕ) → SafepointFits w P → (w.known t).running ≡ true → is_halted (w.words Safepoint) ≡ false
running_unhalted w P t safe runs = fails _ (λ e. let stopped = (safe.still e).1 t in cc (stopped, runs))

pub asking_unhalted : (w : World) (P : List PlainObject) (t : ℕ) → SafepointFits w P → (w.known t).requesting ≡ true → is_halted (w.words Safepoint) ≡ false
asking_unhalted w P t safe asks = fails _ (λ e. let none = ap (λ a. is_thread a t) (safe.still e).0 in cc (none, safe.requester t ∙ asks))

-- no safepoint is reached while a thread runs, or where the word has no requester
pub running_unreached : (w : World) (P : List PlainObject) (t u : ℕ) → SafepointFits w P → (w.known t).running ≡ true → (w.known u).reached ≡ true → ⊥
running_unreached w P t u safe runs reached = let stopped = (safe.safepoint u reached).1 t in absurd (cc (stopped, runs))

pub unasked_unreached : (w : World) (P : List PlainObject) (u : ℕ) → SafepointFits w P
    → requester_in (w.words Safepoint) ≡ None → (w.known u).reached ≡ true → ⊥
unasked_unreached w P u safe none reached =
    let asks = safe.requester u ∙ (safe.safepoint u reached).0 in
    let not_asked = ap (λ a. is_thread a u) none in
    absurd (cc (asks, not_asked))

-- at most one is
pub one_reached : (w : World) (P : List PlainObject) (t u : ℕ) → SafepointFits w P → (w.known t).reached ≡ true → u ≢ t → (w.known u).reached ≡ true → ⊥
one_reached w P t u safe mine d reached = d (one_requester w P safe u t (safe.safepoint u reached).0 (safe.safepoint t mine).0)

-- the state at the reached safepoint of t
abbrev pub reached_form : ℕ → SafeForm
reached_form t = record { running = 0; requester = Some t; halted = false }

pub reached_reads : (w : World) (P : List PlainObject) (t : ℕ) → Fits w P → (w.known t).reached ≡ true → read_safe (w.words Safepoint) ≡ Some (reached_form t)
reached_reads w P t v reached =
    let s = safe_form w P v in
    let f = s.0 in
    let reads = s.1 in
    let at = v.safe.safepoint t reached in
    let spells = read_safe-spells (w.words Safepoint) f reads in
    let running : f.running ≡ 0 = no_bits f spells.0 (λ u. ap (λ z. runs_form z u) (sym reads) ∙ v.safe.bits u ∙ at.1 u) in
    let requester : f.requester ≡ Some t = thread_is f.requester t (ap (λ z. is_thread (requester_form z) t) (sym reads) ∙ v.safe.requester t ∙ at.0) in
    let halted : f.halted ≡ false = ap (λ z. halted_form z) (sym reads) ∙ asking_unhalted w P t v.safe at.0 in
    let form : f ≡ reached_form t = λ i. record { running = running i; requester = requester i; halted = halted i } in
    reads ∙ ap Some form

-- so is the word then
pub reached_found : (w : World) (P : List PlainObject) (t : ℕ) → Fits w P → (w.known t).reached ≡ true → w.words Safepoint ≡ safe_of (reached_form t)
reached_found w P t v reached = (read_safe-spells (w.words Safepoint) (reached_form t) (reached_reads w P t v reached)).1
