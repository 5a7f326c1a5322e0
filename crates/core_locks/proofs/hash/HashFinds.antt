-- Where the hash of an object is found: in its mark, in its owner's record of depth 1, in its monitor's header.
use Rattle.core_locks.proofs.Prelude.{◌≡◌, ◌≢◌, ◌⊎◌, ℕ, ◌<◌, ◌==◌, ◌||◌, eq-eqb, ne_eqb, true, false, List, Option, Some, None, refl, ap}
use Rattle.core_locks.proofs.Prelude.{◌∙◌, arith, inl, inr, eqb-true, same_Some, MarkForm, read_mark, read_owner, Neutral, Inflated, Biased}
use Rattle.core_locks.proofs.Prelude.{Anonymous, Inflating, Marked, ByThread, Free, ByRecord, OwnerForm, is_thread, PlainObject, Mark}
use Rattle.core_locks.proofs.Prelude.{Displaced, Header, is_biased, is_neutral, hash_in, monitor_in, is_biased_form, hash_form, Inflation}
use Rattle.core_locks.proofs.Prelude.{bears, World, Lock, Open, BiasedTo, OnRecord, OwnedBy, lock, lock_form, header, header_form, marks}
use Rattle.core_locks.proofs.Prelude.{displaced_words, headers, owner_words, prototype_of, inflations, who, holder, hold_count, owner_at}
use Rattle.core_locks.proofs.Prelude.{hash_at, owner_lock, CallContext, Fits, IsValid, by_equal, mark_zero, fits_running, inflated_form}
use Rattle.core_locks.proofs.Prelude.{WordId, world_after, find_hash_plan, KeepsValid, Logs, LogsFound, SawInflated, MayHash, HasRecord}
use Rattle.core_locks.proofs.Prelude.{MayFind, MayFindInRecord, MayFindInMonitor, HasHash, HasNoHash, hash_entry}
use Rattle.mark_word.specs.Mark.{read_mark as read}
use Rattle.core_locks.proofs.hash.HashLoads.{IsFindable, finds_none, finds_it}
use Rattle.core_locks.proofs.enter_exit.MarkHolds.{standing_names}
use Rattle.core_locks.proofs.WaitOut.{holder_owns, ready_is_out}
use Rattle.core_locks.proofs.enter_exit.HoldWays.{saw_inflated}

mark_three : read 3 ≡ Some Marked
unfolding read
mark_three = refl

-- a word with a hash is neutral, and as a mark is the header
hash_header : (f : Option MarkForm) (n : ℕ) (displaced : ℕ → ℕ → ℕ) (headers : ℕ → ℕ) (inflation : Option Inflation)
    → hash_form f ≢ 0 → header_form f n displaced headers inflation ≡ Some n
hash_header (Some (Neutral hash age)) n displaced headers inflation h = refl
hash_header _ n displaced headers inflation h = absurd (h refl)

-- a lock leans by a biased mark alone
biased_to_biased : (f : Option MarkForm) (prototype : ℕ) (owners : ℕ → ℕ) (inflation : Option Inflation) (t : ℕ)
    → lock_form f prototype owners inflation ≡ BiasedTo t → is_biased_form f ≡ true
biased_to_biased (Some (Biased u epoch age)) prototype owners inflation t h = refl
biased_to_biased (Some Inflating) prototype owners None t h = absurd (cc h)
biased_to_biased (Some Inflating) prototype owners (Some i) t h = absurd (cc h)
biased_to_biased (Some (Inflated m)) prototype owners inflation t h = by_owner (read_owner (owners m)) h
  where
    by_owner : (f : Option OwnerForm) → owner_lock f ≡ BiasedTo t → is_biased_form (Some (Inflated m)) ≡ true
    by_owner None g = absurd (cc g)
    by_owner (Some Free) g = absurd (cc g)
    by_owner (Some (ByThread u)) g = absurd (cc g)
    by_owner (Some (ByRecord u p)) g = absurd (cc g)
biased_to_biased (Some (Anonymous epoch age)) prototype owners inflation t h = refl
biased_to_biased _ prototype owners inflation t h = absurd (cc h)

-- an object is had by a thread through a record of its own or through the monitor, unless its lock leans
held_so : (f : Lock) (c : ℕ → ℕ) (t : ℕ) → holder f c ≡ Some t → ((u : ℕ) → f ≡ BiasedTo u → ⊥) → ((q : ℕ) × (f ≡ OnRecord t q)) ⊎ (f ≡ OwnedBy t)
held_so Open c t h n = absurd (cc h)
held_so (BiasedTo u) c t h n = absurd (n u refl)
held_so (OnRecord u q) c t h n = inl (q, ap (λ z. OnRecord z q) (same_Some u t h))
held_so (OwnedBy u) c t h n = inr (ap OwnedBy (same_Some u t h))

tested : (n : ℕ) → n ≢ 0 → (n == 0) ≡ false
tested n h = ne_eqb n 0 h

module _ (w : World) (P : List PlainObject) (t : ℕ) (o : ℕ) (may : MayHash w.shape (w.known t) o) (v : Fits w P) where
  in_mark : hash_in (w.words (Mark o)) ≢ 0 → hash_in (w.words (Mark o)) ≡ hash_at P o
  in_mark some = v.hashes.stands o (marks w o) (hash_header (read_mark (marks w o)) (marks w o) (displaced_words w) (headers w) (inflations w o) some)

  -- the mark names the monitor that the thread saw
  module _ (m : ℕ) (saw : SawInflated (w.known t) o m) where
    pub mark_is : monitor_in (marks w o) ≡ Some m
    mark_is = saw_inflated w P t o may.runs v m saw

    pub header_is : header w o ≡ Some (headers w m)
    header_is = ap (λ f. header_form f (marks w o) (displaced_words w) (headers w) (inflations w o)) (inflated_form (read_mark (marks w o)) m mark_is)

    in_header : hash_in (w.words (Header m)) ≡ hash_at P o
    in_header = v.hashes.stands o (headers w m) header_is

  -- A HEADER IN ITS OWN RECORD: the lock rests on that record, or the thread has it through the monitor.
  module _ (p : ℕ) (has : HasRecord (w.known t) o p) (some : hash_in (w.words (Displaced t p)) ≢ 0) where
    unbiased : is_biased (marks w o) ≡ false
    unbiased = v.seen.unbiased t o has.unbiased.0 has.unbiased.1 (inl may.runs) has.unbiased.2

    owned : owner_at P o t ≡ true
    owned = (holder_owns w P t v (ready_is_out (w.known t) may.ready) o may.calm (standing_names w P v t p o 1 (omega arith) has.hold)).0

    has_lock : who w o ≡ Some t
    has_lock = by_who (who w o) (v.owners.same o t ∙ ap (λ b. b || bears (w.known t).stage o) owned)
      where
        by_who : (a : Option ℕ) → is_thread a t ≡ true → a ≡ Some t
        by_who None e = absurd (cc e)
        by_who (Some u) e = ap Some (eqb-true u t e)

    neutral : is_neutral (displaced_words w t p) ≡ true
    neutral = elim (held_so (lock w o) (λ u. hold_count o (w.known u).holds) t has_lock (λ u h.
        let b = biased_to_biased (read_mark (marks w o)) (prototype_of w o) (owner_words w) (inflations w o) u h in absurd (cc (b, unbiased)))) [
          | inl a ↦ by_equal p a.0
              (λ s. ap (λ q. is_neutral (displaced_words w t q)) s ∙ v.records.header o t a.0 a.1)
              (λ d. absurd (some (ap hash_in (v.records.others o t a.0 p 1 a.1 has.hold (omega arith) d) ∙ ap hash_form mark_zero)))
          | inr a ↦ elim (v.recursions.first o t p (inl a) has.hold) [ inl b ↦ b | inr b ↦ absurd (some (ap hash_in b ∙ ap hash_form mark_three)) ]
        ]

    in_record : hash_in (w.words (Displaced t p)) ≡ hash_at P o
    in_record = elim (v.hashes.records o t p has.hold unbiased neutral) [ inl a ↦ absurd (some a) | inr a ↦ a ]

-- THE LAWS. In a mark;
module _ (w : World) (P : List PlainObject) (t : ℕ) (e : CallContext) (o : ℕ)
    (within : t < w.shape.threads) (may : MayFind w.shape (w.known t) e o) (is : IsValid w P) where
  v : Fits w P
  v = fits_running w P t may.hashes.runs is

  mark_at : IsFindable w (w.known t) (Mark o)
  mark_at = record { reached = refl; halted = refl; fresh = λ m h. absurd (cc h) }

  record_at : (p : ℕ) → IsFindable w (w.known t) (Displaced t p)
  record_at p = record { reached = refl; halted = refl; fresh = λ m h. absurd (cc h) }

  header_at : (m : ℕ) → SawInflated (w.known t) o m → IsFindable w (w.known t) (Header m)
  header_at m saw = record {
    reached = refl;
    halted = refl;
    fresh = λ i h. let same : m ≡ i = same_Some m i h in inr (o, mark_is w P t o may.hashes v m saw ∙ ap Some same);
  }

  find : (at : WordId) → IsFindable w (w.known t) at → HasHash w at
      → hash_in (w.words at) ≡ hash_at P o → Logs w P t (find_hash_plan e at o) (hash_entry o (w.words at))
  find at it some = finds_it w P t e o at within may.hashes it v (tested _ some)

  look : (at : WordId) → IsFindable w (w.known t) at → HasNoHash w at → IsValid (world_after (find_hash_plan e at o) t w) P
  look at it none = finds_none w P t e o at within may.hashes it v (eq-eqb _ 0 none) may.goes_on

pub finds_in_mark : (e : CallContext) (o : ℕ)
    → LogsFound (λ w t. MayFind w.shape (w.known t) e o × HasHash w (Mark o)) (λ w t. find_hash_plan e (Mark o) o) (hash_entry o)
finds_in_mark e o w P t within may is = find w P t e o within may.0 is (Mark o)
    (mark_at w P t e o within may.0 is) may.1 (in_mark w P t o may.0.hashes (v w P t e o within may.0 is) may.1)

pub looks_in_mark : (e : CallContext) (o : ℕ) → KeepsValid (λ w t. MayFind w.shape (w.known t) e o × HasNoHash w (Mark o)) (λ w t. find_hash_plan e (Mark o) o)
looks_in_mark e o w P t within may is = look w P t e o within may.0 is (Mark o) (mark_at w P t e o within may.0 is) may.1

-- in a record of its own;
pub finds_in_record : (e : CallContext) (o p : ℕ)
    → LogsFound (λ w t. MayFindInRecord w.shape (w.known t) e o p × HasHash w (Displaced t p)) (λ w t. find_hash_plan e (Displaced t p) o) (hash_entry o)
finds_in_record e o p w P t within may is =
    let finds = may.0.finds in
    find w P t e o within finds is (Displaced t p) (record_at w P t e o within finds is p) may.1
    (in_record w P t o finds.hashes (v w P t e o within finds is) p may.0.has may.1)

pub looks_in_record : (e : CallContext) (o p : ℕ)
    → KeepsValid (λ w t. MayFindInRecord w.shape (w.known t) e o p × HasNoHash w (Displaced t p)) (λ w t. find_hash_plan e (Displaced t p) o)
looks_in_record e o p w P t within may is = look w P t e o within may.0.finds is (Displaced t p) (record_at w P t e o within may.0.finds is p) may.1

-- and in the monitor's header.
pub finds_in_header : (e : CallContext) (o m : ℕ)
    → LogsFound (λ w t. MayFindInMonitor w.shape (w.known t) e o m × HasHash w (Header m)) (λ w t. find_hash_plan e (Header m) o) (hash_entry o)
finds_in_header e o m w P t within may is =
    let finds = may.0.finds in
    let saw = may.0.inflated in
    find w P t e o within finds is (Header m) (header_at w P t e o within finds is m saw) may.1
    (in_header w P t o finds.hashes (v w P t e o within finds is) m saw)

pub looks_in_header : (e : CallContext) (o m : ℕ)
    → KeepsValid (λ w t. MayFindInMonitor w.shape (w.known t) e o m × HasNoHash w (Header m)) (λ w t. find_hash_plan e (Header m) o)
looks_in_header e o m w P t within may is = look w P t e o within may.0.finds is (Header m) (header_at w P t e o within may.0.finds is m may.0.inflated) may.1
