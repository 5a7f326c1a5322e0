-- Stores of a header as the mark of an object that lead to no valid world: where its monitor is in use, or has another header.
use Rattle.core_locks.proofs.Prelude.{◌≡◌, ◌≢◌, ℕ, true, List, Option, Some, None, refl, sym, ap, ◌∙◌, inl, inr, OwnerForm, Free, ByThread}
use Rattle.core_locks.proofs.Prelude.{ByRecord, read_owner, owner_of, PlainObject, Mark, Waiting, Owner, Header, Inflated, read_mark}
use Rattle.core_locks.proofs.Prelude.{is_neutral, hash_in, monitor_in, waits_on, says_notified, enters_on, bears, revocation_in, ThreadView}
use Rattle.core_locks.proofs.Prelude.{World, with_word_and_known, Open, lock, header, header_form, owner_lock, marks, prototype_of, owner_words}
use Rattle.core_locks.proofs.Prelude.{displaced_words, headers, inflations, inflated_to, holder, who, hold_count, hash_at, CallContext}
use Rattle.core_locks.proofs.Prelude.{world_after, Fits, Valid, IsOwner, inflated_form, lock_by_form, with_word_there}
use Rattle.mark_word.proofs.ReadingOwners.{read_owner-spells}
use Rattle.core_world.specs.Trees.DeflateSteps.{detach_plan}
use Rattle.core_locks.proofs.MarkMeanings.{neutral_bare, neutral_lock, neutral_header}
use Rattle.core_locks.proofs.monitor.Places.{one_returned}
use Rattle.core_locks.proofs.monitor.RefutedInflations.{same_header}
use Rattle.core_locks.proofs.monitor.RefutedMarks.{no_monitor_lost}
use Rattle.core_locks.proofs.RefutedSilent.{same_objects, holder_stays}
use Rattle.core_locks.proofs.RefutedSteps.{knows, standing_fits}
use Rattle.core_locks.proofs.safepoint.Standing.{fits_standing}

-- THE MARK IS A HEADER NOW
module _ (w : World) (Q : List PlainObject) (o t n : ℕ) (l : ThreadView)
    (neutral : is_neutral n ≡ true) (afterwards : Fits (with_word_and_known (Mark o) n t l w) Q) where
  abbrev x : World
  x = with_word_and_known (Mark o) n t l w

  word : marks x o ≡ n
  word = with_word_there (Mark o) n w.words

  unnamed : (m : ℕ) → inflated_to x o ≡ Some m → ⊥
  unnamed m h = let none = ap monitor_in word ∙ (neutral_bare n neutral).unnamed in absurd (cc (none, h))

  no_waiter : (u : ℕ) → waits_on (w.words (Waiting u)) o ≡ true → ⊥
  no_waiter u h = let a = afterwards.waits.inflated o u (inl (afterwards.waits.waiter u o h)) in unnamed a.0 a.1

  no_notified : (u : ℕ) → says_notified (w.words (Waiting u)) o ≡ true → ⊥
  no_notified u h =
      let a = afterwards.waits.inflated o u (elim (afterwards.waits.told u o h) [ inl b ↦ inr b | inr b ↦ inl b.0 ]) in
      unnamed a.0 a.1

  no_entering_one : (u : ℕ) → enters_on (w.words (Waiting u)) o ≡ true → ⊥
  no_entering_one u h = let a = (afterwards.waits.entering u o h).1 in unnamed a.0 a.1

  -- what the mark named before
  module _ (P : List PlainObject) (m : ℕ) (silent : l.log ≡ (w.known t).log) (before : Fits w P) (named : monitor_in (marks w o) ≡ Some m) where
    form : read_mark (marks w o) ≡ Some (Inflated m)
    form = inflated_form (read_mark (marks w o)) m named

    nobody : who x o ≡ None
    nobody =
        let free : lock x o ≡ Open = neutral_lock (marks x o) (prototype_of x o) (owner_words x) (inflations x o) (ap is_neutral word ∙ neutral) in
        ap (λ k. holder k (λ z. hold_count o (x.known z).holds)) free

    no_owner_there : l.stage ≡ (w.known t).stage → w.words (Owner m) ≢ owner_of Free → ⊥
    no_owner_there stays owned = by_form (read_owner (w.words (Owner m))) refl (before.forms.owners m)
      where
        none : who w o ≡ None
        none = holder_stays w P Q (Mark o) n t l silent before afterwards o (ap (λ s. bears s o) (sym stays)) ∙ nobody

        was : (f : Option OwnerForm) → read_owner (w.words (Owner m)) ≡ f → holder (owner_lock f) (λ z. hold_count o (w.known z).holds) ≡ None
        was f r = sym (ap (λ k. holder k (λ z. hold_count o (w.known z).holds)) (lock_by_form w o (Inflated m) form ∙ ap owner_lock r)) ∙ none

        by_form : (f : Option OwnerForm) → read_owner (w.words (Owner m)) ≡ f → IsOwner w.shape f → ⊥
        by_form None r h = h
        by_form (Some Free) r h = owned (read_owner-spells (w.words (Owner m)) Free r).1
        by_form (Some (ByThread v)) r h = let a = was (Some (ByThread v)) r in absurd (cc a)
        by_form (Some (ByRecord v q)) r h = let a = was (Some (ByRecord v q)) r in absurd (cc a)

    no_header_else : w.words (Header m) ≢ n → ⊥
    no_header_else differs =
        let now : hash_in n ≡ hash_at Q o = afterwards.hashes.stands o n
        (neutral_header (marks x o) (displaced_words x) (headers x) (inflations x o) (ap is_neutral word ∙ neutral) ∙ ap Some word) in
        let then_so : hash_in (w.words (Header m)) ≡ hash_at P o =
        before.hashes.stands o (w.words (Header m)) (ap (λ f. header_form f (marks w o) (displaced_words w) (headers w) (inflations w o)) form) in
        let objects = same_objects w P Q (Mark o) n t l silent before afterwards in
        differs (same_header (w.words (Header m)) n (before.monitors.neutral o m named) neutral (then_so ∙ ap (λ R. hash_at R o) objects ∙ sym now))

module _ (w : World) (o n t header : ℕ) (e : CallContext) (reached : (w.known t).reached ≡ true)
    (unrevoking : revocation_in (w.known t).stage ≡ None) (neutral : is_neutral header ≡ true)
    (valid : Valid (world_after (detach_plan e (w.known t).stage o n header) t w)) where
  abbrev l : ThreadView
  l = knows (detach_plan e (w.known t).stage o n header) t w

  after : (Q : List PlainObject) × Fits (with_word_and_known (Mark o) header t l w) Q
  after = standing_fits (detach_plan e (w.known t).stage o n header) t w refl reached unrevoking valid

  deflates_waited : (u : ℕ) → waits_on (w.words (Waiting u)) o ≡ true → ⊥
  deflates_waited = no_waiter w after.0 o t header l neutral after.1

  deflates_notified : (u : ℕ) → says_notified (w.words (Waiting u)) o ≡ true → ⊥
  deflates_notified = no_notified w after.0 o t header l neutral after.1

  deflates_entered : (u : ℕ) → enters_on (w.words (Waiting u)) o ≡ true → ⊥
  deflates_entered = no_entering_one w after.0 o t header l neutral after.1

  module _ (v : Valid w) (m : ℕ) (named : monitor_in (marks w o) ≡ Some m) where
    before : Fits w v.objects
    before = fits_standing w v.objects t reached unrevoking v.is

    deflates_owned : w.words (Owner m) ≢ owner_of Free → ⊥
    deflates_owned = no_owner_there w after.0 o t header l neutral after.1 v.objects m refl before named refl

    deflates_another : n ≢ m → ⊥
    deflates_another differs =
        no_monitor_lost w v.objects after.0 o m header t l (λ a h. h) (λ p h. absurd (cc h)) (λ h. absurd (differs (one_returned n m h))) before after.1 named
        (λ h. let none = (neutral_bare header neutral).unnamed in absurd (cc (none, h)))

    deflates_otherwise : w.words (Header m) ≢ header → ⊥
    deflates_otherwise = no_header_else w after.0 o t header l neutral after.1 v.objects m refl before named

-- the laws
pub no_deflation_owned : (w : World) (o m n t header : ℕ) (e : CallContext) → Valid w
    → (w.known t).reached ≡ true → revocation_in (w.known t).stage ≡ None → is_neutral header ≡ true
    → monitor_in (w.words (Mark o)) ≡ Some m → w.words (Owner m) ≢ owner_of Free → Valid (world_after (detach_plan e (w.known t).stage o n header) t w) → ⊥
no_deflation_owned w o m n t header e v reached unrevoking neutral named owned valid =
    deflates_owned w o n t header e reached unrevoking neutral valid v m named owned

pub no_deflation_waited : (w : World) (o n t u header : ℕ) (e : CallContext)
    → (w.known t).reached ≡ true → revocation_in (w.known t).stage ≡ None → is_neutral header ≡ true
    → waits_on (w.words (Waiting u)) o ≡ true → Valid (world_after (detach_plan e (w.known t).stage o n header) t w) → ⊥
no_deflation_waited w o n t u header e reached unrevoking neutral waits valid = deflates_waited w o n t header e reached unrevoking neutral valid u waits

pub no_deflation_notified : (w : World) (o n t u header : ℕ) (e : CallContext)
    → (w.known t).reached ≡ true → revocation_in (w.known t).stage ≡ None → is_neutral header ≡ true
    → says_notified (w.words (Waiting u)) o ≡ true → Valid (world_after (detach_plan e (w.known t).stage o n header) t w) → ⊥
no_deflation_notified w o n t u header e reached unrevoking neutral told valid = deflates_notified w o n t header e reached unrevoking neutral valid u told

pub no_deflation_entered : (w : World) (o n t u header : ℕ) (e : CallContext)
    → (w.known t).reached ≡ true → revocation_in (w.known t).stage ≡ None → is_neutral header ≡ true
    → enters_on (w.words (Waiting u)) o ≡ true → Valid (world_after (detach_plan e (w.known t).stage o n header) t w) → ⊥
no_deflation_entered w o n t u header e reached unrevoking neutral enters valid = deflates_entered w o n t header e reached unrevoking neutral valid u enters

pub no_deflation_otherwise : (w : World) (o m n t header : ℕ) (e : CallContext) → Valid w
    → (w.known t).reached ≡ true → revocation_in (w.known t).stage ≡ None → is_neutral header ≡ true
    → monitor_in (w.words (Mark o)) ≡ Some m → w.words (Header m) ≢ header → Valid (world_after (detach_plan e (w.known t).stage o n header) t w) → ⊥
no_deflation_otherwise w o m n t header e v reached unrevoking neutral named differs valid =
    deflates_otherwise w o n t header e reached unrevoking neutral valid v m named differs

pub no_deflation_another : (w : World) (o m n t header : ℕ) (e : CallContext) → Valid w
    → (w.known t).reached ≡ true → revocation_in (w.known t).stage ≡ None → is_neutral header ≡ true
    → monitor_in (w.words (Mark o)) ≡ Some m → n ≢ m → Valid (world_after (detach_plan e (w.known t).stage o n header) t w) → ⊥
no_deflation_another w o m n t header e v reached unrevoking neutral named differs valid =
    deflates_another w o n t header e reached unrevoking neutral valid v m named differs
