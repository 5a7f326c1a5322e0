-- One lock becomes B by a step of the thread that had it, or of one that takes it where nobody did; the other locks stay.
use Rattle.core_locks.proofs.Prelude.{◌≡◌, ◌≢◌, ◌⊎◌, ℕ, ◌==◌, ◌||◌, eq-eqb, ne_eqb, Bool, false, List, Some, None, refl, sym, ap, ◌∙◌}
use Rattle.core_locks.proofs.Prelude.{subst, inl, inr, is_thread, PlainObject, Settled, RecordLocked, MonitorAcquired, Exits, Waits}
use Rattle.core_locks.proofs.Prelude.{bears, notification_in, ThreadView, World, with_known, Lock, OnRecord, OwnedBy, lock, displaced_words}
use Rattle.core_locks.proofs.Prelude.{who, holder, hold_count, owner_at, RecordsRest, Fits, LocksArePlain, each_with_known}
use Rattle.core_locks.proofs.Steps.{owners_move, Fields, IsStep, stage_back, stage_forth}

-- the lock of o was A and is B, and each other is what it was
pub record LockTurn (w : World) (o : ℕ) (locks : ℕ → Lock) (A B : Lock) : Type 0 where
  pub now : (i : ℕ) → ((i ≡ o) × (locks i ≡ B)) ⊎ ((i ≢ o) × (locks i ≡ lock w i))
  pub back : (i : ℕ) (f : Lock) → locks i ≡ f → (B ≡ f → ⊥) → lock w i ≡ f
  pub forth : (i : ℕ) (f : Lock) → lock w i ≡ f → (A ≡ f → ⊥) → locks i ≡ f

pub turns_from : (w : World) (o : ℕ) (locks : ℕ → Lock) (A B : Lock) → lock w o ≡ A
    → ((i : ℕ) → ((i ≡ o) × (locks i ≡ B)) ⊎ ((i ≢ o) × (locks i ≡ lock w i))) → LockTurn w o locks A B
turns_from w o locks A B was now = record {
  now = now;
  back = λ i f g d. elim (now i) [ inl a ↦ absurd (d (sym a.1 ∙ g)) | inr a ↦ sym a.1 ∙ g ];
  forth = λ i f g d. elim (now i) [ inl a ↦ absurd (d (sym was ∙ ap (lock w) (sym a.0) ∙ g)) | inr a ↦ a.1 ∙ g ];
}

module _ {w : World} {t : ℕ} {l : ThreadView} {fields : Fields} {P : List PlainObject}
    (step : IsStep w t l fields) (v : Fits w P) (locks : ℕ → Lock) (o : ℕ) (B : Lock)
    (now : (i : ℕ) → ((i ≡ o) × (locks i ≡ B)) ⊎ ((i ≢ o) × (locks i ≡ lock w i))) where
  -- Where nobody had the lock or took it, the thread has it now, and bears o.
  pub owners_taken : (w.known t).stage ≡ Settled → ((u : ℕ) → (owner_at P o u ≡ false) × (bears (w.known u).stage o ≡ false))
      → holder B (λ k. hold_count o (w.known k).holds) ≡ Some t → ((i : ℕ) → bears l.stage i ≡ (o == i))
      → notification_in l.stage ≡ None → ((i : ℕ) → l.stage ≡ Waits i → ⊥) → ((i q : ℕ) → l.stage ≡ Exits i q → ⊥)
      → LocksArePlain (λ i. holder (locks i) (λ k. hold_count i (w.known k).holds)) (λ u. (with_known t l w.known u).stage) (owner_at P)
  owners_taken calm nobody has bearing calls waits exits = owners_move step waits exits (λ i c. absurd (cc (calls, c))) (λ i u. elim (now i) [
    | inl a ↦ subst (λ j. is_thread (holder (locks j) (λ k. hold_count j (w.known k).holds)) u
        ≡ (owner_at P j u || bears (with_known t l w.known u).stage j)) (sym a.0) (here u (ap locks (sym a.0) ∙ a.1))
    | inr a ↦
        ap (λ f. is_thread (holder f (λ k. hold_count i (w.known k).holds)) u) a.1
        ∙ each_with_known (λ u y. is_thread (who w i) u ≡ (owner_at P i u || bears y.stage i)) t l w.known u
        (v.owners.same i t ∙ ap (λ (b : Bool). owner_at P i t || b)
        (ap (λ f. bears f i) calm ∙ sym (bearing i ∙ ne_eqb o i (λ q. a.0 (sym q))))) (λ d. v.owners.same i u)
  ]) v
    where
      here : (u : ℕ) → locks o ≡ B → is_thread (holder (locks o) (λ k. hold_count o (w.known k).holds)) u
          ≡ (owner_at P o u || bears (with_known t l w.known u).stage o)
      here u is =
          ap (λ f. is_thread (holder f (λ k. hold_count o (w.known k).holds)) u) is ∙ ap (λ a. is_thread a u) has
          ∙ each_with_known (λ u y. is_thread (Some t) u ≡ (owner_at P o u || bears y.stage o)) t l w.known u
          (eq-eqb t t refl ∙ sym (λ j. (nobody t).0 j || (bearing o ∙ eq-eqb o o refl) j))
          (λ d. ne_eqb t u (λ q. d (sym q)) ∙ sym (λ j. (nobody u).0 j || (nobody u).1 j))

  -- B rests on no record, and nobody else had the lock
  module _ (unrested : (u q : ℕ) → B ≡ OnRecord u q → ⊥) (alone : (u : ℕ) → who w o ≡ Some u → u ≡ t) where
    -- a lock that rests on a record rested there
    pub rest_back : (i u q : ℕ) → locks i ≡ OnRecord u q → lock w i ≡ OnRecord u q
    rest_back i u q f = elim (now i) [ inl a ↦ absurd (unrested u q (sym a.1 ∙ f)) | inr a ↦ sym a.1 ∙ f ]

    -- the lock of another thread stays
    lock_keeps : (i u : ℕ) (f : Lock) → lock w i ≡ f → holder f (λ k. hold_count i (w.known k).holds) ≡ Some u → u ≢ t → locks i ≡ f
    lock_keeps i u f g h d = elim (now i) [
      | inl a ↦ absurd (d (alone u (sym (ap (who w) a.0) ∙ ap (λ f. holder f (λ k. hold_count i (w.known k).holds)) g ∙ h)))
      | inr a ↦ a.1 ∙ g
    ]

    pub records_turn : ((i q : ℕ) → (w.known t).stage ≡ RecordLocked i q → ⊥) → ((i q : ℕ) → l.stage ≡ RecordLocked i q → ⊥)
        → ((i : ℕ) → l.stage ≡ MonitorAcquired i → (locks i ≡ OwnedBy t) × (hold_count i (w.known t).holds ≡ 0))
        → RecordsRest locks (λ u. (w.known u).holds) (λ u. (with_known t l w.known u).stage) (displaced_words w)
    records_turn before after_it grabs = record {
      first = λ i u q f. elim (v.records.first i u q (rest_back i u q f)) [
        | inl a ↦ inl a
        | inr a ↦ inr (stage_forth step (RecordLocked i q) u (before i q) a)
      ];
      header = λ i u q f. v.records.header i u q (rest_back i u q f);
      others = λ i u q r d f. v.records.others i u q r d (rest_back i u q f);
      seized = λ i u q f. let a = stage_back step (RecordLocked i q) u (after_it i q) f in
          let b = v.records.seized i u q a.1 in (lock_keeps i u (OnRecord u q) b.0 refl a.0, b.1, b.2, b.3);
      grabbed = λ i u. each_with_known (λ u y. y.stage ≡ MonitorAcquired i
          → (locks i ≡ OwnedBy u) × (hold_count i (w.known u).holds ≡ 0)) t l w.known u (grabs i)
          (λ d f. let b = v.records.grabbed i u f in (lock_keeps i u (OwnedBy u) b.0 refl d, b.1));
    }
