-- A step of a thread that stands, before and after, where it has the locks that its log says, with as many hold words; the locks and hold words stay.
use Rattle.core_locks.proofs.Prelude.{◌≡◌, ℕ, ◌||◌, Bool, true, false, List, refl, sym, ap, ◌∙◌, inl, inr, PlainObject, Hold, Stage, Settled}
use Rattle.core_locks.proofs.Prelude.{RecordLocked, MonitorAcquired, Exits, OwnerConverted, RecursionsRaised, RecursionsLowered, Inflates}
use Rattle.core_locks.proofs.Prelude.{bears, hold_words_ahead, ThreadView, World, with_known, lock, displaced_words, who, holds_by_monitor}
use Rattle.core_locks.proofs.Prelude.{monitor_of, owner_at, HoldsFitLogs, RecordsRest, Fits, LocksArePlain, BiasAcquired}
use Rattle.core_locks.proofs.Clauses.{Clause, holds, owners, records}
use Rattle.core_locks.proofs.Steps.{owners_move, stage_part, holds_stand, Fields, IsStep, GoesOnTo}
use Rattle.core_locks.proofs.Steps.{IsPlain, is_plain, plain_by, Plain, plain_step, stage_back, stage_forth}

pub record IsEven (s : Stage) : Type 0 where
  pub plain : IsPlain s
  pub unborne : (o : ℕ) → bears s o ≡ false
  pub alone : (o : ℕ) → hold_words_ahead s o ≡ 0
  pub seizes : (o p : ℕ) → s ≡ RecordLocked o p → ⊥
  pub grabs : (o : ℕ) → s ≡ MonitorAcquired o → ⊥
  pub exits : (o p : ℕ) → s ≡ Exits o p → ⊥

abbrev pub is_even : Stage → Bool
is_even Settled = true
is_even (BiasAcquired o) = true
is_even (OwnerConverted o) = true
is_even (RecursionsRaised o) = true
is_even (RecursionsLowered o) = true
is_even (Inflates o t p) = true
is_even _ = false

even_is : (s : Stage) → is_even s ≡ true → (is_plain s ≡ true) × ((o : ℕ) → bears s o ≡ false) × ((o : ℕ) → hold_words_ahead s o ≡ 0)
even_is Settled e = (refl, λ o. refl, λ o. refl)
even_is (BiasAcquired i) e = (refl, λ o. refl, λ o. refl)
even_is (OwnerConverted i) e = (refl, λ o. refl, λ o. refl)
even_is (RecursionsRaised i) e = (refl, λ o. refl, λ o. refl)
even_is (RecursionsLowered i) e = (refl, λ o. refl, λ o. refl)
even_is (Inflates i t p) e = (refl, λ o. refl, λ o. refl)
even_is _ e = absurd (cc e)

pub even_by : (s : Stage) → is_even s ≡ true → IsEven s
even_by s e = record {
  plain = plain_by s (even_is s e).0;
  unborne = (even_is s e).1;
  alone = (even_is s e).2;
  seizes = λ o p. other (RecordLocked o p) refl;
  grabs = λ o. other (MonitorAcquired o) refl;
  exits = λ o p. other (Exits o p) refl;
}
  where
    other : (f : Stage) → is_even f ≡ false → s ≡ f → ⊥
    other f odd same = let both = ap is_even same in absurd (cc (e, odd, both))

module _ {w : World} {t : ℕ} {l : ThreadView} {fields : Fields} (s : IsStep w t l fields) (before : IsEven (w.known t).stage) (now : IsEven l.stage) where
  pub bears_stay : (u o : ℕ) → bears (with_known t l w.known u).stage o ≡ bears (w.known u).stage o
  bears_stay u o = stage_part s (λ f. bears f o) (now.unborne o ∙ sym (before.unborne o)) u

  -- what the thread bears afterwards it bore before: nothing
  pub held_even : (owner : ℕ → ℕ → Bool) (i a : ℕ) → (owner i t || bears l.stage i) ≡ true → (owner i t || bears (w.known t).stage i) ≡ true
  held_even owner i a h = ap (λ (b : Bool). owner i t || b) (before.unborne i ∙ sym (now.unborne i)) ∙ h

  pub even_back : (f : Stage) (u : ℕ) → (l.stage ≡ f → ⊥) → (with_known t l w.known u).stage ≡ f → (w.known u).stage ≡ f
  even_back f u none e = (stage_back s f u none e).1

  module _ (P : List PlainObject) (goes_on : GoesOnTo (w.known t) l) where
    abbrev pub Even : Clause → Type 0
    Even holds = HoldsFitLogs (λ u q. w.words (Hold u q)) (λ u. (w.known u).holds)
        (λ u o. hold_words_ahead (with_known t l w.known u).stage o) (λ o u. holds_by_monitor (monitor_of P o) u)
    Even owners = LocksArePlain (who w) (λ u. (with_known t l w.known u).stage) (owner_at P)
    Even records = RecordsRest (lock w) (λ u. (w.known u).holds) (λ u. (with_known t l w.known u).stage) (displaced_words w)
    Even c = Plain s P goes_on before.plain now.plain c

    pub even_step : (w.known t).running ≡ true → Fits w P → (c : Clause) → Even c
    even_step runs h holds = holds_stand s P (λ o. now.alone o ∙ sym (before.alone o)) h
    even_step runs h owners = owners_move s now.plain.waits now.exits (λ o c. absurd (cc (c, now.plain.calls)))
        (λ o u. h.owners.same o u ∙ ap (λ (b : Bool). owner_at P o u || b) (sym (bears_stay u o))) h
    even_step runs h records = record {
      first = λ o u p r. elim (h.records.first o u p r) [ inl a ↦ inl a | inr a ↦ inr (stage_forth s (RecordLocked o p) u (before.seizes o p) a) ];
      header = h.records.header;
      others = h.records.others;
      seized = λ o u p e. h.records.seized o u p (even_back (RecordLocked o p) u (now.seizes o p) e);
      grabbed = λ o u e. h.records.grabbed o u (even_back (MonitorAcquired o) u (now.grabs o) e);
    }
    even_step runs h c = plain_step s P goes_on before.plain now.plain runs h c
