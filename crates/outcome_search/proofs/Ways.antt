-- The way to a machine that the search finds.
use Rattle.std.proofs.Common.{◌≡◌, ◌⊎◌, inl, inr, ℕ, zero, suc, Bool, true, false, List, [], ◌∷◌, ◌++◌, slice_get, Some, refl, sym, subst, ◌∙◌}
use Rattle.std.specs.List.{list_any}
use Rattle.std.proofs.lemmas.Bool.{false≢true, true≢false, or_parts}
use Rattle.std.proofs.lemmas.Option.{none-some, same_Some}
use Rattle.plain_monitor.specs.declared.entry.Entry.{Entry}
use Rattle.plain_monitor.specs.declared.entry.Logged.{Logged}
use Rattle.object_program.specs.Program.{ProgramText}
use Rattle.plain_machine.specs.Thread.{ThreadState}
use Rattle.plain_machine.specs.Machine.{PlainMachine, new_machine, take}
use Rattle.every_outcome.specs.Fuel.{is_spent, refuelled, HasSpent, LeadsFull}
use Rattle.every_outcome.proofs.FullFuel.{spent_after, spent_full}
use Rattle.outcome_search.specs.NextWords.{is_any_spent}
use Rattle.outcome_search.specs.Real.{LeadsRefuelled, IsLed}

spent_among : (ss : List ThreadState) → list_any (λ s. is_spent s.mode) ss ≡ true
    → (t : ℕ) × (s : ThreadState) × (slice_get ss t ≡ Some s) × (is_spent s.mode ≡ true)
spent_among [] h = absurd (false≢true h)
spent_among (s ∷ ss) h = go (is_spent s.mode) refl (spent_among ss)
  where
    go : (b : Bool) → is_spent s.mode ≡ b
        → (list_any (λ s. is_spent s.mode) ss ≡ true → (t : ℕ) × (z : ThreadState) × (slice_get ss t ≡ Some z) × (is_spent z.mode ≡ true))
        → (t : ℕ) × (z : ThreadState) × (slice_get (s ∷ ss) t ≡ Some z) × (is_spent z.mode ≡ true)
    go true e ih = (zero, s, refl, e)
    go false e ih = let r = ih (rw e at h) in (suc r.0, r.1, r.2, r.3)

pub has_spent : (m : PlainMachine) → is_any_spent m ≡ true → HasSpent m
has_spent m h = let s = spent_among m.threads h in record { thread = s.0; state = s.1; at = s.2; spent = s.3 }

none_spent : (ss : List ThreadState) (t : ℕ) (s : ThreadState) → list_any (λ s. is_spent s.mode) ss ≡ false → slice_get ss t ≡ Some s → is_spent s.mode ≡ true
    → ⊥
none_spent [] t s h at spent = none-some s at
none_spent (z ∷ ss) zero s h at spent =
    let none : is_spent z.mode ≡ false = (or_parts (is_spent z.mode) (list_any (λ s. is_spent s.mode) ss) h).0 in
    true≢false (sym (subst (λ (y : ThreadState). is_spent y.mode ≡ true) (sym (same_Some z s at)) spent) ∙ none)
none_spent (z ∷ ss) (suc t) s h at spent = none_spent ss t s (or_parts (is_spent z.mode) (list_any (λ s. is_spent s.mode) ss) h).1 at spent

pub not_spent : (m : PlainMachine) → is_any_spent m ≡ false → HasSpent m → ⊥
not_spent m h spent = none_spent m.threads spent.thread spent.state h spent.at spent.spent

-- one entry more
lead_more : (fuel : ℕ) (xs : List (ℕ × Logged)) (m b a : PlainMachine) (x : ℕ × Logged) → LeadsFull fuel m xs b → take b x.0 x.1.entry ≡ Some a
    → (HasSpent a → ⊥) → LeadsFull fuel m (xs ++ x ∷ []) (refuelled fuel a)
lead_more fuel [] m b a x leads takes alive =
    (a, subst (λ (z : PlainMachine). take z x.0 x.1.entry ≡ Some a) (sym leads) takes, alive, refl)
lead_more fuel (y ∷ xs) m b a x leads takes alive = (leads.0, leads.1, leads.2, lead_more fuel xs (refuelled fuel leads.0) b a x leads.3 takes alive)

-- the same whoever is spent
pub led_more : (fuel : ℕ) (xs : List (ℕ × Logged)) (m b a : PlainMachine) (x : ℕ × Logged) → LeadsRefuelled fuel m xs b → take b x.0 x.1.entry ≡ Some a
    → LeadsRefuelled fuel m (xs ++ x ∷ []) (refuelled fuel a)
led_more fuel [] m b a x leads takes = (a, subst (λ (z : PlainMachine). take z x.0 x.1.entry ≡ Some a) (sym leads) takes, refl)
led_more fuel (y ∷ xs) m b a x leads takes = (leads.0, leads.1, led_more fuel xs (refuelled fuel leads.0) b a x leads.2 takes)

pub led_first : (p : ProgramText) (fuel : ℕ) → IsLed p fuel (refuelled fuel (new_machine p fuel))
led_first p fuel = record { entries = []; leads = refl }

pub led_after : (p : ProgramText) (fuel : ℕ) (m n : PlainMachine) (t : ℕ) (e : Entry) → take m t e ≡ Some n → IsLed p fuel m
    → IsLed p fuel (refuelled fuel n)
led_after p fuel m n t e takes led =
    let x : ℕ × Logged = (t, record { stamp = 0; entry = e }) in
    record { entries = led.entries ++ x ∷ []; leads = led_more fuel led.entries (refuelled fuel (new_machine p fuel)) m n x led.leads takes }

-- entries lead there from the first machine, with the fuel given back after each, and nobody is spent on the way
pub record HasWay (p : ProgramText) (fuel : ℕ) (m : PlainMachine) : Type 0 where
  pub alive : HasSpent (new_machine p fuel) → ⊥
  pub entries : List (ℕ × Logged)
  pub leads : LeadsFull fuel (refuelled fuel (new_machine p fuel)) entries m

pub first_way : (p : ProgramText) (fuel : ℕ) → HasSpent (refuelled fuel (new_machine p fuel)) ⊎ HasWay p fuel (refuelled fuel (new_machine p fuel))
first_way p fuel = go (is_any_spent (new_machine p fuel)) refl
  where
    go : (b : Bool) → is_any_spent (new_machine p fuel) ≡ b
        → HasSpent (refuelled fuel (new_machine p fuel)) ⊎ HasWay p fuel (refuelled fuel (new_machine p fuel))
    go true e = inl (spent_full fuel (new_machine p fuel) (has_spent (new_machine p fuel) e))
    go false e = inr (record { alive = not_spent (new_machine p fuel) e; entries = []; leads = refl })

pub way_after : (p : ProgramText) (fuel : ℕ) (m n : PlainMachine) (t : ℕ) (e : Entry) → take m t e ≡ Some n → HasSpent m ⊎ HasWay p fuel m
    → HasSpent (refuelled fuel n) ⊎ HasWay p fuel (refuelled fuel n)
way_after p fuel m n t e takes (inl spent) = inl (spent_full fuel n (spent_after m n t e spent takes))
way_after p fuel m n t e takes (inr way) = go (is_any_spent n) refl
  where
    go : (b : Bool) → is_any_spent n ≡ b → HasSpent (refuelled fuel n) ⊎ HasWay p fuel (refuelled fuel n)
    go true h = inl (spent_full fuel n (has_spent n h))
    go false h =
        let x : ℕ × Logged = (t, record { stamp = 0; entry = e }) in
        inr (record {
          alive = way.alive;
          entries = way.entries ++ x ∷ [];
          leads = lead_more fuel way.entries (refuelled fuel (new_machine p fuel)) m n x way.leads takes (not_spent n h);
        })
