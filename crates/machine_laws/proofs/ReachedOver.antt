-- A machine that offers nothing is stuck or has ended.
use Rattle.std.proofs.Common.{◌≡◌, ◌⊎◌, inl, inr, ℕ, zero, suc, ◌+◌, ◌<◌, Bool, true, false, not, ◌||◌, if◌then◌else◌}
use Rattle.std.proofs.Common.{List, [], ◌∷◌, length, slice_get, Option, Some, None, option_and_then, is_some}
use Rattle.std.proofs.Common.{is_none, refl, sym, ap, ◌∙◌, subst, add-zero, zero-add, true≢false, arith}
use Rattle.std.proofs.lemmas.Bool.{false≢true, and_from, and_parts, or_parts, not_from_false, not-true, or_from, and_left, or_left}
use Rattle.std.proofs.lemmas.Option.{slice_get_within, none-some, same_Some}
use Rattle.std.specs.List.{list_any, list_all}
use Rattle.plain_monitor.specs.declared.entry.Entry.{Entry}
use Rattle.plain_monitor.specs.declared.entry.Entry.TheVariants.{Resume}
use Rattle.plain_machine.specs.declared.monitor_call.MonitorCall.TheVariants as call
use Rattle.plain_machine.specs.declared.monitor_call.Mode.{Mode}
use Rattle.plain_machine.specs.declared.monitor_call.Mode.TheVariants.{Calling, Waiting, Unwinding, Ended}
use Rattle.plain_machine.specs.declared.offer.Offer.TheVariants as offer
use Rattle.plain_machine.specs.Thread.{ThreadState}
use Rattle.plain_machine.specs.Asking.{ask, ask_in, unwinds, held_from}
use Rattle.plain_machine.specs.Machine.{PlainMachine, ending_in, wanted, is_blocked, is_waiting, is_live, all_barred, is_stuck}
use Rattle.plain_machine.specs.Offering.{unless_owned, hash_offer, asked_offer, offered, is_next}

-- what `all_barred` says of one thread in this mode
abbrev rests : PlainMachine → ℕ → ThreadState → Mode → Bool
rests m t s mode = not (is_none (ending_in mode)) || (is_waiting m t mode || is_blocked m t (wanted (ask_in s mode)))

-- an enter is held back by an owner alone
owned_if_held : (o : ℕ) (owner : Option ℕ) (e : Entry) → is_next (unless_owned o owner e) ≡ false → is_some owner ≡ true
owned_if_held o None e h = absurd (true≢false h)
owned_if_held o (Some u) e h = refl

held_if_owned : (o : ℕ) (owner : Option ℕ) (e : Entry) → is_some owner ≡ true → is_next (unless_owned o owner e) ≡ false
held_if_owned o None e h = absurd (false≢true h)
held_if_owned o (Some u) e h = refl

hash_is_next : (o : ℕ) (hash : Option ℕ) → is_next (hash_offer o hash) ≡ true
hash_is_next o None = refl
hash_is_next o (Some v) = refl

waits_or_owned : (listed : Bool) (o : ℕ) (owner : Option ℕ)
    → is_next (if listed then offer.Waiting o else unless_owned o owner (Resume o)) ≡ false → (listed || is_some owner) ≡ true
waits_or_owned true o owner h = refl
waits_or_owned false o owner h = owned_if_held o owner (Resume o) h

held_if_waits : (listed : Bool) (o : ℕ) (owner : Option ℕ) → (listed || is_some owner) ≡ true
    → is_next (if listed then offer.Waiting o else unless_owned o owner (Resume o)) ≡ false
held_if_waits true o owner h = refl
held_if_waits false o owner h = held_if_owned o owner (Resume o) h

unwinds_next : (m : PlainMachine) (t : ℕ) (e : _) (held : Option ℕ) → is_next (asked_offer m t (Some (unwinds e held))) ≡ true
unwinds_next m t e None = refl
unwinds_next m t e (Some o) = refl

unwinds_unbarred : (m : PlainMachine) (t : ℕ) (e : _) (held : Option ℕ) → is_blocked m t (wanted (Some (unwinds e held))) ≡ false
unwinds_unbarred m t e None = refl
unwinds_unbarred m t e (Some o) = refl

-- a thread that is not offered an entry rests
rests_if_held : (m : PlainMachine) (t : ℕ) (s : ThreadState) (mode : Mode) → is_next (asked_offer m t (ask_in s mode)) ≡ false → rests m t s mode ≡ true
rests_if_held m t s (Calling (call.Enter o)) h = owned_if_held o _ _ h
rests_if_held m t s (Calling (call.Hash x o)) h = absurd (true≢false (sym (hash_is_next o _) ∙ h))
rests_if_held m t s (Calling c) h = absurd (true≢false h)
rests_if_held m t s (Waiting o) h = waits_or_owned _ o _ h
rests_if_held m t s (Unwinding e) h = absurd (true≢false (sym (unwinds_next m t e (held_from 0 s.holds)) ∙ h))
rests_if_held m t s (Ended e) h = refl

-- a thread that rests is not offered an entry
held_if_rests : (m : PlainMachine) (t : ℕ) (s : ThreadState) (mode : Mode) → rests m t s mode ≡ true → is_next (asked_offer m t (ask_in s mode)) ≡ false
held_if_rests m t s (Calling (call.Enter o)) h = held_if_owned o _ _ h
held_if_rests m t s (Calling c) h = absurd (false≢true h)
held_if_rests m t s (Waiting o) h = held_if_waits _ o _ h
held_if_rests m t s (Unwinding e) h = absurd (false≢true (sym (unwinds_unbarred m t e (held_from 0 s.holds)) ∙ h))
held_if_rests m t s (Ended e) h = refl

all_barred_from : (m : PlainMachine) (k : ℕ) (ss : List ThreadState)
    → ((j : ℕ) (s : ThreadState) → slice_get ss j ≡ Some s → rests m (k + j) s s.mode ≡ true) → all_barred m k ss ≡ true
all_barred_from m k [] h = refl
all_barred_from m k (s ∷ ss) h =
    and_from _ _ (subst (λ (i : ℕ). rests m i s s.mode ≡ true) (add-zero k) (h zero s refl))
    (all_barred_from m (k + 1) ss (λ j x e. subst (λ (i : ℕ). rests m i x x.mode ≡ true) (omega arith) (h (suc j) x e)))

all_barred_at : (m : PlainMachine) (k j : ℕ) (ss : List ThreadState) (s : ThreadState)
    → all_barred m k ss ≡ true → slice_get ss j ≡ Some s → rests m (k + j) s s.mode ≡ true
all_barred_at m k j [] s h e = absurd (none-some s e)
all_barred_at m k zero (x ∷ ss) s h e =
    let same : x ≡ s = cc in
    subst (λ (i : ℕ). rests m i s s.mode ≡ true) (sym (add-zero k)) (subst (λ (y : ThreadState). rests m k y y.mode ≡ true) same (and_parts _ _ h).0)
all_barred_at m k (suc j) (x ∷ ss) s h e = subst (λ (i : ℕ). rests m i s s.mode ≡ true) (omega arith) (all_barred_at m (k + 1) j ss s (and_parts _ _ h).1 e)

none_live : (ss : List ThreadState) → list_any is_live ss ≡ false → list_all (λ s. not (is_live s)) ss ≡ true
none_live [] h = refl
none_live (s ∷ ss) h = let p = or_parts (is_live s) (list_any is_live ss) h in and_from _ _ (not_from_false _ p.0) (none_live ss p.1)

all_ended : (ss : List ThreadState) → list_all (λ s. not (is_live s)) ss ≡ true → list_any is_live ss ≡ false
all_ended [] h = refl
all_ended (s ∷ ss) h = let p = and_parts (not (is_live s)) (list_all (λ (x : ThreadState). not (is_live x)) ss) h in
    or_from _ _ (not-true _ p.0) (all_ended ss p.1)

offered_to : (m : PlainMachine) (t : ℕ) (s : ThreadState) → slice_get m.threads t ≡ Some s → offered m t ≡ asked_offer m t (ask_in s s.mode)
offered_to m t s e = ap (λ (o : Option ThreadState). asked_offer m t (option_and_then ask o)) e

resting_at : (m : PlainMachine) (j : ℕ) (s : ThreadState) → ((t : ℕ) → t < length m.threads → is_next (offered m t) ≡ false)
    → slice_get m.threads j ≡ Some s → rests m (0 + j) s s.mode ≡ true
resting_at m j s h e =
    let held : is_next (asked_offer m j (ask_in s s.mode)) ≡ false = ap is_next (sym (offered_to m j s e)) ∙ h j (slice_get_within m.threads j s e) in
    subst (λ (i : ℕ). rests m i s s.mode ≡ true) (sym (zero-add j)) (rests_if_held m j s s.mode held)

pub offering_nothing_is_over : (m : PlainMachine) → ((t : ℕ) → t < length m.threads → is_next (offered m t) ≡ false)
    → (is_stuck m ≡ true) ⊎ (list_all (λ s. not (is_live s)) m.threads ≡ true)
offering_nothing_is_over m h = go (list_any is_live m.threads) refl
  where
    go : (live : Bool) → list_any is_live m.threads ≡ live → (is_stuck m ≡ true) ⊎ (list_all (λ s. not (is_live s)) m.threads ≡ true)
    go true e = inl (and_from _ _ e (all_barred_from m 0 m.threads (λ j s at. resting_at m j s h at)))
    go false e = inr (none_live m.threads e)

pub ended_is_not_stuck : (m : PlainMachine) → list_all (λ s. not (is_live s)) m.threads ≡ true → is_stuck m ≡ false
ended_is_not_stuck m h = and_left _ _ (all_ended m.threads h)

all_pass_at : (p : ThreadState → Bool) (ss : List ThreadState) (k : ℕ) (s : ThreadState) → list_all p ss ≡ true → slice_get ss k ≡ Some s → p s ≡ true
all_pass_at p [] k s h e = absurd (none-some s e)
all_pass_at p (x ∷ ss) zero s h e = ap p (sym (same_Some x s e)) ∙ (and_parts (p x) (list_all p ss) h).0
all_pass_at p (x ∷ ss) (suc k) s h e = all_pass_at p ss k s (and_parts (p x) (list_all p ss) h).1 e

-- a machine offers thread t nothing, where the thread rests or is not there
rests_everywhere : (m : PlainMachine) (t : ℕ) → ((s : ThreadState) → slice_get m.threads t ≡ Some s → rests m t s s.mode ≡ true) → is_next (offered m t) ≡ false
rests_everywhere m t h = go (slice_get m.threads t) refl
  where
    go : (state : Option ThreadState) → slice_get m.threads t ≡ state → is_next (offered m t) ≡ false
    go None e = ap (λ (o : Option ThreadState). is_next (asked_offer m t (option_and_then ask o))) e
    go (Some s) e = ap is_next (offered_to m t s e) ∙ held_if_rests m t s s.mode (h s e)

pub stuck_offers_nothing : (m : PlainMachine) (t : ℕ) → is_stuck m ≡ true → is_next (offered m t) ≡ false
stuck_offers_nothing m t h =
    rests_everywhere m t (λ s e. subst (λ (i : ℕ). rests m i s s.mode ≡ true) (zero-add t) (all_barred_at m 0 t m.threads s (and_parts _ _ h).1 e))

pub ended_offers_nothing : (m : PlainMachine) (t : ℕ) → list_all (λ s. not (is_live s)) m.threads ≡ true → is_next (offered m t) ≡ false
ended_offers_nothing m t h = rests_everywhere m t (λ s e. or_left _ _ (all_pass_at (λ x. not (is_live x)) m.threads t s h e))
