-- An entry above the bounds may be appended, and keeps them.
use Rattle.std.proofs.Common.{◌≡◌, ℕ, ◌<◌, ◌≤◌, ◌≢◌, ◌⊎◌, true, List, [], ◌∷◌, ◌++◌, length, Option, Some, None, slice_get, slice_set}
use Rattle.std.proofs.Common.{slice_index, refl, ap, sym, subst, ◌∙◌, inl, inr, arith, get_or-set_other, get_or-set_same}
use Rattle.std.proofs.lemmas.Bool.Decides.{nat_tests}
use Rattle.std.proofs.lemmas.Bool.{cases_eq}
use Rattle.std.proofs.lemmas.Option.{same_Some}
use Rattle.std.specs.List.{AllByRecursion}
use Rattle.plain_monitor.specs.declared.entry.Entry.{Entry}
use Rattle.plain_monitor.specs.declared.entry.Logged.{Logged}
use Rattle.plain_monitor.specs.Objects.{PlainObject, take_named, take_entry, named, hashed}
use Rattle.plain_monitor.specs.Order.{is_before, order}
use Rattle.plain_monitor.specs.History.{appended, last_stamp, log_of, RisesAbove}
use Rattle.plain_monitor.proofs.Merging.{empty_order}
use Rattle.plain_monitor.proofs.Orders.{all_insert}
use Rattle.plain_monitor.proofs.Appending.{last_more, order_appended}
use Rattle.plain_history.specs.Tied.{bound_to, is_same_object, is_tied}
use Rattle.plain_history.specs.Appending.{MayAppend}
use Rattle.plain_history.specs.Stamps.{IsBounded, bound_of, StampsBound, IsAboveBounds, BoundsRise}
use Rattle.plain_monitor.proofs.Lists.{all_weaker, get_set_same}
use Rattle.plain_history.proofs.Swaps.{IsPlain, IsHash, plain_or_hash, hash_taken, taken_at, elsewhere, bound_is_named}

-- what is tied to an entry that is bound to o is bound to o
tied_is_bound : (a b : Option ℕ) (o : ℕ) → b ≡ Some o → is_same_object a b ≡ true → a ≡ Some o
tied_is_bound None b o h k = absurd (cc k)
tied_is_bound (Some i) b o h k =
    let r : is_same_object (Some i) (Some o) ≡ true = rw h at k in
    let e : i ≡ o = grind (arith, nat_tests, r) in
    ap Some e

-- nothing is tied to an entry that is bound to none
never_tied : (a b : Option ℕ) → b ≡ None → is_same_object a b ≡ true → ⊥
never_tied None b h k = absurd (cc k)
never_tied (Some i) b h k = absurd (cc (rw h at k))

-- an entry above a bound of its object may be appended
pub above_bound : (logs : List (List Logged)) (t : ℕ) (l : Logged) (o s : ℕ) → t < length logs
    → last_stamp (log_of logs t) < l.stamp → bound_to l.entry ≡ Some o → IsBounded logs o s → s < l.stamp
    → MayAppend logs t l
above_bound logs t l o s h k b bounded up =
    record {
      thread = h;
      stamp = k;
      follows = all_weaker (λ x. bound_to x.1.entry ≡ Some o → x.1.stamp ≤ s) (λ x. is_tied x.1.entry l.entry ≡ true → is_before x (t, l) ≡ true)
          (λ x f tie. let le = f (tied_is_bound (bound_to x.1.entry) (bound_to l.entry) o b tie) in
          let lt : x.1.stamp < l.stamp = omega arith in grind (arith, nat_tests))
          (order logs) bounded;
    }

-- a fact of every entry holds of all of a list
all_of : (P : ℕ × Logged → Type 0) → ((x : ℕ × Logged) → P x) → (xs : List (ℕ × Logged)) → AllByRecursion P xs
all_of P f [] = tt
all_of P f (x ∷ xs) = (f x, all_of P f xs)

-- an entry that is bound to no object may be appended
pub unbound_may_append : (logs : List (List Logged)) (t : ℕ) (l : Logged) → t < length logs
    → last_stamp (log_of logs t) < l.stamp → bound_to l.entry ≡ None → MayAppend logs t l
unbound_may_append logs t l h k b =
    record {
      thread = h;
      stamp = k;
      follows = all_of (λ x. is_tied x.1.entry l.entry ≡ true → is_before x (t, l) ≡ true)
          (λ x tie. absurd (never_tied (bound_to x.1.entry) (bound_to l.entry) b tie)) (order logs);
    }

-- an entry above the bounds may be appended, by what it is bound to
may_append_by : (before after : List PlainObject) (logs : List (List Logged)) (kept : List ℕ) (t : ℕ) (l : Logged) (b : Option ℕ) → bound_to l.entry ≡ b
    → StampsBound before logs kept → IsAboveBounds before logs kept t l → take_entry before t l.entry ≡ Some after → MayAppend logs t l
may_append_by before after logs kept t l None e bounds above step = unbound_may_append logs t l above.thread above.stamp e
may_append_by before after logs kept t l (Some o) e bounds above step =
    let a = taken_at before after t l.entry o (ap (take_named before t l.entry) (sym (bound_is_named l.entry o e)) ∙ step) in
    above_bound logs t l o (bound_of logs kept o a.x.monitor.owner) above.thread above.stamp e (bounds o a.x a.was) (above.bound o a.x e a.was)

-- an entry above the bounds that the objects take may be appended
pub above_bounds : (before after : List PlainObject) (logs : List (List Logged)) (kept : List ℕ) (t : ℕ) (l : Logged)
    → StampsBound before logs kept → IsAboveBounds before logs kept t l → take_entry before t l.entry ≡ Some after → MayAppend logs t l
above_bounds before after logs kept t l bounds above step = may_append_by before after logs kept t l (bound_to l.entry) refl bounds above step

-- empty logs are within any bounds
pub empty_bounded : (objects : List PlainObject) (logs : List (List Logged)) (kept : List ℕ) → ((t : ℕ) → log_of logs t ≡ []) → StampsBound objects logs kept
empty_bounded objects logs kept h o x at = rw (empty_order logs h) tt

-- the thread's last stamp is then the new one
pub last_of_own : (logs : List (List Logged)) (t : ℕ) (l : Logged) → t < length logs → last_stamp (log_of (appended logs t l) t) ≡ l.stamp
last_of_own logs t l h = ap last_stamp (get_or-set_same logs t (log_of logs t ++ l ∷ []) [] h) ∙ last_more 0 (log_of logs t) l

-- another thread's log is as it was
log_of_other : (logs : List (List Logged)) (t u : ℕ) (l : Logged) → u ≢ t → log_of (appended logs t l) u ≡ log_of logs u
log_of_other logs t u l d = get_or-set_other logs t u (log_of logs t ++ l ∷ []) [] d

-- no thread's last stamp falls
pub last_grows : (logs : List (List Logged)) (t u : ℕ) (l : Logged) → t < length logs
    → last_stamp (log_of logs t) < l.stamp → last_stamp (log_of logs u) ≤ last_stamp (log_of (appended logs t l) u)
last_grows logs t u l h s =
    elim (cases_eq u t) [
      | inl e ↦ let a = last_of_own logs t l h in rw (e, a) (omega arith)
      | inr d ↦ let a = ap last_stamp (log_of_other logs t u l d) in omega (arith, a)
    ]

-- no object's bound falls, where what is kept for it does not
pub bound_grows : (logs : List (List Logged)) (kept now : List ℕ) (t : ℕ) (l : Logged) (o : ℕ) (owner : Option ℕ)
    → t < length logs → last_stamp (log_of logs t) < l.stamp
    → slice_index kept o ≤ slice_index now o → bound_of logs kept o owner ≤ bound_of (appended logs t l) now o owner
bound_grows logs kept now t l o None h s k = k
bound_grows logs kept now t l o (Some u) h s k = last_grows logs t u l h s

-- a larger bound holds with one more entry, where it is a bound for that too
bounded_with : (logs : List (List Logged)) (t : ℕ) (l : Logged) (o old new : ℕ)
    → AllByRecursion (RisesAbove 0) logs → t < length logs → last_stamp (log_of logs t) < l.stamp
    → IsBounded logs o old → old ≤ new → (bound_to l.entry ≡ Some o → l.stamp ≤ new) → IsBounded (appended logs t l) o new
bounded_with logs t l o old new r h s bounded le own =
    let P : ℕ × Logged → Type 0 = λ x. bound_to x.1.entry ≡ Some o → x.1.stamp ≤ new in
    let all = all_weaker (λ x. bound_to x.1.entry ≡ Some o → x.1.stamp ≤ old) P (λ x f q. let g = f q in omega (arith, g)) (order logs) bounded in
    subst (AllByRecursion P) (sym (order_appended logs t l r h s)) (all_insert P (t, l) (order logs) own all)

-- an entry is bound to the object or not
pub bound_or_not : (b : Option ℕ) (o : ℕ) → (b ≡ Some o) ⊎ (b ≢ Some o)
bound_or_not None o = inr (λ e. absurd (cc e))
bound_or_not (Some i) o =
    elim (cases_eq i o) [
      | inl e ↦ inl (ap Some e)
      | inr d ↦ inr (λ e. d (same_Some i o e))
    ]

-- the object was there before with the same monitor and the same slots
pub record SameMonitor (before : List PlainObject) (o : ℕ) (z : PlainObject) : Type 0 where
  pub x : PlainObject
  pub was : slice_get before o ≡ Some x
  pub same : x.monitor ≡ z.monitor
  pub slots : x.slots ≡ z.slots

-- an entry that names an object to which it is not bound leaves its monitor, by whether it is a hash
hash_keeps_monitor : (before after : List PlainObject) (t : ℕ) (e : Entry) (o : ℕ) (z : PlainObject)
    → IsPlain e ⊎ IsHash e → named e ≡ Some o → bound_to e ≢ Some o
    → take_named before t e (Some o) ≡ Some after → slice_get after o ≡ Some z → SameMonitor before o z
hash_keeps_monitor before after t e o z (inl g) n d h at = absurd (d (g.bound ∙ n))
hash_keeps_monitor before after t e o z (inr g) n d h at =
    let a = taken_at before after t e o h in
    let k = hash_taken a.x a.y (hashed a.x.hash g.value) (sym (g.acts a.x t) ∙ a.step) in
    let there : slice_get after o ≡ Some a.y = ap (λ xs. slice_get xs o) a.is ∙ get_set_same before o a.x a.y a.was in
    let is = k.2 ∙ same_Some a.y z (sym there ∙ at) in
    record { x = a.x; was = a.was; same = ap (λ v. v.monitor) is; slots = ap (λ v. v.slots) is }

-- an entry leaves the monitors of objects to which it is not bound, by what it names
monitor_left_by : (before after : List PlainObject) (t : ℕ) (e : Entry) (o : ℕ) (z : PlainObject) (n : Option ℕ) → named e ≡ n → bound_to e ≢ Some o
    → take_named before t e n ≡ Some after → slice_get after o ≡ Some z → SameMonitor before o z
monitor_left_by before after t e o z None n d h at =
    record { x = z; was = ap (λ xs. slice_get xs o) (same_Some before after h) ∙ at; same = refl; slots = refl }
monitor_left_by before after t e o z (Some i) n d h at =
    elim (cases_eq i o) [
      | inl same ↦ hash_keeps_monitor before after t e o z (plain_or_hash e) (n ∙ ap Some same) d (ap (λ k. take_named before t e (Some k)) (sym same) ∙ h) at
      | inr other ↦ record { x = z; was = sym (elsewhere before after t e i o (ap (take_named before t e) n ∙ h) n other) ∙ at; same = refl; slots = refl }
    ]

-- an entry leaves the monitors of objects to which it is not bound
pub monitor_left : (before after : List PlainObject) (t : ℕ) (e : Entry) (o : ℕ) (z : PlainObject) → bound_to e ≢ Some o
    → take_entry before t e ≡ Some after → slice_get after o ≡ Some z → SameMonitor before o z
monitor_left before after t e o z d h at = monitor_left_by before after t e o z (named e) refl d h at

-- an entry above the bounds keeps them, where they rise so
pub bounds_kept : (before after : List PlainObject) (logs : List (List Logged)) (kept now : List ℕ) (t : ℕ) (l : Logged)
    → AllByRecursion (RisesAbove 0) logs → StampsBound before logs kept → IsAboveBounds before logs kept t l → take_entry before t l.entry ≡ Some after
    → BoundsRise after logs kept now t l → StampsBound after (appended logs t l) now
bounds_kept before after logs kept now t l r bounds above step rise o z at =
    elim (bound_or_not (bound_to l.entry) o) [
      | inl b ↦
          let a = taken_at before after t l.entry o (ap (take_named before t l.entry) (sym (bound_is_named l.entry o b)) ∙ step) in
          let new = rise.own o z b at in
          let le : bound_of logs kept o a.x.monitor.owner ≤ bound_of (appended logs t l) now o z.monitor.owner =
          omega (arith, above.bound o a.x b a.was, new) in
          bounded_with logs t l o (bound_of logs kept o a.x.monitor.owner)
          (bound_of (appended logs t l) now o z.monitor.owner) r above.thread above.stamp (bounds o a.x a.was) le (λ q. new)
      | inr d ↦
          let m = monitor_left before after t l.entry o z d step at in
          let le = bound_grows logs kept now t l o z.monitor.owner above.thread above.stamp (rise.others o d) in
          let old : IsBounded logs o (bound_of logs kept o z.monitor.owner) =
          subst (λ v. IsBounded logs o (bound_of logs kept o v.owner)) m.same (bounds o m.x m.was) in
          bounded_with logs t l o (bound_of logs kept o z.monitor.owner)
          (bound_of (appended logs t l) now o z.monitor.owner) r above.thread above.stamp old le (λ q. absurd (d q))
    ]

-- the bounds rise where an entry is bound to no object
pub rise_unbound : (after : List PlainObject) (logs : List (List Logged)) (kept : List ℕ) (t : ℕ) (l : Logged)
    → bound_to l.entry ≡ None → BoundsRise after logs kept kept t l
rise_unbound after logs kept t l b = record { others = λ o d. omega arith; own = λ o z e at. absurd (cc (b, e)) }

-- an entry that is bound to no object keeps the bounds
pub kept_by_unbound : (before after : List PlainObject) (logs : List (List Logged)) (kept : List ℕ) (t : ℕ) (l : Logged)
    → AllByRecursion (RisesAbove 0) logs → StampsBound before logs kept → IsAboveBounds before logs kept t l → take_entry before t l.entry ≡ Some after
    → bound_to l.entry ≡ None → StampsBound after (appended logs t l) kept
kept_by_unbound before after logs kept t l r bounds above step b =
    bounds_kept before after logs kept kept t l r bounds above step (rise_unbound after logs kept t l b)

-- they rise where its thread owns the object afterwards
pub rise_by_owner : (after : List PlainObject) (logs : List (List Logged)) (kept : List ℕ) (t : ℕ) (l : Logged) (o : ℕ) (y : PlainObject) → t < length logs
    → bound_to l.entry ≡ Some o → slice_get after o ≡ Some y → y.monitor.owner ≡ Some t → BoundsRise after logs kept kept t l
rise_by_owner after logs kept t l o y h b now owner =
    let last = last_of_own logs t l h in
    record {
      others = λ i d. omega arith;
      own = λ i z e at.
          let same : o ≡ i = same_Some o i (sym b ∙ e) in
          let is : y ≡ z = same_Some y z (sym now ∙ ap (slice_get after) same ∙ at) in
          let new : bound_of (appended logs t l) kept i z.monitor.owner ≡ l.stamp =
          ap (λ v. bound_of (appended logs t l) kept i v.monitor.owner) (sym is) ∙ ap (bound_of (appended logs t l) kept i) owner ∙ last in
          omega (arith, new);
    }

-- an entry whose thread owns the object afterwards keeps the bounds
pub kept_by_owner : (before after : List PlainObject) (logs : List (List Logged)) (kept : List ℕ) (t : ℕ) (l : Logged) (o : ℕ) (y : PlainObject)
    → AllByRecursion (RisesAbove 0) logs → StampsBound before logs kept → IsAboveBounds before logs kept t l → take_entry before t l.entry ≡ Some after
    → bound_to l.entry ≡ Some o → slice_get after o ≡ Some y → y.monitor.owner ≡ Some t → StampsBound after (appended logs t l) kept
kept_by_owner before after logs kept t l o y r bounds above step b now owner =
    bounds_kept before after logs kept kept t l r bounds above step (rise_by_owner after logs kept t l o y above.thread b now owner)

-- they rise where it leaves the object without an owner, and its stamp is then kept for the object
pub rise_where_let_go : (after : List PlainObject) (logs : List (List Logged)) (kept : List ℕ) (t : ℕ) (l : Logged) (o : ℕ) (y : PlainObject)
    → bound_to l.entry ≡ Some o → slice_get after o ≡ Some y → y.monitor.owner ≡ None
    → o < length kept → BoundsRise after logs kept (slice_set kept o l.stamp) t l
rise_where_let_go after logs kept t l o y b now owner room =
    record {
      others = λ i d. let other = get_or-set_other kept o i l.stamp 0 (λ e. d (b ∙ ap Some (sym e))) in omega (arith, other);
      own = λ i z e at.
          let same : o ≡ i = same_Some o i (sym b ∙ e) in
          let is : y ≡ z = same_Some y z (sym now ∙ ap (slice_get after) same ∙ at) in
          let new : bound_of (appended logs t l) (slice_set kept o l.stamp) i z.monitor.owner ≡ l.stamp =
          ap (λ v. bound_of (appended logs t l) (slice_set kept o l.stamp) i v.monitor.owner) (sym is)
          ∙ ap (bound_of (appended logs t l) (slice_set kept o l.stamp) i) owner
          ∙ ap (slice_index (slice_set kept o l.stamp)) (sym same)
          ∙ get_or-set_same kept o l.stamp 0 room in
          omega (arith, new);
    }

-- an entry that leaves the object without an owner keeps the bounds, where its stamp is then kept for the object
pub kept_where_let_go : (before after : List PlainObject) (logs : List (List Logged)) (kept : List ℕ) (t : ℕ) (l : Logged) (o : ℕ) (y : PlainObject)
    → AllByRecursion (RisesAbove 0) logs → StampsBound before logs kept → IsAboveBounds before logs kept t l → take_entry before t l.entry ≡ Some after
    → bound_to l.entry ≡ Some o → slice_get after o ≡ Some y → y.monitor.owner ≡ None
    → o < length kept → StampsBound after (appended logs t l) (slice_set kept o l.stamp)
kept_where_let_go before after logs kept t l o y r bounds above step b now owner room =
    bounds_kept before after logs kept (slice_set kept o l.stamp) t l r bounds above step (rise_where_let_go after logs kept t l o y b now owner room)
