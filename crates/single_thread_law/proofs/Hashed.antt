-- An object of which a hash was logged has one.
use Rattle.std.proofs.Common.{◌≡◌, ℕ, ◌==◌, ◌&&◌, ◌||◌, nat_le, nat_lt, ◌^◌, Bool, true, false, ne_eqb, List, slice_get}
use Rattle.std.proofs.Common.{slice_set, Option, Some, None, is_some, refl, sym, ap, ◌∙◌, subst, inl, inr}
use Rattle.std.proofs.lemmas.Bool.{cases_eq, false≢true}
use Rattle.std.proofs.lemmas.Option.{cond_some, same_Some}
use Rattle.plain_monitor.specs.declared.entry.Entry.{Entry}
use Rattle.plain_monitor.specs.declared.entry.Entry.TheVariants as entry
use Rattle.plain_monitor.specs.Monitor.{PlainMonitor, only_if, owns, enter, exit, wait, resume, notify, notify_all}
use Rattle.plain_monitor.specs.Objects.{PlainObject, take_at, take_named, take_entry, named, with_monitor, with_hash, hashed, has_value}
use Rattle.plain_monitor.proofs.Lists.{get_set_same, get_set_other}
use Rattle.plain_history.specs.EnterPaths.{is_hash}
use Rattle.plain_history.proofs.Swaps.{taken_at}
use Rattle.single_thread_law.proofs.Drawing.{seen_with}

-- each object that was seen has a hash, where it is there
abbrev pub HaveHashes : (ℕ → Bool) → List PlainObject → Type 0
HaveHashes seen objects = (o : ℕ) (x : PlainObject) → seen o ≡ true → slice_get objects o ≡ Some x → is_some x.hash ≡ true

abbrev HasHash : PlainObject → Type 0
HasHash x = is_some x.hash ≡ true

by_monitor : (x y : PlainObject) (m : Option PlainMonitor) → HasHash x → with_monitor x m ≡ Some y → HasHash y
by_monitor x y None s h = absurd (cc h)
by_monitor x y (Some n) s h = subst HasHash (same_Some (record x { monitor = n }) y h) s

by_test : (x z y : PlainObject) (b : Bool) → HasHash z → only_if b z ≡ Some y → HasHash y
by_test x z y b s h = subst HasHash (cond_some b z y h).1 s

by_hash : (x y : PlainObject) (old : Option ℕ) (v : ℕ) → with_hash x (hashed old v) ≡ Some y → HasHash y
by_hash x y None v h = by_first (nat_le 1 v && nat_lt v (2 ^ 31)) h
  where
    by_first : (b : Bool) → with_hash x (only_if b (Some v)) ≡ Some y → HasHash y
    by_first true g = subst HasHash (same_Some (record x { hash = Some v }) y g) refl
    by_first false g = absurd (cc g)
by_hash x y (Some w) v h = by_same (w == v) h
  where
    by_same : (b : Bool) → with_hash x (only_if b (Some w)) ≡ Some y → HasHash y
    by_same true g = subst HasHash (same_Some (record x { hash = Some w }) y g) refl
    by_same false g = absurd (cc g)

-- an entry at an object leaves it its hash
keeps : (x y : PlainObject) (t : ℕ) (e : Entry) → HasHash x → take_at x t e ≡ Some y → HasHash y
keeps x y t (entry.Enter o p) s h = by_monitor x y (enter x.monitor t) s h
keeps x y t (entry.Exit o) s h = by_monitor x y (exit x.monitor t) s h
keeps x y t (entry.Wait o) s h = by_monitor x y (wait x.monitor t) s h
keeps x y t (entry.Resume o) s h = by_monitor x y (resume x.monitor t) s h
keeps x y t (entry.Notify o w) s h = by_monitor x y (notify x.monitor t w) s h
keeps x y t (entry.NotifyAll o w) s h = by_monitor x y (notify_all x.monitor t w) s h
keeps x y t (entry.Get o i v) s h = by_test x x y (owns x.monitor t && has_value (slice_get x.slots i) v) s h
keeps x y t (entry.Put o i v) s h = by_test x (record x { slots = slice_set x.slots i v }) y _ s h
keeps x y t (entry.Hash o v d) s h = by_hash x y x.hash v h
keeps x y t _ s h = subst HasHash (same_Some x y h) s

-- and a hash gives it one
given : (x y : PlainObject) (t o : ℕ) (e : Entry) → is_hash o e ≡ true → take_at x t e ≡ Some y → HasHash y
given x y t o (entry.Hash k v d) s h = by_hash x y x.hash v h
given x y t o e s h = absurd (false≢true s)

-- a hash of an object names the object
hash_names : (o : ℕ) (e : Entry) → is_hash o e ≡ true → named e ≡ Some o
hash_names o (entry.Hash k v d) s = let same : k ≡ o = eqb_is k o s in ap Some same
  where
    eqb_is : (a b : ℕ) → (a == b) ≡ true → a ≡ b
    eqb_is a b h = elim (cases_eq a b) [
      | inl e ↦ e
      | inr d ↦ absurd (false≢true (sym (ne_eqb a b d) ∙ h))
    ]
hash_names o e s = absurd (false≢true s)

at_object : (seen : ℕ → Bool) (x y : PlainObject) (t o : ℕ) (e : Entry) → (seen o ≡ true → HasHash x) → take_at x t e ≡ Some y
    → (b : Bool) → is_hash o e ≡ b → (b || seen o) ≡ true → HasHash y
at_object seen x y t o e was h true is s = given x y t o e is h
at_object seen x y t o e was h false is s = keeps x y t e (was s) h

pub hashes_kept : (seen : ℕ → Bool) (objects after : List PlainObject) (t : ℕ) (e : Entry) → HaveHashes seen objects
    → take_entry objects t e ≡ Some after → HaveHashes (seen_with e seen) after
hashes_kept seen objects after t e have h o y s at = by_name (named e) refl h
  where
    elsewhere : (named e ≡ Some o → ⊥) → seen o ≡ true
    elsewhere other = by_entry (is_hash o e) refl s
      where
        by_entry : (b : Bool) → is_hash o e ≡ b → (b || seen o) ≡ true → seen o ≡ true
        by_entry true is g = absurd (other (hash_names o e is))
        by_entry false is g = g

    by_name : (a : Option ℕ) → named e ≡ a → take_named objects t e a ≡ Some after → is_some y.hash ≡ true
    by_name None n g =
        have o y (elsewhere (λ q. absurd (cc (n, q)))) (ap (λ (xs : List PlainObject). slice_get xs o) (same_Some objects after g) ∙ at)
    by_name (Some k) n g =
        let r = taken_at objects after t e k g in
        elim (cases_eq k o) [
          | inl q ↦
              let there : slice_get after o ≡ Some r.y = ap (λ (xs : List PlainObject). slice_get xs o) r.is
              ∙ ap (slice_get (slice_set objects k r.y)) (sym q) ∙ get_set_same objects k r.x r.y r.was in
              let was : slice_get objects o ≡ Some r.x = ap (slice_get objects) (sym q) ∙ r.was in
              subst HasHash (same_Some r.y y (sym there ∙ at)) (at_object seen r.x r.y t o e (λ z. have o r.x z was) r.step (is_hash o e) refl s)
          | inr d ↦
              have o y (elsewhere (λ q. d (same_Some k o (sym n ∙ q))))
              (sym (get_set_other objects k o r.y d) ∙ ap (λ (xs : List PlainObject). slice_get xs o) (sym r.is) ∙ at)
        ]
