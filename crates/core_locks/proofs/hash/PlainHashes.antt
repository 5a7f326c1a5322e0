-- The hashes of the plain objects: each is above 0, never changes, and is what every hash entry of the object says.
use Rattle.core_locks.proofs.Prelude.{◌≡◌, ◌≢◌, ◌⊎◌, ℕ, zero, suc, ◌<◌, ◌^◌, ◌==◌, ◌&&◌, nat_lt, Bool, true, false, List, [], ◌∷◌, length}
use Rattle.core_locks.proofs.Prelude.{slice_set, Option, Some, None, refl, sym, ap, ◌∙◌, subst, arith, inl, inr, eqb-true, slice_get}
use Rattle.core_locks.proofs.Prelude.{option_and_then, nat_le, option_map, same_Some, AllByRecursion, PlainMonitor, only_if, PlainObject}
use Rattle.core_locks.proofs.Prelude.{take_entry, take_at, with_monitor, take_named, new_objects, with_hash, hashed, Logged, objects_after}
use Rattle.core_locks.proofs.Prelude.{take_all, Entry, Exit, Get, Notify, NotifyAll, Hash, Enter, Put, Wait, Resume, order, object_of, by_equal}
use Rattle.plain_monitor.specs.Objects.{named}
use Rattle.core_world.proofs.ObjectSlots.{got_object}
use Rattle.core_world.proofs.Updates.{object_here, object_else}

-- the hash stays, or is given for the first time
abbrev pub Moves : Option ℕ → Option ℕ → Type 0
Moves a b = (b ≡ a) ⊎ ((a ≡ None) × ((v : ℕ) × (b ≡ Some v) × (v ≢ 0)))

monitor_moves : (x y : PlainObject) (m : Option PlainMonitor) → with_monitor x m ≡ Some y → Moves x.hash y.hash
monitor_moves x y None e = absurd (cc e)
monitor_moves x y (Some n) e = inl (ap (λ (z : PlainObject). z.hash) (sym (same_Some (record x { monitor = n }) y e)))

same_moves : (x z y : PlainObject) (b : Bool) → z.hash ≡ x.hash → only_if b z ≡ Some y → Moves x.hash y.hash
same_moves x z y true h e = inl (ap (λ (r : PlainObject). r.hash) (sym (same_Some z y e)) ∙ h)
same_moves x z y false h e = absurd (cc e)

-- a hash that is taken is the object's afterwards
hash_moves : (x y : PlainObject) (a : Option ℕ) (v : ℕ) → x.hash ≡ a → with_hash x (hashed a v) ≡ Some y → Moves x.hash y.hash × (y.hash ≡ Some v)
hash_moves x y None v h e = by_test (nat_le 1 v && nat_lt v (2 ^ 31)) refl e
  where
    above : (n : ℕ) → (nat_le 1 n && nat_lt n (2 ^ 31)) ≡ true → n ≢ 0
    above zero f g = absurd (cc f)
    above (suc n) f g = absurd (omega (arith, g))

    by_test : (b : Bool) → (nat_le 1 v && nat_lt v (2 ^ 31)) ≡ b → with_hash x (only_if b (Some v)) ≡ Some y → Moves x.hash y.hash × (y.hash ≡ Some v)
    by_test true f g = let s = ap (λ (z : PlainObject). z.hash) (sym (same_Some (record x { hash = Some v }) y g)) in (inr (h, (v, s, above v f)), s)
    by_test false f g = absurd (cc g)
hash_moves x y (Some u) v h e = by_test (u == v) refl e
  where
    by_test : (b : Bool) → (u == v) ≡ b → with_hash x (only_if b (Some u)) ≡ Some y → Moves x.hash y.hash × (y.hash ≡ Some v)
    by_test true f g = let s = ap (λ (z : PlainObject). z.hash) (sym (same_Some (record x { hash = Some u }) y g)) in
        (inl (s ∙ sym h), s ∙ ap Some (eqb-true u v f))
    by_test false f g = absurd (cc g)

at_moves : (x y : PlainObject) (t : ℕ) (e : Entry) → take_at x t e ≡ Some y → Moves x.hash y.hash
at_moves x y t (Enter o path) h = monitor_moves x y _ h
at_moves x y t (Exit o) h = monitor_moves x y _ h
at_moves x y t (Wait o) h = monitor_moves x y _ h
at_moves x y t (Resume o) h = monitor_moves x y _ h
at_moves x y t (Notify o woken) h = monitor_moves x y _ h
at_moves x y t (NotifyAll o woken) h = monitor_moves x y _ h
at_moves x y t (Get o slot value) h = same_moves x _ y _ refl h
at_moves x y t (Put o slot value) h = same_moves x _ y _ refl h
at_moves x y t (Hash o v drawn) h = (hash_moves x y x.hash v refl h).0
at_moves x y t _ h = inl (ap (λ (r : PlainObject). r.hash) (sym (same_Some x y h)))

-- what an entry that names o makes of the objects
record Takes (P Q : List PlainObject) (t : ℕ) (e : Entry) (o : ℕ) : Type 0 where
  pub within : o < length P
  pub now : PlainObject
  pub takes : take_at (object_of P o) t e ≡ Some now
  pub is : slice_set P o now ≡ Q

takes_so : (P Q : List PlainObject) (t : ℕ) (e : Entry) (o : ℕ) → take_named P t e (Some o) ≡ Some Q → Takes P Q t e o
takes_so P Q t e o h = by_get (slice_get P o) refl h
  where
    by_object : (x : PlainObject) → slice_get P o ≡ Some x → (a : Option PlainObject)
        → take_at x t e ≡ a → option_map (λ y. slice_set P o y) a ≡ Some Q → Takes P Q t e o
    by_object x g None f q = absurd (cc q)
    by_object x g (Some y) f q = let a = got_object P o x g in record {
      within = a.0;
      now = y;
      takes = ap (λ z. take_at z t e) a.1 ∙ f;
      is = same_Some (slice_set P o y) Q q;
    }

    by_get : (a : Option PlainObject) → slice_get P o ≡ a
        → option_and_then (λ x. option_map (λ y. slice_set P o y) (take_at x t e)) a ≡ Some Q → Takes P Q t e o
    by_get None g q = absurd (cc q)
    by_get (Some x) g q = by_object x g (take_at x t e) refl q

abbrev pub hash_by : List PlainObject → ℕ → Option ℕ
hash_by P o = (object_of P o).hash

pub entry_moves : (P Q : List PlainObject) (t : ℕ) (e : Entry) (i : ℕ) → take_entry P t e ≡ Some Q → Moves (hash_by P i) (hash_by Q i)
entry_moves P Q t e i h = by_name (named e) h
  where
    by_name : (a : Option ℕ) → take_named P t e a ≡ Some Q → Moves (hash_by P i) (hash_by Q i)
    by_name None q = inl (ap (λ R. hash_by R i) (sym (same_Some P Q q)))
    by_name (Some o) q =
        let a = takes_so P Q t e o q in
        subst (λ R. Moves (hash_by P i) (hash_by R i)) a.is
        (by_equal i o
        (λ s. subst (λ j. Moves (hash_by P j) (hash_by (slice_set P o a.now) j)) (sym s) (subst (λ (z : PlainObject). Moves (hash_by P o) z.hash)
        (sym (object_here P o a.now a.within)) (at_moves (object_of P o) a.now t e a.takes)))
        (λ d. inl (ap (λ (z : PlainObject). z.hash) (object_else P o i a.now d))))

-- a hash entry says the hash
pub entry_says : (P Q : List PlainObject) (t o v : ℕ) (drawn : Option ℕ) → take_entry P t (Hash o v drawn) ≡ Some Q → hash_by Q o ≡ Some v
entry_says P Q t o v drawn h =
    let a = takes_so P Q t (Hash o v drawn) o h in
    ap (λ R. hash_by R o) (sym a.is) ∙ ap (λ (z : PlainObject). z.hash) (object_here P o a.now a.within)
    ∙ (hash_moves (object_of P o) a.now (hash_by P o) v refl a.takes).1

-- ALL ENTRIES
kept : (a b : Option ℕ) (v : ℕ) → Moves a b → a ≡ Some v → b ≡ Some v
kept a b v (inl e) h = e ∙ h
kept a b v (inr e) h = absurd (cc (e.0, h))

-- no hash is 0
abbrev pub AreAbove : List PlainObject → Type 0
AreAbove P = (o v : ℕ) → hash_by P o ≡ Some v → v ≢ 0

-- what the first entry makes of the objects
after_first : (P Q : List PlainObject) (x : ℕ × Logged) (xs : List (ℕ × Logged)) → take_all P (x ∷ xs) ≡ Some Q
    → (R : List PlainObject) × (take_entry P x.0 x.1.entry ≡ Some R) × (take_all R xs ≡ Some Q)
after_first P Q x xs h = by_entry (take_entry P x.0 x.1.entry) refl h
  where
    by_entry : (a : Option (List PlainObject)) → take_entry P x.0 x.1.entry ≡ a → option_and_then (λ after. take_all after xs) a ≡ Some Q
        → (R : List PlainObject) × (take_entry P x.0 x.1.entry ≡ Some R) × (take_all R xs ≡ Some Q)
    by_entry None f q = absurd (cc q)
    by_entry (Some R) f q = (R, f, q)

pub all_keep : (P Q : List PlainObject) (xs : List (ℕ × Logged)) → take_all P xs ≡ Some Q → (o v : ℕ) → hash_by P o ≡ Some v → hash_by Q o ≡ Some v
all_keep P Q [] h o v e = ap (λ R. hash_by R o) (sym (same_Some P Q h)) ∙ e
all_keep P Q (x ∷ xs) h o v e = let a = after_first P Q x xs h in all_keep a.0 Q xs a.2 o v (kept _ _ v (entry_moves P a.0 x.0 x.1.entry o a.1) e)

pub all_above : (P Q : List PlainObject) (xs : List (ℕ × Logged)) → take_all P xs ≡ Some Q → AreAbove P → AreAbove Q
all_above P Q [] h above o v e = above o v (ap (λ R. hash_by R o) (same_Some P Q h) ∙ e)
all_above P Q (x ∷ xs) h above o v e =
    let a = after_first P Q x xs h in
    all_above a.0 Q xs a.2 (λ i u f. elim (entry_moves P a.0 x.0 x.1.entry i a.1) [
      | inl b ↦ above i u (sym b ∙ f)
      | inr b ↦ λ z. b.1.2 (same_Some _ _ (sym b.1.1 ∙ f) ∙ z)
    ]) o v e

-- the new objects have no hash
new_hash : (shape : List (ℕ × ℕ)) (o : ℕ) → hash_by (new_objects shape) o ≡ None
new_hash [] o = refl
new_hash (s ∷ shape) zero = refl
new_hash (s ∷ shape) (suc o) = new_hash shape o

pub above_after : (shape : List (ℕ × ℕ)) (logs : List (List Logged)) (P : List PlainObject) → objects_after shape logs ≡ Some P → AreAbove P
above_after shape logs P h = all_above (new_objects shape) P (order logs) h (λ o v e. absurd (cc (e, new_hash shape o)))

-- what an entry says of the hashes afterwards, if it is a hash
abbrev pub Says : List PlainObject → Entry → Type 0
Says Q (Hash o v drawn) = hash_by Q o ≡ Some v
Says Q _ = Unit {0}

says_so : (P R Q : List PlainObject) (t : ℕ) (xs : List (ℕ × Logged)) (e : Entry) → take_entry P t e ≡ Some R → take_all R xs ≡ Some Q → Says Q e
says_so P R Q t xs (Hash o v drawn) f q = all_keep R Q xs q o v (entry_says P R t o v drawn f)
says_so P R Q t xs _ f q = tt

pub all_say : (P Q : List PlainObject) (xs : List (ℕ × Logged)) → take_all P xs ≡ Some Q → AllByRecursion (λ x. Says Q x.1.entry) xs
all_say P Q [] h = tt
all_say P Q (x ∷ xs) h = let a = after_first P Q x xs h in (says_so P a.0 Q x.0 xs x.1.entry a.1 a.2, all_say a.0 Q xs a.2)
