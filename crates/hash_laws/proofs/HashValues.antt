-- All hashes of an object have one value, where a machine takes them.
use Rattle.std.proofs.Common.{◌≡◌, ◌⊎◌, inl, inr, ℕ, ◌==◌, ◌&&◌, ◌^◌, nat_le, nat_lt, true, List, [], ◌∷◌, slice_get}
use Rattle.std.proofs.Common.{slice_set, Option, Some, None, refl, sym, ap, ◌∙◌, subst, eqb-true, eq-eqb}
use Rattle.std.specs.List.{list_all}
use Rattle.std.proofs.lemmas.Bool.{cases_eq}
use Rattle.std.proofs.lemmas.Option.{cond_some, none-some, same_Some}
use Rattle.plain_monitor.specs.declared.entry.Entry.{Entry}
use Rattle.plain_monitor.specs.declared.entry.Entry.TheVariants as entry
use Rattle.plain_monitor.specs.declared.entry.Logged.{Logged}
use Rattle.plain_monitor.specs.Objects.{PlainObject, hashed, named, take_at, take_entry, take_named}
use Rattle.plain_monitor.proofs.Lists.{get_set_same, get_set_other}
use Rattle.plain_history.proofs.Joined.{first_some}
use Rattle.plain_history.proofs.Swaps.{IsHash, IsPlain, hash_taken, plain_or_hash, rehashed, taken_at}
use Rattle.plain_machine.specs.Legal.{after_all}
use Rattle.plain_machine.specs.Machine.{PlainMachine, take}
use Rattle.machine_laws.proofs.ReachedAsked.{taken}
use Rattle.lock_journal.specs.Hashes.{all_same, hash_in, hashes_of}

-- object o is there, and has this hash
pub record IsHashed (objects : List PlainObject) (o value : ℕ) : Type 0 where
  pub object : PlainObject
  pub there : slice_get objects o ≡ Some object
  pub hash : object.hash ≡ Some value

one_hash : (objects : List PlainObject) (o v w : ℕ) → IsHashed objects o v → IsHashed objects o w → v ≡ w
one_hash objects o v w a b =
    let same : a.object ≡ b.object = same_Some a.object b.object (sym a.there ∙ b.there) in
    same_Some v w (sym a.hash ∙ ap (λ (x : PlainObject). x.hash) same ∙ b.hash)

-- a hash that an object takes is then its hash
hash_after : (old : Option ℕ) (v : ℕ) (k : Option ℕ) → hashed old v ≡ Some k → k ≡ Some v
hash_after None v k h = sym (cond_some (nat_le 1 v && nat_lt v (2 ^ 31)) (Some v) k h).1
hash_after (Some w) v k h =
    let r = cond_some (w == v) (Some w) k h in
    sym r.1 ∙ ap Some (eqb-true w v r.0)

-- and stays it
hash_stays : (w v : ℕ) (k : Option ℕ) → hashed (Some w) v ≡ Some k → k ≡ Some w
hash_stays w v k h = sym (cond_some (w == v) (Some w) k h).1

-- an entry that is none leaves the hash
plain_keeps : (e : Entry) → IsPlain e → (x y : PlainObject) (t : ℕ) → take_at x t e ≡ Some y → y.hash ≡ x.hash
plain_keeps e plain x y t h =
    let frame = plain.frame x t x.hash in
    let same : Some (rehashed x.hash y) ≡ Some y = cc in
    let is : rehashed x.hash y ≡ y = cc in
    sym (ap (λ (z : PlainObject). z.hash) is)

object_keeps : (x y : PlainObject) (t w : ℕ) (e : Entry) → x.hash ≡ Some w → take_at x t e ≡ Some y → y.hash ≡ Some w
object_keeps x y t w e h step = by_kind (plain_or_hash e)
  where
    by_kind : IsPlain e ⊎ IsHash e → y.hash ≡ Some w
    by_kind (inl plain) = plain_keeps e plain x y t step ∙ h
    by_kind (inr is) =
        let r = hash_taken x y (hashed x.hash is.value) (sym (is.acts x t) ∙ step) in
        ap (λ (z : PlainObject). z.hash) (sym r.2) ∙ hash_stays w is.value r.0 (ap (λ k. hashed k is.value) (sym h) ∙ r.1)

-- an object keeps its hash
keeps : (objects after : List PlainObject) (t o w : ℕ) (e : Entry) → IsHashed objects o w → take_entry objects t e ≡ Some after → IsHashed after o w
keeps objects after t o w e h step = by_name (named e) step
  where
    by_name : (a : Option ℕ) → take_named objects t e a ≡ Some after → IsHashed after o w
    by_name None g = subst (λ xs. IsHashed xs o w) (same_Some objects after g) h
    by_name (Some k) g =
        let r = taken_at objects after t e k g in
        elim (cases_eq k o) [
          | inl q ↦
              let was : slice_get objects o ≡ Some r.x = ap (slice_get objects) (sym q) ∙ r.was in
              let same : h.object ≡ r.x = same_Some h.object r.x (sym h.there ∙ was) in
              record {
                object = r.y;
                there = ap (λ (xs : List PlainObject). slice_get xs o) r.is
                    ∙ ap (slice_get (slice_set objects k r.y)) (sym q) ∙ get_set_same objects k r.x r.y r.was;
                hash = object_keeps r.x r.y t w e (ap (λ (x : PlainObject). x.hash) (sym same) ∙ h.hash) r.step;
              }
          | inr d ↦
              record {
                object = h.object;
                there = ap (λ (xs : List PlainObject). slice_get xs o) r.is ∙ get_set_other objects k o r.y d ∙ h.there;
                hash = h.hash;
              }
        ]

-- a hash entry of an object
pub record IsHashEntry (o value : ℕ) (e : Entry) : Type 0 where
  pub drawn : Option ℕ
  pub is : e ≡ entry.Hash o value drawn

pub hash_entry : (o v : ℕ) (e : Entry) → hash_in o e ≡ Some v → IsHashEntry o v e
hash_entry o v (entry.Hash object value drawn) h =
    let r = cond_some (object == o) value v h in
    let same : object ≡ o = eqb-true object o r.0 in
    record { drawn = drawn; is = λ i. entry.Hash (same i) (r.1 i) drawn }
hash_entry o v e h = absurd (none-some v h)

-- an entry gives its object the hash that it has
gives : (objects after : List PlainObject) (t o v : ℕ) (e : Entry) → hash_in o e ≡ Some v → take_entry objects t e ≡ Some after → IsHashed after o v
gives objects after t o v e h step =
    let k = hash_entry o v e h in
    let r = taken_at objects after t (entry.Hash o v k.drawn) o (ap (take_entry objects t) (sym k.is) ∙ step) in
    let taken = hash_taken r.x r.y (hashed r.x.hash v) r.step in
    record {
      object = r.y;
      there = ap (λ (xs : List PlainObject). slice_get xs o) r.is ∙ get_set_same objects o r.x r.y r.was;
      hash = ap (λ (z : PlainObject). z.hash) (sym taken.2) ∙ hash_after r.x.hash v taken.0 taken.1;
    }

-- MACHINES
-- what the objects of a machine took
objects_take : (m next : PlainMachine) (t : ℕ) (e : Entry) → take m t e ≡ Some next → take_entry m.objects t e ≡ Some next.objects
objects_take m next t e h =
    let k = taken m t e next h in k.takes ∙ ap (λ (z : PlainMachine). Some z.objects) k.is

machine_keeps : (m next : PlainMachine) (t o w : ℕ) (e : Entry) → IsHashed m.objects o w → take m t e ≡ Some next → IsHashed next.objects o w
machine_keeps m next t o w e h step = keeps m.objects next.objects t o w e h (objects_take m next t e step)

machine_gives : (m next : PlainMachine) (t o v : ℕ) (e : Entry) → hash_in o e ≡ Some v → take m t e ≡ Some next → IsHashed next.objects o v
machine_gives m next t o v e h step = gives m.objects next.objects t o v e h (objects_take m next t e step)

-- where the object has a hash already, all further ones are that
all_equal : (m : PlainMachine) (xs : List (ℕ × Logged)) (last : PlainMachine) (o w : ℕ) → after_all m xs ≡ Some last → IsHashed m.objects o w
    → list_all (λ v. w == v) (hashes_of o xs) ≡ true
all_equal m [] last o w e h = refl
all_equal m (x ∷ xs) last o w e h =
    let next = first_some (λ z. after_all z xs) (take m x.0 x.1.entry) last e in
    let kept = machine_keeps m next.0 x.0 o w x.1.entry h next.1 in
    by_entry (hash_in o x.1.entry) (λ v is. one_hash next.0.objects o w v kept (machine_gives m next.0 x.0 o v x.1.entry is next.1))
    (all_equal next.0 xs last o w next.2 kept) refl
  where
    by_entry : (a : Option ℕ) → ((v : ℕ) → hash_in o x.1.entry ≡ Some v → w ≡ v) → list_all (λ v. w == v) (hashes_of o xs) ≡ true → hash_in o x.1.entry ≡ a
        → list_all (λ v. w == v) (hashes_of o (x ∷ xs)) ≡ true
    by_entry None same rest is = rw is rest
    by_entry (Some v) same rest is = rw (is, eq-eqb w v (same v is)) rest

pub one_value : (m : PlainMachine) (xs : List (ℕ × Logged)) (last : PlainMachine) (o : ℕ) → after_all m xs ≡ Some last → all_same (hashes_of o xs) ≡ true
one_value m [] last o e = refl
one_value m (x ∷ xs) last o e =
    let next = first_some (λ z. after_all z xs) (take m x.0 x.1.entry) last e in
    by_entry (hash_in o x.1.entry) (λ v is. all_equal next.0 xs last o v next.2 (machine_gives m next.0 x.0 o v x.1.entry is next.1))
    (one_value next.0 xs last o next.2) refl
  where
    by_entry : (a : Option ℕ) → ((v : ℕ) → hash_in o x.1.entry ≡ Some v → list_all (λ w. v == w) (hashes_of o xs) ≡ true) → all_same (hashes_of o xs) ≡ true
        → hash_in o x.1.entry ≡ a → all_same (hashes_of o (x ∷ xs)) ≡ true
    by_entry None same rest is = rw is rest
    by_entry (Some v) same rest is = rw is (same v is)
