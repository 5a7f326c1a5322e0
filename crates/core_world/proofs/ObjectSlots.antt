-- After every legal history each object has the slots of its shape.
use Rattle.std.proofs.Common.{◌≡◌, ℕ, zero, suc, ◌<◌, Bool, true, false, List, [], ◌∷◌, length, Option, Some, None}
use Rattle.std.proofs.Common.{refl, sym, ap, ◌∙◌, slice_get, option_and_then, slice_index_or, option_map}
use Rattle.std.proofs.lemmas.Option.{same_Some}
use Rattle.plain_monitor.specs.Monitor.{only_if}
use Rattle.plain_monitor.specs.Objects.{PlainObject, take_entry, take_at, take_named, new_objects}
use Rattle.plain_monitor.specs.declared.entry.Logged.{Logged}
use Rattle.plain_monitor.specs.History.{take_all}
use Rattle.plain_monitor.specs.declared.entry.Entry.{Entry}
use Rattle.plain_monitor.specs.declared.entry.Entry.TheVariants.{Get, Put, New, Print, Dump, Trap, Spent, Done}
use Rattle.plain_monitor.specs.Order.{order}
use Rattle.plain_history.proofs.Swaps.{taken_at}
use Rattle.core_world.specs.World.{World, logs}
use Rattle.core_world.specs.Locks.{object_of}
use Rattle.core_world.specs.Valid.{Fits}
use Rattle.core_world.specs.Words.Shape.{slots_of}
use Rattle.std.proofs.lemmas.List.{length-set, length-replicate}
use Rattle.std.proofs.lemmas.Option.{slice_get_within, get_or_from_slice_get}
use Rattle.plain_monitor.specs.Objects.{named, new_object}
use Rattle.core_world.proofs.Updates.{part_stays}

-- an option that is made where the test holds
pub made_by : {A : Type 0} (b : Bool) (x y : A) → only_if b x ≡ Some y → x ≡ y
made_by true x y h = same_Some x y h
made_by false x y h = absurd (cc h)

mapped_slots : {A : Type 0} (f : A → PlainObject) (n : ℕ) (y : PlainObject) (m : Option A) → ((a : A) → length (f a).slots ≡ n) → option_map f m ≡ Some y
    → length y.slots ≡ n
mapped_slots f n y None same h = absurd (cc h)
mapped_slots f n y (Some a) same h = ap (λ (z : PlainObject). length z.slots) (sym (same_Some _ y h)) ∙ same a

same_slots : (x y : PlainObject) → Some x ≡ Some y → length y.slots ≡ length x.slots
same_slots x y h = ap (λ (z : PlainObject). length z.slots) (sym (same_Some x y h))

-- an object keeps the number of its slots
at_slots : (x y : PlainObject) (t : ℕ) (e : Entry) → take_at x t e ≡ Some y → length y.slots ≡ length x.slots
at_slots x y t (Get o slot value) h = ap (λ (z : PlainObject). length z.slots) (sym (made_by _ x y h))
at_slots x y t (Put o slot value) h = ap (λ (z : PlainObject). length z.slots) (sym (made_by _ _ y h)) ∙ length-set x.slots slot value
at_slots x y t (New object class) h = same_slots x y h
at_slots x y t (Print value) h = same_slots x y h
at_slots x y t (Dump number) h = same_slots x y h
at_slots x y t (Trap fault index) h = same_slots x y h
at_slots x y t Spent h = same_slots x y h
at_slots x y t Done h = same_slots x y h
at_slots x y t _ h = mapped_slots _ _ y _ (λ a. refl) h

-- the object at a number
pub got_object : (P : List PlainObject) (o : ℕ) (x : PlainObject) → slice_get P o ≡ Some x → (o < length P) × (object_of P o ≡ x)
got_object P o x h = (slice_get_within P o x h, get_or_from_slice_get P o x (new_object 0) h)

entry_slots : (P Q : List PlainObject) (t : ℕ) (e : Entry) → take_entry P t e ≡ Some Q → (i : ℕ) → length (object_of Q i).slots ≡ length (object_of P i).slots
entry_slots P Q t e h i = by_name (named e) h
  where
    by_name : (n : Option ℕ) → take_named P t e n ≡ Some Q → length (object_of Q i).slots ≡ length (object_of P i).slots
    by_name None g = ap (λ R. length (object_of R i).slots) (sym (same_Some P Q g))
    by_name (Some o) g =
        let a = taken_at P Q t e o g in
        let b = got_object P o a.x a.was in
        let step : length a.y.slots ≡ length (object_of P o).slots = at_slots a.x a.y t e a.step ∙ ap (λ (z : PlainObject). length z.slots) (sym b.1) in
        ap (λ R. length (object_of R i).slots) a.is ∙ sym (part_stays (λ y. length y.slots) P o a.y b.0 step i)

-- the next lemma, by what the first entry makes of the objects
all_slots_after : (P Q : List PlainObject) (x : ℕ × Logged) (xs : List (ℕ × Logged)) (i : ℕ) (a : Option (List PlainObject)) → take_entry P x.0 x.1.entry ≡ a
    → ((R : List PlainObject) → take_all R xs ≡ Some Q → length (object_of Q i).slots ≡ length (object_of R i).slots)
    → option_and_then (λ after. take_all after xs) a ≡ Some Q → length (object_of Q i).slots ≡ length (object_of P i).slots
all_slots_after P Q x xs i None e rest h = absurd (cc h)
all_slots_after P Q x xs i (Some R) e rest h = rest R h ∙ entry_slots P R x.0 x.1.entry e i

all_slots : (P Q : List PlainObject) (xs : List (ℕ × Logged)) → take_all P xs ≡ Some Q → (i : ℕ) → length (object_of Q i).slots ≡ length (object_of P i).slots
all_slots P Q [] h i = ap (λ R. length (object_of R i).slots) (sym (same_Some P Q h))
all_slots P Q (x ∷ xs) h i = all_slots_after P Q x xs i (take_entry P x.0 x.1.entry) refl (λ R g. all_slots R Q xs g i) h

new_slots : (shape : List (ℕ × ℕ)) (o : ℕ) → length (object_of (new_objects shape) o).slots ≡ (slice_index_or shape o (0, 0)).1
new_slots [] o = refl
new_slots (x ∷ shape) zero = length-replicate x.1 _
new_slots (x ∷ shape) (suc o) = new_slots shape o

-- in a world where every clause holds, each object has the slots of its shape
pub slots_are : (w : World) (P : List PlainObject) → Fits w P → (o : ℕ) → length (object_of P o).slots ≡ slots_of w.shape o
slots_are w P v o = all_slots (new_objects w.shape.objects) P (order (logs w)) v.taken o ∙ new_slots w.shape.objects o
