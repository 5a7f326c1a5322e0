-- The plain objects when one of them changes.
use Rattle.std.proofs.Common.{◌≡◌, ◌≢◌, ℕ, ◌<◌, List, length, slice_set, Some, refl, sym, ap, ◌∙◌, subst}
use Rattle.plain_monitor.specs.Objects.{PlainObject, take_entry, take_at, take_named}
use Rattle.plain_monitor.specs.declared.entry.Entry.{Entry}
use Rattle.plain_monitor.specs.declared.entry.Value.{Value}
use Rattle.core_world.specs.Locks.{object_of, monitor_of, hash_at, waits_at, notified_at, or_zero}
use Rattle.core_world.proofs.KnowledgeParts.{by_equal}
use Rattle.std.proofs.lemmas.List.{get_or-set_same, get_or-set_other}
use Rattle.std.proofs.lemmas.Option.{slice_get-get_or}
use Rattle.plain_monitor.specs.Objects.{named, new_object}

pub object_here : (P : List PlainObject) (o : ℕ) (z : PlainObject) → o < length P → object_of (slice_set P o z) o ≡ z
object_here P o z h = get_or-set_same P o z (new_object 0) h

pub object_else : (P : List PlainObject) (o i : ℕ) (z : PlainObject) → i ≢ o → object_of (slice_set P o z) i ≡ object_of P i
object_else P o i z d = get_or-set_other P o i z (new_object 0) d

-- objects take an entry that names o where o takes it
pub takes : (P : List PlainObject) (o t : ℕ) (e : Entry) (z : PlainObject) → o < length P
    → named e ≡ Some o → take_at (object_of P o) t e ≡ Some z → take_entry P t e ≡ Some (slice_set P o z)
takes P o t e z within n h = ap (take_named P t e) n ∙ rw (slice_get-get_or P o (new_object 0) within, h) refl

-- a fact of each object afterwards
pub each_object : (F : ℕ → PlainObject → Type 0) (P : List PlainObject) (o : ℕ) (z : PlainObject) → o < length P → F o z
    → ((i : ℕ) → i ≢ o → F i (object_of P i))
    → (i : ℕ) → F i (object_of (slice_set P o z) i)
each_object F P o z within here else_ i =
    by_equal i o
    (λ e. subst (λ j. F j (object_of (slice_set P o z) j)) (sym e) (subst (F o) (sym (object_here P o z within)) here))
    (λ d. subst (F i) (sym (object_else P o i z d)) (else_ i d))

-- a part of each object that the change leaves
pub part_stays : {A : Type 0} (f : PlainObject → A) (P : List PlainObject) (o : ℕ) (z : PlainObject)
    → o < length P → f z ≡ f (object_of P o) → (i : ℕ) → f (object_of P i) ≡ f (object_of (slice_set P o z) i)
part_stays f P o z within same = each_object (λ i y. f (object_of P i) ≡ f y) P o z within (sym same) (λ i d. refl)

pub hashes_stay : (P : List PlainObject) (o : ℕ) (z : PlainObject) → o < length P → z.hash ≡ (object_of P o).hash → hash_at P ≡ hash_at (slice_set P o z)
hashes_stay P o z within same = λ j. λ i. part_stays (λ y. or_zero y.hash) P o z within (ap or_zero same) i j

pub slots_stay : (P : List PlainObject) (o : ℕ) (z : PlainObject) → o < length P → z.slots ≡ (object_of P o).slots
    → ◌≡◌ {A = ℕ → List Value} (λ i. (object_of P i).slots) (λ i. (object_of (slice_set P o z) i).slots)
slots_stay P o z within same = λ j. λ i. part_stays (λ y. y.slots) P o z within same i j

pub waits_stay : (P : List PlainObject) (o : ℕ) (z : PlainObject) → o < length P
    → z.monitor.waits ≡ (object_of P o).monitor.waits → waits_at P ≡ waits_at (slice_set P o z)
waits_stay P o z within same = λ j. λ i. part_stays (λ y. y.monitor.waits) P o z within same i j

pub called_stay : (P : List PlainObject) (o : ℕ) (z : PlainObject) → o < length P
    → z.monitor.called ≡ (object_of P o).monitor.called → notified_at P ≡ notified_at (slice_set P o z)
called_stay P o z within same = λ j. λ i. part_stays (λ y. y.monitor.called) P o z within same i j

pub monitors_stay : (P : List PlainObject) (o : ℕ) (z : PlainObject) → o < length P
    → z.monitor ≡ (object_of P o).monitor → monitor_of P ≡ monitor_of (slice_set P o z)
monitors_stay P o z within same = λ j. λ i. part_stays (λ y. y.monitor) P o z within same i j

pub monitor_here : (P : List PlainObject) (o : ℕ) (z : PlainObject) → o < length P → monitor_of (slice_set P o z) o ≡ z.monitor
monitor_here P o z within = ap (λ (y : PlainObject). y.monitor) (object_here P o z within)

pub monitor_else : (P : List PlainObject) (o i : ℕ) (z : PlainObject) → i ≢ o → monitor_of (slice_set P o z) i ≡ monitor_of P i
monitor_else P o i z d = ap (λ (y : PlainObject). y.monitor) (object_else P o i z d)
