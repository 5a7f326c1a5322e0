-- An entry that a legal history takes somewhere in its order, after all entries that it is tied to, the plain objects take at the end. So an
-- owner logs no entry on its object that they refuse.
use Rattle.core_locks.proofs.Prelude.{◌≡◌, ℕ, zero, suc, ◌+◌, ◌<◌, Bool, true, false, List, [], ◌∷◌, ◌++◌, length, slice_get, slice_set, Option}
use Rattle.core_locks.proofs.Prelude.{Some, None, refl, sym, ap, ◌∙◌, subst, arith, AllByRecursion, nat_tests, same_Some, Entry, Logged, PlainObject}
use Rattle.core_locks.proofs.Prelude.{new_objects, take_entry, take_named, order, RisesAbove, take_all, objects_after, appended, last_stamp, log_of}
use Rattle.core_locks.proofs.Prelude.{bound_to, IsBounded, taken_at, bound_is_named, WordId, Stamp, ThreadView, World, with_word_and_known, logs}
use Rattle.core_locks.proofs.Prelude.{object_of, monitor_of, owner_at, bound_stamp, Fits, log_at, logs_grow, logs_length, thread_is}
use Rattle.plain_monitor.specs.Order.{is_before, insert_ordered, with_threads}
use Rattle.plain_monitor.proofs.Lists.{get_set_same}
use Rattle.plain_monitor.proofs.Orders.{before_asym}
use Rattle.plain_history.specs.Tied.{is_same_object, is_tied}
use Rattle.plain_history.specs.Appending.{MayAppend}
use Rattle.plain_history.proofs.Bounds.{above_bound}
use Rattle.plain_monitor.proofs.Ordering.{NoneBefore, IsOrdered, none_before, ordered_is_ordered}
use Rattle.plain_history.proofs.Inserting.{IsAfterTied, first_taken, order_with}
use Rattle.plain_history.proofs.Swaps.{TakenAt, take_swap}

-- TO THE END. An entry that is tied to none of those after it may be taken last.
abbrev IsUntied : ℕ × Logged → List (ℕ × Logged) → Type 0
IsUntied x zs = AllByRecursion (λ z. is_tied x.1.entry z.1.entry ≡ false) zs

to_back : (x : ℕ × Logged) (zs : List (ℕ × Logged)) (before after : List PlainObject)
    → IsUntied x zs → take_all before (x ∷ zs) ≡ Some after → take_all before (zs ++ x ∷ []) ≡ Some after
to_back x [] before after free h = h
to_back x (z ∷ zs) before after free h =
    let a = first_taken (take_entry before x.0 x.1.entry) (z ∷ zs) after h in
    let b = first_taken (take_entry a.0 z.0 z.1.entry) zs after a.2 in
    let s = take_swap x.1.entry z.1.entry free.0 before a.0 b.0 x.0 z.0 a.1 b.1 in
    let later = to_back x zs s.0 after free.1 (rw s.2 b.2) in
    rw s.1 later

same_either_way : (a b : Option ℕ) → is_same_object a b ≡ is_same_object b a
same_either_way None None = refl
same_either_way None (Some b) = refl
same_either_way (Some a) None = refl
same_either_way (Some a) (Some b) = grind (arith, nat_tests)

untied : (x z : ℕ × Logged) → (is_tied z.1.entry x.1.entry ≡ true → is_before z x ≡ true) → is_before z x ≡ false → is_tied x.1.entry z.1.entry ≡ false
untied x z h k = by_test (is_tied x.1.entry z.1.entry) refl
  where
    by_test : (b : Bool) → is_tied x.1.entry z.1.entry ≡ b → is_tied x.1.entry z.1.entry ≡ false
    by_test false e = e
    by_test true e = absurd (cc (k, h (same_either_way (bound_to z.1.entry) (bound_to x.1.entry) ∙ e)))

all_untied : (x : ℕ × Logged) (zs : List (ℕ × Logged)) → NoneBefore x zs → IsAfterTied x zs → IsUntied x zs
all_untied x [] a b = tt
all_untied x (z ∷ zs) a b = (untied x z b.0 a.0, all_untied x zs a.1 b.1)

last_at_head : (x y : ℕ × Logged) (ys : List (ℕ × Logged)) (b : Bool) → is_before x y ≡ b
    → (before after : List PlainObject) → IsOrdered (y ∷ ys) → IsAfterTied x (y ∷ ys)
    → take_all before (insert_ordered x (y ∷ ys)) ≡ Some after
    → ((objects : List PlainObject) → take_all objects (insert_ordered x ys) ≡ Some after → take_all objects (ys ++ x ∷ []) ≡ Some after)
    → take_all before (y ∷ ys ++ x ∷ []) ≡ Some after
last_at_head x y ys true hb before after up follows h ih =
    to_back x (y ∷ ys) before after (all_untied x (y ∷ ys) (before_asym x y hb, none_before x y ys hb up.0) follows) (rw hb at h)
last_at_head x y ys false hb before after up follows h ih =
    let k : take_all before (y ∷ insert_ordered x ys) ≡ Some after = rw hb at h in
    let a = first_taken (take_entry before y.0 y.1.entry) (insert_ordered x ys) after k in
    rw a.1 (ih a.0 a.2)

inserted_last : (x : ℕ × Logged) (ys : List (ℕ × Logged)) (before after : List PlainObject)
    → IsOrdered ys → IsAfterTied x ys → take_all before (insert_ordered x ys) ≡ Some after
    → take_all before (ys ++ x ∷ []) ≡ Some after
inserted_last x [] before after up follows h = h
inserted_last x (y ∷ ys) before after up follows h =
    last_at_head x y ys (is_before x y) refl before after up follows h (λ objects k. inserted_last x ys objects after up.1 follows.1 k)

at_the_end : (x : ℕ × Logged) (xs : List (ℕ × Logged)) (before middle after : List PlainObject)
    → take_all before xs ≡ Some middle → take_all before (xs ++ x ∷ []) ≡ Some after
    → take_entry middle x.0 x.1.entry ≡ Some after
at_the_end x [] before middle after h k =
    let a = first_taken (take_entry before x.0 x.1.entry) [] after k in
    ap (λ o. take_entry o x.0 x.1.entry) (sym (same_Some _ _ h)) ∙ a.1 ∙ a.2
at_the_end x (y ∷ ys) before middle after h k =
    let a = first_taken (take_entry before y.0 y.1.entry) ys middle h in
    at_the_end x ys a.0 middle after a.2 (rw a.1 at k)

pub taken_last : (shape : List (ℕ × ℕ)) (all : List (List Logged)) (t : ℕ) (y : Logged) (P Q : List PlainObject)
    → AllByRecursion (RisesAbove 0) all → MayAppend all t y
    → objects_after shape all ≡ Some P → objects_after shape (appended all t y) ≡ Some Q → take_entry P t y.entry ≡ Some Q
taken_last shape all t y P Q rises may before afterwards =
    let at_place = ap (take_all (new_objects shape)) (sym (order_with all t y rises may)) ∙ afterwards in
    at_the_end (t, y) (order all) (new_objects shape) P Q before
    (inserted_last (t, y) (order all) (new_objects shape) Q (ordered_is_ordered (with_threads 0 all)) may.follows at_place)

-- WORLDS. An owner's entry on its object is taken by the plain objects, which become those after the step.
pub owner_takes : (w : World) (P Q : List PlainObject) (at : WordId) (n t o : ℕ) (l : ThreadView) (y : Logged)
    → (w.known t).running ≡ true → l.log ≡ (w.known t).log ++ y ∷ []
    → y.stamp ≡ last_stamp (w.known t).log + 1 → bound_to y.entry ≡ Some o → owner_at P o t ≡ true
    → Fits w P → Fits (with_word_and_known at n t l w) Q → take_entry P t y.entry ≡ Some Q
owner_takes w P Q at n t o l y runs grows stamp bound owner before afterwards =
    let within = before.safe.few t runs in
    let many : t < length (logs w) = omega (arith, within, logs_length 0 w.shape.threads w.known) in
    let its : log_of (logs w) t ≡ (w.known t).log = log_at 0 w.shape.threads t t w.known (omega arith) within in
    let bounded : IsBounded (logs w) o (last_stamp (w.known t).log) =
    subst (λ a. IsBounded (logs w) o (bound_stamp (λ u. (w.known u).log) (w.words (Stamp o)) a))
    (thread_is (monitor_of P o).owner t owner) (before.stamps.bound o) in
    let up : last_stamp (w.known t).log < y.stamp = omega (arith, stamp) in
    let rises : last_stamp (log_of (logs w) t) < y.stamp = omega (arith, ap last_stamp its, up) in
    taken_last w.shape.objects (logs w) t y P Q before.legal.rises
    (above_bound (logs w) t y o (last_stamp (w.known t).log) many rises bound bounded up) before.taken
    (ap (objects_after w.shape.objects) (sym (logs_grow w.shape.threads t y l w.known within grows)) ∙ afterwards.taken)

-- the object that takes an entry, and its place among the others
got_is : (P : List PlainObject) (o : ℕ) (x : PlainObject) → slice_get P o ≡ Some x → object_of P o ≡ x
got_is [] o x e = absurd (cc e)
got_is (y ∷ P) zero x e = same_Some _ _ e
got_is (y ∷ P) (suc o) x e = got_is P o x e

pub taken_here : (P Q : List PlainObject) (t o : ℕ) (e : Entry) → bound_to e ≡ Some o → take_entry P t e ≡ Some Q → TakenAt P Q t e o
taken_here P Q t o e bound h = taken_at P Q t e o (ap (take_named P t e) (sym (bound_is_named e o bound)) ∙ h)

pub object_before : (P Q : List PlainObject) (t o : ℕ) (e : Entry) (a : TakenAt P Q t e o) → object_of P o ≡ a.x
object_before P Q t o e a = got_is P o a.x a.was

pub object_after : (P Q : List PlainObject) (t o : ℕ) (e : Entry) (a : TakenAt P Q t e o) → object_of Q o ≡ a.y
object_after P Q t o e a = ap (λ R. object_of R o) a.is ∙ got_is (slice_set P o a.y) o a.y (get_set_same P o a.x a.y a.was)
