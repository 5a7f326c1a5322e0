-- An entry that the objects take after all others, they also take at its place in the order.
use Rattle.std.proofs.Common.{◌≡◌, ℕ, Bool, true, false, List, [], ◌∷◌, refl, ap, ◌∙◌, Option, Some, option_and_then}
use Rattle.std.specs.List.{AllByRecursion}
use Rattle.plain_monitor.specs.declared.entry.Logged.{Logged}
use Rattle.plain_monitor.specs.Objects.{PlainObject, new_objects, take_entry}
use Rattle.plain_monitor.specs.Order.{is_before, insert_ordered, with_threads, order}
use Rattle.plain_monitor.specs.History.{RisesAbove, take_all, objects_after, LegalObjects, appended}
use Rattle.plain_monitor.proofs.Appending.{order_appended, rises_appended}
use Rattle.plain_history.specs.Tied.{is_tied}
use Rattle.plain_history.specs.Appending.{MayAppend}
use Rattle.plain_monitor.proofs.Ordering.{NoneBefore, IsOrdered, not_before, ordered_is_ordered}
use Rattle.plain_history.proofs.Passing.{first_run, PassesLater, run_inserted}
use Rattle.plain_history.proofs.Swaps.{take_swap}

-- objects that take several entries take the first, and then the others
pub first_taken : (first : Option (List PlainObject)) (xs : List (ℕ × Logged)) (after : List PlainObject)
    → option_and_then (λ o. take_all o xs) first ≡ Some after
    → (middle : List PlainObject) × (first ≡ Some middle) × (take_all middle xs ≡ Some after)
first_taken first xs after h = first_run take_entry first xs after h

-- none of these is tied to the entry of x
abbrev pub IsFree : ℕ × Logged → List (ℕ × Logged) → Type 0
IsFree x zs = AllByRecursion (λ z. is_tied z.1.entry x.1.entry ≡ false) zs

-- each of these that is tied to the entry of x stands before x
abbrev pub IsAfterTied : ℕ × Logged → List (ℕ × Logged) → Type 0
IsAfterTied x zs = AllByRecursion (λ z. is_tied z.1.entry x.1.entry ≡ true → is_before z x ≡ true) zs

-- what would stand before, if it were tied, and does not, is not tied
pub untied : (tied before : Bool) → (tied ≡ true → before ≡ true) → before ≡ false → tied ≡ false
untied false before h k = refl
untied true before h k = absurd (cc (h refl, k))

-- nothing after the place of x is tied to it
pub free_after : (x y : ℕ × Logged) (zs : List (ℕ × Logged)) → is_before x y ≡ true → NoneBefore y zs → IsAfterTied x zs → IsFree x zs
free_after x y [] h a b = tt
free_after x y (z ∷ zs) h a b = (untied (is_tied z.1.entry x.1.entry) (is_before z x) b.0 (not_before x y z h a.0), free_after x y zs h a.1 b.1)

-- an entry passes what doesn't stand before it, where it stands after all that is tied to it
passes : (x : ℕ × Logged) (zs : List (ℕ × Logged)) → IsAfterTied x zs → PassesLater take_entry x zs
passes x [] b = tt
passes x (z ∷ zs) b = (
  λ later before middle after. take_swap z.1.entry x.1.entry (untied (is_tied z.1.entry x.1.entry) (is_before z x) b.0 later) before middle after z.0 x.0,
  passes x zs b.1,
)

-- an entry that the objects take after these entries, and that stands after each that it is tied to, they also take at its place
take_inserted : (x : ℕ × Logged) (ys : List (ℕ × Logged)) (before middle after : List PlainObject)
    → IsOrdered ys → IsAfterTied x ys → take_all before ys ≡ Some middle
    → take_entry middle x.0 x.1.entry ≡ Some after → take_all before (insert_ordered x ys) ≡ Some after
take_inserted x ys before middle after up follows h k = run_inserted take_entry x ys before middle after up (passes x ys follows) h k

-- the order of the logs with the entry
pub order_with : (logs : List (List Logged)) (t : ℕ) (l : Logged) → AllByRecursion (RisesAbove 0) logs → MayAppend logs t l
    → order (appended logs t l) ≡ insert_ordered (t, l) (order logs)
order_with logs t l rises may = order_appended logs t l rises may.thread may.stamp

-- the objects after the logs with the entry
pub objects_with : (shape : List (ℕ × ℕ)) (logs : List (List Logged)) (t : ℕ) (l : Logged) (before after : List PlainObject)
    → LegalObjects shape logs → objects_after shape logs ≡ Some before → take_entry before t l.entry ≡ Some after → MayAppend logs t l
    → objects_after shape (appended logs t l) ≡ Some after
objects_with shape logs t l before after legal h k may =
    ap (take_all (new_objects shape)) (order_with logs t l legal.rises may)
    ∙ take_inserted (t, l) (order logs) (new_objects shape) before after (ordered_is_ordered (with_threads 0 logs)) may.follows h k

-- the logs with the entry are legal
pub legal_with : (shape : List (ℕ × ℕ)) (logs : List (List Logged)) (t : ℕ) (l : Logged) (before after : List PlainObject)
    → LegalObjects shape logs → objects_after shape logs ≡ Some before → take_entry before t l.entry ≡ Some after → MayAppend logs t l
    → LegalObjects shape (appended logs t l)
legal_with shape logs t l before after legal h k may =
    record {
      rises = rises_appended logs t l legal.rises may.thread may.stamp;
      taken = rw (objects_with shape logs t l before after legal h k may) refl;
    }
