-- The entries on an object after one more, which stands after all of them.
use Rattle.std.proofs.Common.{◌≡◌, ℕ, ◌||◌, eq-eqb, cond, Bool, true, false, List, [], ◌∷◌, ◌++◌, Some, None, refl, sym, ap, ◌∙◌}
use Rattle.std.specs.List.{list_any, AllByRecursion}
use Rattle.plain_monitor.specs.declared.entry.Entry.{Entry}
use Rattle.plain_monitor.specs.declared.entry.Entry.TheVariants as entry
use Rattle.plain_monitor.specs.declared.entry.Logged.{Logged}
use Rattle.plain_monitor.specs.declared.entry.Path.{Path}
use Rattle.plain_monitor.specs.Order.{is_before, insert_ordered, with_threads, order}
use Rattle.plain_monitor.specs.History.{RisesAbove, appended}
use Rattle.plain_history.specs.Tied.{bound_to, is_same_object, is_tied}
use Rattle.plain_history.specs.Appending.{MayAppend}
use Rattle.plain_monitor.proofs.Ordering.{IsOrdered, ordered_is_ordered}
use Rattle.plain_history.proofs.Inserting.{order_with, IsFree, IsAfterTied, free_after, untied}
use Rattle.plain_monitor.proofs.Orders.{before_asym}
use Rattle.plain_history.specs.EnterPaths.{entries_on, first_path, EndsStay, ends_bias, needs_bias}

-- LISTS OF ENTRIES
pub any_push : (p : Entry → Bool) (es : List Entry) (e : Entry) → list_any p (es ++ e ∷ []) ≡ (list_any p es || p e)
any_push p [] e = at (p e)
  where
    at : (b : Bool) → (b || false) ≡ (false || b)
    at true = refl
    at false = refl
any_push p (x ∷ es) e = at (p x) (any_push p es e)
  where
    at : (b : Bool) → list_any p (es ++ e ∷ []) ≡ (list_any p es || p e) → (b || list_any p (es ++ e ∷ [])) ≡ ((b || list_any p es) || p e)
    at true h = refl
    at false h = h

pub stays_push : (es : List Entry) (e : Entry) → EndsStay es → (list_any ends_bias es ≡ true → needs_bias e ≡ false) → EndsStay (es ++ e ∷ [])
stays_push [] e h n = (λ _. refl, tt)
stays_push (x ∷ es) e h n = (
  λ x-ends. any_push needs_bias es e ∙ at (list_any needs_bias es) (needs_bias e) (h.0 x-ends) (n (ap (λ b. b || list_any ends_bias es) x-ends)),
  stays_push es e h.1 (λ some. n (either (ends_bias x) (list_any ends_bias es) some)),
)
  where
    at : (a b : Bool) → a ≡ false → b ≡ false → (a || b) ≡ false
    at a b p q = rw (p, q) refl

    either : (a b : Bool) → b ≡ true → (a || b) ≡ true
    either true b p = refl
    either false b p = p

-- what stands first stays first
pub first_stays : (es : List Entry) (e : Entry) (path : Path) → first_path es ≡ Some path → first_path (es ++ e ∷ []) ≡ Some path
first_stays [] e path h = absurd (cc h)
first_stays (entry.Enter o p ∷ es) e path h = h
first_stays (entry.Exit o ∷ es) e path h = first_stays es e path h
first_stays (entry.Get o i v ∷ es) e path h = first_stays es e path h
first_stays (entry.Put o i v ∷ es) e path h = first_stays es e path h
first_stays (entry.Wait o ∷ es) e path h = first_stays es e path h
first_stays (entry.Resume o ∷ es) e path h = first_stays es e path h
first_stays (entry.Notify o w ∷ es) e path h = first_stays es e path h
first_stays (entry.NotifyAll o w ∷ es) e path h = first_stays es e path h
first_stays (entry.Hash o v d ∷ es) e path h = first_stays es e path h
first_stays (entry.New o c ∷ es) e path h = first_stays es e path h
first_stays (entry.Print v ∷ es) e path h = first_stays es e path h
first_stays (entry.Dump n ∷ es) e path h = first_stays es e path h
first_stays (entry.Trap f i ∷ es) e path h = first_stays es e path h
first_stays (entry.Spent ∷ es) e path h = first_stays es e path h
first_stays (entry.Done ∷ es) e path h = first_stays es e path h

pub first_new : (es : List Entry) (e : Entry) → first_path es ≡ None → first_path (es ++ e ∷ []) ≡ first_path (e ∷ [])
first_new [] e h = refl
first_new (entry.Enter o p ∷ es) e h = absurd (cc h)
first_new (entry.Exit o ∷ es) e h = first_new es e h
first_new (entry.Get o i v ∷ es) e h = first_new es e h
first_new (entry.Put o i v ∷ es) e h = first_new es e h
first_new (entry.Wait o ∷ es) e h = first_new es e h
first_new (entry.Resume o ∷ es) e h = first_new es e h
first_new (entry.Notify o w ∷ es) e h = first_new es e h
first_new (entry.NotifyAll o w ∷ es) e h = first_new es e h
first_new (entry.Hash o v d ∷ es) e h = first_new es e h
first_new (entry.New o c ∷ es) e h = first_new es e h
first_new (entry.Print v ∷ es) e h = first_new es e h
first_new (entry.Dump n ∷ es) e h = first_new es e h
first_new (entry.Trap f i ∷ es) e h = first_new es e h
first_new (entry.Spent ∷ es) e h = first_new es e h
first_new (entry.Done ∷ es) e h = first_new es e h

-- THE ORDER. An entry that stands after all that are tied to it comes last among the entries on its object.
free_none : (o : ℕ) (zs : List (ℕ × Logged)) → AllByRecursion (λ z. is_same_object (bound_to z.1.entry) (Some o) ≡ false) zs → entries_on o zs ≡ []
free_none o [] h = refl
free_none o (z ∷ zs) h = rw (h.0) (free_none o zs h.1)

free_of : (o : ℕ) (x : ℕ × Logged) (zs : List (ℕ × Logged)) → bound_to x.1.entry ≡ Some o
    → IsFree x zs → AllByRecursion (λ z. is_same_object (bound_to z.1.entry) (Some o) ≡ false) zs
free_of o x [] b h = tt
free_of o x (z ∷ zs) b h = (ap (is_same_object (bound_to z.1.entry)) (sym b) ∙ h.0, free_of o x zs b h.1)

pub inserted_last : (o : ℕ) (x : ℕ × Logged) (ys : List (ℕ × Logged)) → bound_to x.1.entry ≡ Some o → IsOrdered ys → IsAfterTied x ys
    → entries_on o (insert_ordered x ys) ≡ entries_on o ys ++ x.1.entry ∷ []
inserted_last o x [] b up follows =
    let here : is_same_object (bound_to x.1.entry) (Some o) ≡ true = ap (λ c. is_same_object c (Some o)) b ∙ eq-eqb o o refl in rw here refl
inserted_last o x (y ∷ ys) b up follows = by_test (is_before x y) refl (inserted_last o x ys b up.1 follows.1)
  where
    here : is_same_object (bound_to x.1.entry) (Some o) ≡ true
    here = ap (λ c. is_same_object c (Some o)) b ∙ eq-eqb o o refl

    by_head : (c : Bool) → entries_on o (insert_ordered x ys) ≡ entries_on o ys ++ x.1.entry ∷ []
        → cond c (y.1.entry ∷ entries_on o (insert_ordered x ys)) (entries_on o (insert_ordered x ys))
        ≡ cond c (y.1.entry ∷ entries_on o ys) (entries_on o ys) ++ x.1.entry ∷ []
    by_head true h = ap (λ es. y.1.entry ∷ es) h
    by_head false h = h

    by_test : (c : Bool) → is_before x y ≡ c → entries_on o (insert_ordered x ys) ≡ entries_on o ys ++ x.1.entry ∷ []
        → entries_on o (insert_ordered x (y ∷ ys)) ≡ entries_on o (y ∷ ys) ++ x.1.entry ∷ []
    by_test true c ih =
        let free : IsFree x (y ∷ ys) =
        (untied (is_tied y.1.entry x.1.entry) (is_before y x) follows.0 (before_asym x y c), free_after x y ys c up.0 follows.1) in
        let none = free_none o (y ∷ ys) (free_of o x (y ∷ ys) b free) in
        ap (entries_on o) (ap (λ (d : Bool). cond d (x ∷ y ∷ ys) (y ∷ insert_ordered x ys)) c)
        ∙ ap (λ (d : Bool). cond d (x.1.entry ∷ entries_on o (y ∷ ys)) (entries_on o (y ∷ ys))) here
        ∙ ap (λ es. x.1.entry ∷ es) none ∙ ap (λ es. es ++ x.1.entry ∷ []) (sym none)
    by_test false c ih =
        ap (entries_on o) (ap (λ (d : Bool). cond d (x ∷ y ∷ ys) (y ∷ insert_ordered x ys)) c)
        ∙ by_head (is_same_object (bound_to y.1.entry) (Some o)) ih

pub inserted_elsewhere : (o : ℕ) (x : ℕ × Logged) (ys : List (ℕ × Logged))
    → is_same_object (bound_to x.1.entry) (Some o) ≡ false → entries_on o (insert_ordered x ys) ≡ entries_on o ys
inserted_elsewhere o x [] n = rw n refl
inserted_elsewhere o x (y ∷ ys) n = by_test (is_before x y) refl (inserted_elsewhere o x ys n)
  where
    by_test : (c : Bool) → is_before x y ≡ c → entries_on o (insert_ordered x ys) ≡ entries_on o ys
        → entries_on o (insert_ordered x (y ∷ ys)) ≡ entries_on o (y ∷ ys)
    by_test true c ih =
        ap (entries_on o) (ap (λ (d : Bool). cond d (x ∷ y ∷ ys) (y ∷ insert_ordered x ys)) c)
        ∙ ap (λ (d : Bool). cond d (x.1.entry ∷ entries_on o (y ∷ ys)) (entries_on o (y ∷ ys))) n
    by_test false c ih =
        ap (entries_on o) (ap (λ (d : Bool). cond d (x ∷ y ∷ ys) (y ∷ insert_ordered x ys)) c)
        ∙ ap (λ es. cond (is_same_object (bound_to y.1.entry) (Some o)) (y.1.entry ∷ es) es) ih

-- the entries on an object after one that a thread may append
pub appended_on : (logs : List (List Logged)) (t o : ℕ) (l : Logged) → AllByRecursion (RisesAbove 0) logs → MayAppend logs t l → bound_to l.entry ≡ Some o
    → entries_on o (order (appended logs t l)) ≡ entries_on o (order logs) ++ l.entry ∷ []
appended_on logs t o l rises may b =
    ap (entries_on o) (order_with logs t l rises may) ∙ inserted_last o (t, l) (order logs) b (ordered_is_ordered (with_threads 0 logs)) may.follows

pub appended_elsewhere : (logs : List (List Logged)) (t o : ℕ) (l : Logged)
    → AllByRecursion (RisesAbove 0) logs → MayAppend logs t l → is_same_object (bound_to l.entry) (Some o) ≡ false
    → entries_on o (order (appended logs t l)) ≡ entries_on o (order logs)
appended_elsewhere logs t o l rises may n = ap (entries_on o) (order_with logs t l rises may) ∙ inserted_elsewhere o (t, l) (order logs) n
