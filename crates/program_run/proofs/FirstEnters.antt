-- The first enter of each object in the order of all logs: nothing that is bound to the object stands before it.
use Rattle.std.proofs.Common.{◌≡◌, ℕ, zero, suc, ◌<◌, ◌≤◌, ◌==◌, ◌&&◌, Bool, true, false, if◌then◌else◌, List, [], ◌∷◌, map, Option}
use Rattle.std.proofs.Common.{Some, None, option_and_then, refl, sym, ap, ◌∙◌, subst, inl, inr, arith, eqb-true, eq-eqb, length}
use Rattle.std.specs.Prelude.{nat_lt, slice_get, slice_set}
use Rattle.std.specs.List.{AllByRecursion}
use Rattle.std.proofs.lemmas.Bool.{cases_eq, false≢true}
use Rattle.std.proofs.lemmas.Bool.Decides.{nat_tests}
use Rattle.std.proofs.lemmas.Option.{same_Some}
use Rattle.single_thread_law.specs.LoneRun.{with_no_path, without_path}
use Rattle.plain_history.specs.Tied.{bound_to, is_same_object}
use Rattle.plain_monitor.proofs.Ordering.{IsOrdered, ordered_is_ordered}
use Rattle.plain_history.proofs.Joined.{first_some}
use Rattle.plain_history.proofs.SoundHistories.{hash_kept}
use Rattle.plain_history.proofs.Swaps.{plain_or_hash, taken_at}
use Rattle.plain_machine.specs.Legal.{after_all}
use Rattle.plain_machine.specs.Asking.{thread_after}
use Rattle.plain_machine.specs.Machine.{PlainMachine, code_of, made_after_entry, moved, take}
use Rattle.plain_machine.specs.Thread.{ThreadState}
use Rattle.plain_monitor.specs.declared.entry.Entry.{Entry}
use Rattle.plain_monitor.specs.declared.entry.Entry.TheVariants as entry
use Rattle.plain_monitor.specs.declared.entry.Logged.{Logged}
use Rattle.plain_monitor.specs.History.{RisesAbove, log_of}
use Rattle.plain_monitor.specs.Monitor.{PlainMonitor, exit, free_monitor, notify, notify_all, only_if, owns, resume, wait}
use Rattle.plain_monitor.specs.Objects.{PlainObject, has_value, hashed, named, new_objects, take_at, take_entry, take_named, with_monitor}
use Rattle.plain_monitor.specs.Order.{is_before, of_thread, order, with_threads}
use Rattle.plain_monitor.proofs.Lists.{all_at, all_weaker, get_set_other, get_set_same}
use Rattle.plain_monitor.proofs.Threads.{thread_kept}

abbrev pub is_enter_of : ℕ → Entry → Bool
is_enter_of o (entry.Enter k path) = k == o
is_enter_of o _ = false

-- its thread and its stamp
abbrev pub first_enter : ℕ → List (ℕ × Logged) → Option (ℕ × ℕ)
first_enter o [] = None
first_enter o (x ∷ xs) = if is_enter_of o x.1.entry then Some (x.0, x.1.stamp) else first_enter o xs

-- PATHS don't matter to it
enter_bare : (o : ℕ) (e : Entry) → is_enter_of o (without_path e) ≡ is_enter_of o e
enter_bare o (entry.Enter k path) = refl
enter_bare o e = refl

pub first_bare : (o : ℕ) (xs : List (ℕ × Logged)) → first_enter o (map (λ (x : ℕ × Logged). (x.0, with_no_path x.1)) xs) ≡ first_enter o xs
first_bare o [] = refl
first_bare o (x ∷ xs) = λ i. if enter_bare o x.1.entry i then Some (x.0, x.1.stamp) else first_bare o xs i

-- STAMPS
abbrev IsNoEarlier : ℕ → ℕ × ℕ → ℕ × Logged → Type 0
IsNoEarlier o f y = is_enter_of o y.1.entry ≡ true → f.1 ≤ y.1.stamp

first_least : (o : ℕ) (f : ℕ × ℕ) (xs : List (ℕ × Logged)) → IsOrdered xs → first_enter o xs ≡ Some f → AllByRecursion (IsNoEarlier o f) xs
first_least o f [] up e = tt
first_least o f (x ∷ xs) up e = by_test (is_enter_of o x.1.entry) refl e (λ h. first_least o f xs up.1 h)
  where
    by_test : (b : Bool) → is_enter_of o x.1.entry ≡ b → (if b then Some (x.0, x.1.stamp) else first_enter o xs) ≡ Some f
        → (first_enter o xs ≡ Some f → AllByRecursion (IsNoEarlier o f) xs) → AllByRecursion (IsNoEarlier o f) (x ∷ xs)
    by_test true is h rest =
        let same : x.1.stamp ≡ f.1 = ap (λ (p : ℕ × ℕ). p.1) (same_Some (x.0, x.1.stamp) f h) in (
          (λ enters. omega (arith, same)),
          all_weaker (λ y. is_before y x ≡ false) (IsNoEarlier o f) (λ y late enters. grind (arith, nat_tests, late, same)) xs up.0,
        )
    by_test false is h rest = ((λ enters. absurd (false≢true (sym is ∙ enters))), rest h)

-- what holds of all entries holds of those of one thread
own_of_all : (P : ℕ × Logged → Type 0) (t : ℕ) (xs : List (ℕ × Logged)) → AllByRecursion P xs
    → AllByRecursion (λ (l : Logged). P (t, l)) (of_thread t xs)
own_of_all P t [] a = tt
own_of_all P t (x ∷ xs) a = by_test (x.0 == t) refl (own_of_all P t xs a.1)
  where
    by_test : (b : Bool) → (x.0 == t) ≡ b → AllByRecursion (λ (l : Logged). P (t, l)) (of_thread t xs)
        → AllByRecursion (λ (l : Logged). P (t, l)) (if b then x.1 ∷ of_thread t xs else of_thread t xs)
    by_test true is rest = (subst (λ (u : ℕ). P (u, x.1)) (eqb-true x.0 t is) a.0, rest)
    by_test false is rest = rest

-- no thread enters an object with a stamp below that of the first enter
pub own_least : (logs : List (List Logged)) (o t : ℕ) (f : ℕ × ℕ) → AllByRecursion (RisesAbove 0) logs → first_enter o (order logs) ≡ Some f
    → AllByRecursion (λ (l : Logged). is_enter_of o l.entry ≡ true → f.1 ≤ l.stamp) (log_of logs t)
own_least logs o t f rises first =
    subst (AllByRecursion (λ (l : Logged). is_enter_of o l.entry ≡ true → f.1 ≤ l.stamp)) (thread_kept logs t rises)
    (own_of_all (IsNoEarlier o f) t (order logs) (first_least o f (order logs) (ordered_is_ordered (with_threads 0 logs)) first))

-- the later entries of a thread have greater stamps
abbrev IsApart : ℕ → ℕ → ℕ × Logged → Type 0
IsApart t stamp y = y.0 ≡ t → stamp < y.1.stamp

abbrev pub AreApart : List (ℕ × Logged) → Type 0
AreApart [] = Unit {0}
AreApart (x ∷ xs) = AllByRecursion (IsApart x.0 x.1.stamp) xs × AreApart xs

rises_apart : (t n : ℕ) (xs : List (ℕ × Logged)) → RisesAbove n (of_thread t xs) → AllByRecursion (IsApart t n) xs
rises_apart t n [] r = tt
rises_apart t n (x ∷ xs) r = by_test (x.0 == t) refl r (λ m q. rises_apart t m xs q)
  where
    by_test : (b : Bool) → (x.0 == t) ≡ b → RisesAbove n (if b then x.1 ∷ of_thread t xs else of_thread t xs)
        → ((m : ℕ) → RisesAbove m (of_thread t xs) → AllByRecursion (IsApart t m) xs) → AllByRecursion (IsApart t n) (x ∷ xs)
    by_test true is q rest =
        let here = q.0 in (
          (λ e. here),
          all_weaker (IsApart t x.1.stamp) (IsApart t n) (λ y later e. let more = later e in omega (arith, here, more)) xs (rest x.1.stamp q.1),
        )
    by_test false is q rest = ((λ e. absurd (false≢true (sym is ∙ eq-eqb x.0 t e))), rest n q)

-- each thread's entries rise
abbrev EachRises : List (ℕ × Logged) → Type 0
EachRises xs = (t : ℕ) → (n : ℕ) × RisesAbove n (of_thread t xs)

apart : (xs : List (ℕ × Logged)) → EachRises xs → AreApart xs
apart [] r = tt
apart (x ∷ xs) r = (rises_apart x.0 x.1.stamp xs here, apart xs (λ t. by_test t (x.0 == t) (r t)))
  where
    at_head : (b : Bool) → b ≡ true → (n : ℕ) → RisesAbove n (if b then x.1 ∷ of_thread x.0 xs else of_thread x.0 xs)
        → RisesAbove x.1.stamp (of_thread x.0 xs)
    at_head true is n q = q.1
    at_head false is n q = absurd (false≢true is)

    here : RisesAbove x.1.stamp (of_thread x.0 xs)
    here = let q = r x.0 in at_head (x.0 == x.0) (eq-eqb x.0 x.0 refl) q.0 q.1

    by_test : (t : ℕ) (b : Bool) → (n : ℕ) × RisesAbove n (if b then x.1 ∷ of_thread t xs else of_thread t xs)
        → (n : ℕ) × RisesAbove n (of_thread t xs)
    by_test t true q = (x.1.stamp, q.1.1)
    by_test t false q = q

pub rises_at : (logs : List (List Logged)) (t : ℕ) → AllByRecursion (RisesAbove 0) logs → RisesAbove 0 (log_of logs t)
rises_at [] zero r = tt
rises_at [] (suc t) r = tt
rises_at (log ∷ logs) zero r = r.0
rises_at (log ∷ logs) (suc t) r = rises_at logs t r.1

pub order_apart : (logs : List (List Logged)) → AllByRecursion (RisesAbove 0) logs → AreApart (order logs)
order_apart logs rises =
    apart (order logs) (λ t. (0, subst (RisesAbove 0) (sym (thread_kept logs t rises)) (rises_at logs t rises)))

-- FREE OBJECTS. Nobody has entered o yet.
abbrev pub IsUnentered : ℕ → List PlainObject → Type 0
IsUnentered o objects = (x : PlainObject) → slice_get objects o ≡ Some x → x.monitor ≡ free_monitor

pub new_unentered : (o : ℕ) (shape : List (ℕ × ℕ)) → IsUnentered o (new_objects shape)
new_unentered o shape x e = all_at (λ (y : PlainObject). y.monitor ≡ free_monitor) (new_objects shape) o x (all_new shape) e
  where
    all_new : (shape : List (ℕ × ℕ)) → AllByRecursion (λ (y : PlainObject). y.monitor ≡ free_monitor) (new_objects shape)
    all_new [] = tt
    all_new (s ∷ shape) = (refl, all_new shape)

-- what is bound to an object with a free monitor, and is taken there, is an enter
only_enters : (x y : PlainObject) (t o : ℕ) (e : Entry) → x.monitor ≡ free_monitor → take_at x t e ≡ Some y
    → is_same_object (bound_to e) (Some o) ≡ true → is_enter_of o e ≡ true
only_enters x y t o (entry.Enter k p) free h s = s
only_enters x y t o (entry.Exit k) free h s = absurd (cc (subst (λ (m : PlainMonitor). with_monitor x (exit m t) ≡ Some y) free h))
only_enters x y t o (entry.Wait k) free h s = absurd (cc (subst (λ (m : PlainMonitor). with_monitor x (wait m t) ≡ Some y) free h))
only_enters x y t o (entry.Resume k) free h s = absurd (cc (subst (λ (m : PlainMonitor). with_monitor x (resume m t) ≡ Some y) free h))
only_enters x y t o (entry.Notify k w) free h s = absurd (cc (subst (λ (m : PlainMonitor). with_monitor x (notify m t w) ≡ Some y) free h))
only_enters x y t o (entry.NotifyAll k n) free h s =
    absurd (cc (subst (λ (m : PlainMonitor). with_monitor x (notify_all m t n) ≡ Some y) free h))
only_enters x y t o (entry.Get k i v) free h s =
    absurd (cc (subst (λ (m : PlainMonitor). only_if (owns m t && has_value (slice_get x.slots i) v) x ≡ Some y) free h))
only_enters x y t o (entry.Put k i v) free h s =
    let put = record x { slots = slice_set x.slots i v } in
    absurd (cc (subst (λ (m : PlainMonitor). only_if (owns m t && nat_lt i (length x.slots)) put ≡ Some y) free h))
only_enters x y t o e free h s = absurd (false≢true s)

module _ (before after : List PlainObject) (t o : ℕ) (e : Entry) (taken : take_entry before t e ≡ Some after) (free : IsUnentered o before) where
  bound_enters : is_same_object (bound_to e) (Some o) ≡ true → is_enter_of o e ≡ true
  bound_enters s = elim (plain_or_hash e) [
    | inl p ↦ by_name (named e) refl taken (ap (λ a. is_same_object a (Some o)) (sym p.bound) ∙ s)
    | inr h ↦ absurd (false≢true (ap (λ a. is_same_object a (Some o)) (sym h.bound) ∙ s))
  ]
    where
      by_name : (a : Option ℕ) → named e ≡ a → take_named before t e a ≡ Some after → is_same_object (named e) (Some o) ≡ true
          → is_enter_of o e ≡ true
      by_name None is g q = absurd (false≢true (ap (λ a. is_same_object a (Some o)) (sym is) ∙ q))
      by_name (Some i) is g q =
          let k = taken_at before after t e i g in
          let here : i ≡ o = eqb-true i o (ap (λ a. is_same_object a (Some o)) (sym is) ∙ q) in
          only_enters k.x k.y t o e (free k.x (ap (slice_get before) (sym here) ∙ k.was)) k.step s

  free_after : is_same_object (bound_to e) (Some o) ≡ false → IsUnentered o after
  free_after s = by_name (named e) refl taken
    where
      by_name : (a : Option ℕ) → named e ≡ a → take_named before t e a ≡ Some after → IsUnentered o after
      by_name None is g x at = free x (ap (λ xs. slice_get xs o) (same_Some before after g) ∙ at)
      by_name (Some i) is g x at =
          let k = taken_at before after t e i g in
          elim (cases_eq i o) [
            | inl here ↦
                elim (plain_or_hash e) [
                  | inl p ↦
                      let bound : is_same_object (bound_to e) (Some o) ≡ true =
                      ap (λ a. is_same_object a (Some o)) (p.bound ∙ is) ∙ eq-eqb i o here in
                      absurd (false≢true (sym s ∙ bound))
                  | inr h ↦
                      let was : slice_get before o ≡ Some k.x = ap (slice_get before) (sym here) ∙ k.was in
                      let now : slice_get after o ≡ Some k.y =
                      ap (λ xs. slice_get xs o) k.is ∙ ap (slice_get (slice_set before i k.y)) (sym here) ∙ get_set_same before i k.x k.y k.was in
                      let kept : k.y.monitor ≡ free_monitor =
                      hash_kept (λ (n : PlainMonitor). n ≡ free_monitor) k.x k.y (hashed k.x.hash h.value) (free k.x was)
                      (sym (h.acts k.x t) ∙ k.step) in
                      ap (λ (z : PlainObject). z.monitor) (same_Some x k.y (sym at ∙ now)) ∙ kept
                ]
            | inr other ↦ free x (sym (get_set_other before i o k.y other) ∙ ap (λ xs. slice_get xs o) (sym k.is) ∙ at)
          ]

-- what is not bound to an object doesn't enter it
pub unbound_enters_not : (o : ℕ) (e : Entry) → is_same_object (bound_to e) (Some o) ≡ false → is_enter_of o e ≡ false
unbound_enters_not o (entry.Enter k path) s = s
unbound_enters_not o e s = refl

-- what a machine takes, its objects take
objects_moved : (m n : PlainMachine) (t : ℕ) (s : Option ThreadState) (made : Option (List (List ℕ))) (objects : Option (List PlainObject))
    → moved m t s made objects ≡ Some n
    → objects ≡ Some n.objects
objects_moved m n t None made objects h = absurd (cc h)
objects_moved m n t (Some s) None objects h = absurd (cc h)
objects_moved m n t (Some s) (Some made) None h = absurd (cc h)
objects_moved m n t (Some s) (Some made) (Some x) h = ap (λ (k : PlainMachine). Some k.objects) (same_Some _ n h)

objects_take : (m n : PlainMachine) (t : ℕ) (e : Entry) → take m t e ≡ Some n → take_entry m.objects t e ≡ Some n.objects
objects_take m n t e h = by_thread (slice_get m.threads t) h
  where
    by_thread : (r : Option ThreadState)
        → option_and_then (λ s. moved m t (thread_after m.program (code_of m.program t) s e) (made_after_entry m t e) (take_entry m.objects t e)) r ≡ Some n
        → take_entry m.objects t e ≡ Some n.objects
    by_thread None h = absurd (cc h)
    by_thread (Some s) h = objects_moved m n t (thread_after m.program (code_of m.program t) s e) (made_after_entry m t e) (take_entry m.objects t e) h

-- the next machine, and what of it is free
pub record IsStep (m n final : PlainMachine) (o : ℕ) (x : ℕ × Logged) (xs : List (ℕ × Logged)) : Type 0 where
  pub on : after_all n xs ≡ Some final
  pub enters : is_same_object (bound_to x.1.entry) (Some o) ≡ true → is_enter_of o x.1.entry ≡ true
  pub free : is_same_object (bound_to x.1.entry) (Some o) ≡ false → IsUnentered o n.objects

pub step_on : (m final : PlainMachine) (o : ℕ) (x : ℕ × Logged) (xs : List (ℕ × Logged)) → after_all m (x ∷ xs) ≡ Some final
    → IsUnentered o m.objects → (n : PlainMachine) × IsStep m n final o x xs
step_on m final o x xs h free =
    let a = first_some (λ n. after_all n xs) (take m x.0 x.1.entry) final h in
    let taken = objects_take m a.0 x.0 x.1.entry a.1 in (
      a.0,
      record {
        on = a.2;
        enters = bound_enters m.objects a.0.objects x.0 o x.1.entry taken free;
        free = free_after m.objects a.0.objects x.0 o x.1.entry taken free;
      },
    )
