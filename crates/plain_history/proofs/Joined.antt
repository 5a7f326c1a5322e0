-- Where the objects take all entries, and each thread's state its own, the two take all together.
use Rattle.std.proofs.Common.{◌≡◌, ℕ, zero, suc, ◌+◌, ◌<◌, ◌≤◌, List, [], ◌∷◌, length, map, Option, Some, None, slice_get}
use Rattle.std.proofs.Common.{slice_set, option_map, option_and_then, refl, ap, sym, subst, ◌∙◌, inl, inr, arith}
use Rattle.std.proofs.lemmas.Bool.{cases_eq}
use Rattle.std.proofs.lemmas.List.{length-set}
use Rattle.std.proofs.lemmas.Option.{same_Some}
use Rattle.std.specs.List.{AllByRecursion}
use Rattle.plain_monitor.specs.declared.entry.Entry.{Entry}
use Rattle.plain_monitor.specs.declared.entry.Logged.{Logged}
use Rattle.plain_monitor.specs.Objects.{PlainObject, new_objects, take_entry}
use Rattle.plain_monitor.specs.Order.{of_thread, with_threads, order}
use Rattle.plain_monitor.specs.History.{RisesAbove, take_all, objects_after}
use Rattle.plain_monitor.proofs.Lists.{all_append, get_set_same, get_set_other}
use Rattle.plain_monitor.proofs.Orders.{all_ordered}
use Rattle.plain_monitor.proofs.Threads.{other_thread, same_thread, thread_kept}
use Rattle.plain_history.specs.Joined.{run_log, both, take_state, take_joined, take_all_joined, EachTakesItsOwn, EachTakesItsLog}

-- the first of two steps
pub first_some : {A B : Type 0} (f : A → Option B) (o : Option A) (b : B) → option_and_then f o ≡ Some b → (a : A) × (o ≡ Some a) × (f a ≡ Some b)
first_some f None b h = absurd (cc h)
first_some f (Some a) b h = (a, refl, h)

-- what a list has at a place within it
pub get_within : {A : Type 0} (xs : List A) (i : ℕ) → i < length xs → (x : A) × (slice_get xs i ≡ Some x)
get_within [] i h = absurd (omega arith)
get_within (x ∷ xs) zero h = (x, refl)
get_within (x ∷ xs) (suc i) h = get_within xs i (omega arith)

-- two lists of one length that agree at each place are the same
pub same_lists : {A : Type 0} (xs ys : List A) → length ys ≡ length xs
    → ((i : ℕ) (x y : A) → slice_get xs i ≡ Some x → slice_get ys i ≡ Some y → x ≡ y) → xs ≡ ys
same_lists [] [] n f = refl
same_lists [] (y ∷ ys) n f = absurd (omega (arith, n))
same_lists (x ∷ xs) [] n f = absurd (omega (arith, n))
same_lists (x ∷ xs) (y ∷ ys) n f =
    let head = f 0 x y refl refl in
    let tail = same_lists xs ys (omega (arith, n)) (λ i v w p q. f (suc i) v w p q) in
    cc

-- the entries of a log are of a thread that is there
log_within : (t n : ℕ) (log : List Logged) → t < n → AllByRecursion (λ (x : ℕ × Logged). x.0 < n) (map (λ l. (t, l)) log)
log_within t n [] h = tt
log_within t n (l ∷ log) h = (h, log_within t n log h)

-- the entries of the logs are of threads that are there, where the first log is that of thread t
pub logs_within : (t n : ℕ) (logs : List (List Logged)) → t + length logs ≤ n → AllByRecursion (λ (x : ℕ × Logged). x.0 < n) (with_threads t logs)
logs_within t n [] h = tt
logs_within t n (log ∷ logs) h =
    all_append (λ x. x.0 < n) (map (λ l. (t, l)) log) (with_threads (t + 1) logs)
    (log_within t n log (omega (arith, h))) (logs_within (t + 1) n logs (omega (arith, h)))

-- a value that is changed where it is there
map_as_then : {A B : Type 0} (f : A → B) (o : Option A) → option_and_then (λ a. Some (f a)) o ≡ option_map f o
map_as_then f None = refl
map_as_then f (Some a) = refl

-- where both are there, each is
both_there : {A B : Type 0} (x : Option A) (y : Option B) (p : A × B) → both x y ≡ Some p → (x ≡ Some p.0) × (y ≡ Some p.1)
both_there None y p h = absurd (cc h)
both_there (Some a) None p h = absurd (cc h)
both_there (Some a) (Some b) p h = let e = same_Some (a, b) p h in (ap (λ q. Some q.0) e, ap (λ q. Some q.1) e)

module _ {S : Type 0} (step : S → Entry → Option S) where
  -- states that take an entry of thread t take it at t: s is there before and next after
  pub record StateTaken (states after : List S) (t : ℕ) (e : Entry) : Type 0 where
    pub s : S
    pub next : S
    pub was : slice_get states t ≡ Some s
    pub takes : step s e ≡ Some next
    pub is : after ≡ slice_set states t next

  -- states that take an entry take it at its thread
  state_taken : (states after : List S) (t : ℕ) (e : Entry) → take_state step states t e ≡ Some after → StateTaken states after t e
  state_taken states after t e h =
      let a = first_some (λ s. option_map (λ next. slice_set states t next) (step s e)) (slice_get states t) after h in
      let b = first_some (λ next. Some (slice_set states t next)) (step a.0 e) after (map_as_then (λ next. slice_set states t next) (step a.0 e) ∙ a.2) in
      record { s = a.0; next = b.0; was = a.1; takes = b.1; is = sym (same_Some (slice_set states t b.0) after b.2) }

  -- after an entry each state takes the rest of its own
  owns_rest : (states finals : List S) (x : ℕ × Logged) (xs : List (ℕ × Logged)) (s after : S) → slice_get states x.0 ≡ Some s → step s x.1.entry ≡ Some after
      → EachTakesItsOwn step states finals (x ∷ xs) → EachTakesItsOwn step (slice_set states x.0 after) finals xs
  owns_rest states finals x xs s after was is each =
      record {
        threads = each.threads ∙ sym (length-set states x.0 after);
        own = λ t now final at end. elim (cases_eq x.0 t) [
          | inl e ↦
              let n : after ≡ now = same_Some after now (sym (get_set_same states x.0 s after was) ∙ ap (slice_get (slice_set states x.0 after)) e ∙ at) in
              let f = rw (e, same_thread t, is) at (each.own t s final (ap (slice_get states) (sym e) ∙ was) end) in
              rw n at f
          | inr d ↦
              rw (other_thread x.0 t d) at (each.own t now final (sym (get_set_other states x.0 t after d) ∙ at) end)
        ];
      }

  -- the two take all together
  pub joined : (xs : List (ℕ × Logged)) (objects after : List PlainObject) (states finals : List S) → AllByRecursion (λ x. x.0 < length states) xs
      → take_all objects xs ≡ Some after → EachTakesItsOwn step states finals xs → take_all_joined step objects states xs ≡ Some (after, finals)
  joined [] objects after states finals within h each =
      let o : objects ≡ after = same_Some objects after h in
      let s : states ≡ finals = same_lists states finals each.threads (λ i x y p q. same_Some x y (each.own i x y p q)) in
      cc
  joined (x ∷ xs) objects after states finals within h each =
      let a = first_some (λ o. take_all o xs) (take_entry objects x.0 x.1.entry) after h in
      let s = get_within states x.0 within.0 in
      let f = get_within finals x.0 (omega (arith, within.0, each.threads)) in
      let b = first_some (λ v. run_log step v (of_thread x.0 xs)) (step s.0 x.1.entry) f.0 (rw (same_thread x.0) at (each.own x.0 s.0 f.0 s.1 f.1)) in
      let rest : AllByRecursion (λ y. y.0 < length (slice_set states x.0 b.0)) xs = rw (length-set states x.0 b.0) within.1 in
      rw (a.1, s.1, b.1) (joined xs a.0 after (slice_set states x.0 b.0) finals rest a.2 (owns_rest states finals x xs s.0 b.0 s.1 b.1 each))

  -- each state takes an entry and then the rest of its own, where its thread's state takes the entry
  owns_with_first : (states finals : List S) (x : ℕ × Logged) (xs : List (ℕ × Logged)) (s next : S)
      → slice_get states x.0 ≡ Some s → step s x.1.entry ≡ Some next
      → EachTakesItsOwn step (slice_set states x.0 next) finals xs → EachTakesItsOwn step states finals (x ∷ xs)
  owns_with_first states finals x xs s next was takes each =
      record {
        threads = each.threads ∙ length-set states x.0 next;
        own = λ t now final at end. elim (cases_eq x.0 t) [
          | inl e ↦
              let n : s ≡ now = same_Some s now (sym was ∙ ap (slice_get states) e ∙ at) in
              let there : slice_get (slice_set states x.0 next) t ≡ Some next =
              ap (slice_get (slice_set states x.0 next)) (sym e) ∙ get_set_same states x.0 s next was in
              let f = each.own t next final there end in
              rw (e, same_thread t, ← n, takes) f
          | inr d ↦
              rw (other_thread x.0 t d) (each.own t now final (get_set_other states x.0 t next d ∙ at) end)
        ];
      }

  -- the two that took all together each took all
  pub parted : (xs : List (ℕ × Logged)) (objects after : List PlainObject) (states finals : List S)
      → take_all_joined step objects states xs ≡ Some (after, finals)
      → (take_all objects xs ≡ Some after) × EachTakesItsOwn step states finals xs
  parted [] objects after states finals h =
      let e = same_Some (objects, states) (after, finals) h in
      let s : states ≡ finals = ap (λ p. p.1) e in
      (ap (λ p. Some p.0) e, record { threads = ap length (sym s); own = λ t now final at end. sym at ∙ ap (λ v. slice_get v t) s ∙ end })
  parted (x ∷ xs) objects after states finals h =
      let a = first_some (λ p. take_all_joined step p.0 p.1 xs) (take_joined step objects states x.0 x.1.entry) (after, finals) h in
      let b = both_there (take_entry objects x.0 x.1.entry) (take_state step states x.0 x.1.entry) a.0 a.1 in
      let c = state_taken states a.0.1 x.0 x.1.entry b.1 in
      let rest = parted xs a.0.0 after a.0.1 finals a.2 in
      let each = subst (λ v. EachTakesItsOwn step v finals xs) c.is rest.1 in
      (rw b.0 rest.0, owns_with_first states finals x xs c.s c.next c.was c.takes each)

  -- each state takes its own of the order, where it takes its log
  own_by_log : (logs : List (List Logged)) (states finals : List S) → AllByRecursion (RisesAbove 0) logs
      → EachTakesItsLog step states finals logs → EachTakesItsOwn step states finals (order logs)
  own_by_log logs states finals r each =
      record { threads = each.threads; own = λ t s final at end. rw (thread_kept logs t r) (each.own t s final at end) }

  -- the two take the order of the logs together
  pub joined_logs : (shape : List (ℕ × ℕ)) (logs : List (List Logged)) (after : List PlainObject) (states finals : List S)
      → AllByRecursion (RisesAbove 0) logs → length logs ≤ length states
      → objects_after shape logs ≡ Some after → EachTakesItsLog step states finals logs
      → take_all_joined step (new_objects shape) states (order logs) ≡ Some (after, finals)
  joined_logs shape logs after states finals r n h each =
      let within = all_ordered (λ x. x.0 < length states) (with_threads 0 logs) (logs_within 0 (length states) logs (omega (arith, n))) in
      joined (order logs) (new_objects shape) after states finals within h (own_by_log logs states finals r each)
