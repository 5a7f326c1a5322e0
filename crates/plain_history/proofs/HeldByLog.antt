-- How often a thread holds an object by its own log is how often it stands at the plain monitor, after every history that the objects take.
use Rattle.std.proofs.Common.{◌≡◌, ℕ, zero, suc, ◌+◌, ◌-◌, ◌<◌, ◌==◌, eq-eqb, ne_eqb, cond, Bool, true, false, List, [], ◌∷◌, slice_get}
use Rattle.std.proofs.Common.{slice_set, slice_index_or, length, Option, Some, None, refl, sym, ap, ◌∙◌, subst, arith, inl, inr}
use Rattle.std.proofs.lemmas.Bool.{cases_eq}
use Rattle.std.proofs.lemmas.List.{get_or-set_same, get_or-set_other}
use Rattle.std.proofs.lemmas.Option.{same_Some, get_or_from_slice_get}
use Rattle.plain_monitor.specs.declared.entry.Entry.{Entry}
use Rattle.plain_monitor.specs.declared.entry.Entry.TheVariants as entry
use Rattle.plain_monitor.specs.declared.entry.Logged.{Logged}
use Rattle.plain_monitor.specs.Monitor.{enter, exit, wait, resume, notify, notify_all}
use Rattle.plain_monitor.specs.Objects.{PlainObject, new_object, new_objects, take_at, take_named, take_entry, named, hashed}
use Rattle.plain_monitor.specs.Order.{order, of_thread}
use Rattle.plain_monitor.specs.History.{LegalObjects, take_all, objects_after, log_of}
use Rattle.plain_monitor.proofs.Threads.{thread_kept}
use Rattle.plain_history.specs.Sound.{IsSound}
use Rattle.plain_history.specs.HeldByLog.{holds_by_monitor, held_after, held_by, nothing_held}
use Rattle.plain_history.proofs.Swaps.{taken_at}
use Rattle.plain_history.proofs.Inserting.{first_taken}
use Rattle.plain_history.proofs.SoundHistories.{monitor_kept, only_kept, hash_kept, AllSound, named_sound, new_sound, sound_at}
use Rattle.plain_history.proofs.HoldSteps.{one_if, enter_stands, exit_stands, wait_stands, resume_stands, notify_stands, notify_all_stands}

-- the plain objects by number
abbrev object_of : List PlainObject → ℕ → PlainObject
object_of objects i = slice_index_or objects i (new_object 0)

-- how often thread t stands at the monitor of object i
abbrev stands_at : List PlainObject → ℕ → ℕ → ℕ
stands_at objects i t = holds_by_monitor (object_of objects i).monitor t

-- ENTRIES. What the object that an entry names makes of the holds of its thread.
abbrev held_here : Entry → ℕ → ℕ
held_here (entry.Enter o p) n = n + 1
held_here (entry.Exit o) n = n - 1
held_here _ n = n

abbrev Held : ℕ → ℕ → Entry → ℕ → ℕ → Type 0
Held u t e n k = k ≡ cond (u == t) (held_here e n) n

same_held : (b : Bool) (n k : ℕ) → k ≡ n → k ≡ cond b n n
same_held true n k e = e
same_held false n k e = e

up : (b : Bool) (n k : ℕ) → k ≡ n + one_if b → k ≡ cond b (n + 1) n
up true n k e = e
up false n k e = omega (arith, e)

down : (b : Bool) (n k : ℕ) → k ≡ n - one_if b → k ≡ cond b (n - 1) n
down true n k e = e
down false n k e = omega (arith, e)

at_object : (x y : PlainObject) (u t : ℕ) (e : Entry) → IsSound x.monitor → take_at x u e ≡ Some y
    → Held u t e (holds_by_monitor x.monitor t) (holds_by_monitor y.monitor t)
at_object x y u t (entry.Enter o p) s h = monitor_kept (λ n. Held u t (entry.Enter o p) (holds_by_monitor x.monitor t) (holds_by_monitor n t)) x y
    (enter x.monitor u) (λ n g. up (u == t) _ _ (enter_stands x.monitor n u t g)) h
at_object x y u t (entry.Exit o) s h = monitor_kept (λ n. Held u t (entry.Exit o) (holds_by_monitor x.monitor t) (holds_by_monitor n t)) x y
    (exit x.monitor u) (λ n g. down (u == t) _ _ (exit_stands x.monitor n u t s g)) h
at_object x y u t (entry.Wait o) s h = monitor_kept (λ n. Held u t (entry.Wait o) (holds_by_monitor x.monitor t) (holds_by_monitor n t)) x y
    (wait x.monitor u) (λ n g. same_held (u == t) _ _ (wait_stands x.monitor n u t s g)) h
at_object x y u t (entry.Resume o) s h = monitor_kept (λ n. Held u t (entry.Resume o) (holds_by_monitor x.monitor t) (holds_by_monitor n t)) x y
    (resume x.monitor u) (λ n g. same_held (u == t) _ _ (resume_stands x.monitor n u t g)) h
at_object x y u t (entry.Notify o w) s h = monitor_kept (λ n. Held u t (entry.Notify o w) (holds_by_monitor x.monitor t) (holds_by_monitor n t)) x y
    (notify x.monitor u w) (λ n g. same_held (u == t) _ _ (notify_stands x.monitor n u t w s g)) h
at_object x y u t (entry.NotifyAll o w) s h = monitor_kept (λ n. Held u t (entry.NotifyAll o w) (holds_by_monitor x.monitor t) (holds_by_monitor n t))
    x y (notify_all x.monitor u w) (λ n g. same_held (u == t) _ _ (notify_all_stands x.monitor n u t w s g)) h
at_object x y u t (entry.Get o i v) s h = same_held (u == t) _ _ (only_kept (λ n. holds_by_monitor n t ≡ holds_by_monitor x.monitor t) x x y _ refl refl h)
at_object x y u t (entry.Put o i v) s h = same_held (u == t) _ _
    (only_kept (λ n. holds_by_monitor n t ≡ holds_by_monitor x.monitor t) x (record x { slots = slice_set x.slots i v }) y _ refl refl h)
at_object x y u t (entry.Hash o v d) s h =
    same_held (u == t) _ _ (hash_kept (λ n. holds_by_monitor n t ≡ holds_by_monitor x.monitor t) x y (hashed x.hash v) refl h)
at_object x y u t _ s h = same_held (u == t) _ _ (ap (λ (z : PlainObject). holds_by_monitor z.monitor t) (sym (same_Some x y h)))

-- the holds by the log, at the object that an entry names, and elsewhere
log_here : (e : Entry) (held : ℕ → ℕ) (o : ℕ) → named e ≡ Some o → held_after e held o ≡ held_here e (held o)
log_here (entry.Enter i p) held o h = ap (λ (b : Bool). held o + one_if b) (eq-eqb i o (same_Some i o h))
log_here (entry.Exit i) held o h = ap (λ (b : Bool). held o - one_if b) (eq-eqb i o (same_Some i o h))
log_here _ held o h = refl

log_else : (e : Entry) (held : ℕ → ℕ) (o : ℕ) → (named e ≡ Some o → ⊥) → held_after e held o ≡ held o
log_else (entry.Enter i p) held o h = let a = ap one_if (ne_eqb i o (λ s. h (ap Some s))) in omega (arith, a)
log_else (entry.Exit i) held o h = let a = ap one_if (ne_eqb i o (λ s. h (ap Some s))) in omega (arith, a)
log_else _ held o h = refl

-- an object that is there
pub there : (P : List PlainObject) (o : ℕ) (x : PlainObject) → slice_get P o ≡ Some x → o < length P
there [] o x h = absurd (cc h)
there (y ∷ P) zero x h = omega arith
there (y ∷ P) (suc o) x h = let n = there P o x h in omega (arith, n)

-- an entry of u changes u's own holds alone, as its log says
step_stands : (P Q : List PlainObject) (u t : ℕ) (e : Entry) → AllSound P → take_entry P u e ≡ Some Q → (i : ℕ)
    → stands_at Q i t ≡ cond (u == t) (held_after e (λ j. stands_at P j t) i) (stands_at P i t)
step_stands P Q u t e sound h i = by_name (named e) refl h
  where
    -- where the entry doesn't name the object, nothing changes there
    unnamed : (named e ≡ Some i → ⊥) → stands_at P i t ≡ cond (u == t) (held_after e (λ j. stands_at P j t) i) (stands_at P i t)
    unnamed other = same_held (u == t) _ _ refl ∙ ap (λ x. cond (u == t) x (stands_at P i t)) (sym (log_else e (λ j. stands_at P j t) i other))

    by_name : (a : Option ℕ) → named e ≡ a → take_named P u e a ≡ Some Q
        → stands_at Q i t ≡ cond (u == t) (held_after e (λ j. stands_at P j t) i) (stands_at P i t)
    by_name None n g = ap (λ (R : List PlainObject). stands_at R i t) (sym (same_Some P Q g)) ∙ unnamed (λ s. absurd (cc (n, s)))
    by_name (Some o) n g =
        let k = taken_at P Q u e o g in
        let was : object_of P o ≡ k.x = get_or_from_slice_get P o k.x (new_object 0) k.was in
        elim (cases_eq i o) [
          | inl s ↦ subst (λ j. stands_at Q j t ≡ cond (u == t) (held_after e (λ j. stands_at P j t) j) (stands_at P j t)) (sym s)
              (ap (λ (R : List PlainObject). stands_at R o t) k.is
              ∙ ap (λ (z : PlainObject). holds_by_monitor z.monitor t) (get_or-set_same P o k.y (new_object 0) (there P o k.x k.was))
              ∙ at_object k.x k.y u t e (sound_at P o k.x k.was sound) k.step
              ∙ ap (λ (z : PlainObject). cond (u == t) (held_here e (holds_by_monitor z.monitor t)) (holds_by_monitor z.monitor t)) (sym was)
              ∙ ap (λ x. cond (u == t) x (stands_at P o t)) (sym (log_here e (λ j. stands_at P j t) o n)))
          | inr d ↦ ap (λ (R : List PlainObject). stands_at R i t) k.is
              ∙ ap (λ (z : PlainObject). holds_by_monitor z.monitor t) (get_or-set_other P o i k.y (new_object 0) d)
              ∙ unnamed (λ s. d (sym (same_Some o i (sym n ∙ s))))
        ]

-- and entries of all threads, as t's own say
all_stand : (xs : List (ℕ × Logged)) (P Q : List PlainObject) (t : ℕ) → AllSound P → take_all P xs ≡ Some Q → (i : ℕ)
    → stands_at Q i t ≡ held_by (λ j. stands_at P j t) (of_thread t xs) i
all_stand [] P Q t sound h i = ap (λ (R : List PlainObject). stands_at R i t) (sym (same_Some P Q h))
all_stand (x ∷ xs) P Q t sound h i =
    let k = first_taken (take_entry P x.0 x.1.entry) xs Q h in
    let step = step_stands P k.0 x.0 t x.1.entry sound k.1 in
    let fs : ◌≡◌ {A = ℕ → ℕ} (λ j. stands_at k.0 j t)
    (λ j. cond (x.0 == t) (held_after x.1.entry (λ j. stands_at P j t) j) (stands_at P j t)) = λ p. λ j. step j p in
    all_stand xs k.0 Q t (named_sound P k.0 x.0 x.1.entry (named x.1.entry) sound k.1) k.2 i
    ∙ ap (λ f. held_by f (of_thread t xs) i) fs ∙ by_test (x.0 == t)
  where
    by_test : (b : Bool) → held_by (λ j. cond b (held_after x.1.entry (λ j. stands_at P j t) j) (stands_at P j t)) (of_thread t xs) i
        ≡ held_by (λ j. stands_at P j t) (cond b (x.1 ∷ of_thread t xs) (of_thread t xs)) i
    by_test true = refl
    by_test false = refl

new_at : (shape : List (ℕ × ℕ)) (o : ℕ) → (size : ℕ) × (object_of (new_objects shape) o ≡ new_object size)
new_at [] o = (0, refl)
new_at (x ∷ shape) zero = (x.1, refl)
new_at (x ∷ shape) (suc o) = new_at shape o

-- at all object numbers, where one that isn't there is new
pub holds_by_log : (shape : List (ℕ × ℕ)) (logs : List (List Logged)) (objects : List PlainObject)
    → LegalObjects shape logs → objects_after shape logs ≡ Some objects → (t o : ℕ)
    → holds_by_monitor (slice_index_or objects o (new_object 0)).monitor t ≡ held_by nothing_held (log_of logs t) o
holds_by_log shape logs objects legal h t o =
    let fs : ◌≡◌ {A = ℕ → ℕ} (λ j. stands_at (new_objects shape) j t) nothing_held =
    λ p. λ j. ap (λ (z : PlainObject). holds_by_monitor z.monitor t) (new_at shape j).1 p in
    all_stand (order logs) (new_objects shape) objects t (new_sound shape) h o
    ∙ ap (λ f. held_by f (of_thread t (order logs)) o) fs ∙ ap (λ (log : List Logged). held_by nothing_held log o) (thread_kept logs t legal.rises)

pub object_holds_by_log : (shape : List (ℕ × ℕ)) (logs : List (List Logged)) (objects : List PlainObject) (t o : ℕ) (x : PlainObject)
    → LegalObjects shape logs → objects_after shape logs ≡ Some objects
    → slice_get objects o ≡ Some x → held_by nothing_held (log_of logs t) o ≡ holds_by_monitor x.monitor t
object_holds_by_log shape logs objects t o x legal h is =
    sym (holds_by_log shape logs objects legal h t o)
    ∙ ap (λ (z : PlainObject). holds_by_monitor z.monitor t) (get_or_from_slice_get objects o x (new_object 0) is)
