-- Whether a thread owns an object changes by its own entries alone. So an entry that only the owner may log isn't taken from another, wherever
-- in the order its stamp puts it.
use Rattle.core_locks.proofs.Prelude.{eq-eqb, is_none, ◌≡◌, ◌≢◌, ℕ, zero, suc, ◌+◌, ◌<◌, ◌≤◌, ◌==◌, ne_eqb, eqb-true, Bool, true, false, List, []}
use Rattle.core_locks.proofs.Prelude.{◌∷◌, ◌++◌, length, slice_get, Option, Some, None, refl, sym, ap, ◌∙◌, subst, arith, AllByRecursion, nat_tests}
use Rattle.core_locks.proofs.Prelude.{same_Some, Entry, Enter, Exit, Get, Put, Wait, Resume, Notify, NotifyAll, Hash, Logged, Path, owns, is_thread}
use Rattle.core_locks.proofs.Prelude.{count_of, resumed, PlainObject, new_objects, take_at, take_entry, take_named, with_monitor, hashed, order}
use Rattle.core_locks.proofs.Prelude.{of_thread, RisesAbove, take_all, objects_after, appended, last_stamp, log_of, order_appended, thread_kept}
use Rattle.core_locks.proofs.Prelude.{taken_at, bound_to, read_value, Act, WordId, Safepoint, Slot}
use Rattle.core_locks.proofs.Prelude.{LogGet, StepPlan, Stage, word_after}
use Rattle.core_locks.proofs.Prelude.{hits, ThreadView, object_of, owner_at, value_found, CallContext, with_stage, logging_plan, load, world_after}
use Rattle.core_locks.proofs.Prelude.{runs_after, stamp_by, Fits, Valid, World, with_word_and_known, logs, by_equal, log_at, logs_grow, logs_length}
use Rattle.core_locks.proofs.Prelude.{running_fits, thread_is, same_number}
use Rattle.plain_monitor.specs.Objects.{named}
use Rattle.plain_monitor.specs.Order.{is_before, insert_ordered, with_threads}
use Rattle.plain_monitor.specs.History.{last_above}
use Rattle.plain_monitor.proofs.Orders.{before_asym}
use Rattle.plain_monitor.proofs.Ordering.{NoneBefore, IsOrdered, none_before, ordered_is_ordered}
use Rattle.plain_history.proofs.Inserting.{first_taken}
use Rattle.plain_history.proofs.Swaps.{elsewhere, hash_taken}
use Rattle.core_locks.specs.OwnersEntries.{is_by_owner}
use Rattle.core_locks.proofs.RefutedSteps.{knows, hit_fits}
use Rattle.core_locks.proofs.RefutedTaken.{owner_takes, taken_here, object_before, object_after}

-- ONE ENTRY. An object refuses it from who isn't the owner.
unowned_refused : (x : PlainObject) (t o : ℕ) (e : Entry) → is_by_owner o e ≡ true → owns x.monitor t ≡ false → take_at x t e ≡ None
unowned_refused x t o (Exit i) by out = rw out refl
unowned_refused x t o (Wait i) by out = rw out refl
unowned_refused x t o (Notify i woken) by out = rw out refl
unowned_refused x t o (NotifyAll i woken) by out = rw out refl
unowned_refused x t o (Get i slot value) by out = rw out refl
unowned_refused x t o (Put i slot value) by out = rw out refl
unowned_refused x t o _ by out = absurd (cc by)

pub by_owner_bound : (o : ℕ) (e : Entry) → is_by_owner o e ≡ true → bound_to e ≡ Some o
by_owner_bound o (Exit i) by = ap Some (eqb-true i o by)
by_owner_bound o (Wait i) by = ap Some (eqb-true i o by)
by_owner_bound o (Notify i woken) by = ap Some (eqb-true i o by)
by_owner_bound o (NotifyAll i woken) by = ap Some (eqb-true i o by)
by_owner_bound o (Get i slot value) by = ap Some (eqb-true i o by)
by_owner_bound o (Put i slot value) by = ap Some (eqb-true i o by)
by_owner_bound o _ by = absurd (cc by)

pub taken_by_owner : (P Q : List PlainObject) (t o : ℕ) (e : Entry) → is_by_owner o e ≡ true → take_entry P t e ≡ Some Q → owner_at P o t ≡ true
taken_by_owner P Q t o e by taken = by_test (owner_at P o t) refl
  where
    by_test : (b : Bool) → owner_at P o t ≡ b → owner_at P o t ≡ true
    by_test true f = f
    by_test false f =
        let here = taken_here P Q t o e (by_owner_bound o e by) taken in
        let out : owns here.x.monitor t ≡ false = ap (λ k. owns k.monitor t) (sym (object_before P Q t o e here)) ∙ f in
        let refused = unowned_refused here.x t o e by out in
        absurd (cc (sym refused ∙ here.step))

-- ANOTHER'S ENTRY leaves the owner.
stays_at : (x y : PlainObject) (t u : ℕ) (e : Entry) → u ≢ t → x.monitor.owner ≡ Some t → take_at x u e ≡ Some y → y.monitor.owner ≡ Some t
stays_at x y t u e other own taken = by_entry e taken
  where
    out : owns x.monitor u ≡ false
    out = ap (λ a. is_thread a u) own ∙ ne_eqb t u (λ s. other (sym s))

    held : is_none x.monitor.owner ≡ false
    held = ap is_none own

    refused : (f : Entry) (o : ℕ) → is_by_owner o f ≡ true → take_at x u f ≡ Some y → y.monitor.owner ≡ Some t
    refused f o by k = absurd (cc (sym (unowned_refused x u o f by out) ∙ k))

    entered : (o : ℕ) (path : Path) → take_at x u (Enter o path) ≡ None
    entered o path = rw (out, held) refl

    resumes : (c : Option ℕ) → with_monitor x (resumed x.monitor u c) ≡ None
    resumes None = refl
    resumes (Some n) = rw held refl

    by_entry : (f : Entry) → take_at x u f ≡ Some y → y.monitor.owner ≡ Some t
    by_entry (Enter o path) k = absurd (cc (sym (entered o path) ∙ k))
    by_entry (Resume o) k = absurd (cc (sym (resumes (count_of x.monitor.called u)) ∙ k))
    by_entry (Exit o) k = refused (Exit o) o (same_number o) k
    by_entry (Wait o) k = refused (Wait o) o (same_number o) k
    by_entry (Notify o woken) k = refused (Notify o woken) o (same_number o) k
    by_entry (NotifyAll o woken) k = refused (NotifyAll o woken) o (same_number o) k
    by_entry (Get o slot value) k = refused (Get o slot value) o (same_number o) k
    by_entry (Put o slot value) k = refused (Put o slot value) o (same_number o) k
    by_entry (Hash o value drawn) k = ap (λ z. z.monitor.owner) (sym (hash_taken x y (hashed x.hash value) k).2) ∙ own
    by_entry _ k = ap (λ z. z.monitor.owner) (sym (same_Some _ _ k)) ∙ own

pub same_got : (P Q : List PlainObject) (o : ℕ) → slice_get Q o ≡ slice_get P o → object_of Q o ≡ object_of P o
same_got [] [] o h = refl
same_got [] (y ∷ Q) zero h = absurd (cc h)
same_got [] (y ∷ Q) (suc o) h = same_got [] Q o h
same_got (x ∷ P) [] zero h = absurd (cc h)
same_got (x ∷ P) [] (suc o) h = same_got P [] o h
same_got (x ∷ P) (y ∷ Q) zero h = same_Some _ _ h
same_got (x ∷ P) (y ∷ Q) (suc o) h = same_got P Q o h

owner_stays : (P Q : List PlainObject) (t u o : ℕ) (e : Entry) → u ≢ t → take_entry P u e ≡ Some Q → owner_at P o t ≡ true → owner_at Q o t ≡ true
owner_stays P Q t u o e other taken owner = by_named (named e) refl
  where
    is : (object_of P o).monitor.owner ≡ Some t
    is = thread_is (object_of P o).monitor.owner t owner

    by_named : (n : Option ℕ) → named e ≡ n → owner_at Q o t ≡ true
    by_named None f = ap (λ R. owner_at R o t) (sym (same_Some _ _ (ap (take_named P u e) (sym f) ∙ taken))) ∙ owner
    by_named (Some i) f = by_equal o i
        (λ s.
        let here = taken_at P Q u e o (ap (take_named P u e) (ap Some s ∙ sym f) ∙ taken) in
        let was : here.x.monitor.owner ≡ Some t = ap (λ k. k.monitor.owner) (sym (object_before P Q u o e here)) ∙ is in
        let now = stays_at here.x here.y t u e other was here.step in
        ap (λ k. owns k.monitor t) (object_after P Q u o e here) ∙ ap (λ a. is_thread a t) now ∙ same_number t)
        (λ d. ap (λ k. owns k.monitor t) (same_got P Q o (elsewhere P Q u e i o taken f (λ s. d (sym s)))) ∙ owner)

-- IN THE ORDER. All of the thread's own entries stand before its new one.
abbrev IsAfterOwn : ℕ × Logged → List (ℕ × Logged) → Type 0
IsAfterOwn x zs = AllByRecursion (λ z. z.0 ≡ x.0 → is_before z x ≡ true) zs

others_after : (x : ℕ × Logged) (zs : List (ℕ × Logged)) → NoneBefore x zs → IsAfterOwn x zs → AllByRecursion (λ z. z.0 ≢ x.0) zs
others_after x [] a b = tt
others_after x (z ∷ zs) a b = (let head = a.0 in let own = b.0 in (λ s. cc (head, own s)), others_after x zs a.1 b.1)

-- WHAT HOLDS UNTIL THEN: F stays by the entries of others, and where x is taken it holds. So it holds after the others.
module _ (x : ℕ × Logged) (F : List PlainObject → Type 0)
    (stays : (P Q : List PlainObject) (u : ℕ) (e : Entry) → u ≢ x.0 → take_entry P u e ≡ Some Q → F P → F Q)
    (needs : (P Q : List PlainObject) → take_entry P x.0 x.1.entry ≡ Some Q → F P) where
  stays_all : (zs : List (ℕ × Logged)) (P Q : List PlainObject) → AllByRecursion (λ z. z.0 ≢ x.0) zs → take_all P zs ≡ Some Q → F P → F Q
  stays_all [] P Q a h f = subst F (same_Some _ _ h) f
  stays_all (z ∷ zs) P Q a h f =
      let b = first_taken (take_entry P z.0 z.1.entry) zs Q h in
      stays_all zs b.0 Q a.1 b.2 (stays P b.0 z.0 z.1.entry a.0 b.1 f)

  holds_at_head : (z : ℕ × Logged) (zs : List (ℕ × Logged)) (b : Bool) → is_before x z ≡ b
      → (before P Q : List PlainObject) → IsOrdered (z ∷ zs) → IsAfterOwn x (z ∷ zs)
      → take_all before (z ∷ zs) ≡ Some P → take_all before (insert_ordered x (z ∷ zs)) ≡ Some Q
      → ((objects : List PlainObject) → take_all objects zs ≡ Some P → take_all objects (insert_ordered x zs) ≡ Some Q → F P) → F P
  holds_at_head z zs true hb before P Q up follows h k ih =
      let a = first_taken (take_entry before x.0 x.1.entry) (z ∷ zs) Q (rw hb at k) in
      let others = others_after x (z ∷ zs) (before_asym x z hb, none_before x z zs hb up.0) follows in
      stays_all (z ∷ zs) before P others h (needs before a.0 a.1)
  holds_at_head z zs false hb before P Q up follows h k ih =
      let inserted : take_all before (z ∷ insert_ordered x zs) ≡ Some Q = rw hb at k in
      let a = first_taken (take_entry before z.0 z.1.entry) zs P h in
      let b = first_taken (take_entry before z.0 z.1.entry) (insert_ordered x zs) Q inserted in
      let same : b.0 ≡ a.0 = same_Some _ _ (sym b.1 ∙ a.1) in
      ih a.0 a.2 (ap (λ R. take_all R (insert_ordered x zs)) (sym same) ∙ b.2)

  holds_inserted : (zs : List (ℕ × Logged)) (before P Q : List PlainObject) → IsOrdered zs
      → IsAfterOwn x zs → take_all before zs ≡ Some P → take_all before (insert_ordered x zs) ≡ Some Q → F P
  holds_inserted [] before P Q up follows h k =
      let a = first_taken (take_entry before x.0 x.1.entry) [] Q k in
      subst F (same_Some _ _ h) (needs before a.0 a.1)
  holds_inserted (z ∷ zs) before P Q up follows h k =
      holds_at_head z zs (is_before x z) refl before P Q up follows h k (λ objects f g. holds_inserted zs objects P Q up.1 follows.1 f g)

-- the stamps of a log, below one that is above its last
last_is_above : (n : ℕ) (log : List Logged) → RisesAbove n log → n ≤ last_above n log
last_is_above n [] r = omega arith
last_is_above n (l ∷ log) r = let a = r.0 in omega (arith, a, last_is_above l.stamp log r.1)

stamps_below : (s n : ℕ) (log : List Logged) → RisesAbove n log → last_above n log < s → AllByRecursion (λ l. l.stamp < s) log
stamps_below s n [] r h = tt
stamps_below s n (l ∷ log) r h = (omega (arith, h, last_is_above l.stamp log r.1), stamps_below s l.stamp log r.1 h)

own_head : (F : Logged → Type 0) (t : ℕ) (x : ℕ × Logged) (xs : List (ℕ × Logged)) (b : Bool) → (x.0 == t) ≡ b
    → AllByRecursion F (of_thread t (x ∷ xs)) → (x.0 ≡ t → F x.1) × AllByRecursion F (of_thread t xs)
own_head F t x xs true e a = let k : AllByRecursion F (x.1 ∷ of_thread t xs) = rw e at a in (λ s. k.0, k.1)
own_head F t x xs false e a = let k : AllByRecursion F (of_thread t xs) = rw e at a in (λ s. let same = eq-eqb x.0 t s in absurd (cc (e, same)), k)

each_own : (F : Logged → Type 0) (t : ℕ) (xs : List (ℕ × Logged)) → AllByRecursion F (of_thread t xs) → AllByRecursion (λ x. x.0 ≡ t → F x.1) xs
each_own F t [] a = tt
each_own F t (x ∷ xs) a = let b = own_head F t x xs (x.0 == t) refl a in (b.0, each_own F t xs b.1)

lower_is_before : (x : ℕ × Logged) (zs : List (ℕ × Logged)) → AllByRecursion (λ z. z.0 ≡ x.0 → z.1.stamp < x.1.stamp) zs → IsAfterOwn x zs
lower_is_before x [] a = tt
lower_is_before x (z ∷ zs) a = (let f = a.0 in λ s. let low : z.1.stamp < x.1.stamp = f s in grind (arith, nat_tests), lower_is_before x zs a.1)

rises_of : (all : List (List Logged)) (t : ℕ) → AllByRecursion (RisesAbove 0) all → RisesAbove 0 (log_of all t)
rises_of [] t a = tt
rises_of (log ∷ all) zero a = a.0
rises_of (log ∷ all) (suc t) a = rises_of all t a.1

-- what an entry needs, and the entries of others leave, holds where the logs are legal with that entry, above its thread's others
pub holds_where_legal : (F : List PlainObject → Type 0) (shape : List (ℕ × ℕ)) (all : List (List Logged)) (t : ℕ) (y : Logged) (P Q : List PlainObject)
    → ((R S : List PlainObject) (u : ℕ) (e : Entry) → u ≢ t → take_entry R u e ≡ Some S → F R → F S)
    → ((R S : List PlainObject) → take_entry R t y.entry ≡ Some S → F R)
    → AllByRecursion (RisesAbove 0) all → t < length all → last_stamp (log_of all t) < y.stamp
    → objects_after shape all ≡ Some P → objects_after shape (appended all t y) ≡ Some Q → F P
holds_where_legal F shape all t y P Q stays needs rises many up before afterwards =
    let at_place = ap (take_all (new_objects shape)) (sym (order_appended all t y rises many up)) ∙ afterwards in
    let own = subst (AllByRecursion (λ l. l.stamp < y.stamp)) (sym (thread_kept all t rises))
    (stamps_below y.stamp 0 (log_of all t) (rises_of all t rises) up) in
    holds_inserted (t, y) F stays needs (order all) (new_objects shape) P Q (ordered_is_ordered (with_threads 0 all))
    (lower_is_before (t, y) (order all) (each_own (λ l. l.stamp < y.stamp) t (order all) own)) before at_place

-- So an entry that only an object's owner may log is its thread's own.
pub owned_where_legal : (shape : List (ℕ × ℕ)) (all : List (List Logged)) (t o : ℕ) (y : Logged) (P Q : List PlainObject)
    → AllByRecursion (RisesAbove 0) all → t < length all → last_stamp (log_of all t) < y.stamp
    → is_by_owner o y.entry ≡ true → objects_after shape all ≡ Some P → objects_after shape (appended all t y) ≡ Some Q → owner_at P o t ≡ true
owned_where_legal shape all t o y P Q rises many up by =
    holds_where_legal (λ R. owner_at R o t ≡ true) shape all t y P Q
    (λ R S u e other. owner_stays R S t u o e other) (λ R S. taken_by_owner R S t o y.entry by) rises many up

-- WORLDS. A thread that logs such an entry is the plain owner, and the plain objects take it.
module _ (w : World) (P Q : List PlainObject) (at : WordId) (n t o : ℕ) (l : ThreadView) (y : Logged)
    (runs : (w.known t).running ≡ true) (grows : l.log ≡ (w.known t).log ++ y ∷ []) (stamp : y.stamp ≡ last_stamp (w.known t).log + 1)
    (by : is_by_owner o y.entry ≡ true) (before : Fits w P) (afterwards : Fits (with_word_and_known at n t l w) Q) where
  pub owns_it : owner_at P o t ≡ true
  owns_it =
      let within = before.safe.few t runs in
      let many : t < length (logs w) = omega (arith, within, logs_length 0 w.shape.threads w.known) in
      let its : log_of (logs w) t ≡ (w.known t).log = log_at 0 w.shape.threads t t w.known (omega arith) within in
      let up : last_stamp (log_of (logs w) t) < y.stamp = omega (arith, ap last_stamp its, stamp) in
      owned_where_legal w.shape.objects (logs w) t o y P Q before.legal.rises many up by before.taken
      (ap (objects_after w.shape.objects) (sym (logs_grow w.shape.threads t y l w.known within grows)) ∙ afterwards.taken)

  pub takes_it : take_entry P t y.entry ≡ Some Q
  takes_it = owner_takes w P Q at n t o l y runs grows stamp (by_owner_bound o y.entry by) owns_it before afterwards

-- such an entry is stamped one above the thread's last
pub stamped_next : (o : ℕ) (e : Entry) (found last : ℕ) → is_by_owner o e ≡ true → stamp_by e found last ≡ last + 1
stamped_next o (Enter i path) found last by = absurd (cc by)
stamped_next o (Resume i) found last by = absurd (cc by)
stamped_next o _ found last by = refl

-- a step on another word than the safepoint's leaves the thread running
goes_on : (at : WordId) (act : Act) (left : ℕ) (k : ThreadView) → at ≢ Safepoint → runs_after at act left k ≡ k.running
goes_on Safepoint act left k d = absurd (d refl)
goes_on _ act left k d = refl

pub no_entry_logged : (w : World) (o t : ℕ) (at : WordId) (act : Act) (entry : Entry) (e : CallContext) (s : Stage) (v : Valid w)
    → (w.known t).running ≡ true → at ≢ Safepoint → hits act (w.words at) ≡ true → is_by_owner o entry ≡ true
    → owner_at v.objects o t ≡ false → Valid (world_after (with_stage s (logging_plan entry e at act)) t w) → ⊥
no_entry_logged w o t at act entry e s v runs elsewhere test by out valid =
    let plan : StepPlan = with_stage s (logging_plan entry e at act) in
    let l = knows plan t w in
    let a = hit_fits plan t w test (goes_on at act (word_after act (w.words at)) (w.known t) elsewhere ∙ runs) valid in
    let y : Logged = record { stamp = stamp_by entry (w.words at) (last_stamp (w.known t).log); entry = entry } in
    let owner = owns_it w v.objects a.0 at (word_after act (w.words at)) t o l y runs refl
    (stamped_next o entry (w.words at) (last_stamp (w.known t).log) by) by (running_fits w v t runs) a.1 in
    absurd (cc (owner, out))

pub no_get_found : (w : World) (o slot t : ℕ) (e : CallContext) (v : Valid w) → (w.known t).running ≡ true
    → owner_at v.objects o t ≡ false → Valid (world_after (record (load e (Slot o slot)) { note = LogGet o slot }) t w) → ⊥
no_get_found w o slot t e v runs out valid =
    let plan : StepPlan = record (load e (Slot o slot)) { note = LogGet o slot } in
    let a = hit_fits plan t w refl runs valid in
    let y : Logged = record { stamp = last_stamp (w.known t).log + 1; entry = Get o slot (value_found (read_value (w.words (Slot o slot)))) } in
    let owner = owns_it w v.objects a.0 (Slot o slot) (w.words (Slot o slot)) t o
    (knows plan t w) y runs refl refl (same_number o) (running_fits w v t runs) a.1 in
    absurd (cc (owner, out))
