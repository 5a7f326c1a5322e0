-- What follows where a thread logs an entry that the plain objects take: the logs, their order, the stamps and the lengths.
use Rattle.core_locks.proofs.Prelude.{◌≡◌, ℕ, zero, suc, ◌+◌, ◌<◌, ◌≤◌, ◌||◌, false, List, [], ◌∷◌, ◌++◌, length, Option, Some, None}
use Rattle.core_locks.proofs.Prelude.{refl, sym, ap, ◌∙◌, subst, arith, AllByRecursion, PlainObject, take_entry, take_named, Logged}
use Rattle.core_locks.proofs.Prelude.{last_stamp, objects_after, LegalObjects, log_of, appended, Entry, order, all_weaker, order_appended}
use Rattle.core_locks.proofs.Prelude.{last_more, bound_to, IsBounded, Stamp, ThreadView, World, with_known, logs, logs_from, monitor_of}
use Rattle.core_locks.proofs.Prelude.{is_taking, Fits, last_entry, ends, is_ending, bound_stamp, StampsFit, entries, each_with_known}
use Rattle.core_locks.proofs.Prelude.{with_known_here, logs_length, log_at, logs_grow, IsOwnEntry, same_Some, taken_at}
use Rattle.std.proofs.lemmas.List.{length-append, length-set}
use Rattle.plain_monitor.specs.Objects.{named}
use Rattle.plain_monitor.proofs.Orders.{all_insert}
use Rattle.plain_history.specs.Appending.{MayAppend}
use Rattle.plain_history.proofs.Bounds.{above_bound, unbound_may_append}
use Rattle.plain_history.proofs.Inserting.{legal_with, objects_with}
use Rattle.core_locks.proofs.StampsLogged.{stamp_logged}

-- a log with one entry more
pub ends_more : (log : List Logged) (l : Logged) → is_ending l.entry ≡ false → ends (log ++ l ∷ []) ≡ ends log
ends_more [] l e = ap (λ b. b || false) e
ends_more (m ∷ log) l e = ap (λ b. is_ending m.entry || b) (ends_more log l e)

pub length_more : (log : List Logged) (l : Logged) → length (log ++ l ∷ []) ≡ length log + 1
length_more log l = length-append log (l ∷ [])

pub last_entry_more : (log : List Logged) (l : Logged) → last_entry (log ++ l ∷ []) ≡ Some l
last_entry_more [] l = refl
last_entry_more (m ∷ []) l = refl
last_entry_more (m ∷ n ∷ log) l = last_entry_more (n ∷ log) l

entries_more : (all : List (List Logged)) (t : ℕ) (l : Logged) → t < length all → entries (appended all t l) ≡ entries all + 1
entries_more [] t l h = absurd (omega arith)
entries_more (log ∷ all) zero l h = let a = length_more log l in omega (arith, a)
entries_more (log ∷ all) (suc t) l h = let a = entries_more all t l (omega arith) in omega (arith, a)

-- as many objects take an entry as there are afterwards
pub taken_length : (P Q : List PlainObject) (t : ℕ) (e : Entry) → take_entry P t e ≡ Some Q → length Q ≡ length P
taken_length P Q t e h = by_name (named e) h
  where
    by_name : (a : Option ℕ) → take_named P t e a ≡ Some Q → length Q ≡ length P
    by_name None g = ap (λ R. length R) (sym (same_Some P Q g))
    by_name (Some o) g = let a = taken_at P Q t e o g in ap (λ R. length R) a.is ∙ length-set P o a.y

-- Thread t, which knew what it knew in w, logs y and then knows l; the plain objects P take the entry and become Q. The stamp is above t's last,
-- and where the entry is bound to an object, above that object's bound. The entry is that of its own operation.
pub record IsLogging (w : World) (P Q : List PlainObject) (t : ℕ) (y : Logged) (l : ThreadView) : Type 0 where
  pub within : t < w.shape.threads
  pub grows : l.log ≡ (w.known t).log ++ y ∷ []
  pub taken : take_entry P t y.entry ≡ Some Q
  pub up : last_stamp (w.known t).log < y.stamp
  pub own : IsOwnEntry (w.known t) y.entry
  pub above : (o : ℕ) → bound_to y.entry ≡ Some o → bound_stamp (λ u. (w.known u).log) (w.words (Stamp o)) (monitor_of P o).owner < y.stamp
  pub follows : is_taking y.entry ≡ false → y.stamp ≡ last_stamp (w.known t).log + 1

-- the bound of the stamps on i, by an owner, is no smaller than it was, and covers the entry y where that is bound to i
abbrev pub Covers : World → List PlainObject → ℕ → Logged → ThreadView → ℕ → Option ℕ → Type 0
Covers w P t y l i owner =
    (bound_stamp (λ u. (w.known u).log) (w.words (Stamp i)) (monitor_of P i).owner ≤ bound_stamp (λ u. (with_known t l w.known u).log)
    (w.words (Stamp i)) owner)
    × (bound_to y.entry ≡ Some i → y.stamp ≤ bound_stamp (λ u. (with_known t l w.known u).log) (w.words (Stamp i)) owner)

-- a thread may log an entry with its next stamp that is bound to no object but one that it owns: its last stamp is the bound there
pub next_logging : {w : World} {P Q : List PlainObject} {t : ℕ} {y : Logged} {l : ThreadView} → t < w.shape.threads → l.log ≡ (w.known t).log ++ y ∷ []
    → take_entry P t y.entry ≡ Some Q
    → IsOwnEntry (w.known t) y.entry → y.stamp ≡ last_stamp (w.known t).log + 1 → ((o : ℕ) → bound_to y.entry ≡ Some o → (monitor_of P o).owner ≡ Some t)
    → IsLogging w P Q t y l
next_logging {w} within grows taken own stamp owned = record {
  within = within;
  grows = grows;
  taken = taken;
  own = own;
  up = omega (arith, stamp);
  above = λ o e. let b = ap (bound_stamp (λ u. (w.known u).log) (w.words (Stamp o))) (owned o e) in omega (arith, b, stamp);
  follows = λ k. stamp;
}

module _ (w : World) (P Q : List PlainObject) (t : ℕ) (y : Logged) (l : ThreadView) (v : Fits w P) (a : IsLogging w P Q t y l) where
  -- the logs afterwards
  pub logs_are : logs_from 0 w.shape.threads (with_known t l w.known) ≡ appended (logs w) t y
  logs_are = logs_grow w.shape.threads t y l w.known a.within a.grows

  log_is : log_of (logs w) t ≡ (w.known t).log
  log_is = log_at 0 w.shape.threads t t w.known (omega arith) a.within

  many : t < length (logs w)
  many = let b = logs_length 0 w.shape.threads w.known in omega (arith, b, a.within)

  up_again : last_stamp (log_of (logs w) t) < y.stamp
  up_again = let b = ap last_stamp log_is in omega (arith, b, a.up)

  pub may_log : MayAppend (logs w) t y
  may_log = by_bound (bound_to y.entry) refl
    where
      by_bound : (b : Option ℕ) → bound_to y.entry ≡ b → MayAppend (logs w) t y
      by_bound None e = unbound_may_append (logs w) t y many up_again e
      by_bound (Some o) e = above_bound (logs w) t y o
          (bound_stamp (λ u. (w.known u).log) (w.words (Stamp o)) (monitor_of P o).owner) many up_again e (v.stamps.bound o) (a.above o e)

  -- the logs are legal, and the objects after them are Q
  pub legal_next : LegalObjects w.shape.objects (logs_from 0 w.shape.threads (with_known t l w.known))
  legal_next = subst (LegalObjects w.shape.objects) (sym logs_are) (legal_with w.shape.objects (logs w) t y P Q v.legal v.taken a.taken may_log)

  pub taken_next : objects_after w.shape.objects (logs_from 0 w.shape.threads (with_known t l w.known)) ≡ Some Q
  taken_next = ap (objects_after w.shape.objects) logs_are ∙ objects_with w.shape.objects (logs w) t y P Q v.legal v.taken a.taken may_log

  pub sized_next : length Q ≡ length w.shape.objects
  sized_next = taken_length P Q t y.entry a.taken ∙ v.sized

  pub entries_next : entries (logs_from 0 w.shape.threads (with_known t l w.known)) ≡ entries (logs w) + 1
  entries_next = ap entries logs_are ∙ entries_more (logs w) t y many

  pub last_next : last_stamp l.log ≡ y.stamp
  last_next = ap last_stamp a.grows ∙ last_more 0 (w.known t).log y

  pub length_next : length l.log ≡ length (w.known t).log + 1
  length_next = ap (λ z. length z) a.grows ∙ length_more (w.known t).log y

  -- a bound of the entries on i holds with one entry more
  pub bounded_next : (i s r : ℕ) → IsBounded (logs w) i s → s ≤ r → (bound_to y.entry ≡ Some i → y.stamp ≤ r)
      → IsBounded (logs_from 0 w.shape.threads (with_known t l w.known)) i r
  bounded_next i s r bounded above new =
      let B : ℕ × Logged → Type 0 = λ x. bound_to x.1.entry ≡ Some i → x.1.stamp ≤ r in
      subst (λ z. AllByRecursion B (order z)) (sym logs_are)
      (subst (AllByRecursion B) (sym (order_appended (logs w) t y v.legal.rises many up_again))
      (all_insert B (t, y) (order (logs w)) new (all_weaker (λ x. bound_to x.1.entry ≡ Some i → x.1.stamp ≤ s) B
      (λ x f q. let g = f q in omega (arith, above, g)) (order (logs w)) bounded)))

  -- The stamps fit afterwards, where the stamp words are the same, and the new stamp is at most one more than the number of entries.
  pub stamps_next : y.stamp ≤ entries (logs w) + 1 → ((i : ℕ) → Covers w P t y l i (monitor_of Q i).owner)
      → StampsFit (logs_from 0 w.shape.threads (with_known t l w.known)) (λ u. (with_known t l w.known u).log) (λ o. w.words (Stamp o)) (λ o.
      (monitor_of Q o).owner)
      (λ u. (with_known t l w.known u).unfinished)
  stamps_next small bounds =
      record {
        logged = λ u. each_with_known (λ u k. last_stamp k.log ≤ entries (logs_from 0 w.shape.threads (with_known t l w.known))) t l w.known u
            (omega (arith, entries_next, last_next, small)) (λ d. omega (arith, entries_next, v.stamps.logged u));
        words = λ o. omega (arith, entries_next, v.stamps.words o);
        even = λ o h. omega (arith, entries_next, v.stamps.words o);
        bound = λ o. let b = bounds o in bounded_next o _ _ (v.stamps.bound o) b.0 b.1;
        exact = λ o. stamp_logged w P Q t y l o (w.words (Stamp o)) a.grows a.taken a.own.operation a.follows (v.stamps.exact o);
      }

  -- no bound of the stamps on an object falls while it has the same owner
  pub bound_grows : (word : ℕ) (owner : Option ℕ) → bound_stamp (λ u. (w.known u).log) word owner ≤ bound_stamp (λ u. (with_known t l w.known u).log) word owner
  bound_grows word None = omega arith
  bound_grows word (Some u) =
      each_with_known (λ u k. last_stamp (w.known u).log ≤ last_stamp k.log) t l w.known u (omega (arith, last_next, a.up)) (λ d. omega arith)

  -- So the stamps fit where each object has the owner that it had, and the entry is bound to none but the thread's: the bound of that is the
  -- entry's own stamp.
  pub stamps_owned : y.stamp ≡ last_stamp (w.known t).log + 1 → ((i : ℕ) → (monitor_of Q i).owner ≡ (monitor_of P i).owner)
      → ((i : ℕ) → bound_to y.entry ≡ Some i → (monitor_of P i).owner ≡ Some t)
      → StampsFit (logs_from 0 w.shape.threads (with_known t l w.known)) (λ u. (with_known t l w.known u).log)
      (λ o. w.words (Stamp o)) (λ o. (monitor_of Q o).owner) (λ u. (with_known t l w.known u).unfinished)
  stamps_owned stamp same owned =
      stamps_next (omega (arith, stamp, v.stamps.logged t)) (λ i.
      let bound : Option ℕ → ℕ = bound_stamp (λ u. (with_known t l w.known u).log) (w.words (Stamp i)) in (
        omega (arith, ap bound (same i), bound_grows (w.words (Stamp i)) (monitor_of P i).owner),
        λ e. omega (arith, ap bound (same i ∙ owned i e), ap (λ (k : ThreadView). last_stamp k.log) (with_known_here t l w.known), last_next),
      ))
