-- The stamp words stay what they may be where a thread logs an entry of what it works for.
use Rattle.core_locks.proofs.Prelude.{◌≡◌, ◌⊎◌, ℕ, ◌+◌, ◌<◌, true, false, List, [], ◌∷◌, ◌++◌, Option, Some, refl, sym, ap, ◌∙◌, subst}
use Rattle.core_locks.proofs.Prelude.{arith, inl, inr, eqb-true, append_assoc, PlainObject, take_entry, Logged, last_stamp, Entry, HasLetGo}
use Rattle.core_locks.proofs.Prelude.{held_by, nothing_held, LetsGoOf, ThreadView, World, with_known, holds_by_monitor, monitor_of}
use Rattle.core_locks.proofs.Prelude.{is_taking, Fits, lets_go, IsAboutToLetGo, IsStampOf, Unfinished, goes_on_with, by_equal, each_with_known}
use Rattle.core_locks.proofs.Prelude.{with_known_here, with_known_else, log_at, same_number, WorksFor, operation_of}
use Rattle.plain_monitor.specs.declared.entry.Entry.TheVariants as entry
use Rattle.plain_history.proofs.HeldByLog.{holds_by_log}
use Rattle.plain_history.proofs.Owners.{owner_stays, unowned_resume}
use Rattle.core_world.specs.declared.heap_call.Operation.TheVariants as op

-- with one entry more a log has the entries that it had
let_go_before : (log : List Logged) (y : Logged) (o stamp : ℕ) → HasLetGo log o stamp → HasLetGo (log ++ y ∷ []) o stamp
let_go_before log y o stamp h = record {
  before = h.before;
  entry = h.entry;
  later = h.later ++ y ∷ [];
  log_is = ap (λ (ls : List Logged). ls ++ y ∷ []) h.log_is ∙ append_assoc h.before (record { stamp = stamp; entry = h.entry } ∷ h.later) (y ∷ []);
  lets_go = h.lets_go;
}

-- and that one, where it lets go
let_go_last : (log : List Logged) (y : Logged) (o : ℕ) → LetsGoOf (held_by nothing_held log) y.entry o → HasLetGo (log ++ y ∷ []) o y.stamp
let_go_last log y o h = record { before = log; entry = y.entry; later = []; log_is = refl; lets_go = h }

-- the entries of a wait and of an exit
of_wait : (e : Entry) (o : ℕ) → goes_on_with op.Wait o (operation_of e) ≡ true → (e ≡ entry.Wait o) ⊎ (e ≡ entry.Resume o)
of_wait (entry.Wait i) o h = inl (ap entry.Wait (eqb-true i o h))
of_wait (entry.Resume i) o h = inr (ap entry.Resume (eqb-true i o h))
of_wait _ o h = absurd (cc h)

of_exit : (e : Entry) (o : ℕ) → goes_on_with op.Exit o (operation_of e) ≡ true → e ≡ entry.Exit o
of_exit (entry.Exit i) o h = ap entry.Exit (eqb-true i o h)
of_exit _ o h = absurd (cc h)

-- who is about to let go has an exit or a wait unfinished
pub about_lets : (u : Option Unfinished) (log : List Logged) (o : ℕ) → IsAboutToLetGo u log o → lets_go u o ≡ true
about_lets u log o (inl waits) = ap (λ a. lets_go a o) waits ∙ same_number o
about_lets u log o (inr exits) = ap (λ a. lets_go a o) exits.0 ∙ same_number o

-- who is about to let go of o and logs an entry lets go of it with that, or resumes
own_entry : (k : ThreadView) (e : Entry) (o : ℕ) → WorksFor k e → IsAboutToLetGo k.unfinished k.log o
    → LetsGoOf (held_by nothing_held k.log) e o ⊎ (e ≡ entry.Resume o)
own_entry k e o (inl none) (inl waits) = absurd (cc (none, waits))
own_entry k e o (inl none) (inr exits) = let is = exits.0 in absurd (cc (none, is))
own_entry k e o (inr works) (inl waits) =
    elim (of_wait e o (ap (goes_on_with op.Wait o) (sym works ∙ waits) ∙ same_number o)) [ inl wait ↦ inl (inl wait) | inr resume ↦ inr resume ]
own_entry k e o (inr works) (inr exits) = inl (inr (of_exit e o (ap (goes_on_with op.Exit o) (sym works ∙ exits.0) ∙ same_number o), exits.1))

-- no entry that lets go takes
untaking : (held : ℕ → ℕ) (e : Entry) (o : ℕ) → LetsGoOf held e o → is_taking e ≡ false
untaking held e o (inl wait) = ap is_taking wait
untaking held e o (inr exit) = ap is_taking exit.0

-- Thread t logs y, and then knows l; the plain objects P become Q. The stamp word of o is still what it may be: if its owner was about to let go of
-- o, that is another thread, and stays the owner; or it is t, which lets go with the entry.
module _ (w : World) (P Q : List PlainObject) (t : ℕ) (y : Logged) (l : ThreadView) (o stamp : ℕ)
    (grows : l.log ≡ (w.known t).log ++ y ∷ []) (taken : take_entry P t y.entry ≡ Some Q)
    (works : WorksFor (w.known t) y.entry) (follows : is_taking y.entry ≡ false → y.stamp ≡ last_stamp (w.known t).log + 1) where
  abbrev After : Type 0
  After = IsStampOf (λ u. (with_known t l w.known u).log) (monitor_of Q o).owner (λ u. (with_known t l w.known u).unfinished) o stamp

  logged_stays : (u : ℕ) → HasLetGo (w.known u).log o stamp → HasLetGo (with_known t l w.known u).log o stamp
  logged_stays u = each_with_known (λ u k. HasLetGo (w.known u).log o stamp → HasLetGo k.log o stamp) t l w.known u
      (λ h. subst (λ log. HasLetGo log o stamp) (sym grows) (let_go_before (w.known t).log y o stamp h)) (λ d h. h)

  -- the thread itself
  own_raised : (monitor_of P o).owner ≡ Some t → IsAboutToLetGo (w.known t).unfinished (w.known t).log o → stamp ≡ last_stamp (w.known t).log + 1 → After
  own_raised owns letting next = elim (own_entry (w.known t) y.entry o works letting) [
    | inl lets_go ↦
        let same : y.stamp ≡ stamp = follows (untaking (held_by nothing_held (w.known t).log) y.entry o lets_go) ∙ sym next in
        let logs : l.log ≡ (with_known t l w.known t).log = ap (λ (k : ThreadView). k.log) (sym (with_known_here t l w.known)) in
        inr (inl (
          t,
          subst (λ log. HasLetGo log o stamp) (sym grows ∙ logs)
              (subst (HasLetGo ((w.known t).log ++ y ∷ []) o) same (let_go_last (w.known t).log y o lets_go)),
        ))
    | inr resumes ↦ absurd (unowned_resume P Q t o t (ap (take_entry P t) (sym resumes) ∙ taken) owns)
  ]

  pub stamp_logged : IsStampOf (λ u. (w.known u).log) (monitor_of P o).owner (λ u. (w.known u).unfinished) o stamp
      → IsStampOf (λ u. (with_known t l w.known u).log) (monitor_of Q o).owner (λ u. (with_known t l w.known u).unfinished) o stamp
  stamp_logged (inl zero) = inl zero
  stamp_logged (inr (inl let_go)) = inr (inl (let_go.0, logged_stays let_go.0 let_go.1))
  stamp_logged (inr (inr raised)) = by_equal raised.thread t
      (λ e. own_raised (raised.owns ∙ ap Some e) (subst (λ u. IsAboutToLetGo (w.known u).unfinished (w.known u).log o) e raised.letting)
      (raised.next ∙ ap (λ u. last_stamp (w.known u).log + 1) e))
      (λ d.
      let same : with_known t l w.known raised.thread ≡ w.known raised.thread = with_known_else t l w.known raised.thread d in
      inr (inr (record {
        thread = raised.thread;
        owns = owner_stays P Q t y.entry o raised.thread taken raised.owns d;
        letting = subst (λ (k : ThreadView). IsAboutToLetGo k.unfinished k.log o) (sym same) raised.letting;
        next = raised.next ∙ ap (λ (k : ThreadView). last_stamp k.log + 1) (sym same);
      })))

-- how often a thread holds o by its log is how often it stands at the plain monitor
pub held_is : (w : World) (P : List PlainObject) (t : ℕ) → t < w.shape.threads → Fits w P
    → (o : ℕ) → held_by nothing_held (w.known t).log o ≡ holds_by_monitor (monitor_of P o) t
held_is w P t within v o =
    ap (λ log. held_by nothing_held log o) (sym (log_at 0 w.shape.threads t t w.known (omega arith) within))
    ∙ sym (holds_by_log w.shape.objects _ P v.legal v.taken t o)
