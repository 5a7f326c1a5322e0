-- The stamp of an Enter or a Resume follows from the logs.
use Rattle.core_locks.proofs.Prelude.{◌≡◌, ◌⊎◌, ℕ, ◌+◌, ◌<◌, ◌≤◌, max, Bool, true, cond, List, [], ◌∷◌, ◌++◌, Option, Some, None, refl, sym}
use Rattle.core_locks.proofs.Prelude.{ap, ◌∙◌, subst, arith, inl, inr, AllByRecursion, cases_lt, PlainMonitor, PlainObject, Logged, last_stamp}
use Rattle.core_locks.proofs.Prelude.{log_of, Entry, Enter, Resume, Path, bound_to, HasLetGo, held_by, nothing_held, LetsGoOf, IsLastLetGo}
use Rattle.core_locks.proofs.Prelude.{Stamp, bears, ThreadView, World, logs, monitor_of, stamp_by, Fits, IsValid, bound_stamp, lets_go}
use Rattle.core_locks.proofs.Prelude.{IsAboutToLetGo, IsRaised, log_at, same_number, fits_running, MayLogEnter, MayLogResume}
use Rattle.core_locks.proofs.enter_exit.EnterLogs as enter
use Rattle.core_locks.proofs.enter_exit.EnterTakes.{IsTaking, at_taking, owner_or_taker}
use Rattle.core_locks.proofs.wait.LeavesStamps.{all_of_log}
use Rattle.core_locks.proofs.StampsLogged.{about_lets}
use Rattle.core_locks.proofs.wait.ResumeLogs as resume

-- what holds of all of a list holds of each
at_place : (Z : Logged → Type 0) (before later : List Logged) (x : Logged) → AllByRecursion Z (before ++ x ∷ later) → Z x
at_place Z [] later x a = a.0
at_place Z (b ∷ before) later x a = at_place Z before later x a.1

-- an entry that lets go of o is bound to it
bound_here : (held : ℕ → ℕ) (e : Entry) (o : ℕ) → LetsGoOf held e o → bound_to e ≡ Some o
bound_here held e o (inl wait) = ap bound_to wait
bound_here held e o (inr exit) = ap bound_to exit.0

module _ (w : World) (P : List PlainObject) (t o : ℕ) (e : Entry) (m : PlainMonitor)
    (a : IsTaking w P t o e m) (v : Fits w P) (s : ℕ) (last : IsLastLetGo (logs w) o s) where
  abbrev n : ℕ
  n = w.words (Stamp o)

  abbrev own : ℕ
  own = last_stamp (w.known t).log

  -- the object has no owner, or the thread is its owner
  owner_is : (b : Option ℕ) → (monitor_of P o).owner ≡ b → (b ≡ None) ⊎ (b ≡ Some t)
  owner_is = owner_or_taker w P t o v (at_taking (λ g. bears g o ≡ true) (w.known t).stage o a.stage (λ p path. same_number o) (same_number o))

  -- so nobody is about to let go of it
  unraised : IsRaised (λ u. (w.known u).log) (monitor_of P o).owner (λ u. (w.known u).unfinished) o n → ⊥
  unraised r = elim (owner_is (Some r.thread) r.owns) [
    | inl none ↦ absurd (cc none)
    | inr mine ↦
        let lets : lets_go (w.known t).unfinished o ≡ true = about_lets (w.known t).unfinished (w.known t).log o (subst (λ b. at_owner b) mine r.letting) in
        absurd (cc (sym lets ∙ a.even (r.owns ∙ mine)))
  ]
    where
      at_owner : Option ℕ → Type 0
      at_owner None = ⊥
      at_owner (Some u) = IsAboutToLetGo (w.known u).unfinished (w.known u).log o

  -- an entry that let go of the object has no stamp above its bound
  bounded : (u i : ℕ) → HasLetGo (log_of (logs w) u) o i → i ≤ bound_stamp (λ z. (w.known z).log) n (monitor_of P o).owner
  bounded u i h =
      let Z : Logged → Type 0 = λ l. bound_to l.entry ≡ Some o → l.stamp ≤ bound_stamp (λ z. (w.known z).log) n (monitor_of P o).owner in
      at_place Z h.before h.later (record { stamp = i; entry = h.entry })
      (subst (AllByRecursion Z) h.log_is (all_of_log w P u o v)) (bound_here (held_by nothing_held h.before) h.entry o h.lets_go)

  -- the word is no larger than the last stamp that let go
  below : n ≤ s
  below = elim (v.stamps.exact o) [
    | inl zero ↦ omega (arith, zero)
    | inr (inl let_go) ↦ last.last let_go.0 n (subst (λ log. HasLetGo log o n) (sym (logged_at let_go.0 let_go.1)) let_go.1)
    | inr (inr raised) ↦ absurd (unraised raised)
  ]
    where
      -- a thread that has logged something is one of the heap's
      logged_at : (u : ℕ) → HasLetGo (w.known u).log o n → log_of (logs w) u ≡ (w.known u).log
      logged_at u h = elim (cases_lt u w.shape.threads) [
        | inl within ↦ log_at 0 w.shape.threads u u w.known (omega arith) within
        | inr far ↦ absurd (nothing h.before (sym (ap (λ (k : ThreadView). k.log) (v.absent u far)) ∙ h.log_is))
      ]
        where
          nothing : (before : List Logged) → ([] ≡ (before ++ record { stamp = n; entry = h.entry } ∷ h.later)) → ⊥
          nothing [] g = cc g
          nothing (b ∷ before) g = cc g

  -- and where it is smaller, the thread is the owner, and has a stamp that is no smaller than both
  covers : max n own ≡ max s own
  covers = elim last.logged [
    | inl zero ↦ omega (arith, zero, below)
    | inr let_go ↦
        let high = bounded let_go.0 s let_go.1 in
        elim (owner_is (monitor_of P o).owner refl) [
          | inl none ↦ let b = ap (bound_stamp (λ z. (w.known z).log) n) none in omega (arith, below, high, b)
          | inr mine ↦ let b = ap (bound_stamp (λ z. (w.known z).log) n) mine in omega (arith, below, high, b)
        ]
  ]

  taken_stamp : stamp_by e (w.words (Stamp o)) (last_stamp (w.known t).log) ≡ max s (last_stamp (w.known t).log) + 1
  taken_stamp = ap (λ (b : Bool). cond b (max n own + 1) (own + 1)) a.taking ∙ ap (λ i. i + 1) covers

pub enter_stamp : (w : World) (P : List PlainObject) (t o p : ℕ) (path : Path) (s : ℕ)
    → t < w.shape.threads → MayLogEnter w.shape (w.known t) o p path → IsValid w P → IsLastLetGo (logs w) o s
    → stamp_by (Enter o path) (w.words (Stamp o)) (last_stamp (w.known t).log) ≡ max s (last_stamp (w.known t).log) + 1
enter_stamp w P t o p path s within may valid last =
    let v = fits_running w P t may.runs valid in
    taken_stamp w P t o (Enter o path) (enter.m w P t o p path within may v) (enter.is_taking w P t o p path within may v) v s last

pub resume_stamp : (w : World) (P : List PlainObject) (t o m s : ℕ) → t < w.shape.threads
    → MayLogResume w.shape (w.known t) o m → IsValid w P → IsLastLetGo (logs w) o s
    → stamp_by (Resume o) (w.words (Stamp o)) (last_stamp (w.known t).log) ≡ max s (last_stamp (w.known t).log) + 1
resume_stamp w P t o m s within may valid last =
    let v = fits_running w P t may.runs valid in
    taken_stamp w P t o (Resume o) (resume.after w P t o m within may v) (resume.is_taking w P t o m within may v) v s last
