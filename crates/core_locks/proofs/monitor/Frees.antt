-- A thread clears the owner word of a monitor, and so logs its last Exit.
use Rattle.core_locks.proofs.Prelude.{◌≡◌, ℕ, ◌<◌, ◌||◌, Bool, true, List, Some, refl, sym, ap, ◌∙◌, subst, arith, inl, inr}
use Rattle.core_locks.proofs.Prelude.{same_Some, PlainObject, take_entry, Exit, Owner, Recursions, StepPlan, monitor_in}
use Rattle.core_locks.proofs.Prelude.{inflation_in, bears, ThreadView, World, with_word_and_known, Lock, Open, BiasedTo, OnRecord, OwnedBy, lock}
use Rattle.core_locks.proofs.Prelude.{marks, who, holder, hold_count, monitor_of, owner_at, waits_at, owner_lock, IsKeptOrNamed, SeenStays}
use Rattle.core_locks.proofs.Prelude.{CallContext, known_hit, Fits, IsOwner, owner_zero, fits_running, MayFree, free_plan, LogsValid}
use Rattle.core_locks.proofs.Clauses.{parts_of, seen, forms, biases, recursions, hashes, AllHold}
use Rattle.core_locks.proofs.enter_exit.ExitEntries.{objects_where, exit_parts, exit_are}
use Rattle.core_locks.proofs.enter_exit.HoldWays.{saw_inflated, saw_thread_owns}
use Rattle.core_locks.proofs.enter_exit.LastExit.{freed, IsLastExit, inside, owned as owned_before, letting_go_taken as takes_exit}
use Rattle.core_locks.proofs.enter_exit.LastExit.{owner_back, was_locked, recursions_law, last_step}
use Rattle.core_locks.proofs.MarkChanges.{biases_by_marks, hashes_by_marks}
use Rattle.core_locks.proofs.LockTurns.{LockTurn}
use Rattle.core_locks.proofs.MarkMeanings.{forms_owned}
use Rattle.core_locks.proofs.monitor.MonitorSeen.{uncounted_held}
use Rattle.core_locks.proofs.monitor.OwnerTurns.{owned_locks, owner_turn, locks_turn, heads_turn}
use Rattle.core_locks.proofs.OwnSeen.{seen_as}
use Rattle.core_locks.proofs.Steps.{noting, IsStep, next, stepped, step_fits, holds_next, inflates_stay}

module _ (w : World) (P : List PlainObject) (t : ℕ) (e : CallContext) (o c p s : ℕ)
    (within : t < w.shape.threads) (may : MayFree w.shape (w.known t) o c s) (v : Fits w P) where
  abbrev plan : StepPlan
  plan = free_plan e o c p

  abbrev l : ThreadView
  l = known_hit w.shape w.start plan (w.words (Owner c)) (w.known t)

  abbrev x : World
  x = with_word_and_known (Owner c) 0 t l w

  abbrev Q : List PlainObject
  Q = objects_where P o (freed P o)

  step : IsStep w t l noting
  step = record { within = within; mine = refl; others = λ k. refl }

  last_exit : IsLastExit w P t l noting o p s
  last_exit = record { step = step; may = search may; exits = record { grows = refl; stage = refl; draws = refl }; fits = v }

  owned : (owner_at P o t ≡ true) × (hold_count o (w.known t).holds ≡ (monitor_of P o).count)
  owned = owned_before last_exit

  letting_go_taken : take_entry P t (Exit o) ≡ Some Q
  letting_go_taken = takes_exit last_exit

  -- THE LOCK was the thread's by the monitor, and is open
  mark_names : monitor_in (marks w o) ≡ Some c
  mark_names = saw_inflated w P t o may.runs v c may.inflated

  thread_owns : lock w o ≡ OwnedBy t
  thread_owns = saw_thread_owns w P t o may.runs v c (omega (arith, within, v.limits.threads)) owned.0 may.inflated may.owner

  count_zero : w.words (Recursions c) ≡ 0
  count_zero = v.seen.stays t (Recursions c) 0 may.recursions (inl (may.runs, inr (o, mark_names, ap (λ (b : Bool). b || bears (w.known t).stage o) owned.0)))

  abbrev locks : ℕ → Lock
  locks = owned_locks w c 0

  turn : LockTurn w o locks (OwnedBy t) Open
  turn = owner_turn w P o c 0 (OwnedBy t) Open v mark_names thread_owns (ap owner_lock owner_zero)

  open turn use {now, forth}

  -- nobody else owns the object or bears it
  holder_is : who w o ≡ Some t
  holder_is = ap (λ f. holder f (λ u. hold_count o (w.known u).holds)) thread_owns

  -- what was seen stays, as nobody else counts on the words of a monitor that the mark of the thread's object names
  seen_law : SeenStays x (owner_at Q) (waits_at P)
  seen_law =
      let inflates : inflation_in l.stage ≡ inflation_in (w.known t).stage = sym (ap inflation_in may.calm) in
      let held : (i : ℕ) → (owner_at P i t || bears l.stage i) ≡ true
      → (owner_at P i t || bears (w.known t).stage i) ≡ true = λ i h. ap (λ f. owner_at P i t || bears f i) may.calm ∙ h in
      let named : IsKeptOrNamed w (w.known t) c = inr (o, mark_names) in
      seen_as w P t plan (search (may.runs, inflates, held, named, uncounted_held w P t o c v mark_names holder_is (Owner c) refl)) (owner_at Q)
      (λ i u h. (owner_back last_exit i u h).1) (waits_at P) (λ i h. h) v

  abbrev n : World
  n = next w t l noting x.words

  all_after : AllHold (exit_parts w (stepped w t l x.words) P locks (parts_of n Q))
  all_after seen = holds_next step (λ y. SeenStays y (owner_at Q) (waits_at P)) x.words seen_law
  all_after forms = forms_owned c 0 v.forms (subst (IsOwner w.shape) (sym owner_zero) tt)
  all_after biases = biases_by_marks (marks w) (marks w) (lock w) locks _ _ _ _ (λ i b. b) (λ i u g b. forth i (BiasedTo u) g (λ c. cc c)) v.biases
  all_after recursions = recursions_law last_exit holder_is locks now (marks w)
      (λ i a h. h) (λ a h. ap (λ k. w.words (Recursions k)) (same_Some _ _ (sym h ∙ mark_names)) ∙ count_zero)
  all_after hashes = hashes_by_marks (marks w) (marks w) (lock w) locks _ _ _ _ (λ i b. b)
      (λ i u q f. (was_locked last_exit holder_is locks now i (OnRecord u q) f (λ g. cc g)).1) v.hashes
  all_after c = last_step last_exit holder_is locks now c

  freed_fits : Fits x Q
  freed_fits =
      let stay = inflates_stay step (sym (ap inflation_in may.calm)) in
      step_fits step x.words Q (exit_parts w (stepped w t l x.words) P locks (parts_of n Q))
      (exit_are step x.words P o (freed P o) (inside last_exit) refl refl locks stay refl
      (locks_turn w t noting c 0 l stay) (heads_turn w t noting c 0 l stay)) all_after

-- the law
pub frees_owner : (e : CallContext) (o m p stamp : ℕ) → LogsValid (λ w t. MayFree w.shape (w.known t) o m stamp) (λ w t. free_plan e o m p) (Exit o)
frees_owner e o m p stamp w P t within may valid =
    let v = fits_running w P t may.runs valid in
    record {
      now = Q w P t e o m p stamp within may v;
      taken = letting_go_taken w P t e o m p stamp within may v;
      valid = inl (freed_fits w P t e o m p stamp within may v);
    }
