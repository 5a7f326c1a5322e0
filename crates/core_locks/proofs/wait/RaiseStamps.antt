-- A thread raises the stamp of an object that it is about to let go of.
use Rattle.core_locks.proofs.Prelude.{◌≡◌, ◌≢◌, ℕ, ◌+◌, ◌<◌, ◌≤◌, max, true, false, List, Some, refl, sym, ap, ◌∙◌, subst, arith, inl}
use Rattle.core_locks.proofs.Prelude.{inr, same_Some, cases_lt, owns, PlainObject, IsBounded, Stamp, StepPlan, hold_words_ahead, ThreadView}
use Rattle.core_locks.proofs.Prelude.{local_of, World, logs, monitor_of, owner_at, Stays, CallContext, with_stage, raise_stamp_plan}
use Rattle.core_locks.proofs.Prelude.{next_stamp, world_after, known_hit, Fits, bound_stamp, lets_go, entries, IsAboutToLetGo, IsStampOf}
use Rattle.core_locks.proofs.Prelude.{with_known_here, thread_is, fits_running, stamp_goes_on, KeepsValid, MayRaise}
use Rattle.core_locks.proofs.MarkMeanings.{each_set}
use Rattle.core_locks.proofs.StampsLogged.{about_lets, held_is}
use Rattle.core_locks.proofs.WaitOut.{holder_owns}
use Rattle.core_locks.proofs.Clauses.{kept_parts, parts_stand, seen, stamps, AllHold}
use Rattle.core_locks.proofs.Steps.{quietly, IsStep, next, step_fits, seen_next, quiet_step, stamps_go_on}
use Rattle.core_locks.proofs.OwnSeen.{own_seen}

module _ (w : World) (P : List PlainObject) (t : ℕ) (e : CallContext) (o : ℕ)
    (within : t < w.shape.threads) (may : MayRaise (w.known t) e o) (v : Fits w P) where
  abbrev s : ℕ
  s = next_stamp (local_of (w.known t))

  abbrev n : ℕ
  n = w.words (Stamp o)

  -- the step, at the stage at which the thread stands
  abbrev p : StepPlan
  p = with_stage (w.known t).stage (raise_stamp_plan e o (next_stamp (local_of (w.known t))))

  abbrev l : ThreadView
  l = known_hit w.shape w.start p (w.words (Stamp o)) (w.known t)

  abbrev x : World
  x = world_after p t w

  -- the thread is the object's plain owner
  owned : owner_at P o t ≡ true
  owned = (holder_owns w P t v may.out o may.calm may.holds).0

  owner_is : (monitor_of P o).owner ≡ Some t
  owner_is = thread_is (monitor_of P o).owner t owned

  -- only an owner counts on a stamp
  alone : (u : ℕ) → u ≢ t → owner_at P o u ≡ true → ⊥
  alone u d owns = d (same_Some _ _ (sym (thread_is (monitor_of P o).owner u owns) ∙ owner_is))

  uncounted : (u r : ℕ) → u ≢ t → Stays w (w.known u) (owner_at P) u (Stamp o) r → w.words (Stamp o) ≡ r → ⊥
  uncounted u r d stays is = elim stays [ inl a ↦ alone u d a.1 | inr a ↦ a.2 ]

  step : IsStep w t l quietly
  step = record { within = within; mine = refl; others = λ k. refl }

  abbrev z : World
  z = next w t l quietly x.words

  -- a fact of the stamp that is raised, and of the others
  at : (Q : ℕ → ℕ → Type 0) (i : ℕ) → Q o (max n s) → Q i (w.words (Stamp i)) → Q i (x.words (Stamp i))
  at Q i here other = each_set Q o (max n s) (λ i. w.words (Stamp i)) i here (λ d. other)

  -- the thread is about to let go, by its log
  about_to : IsAboutToLetGo e.unfinished (w.known t).log o
  about_to = elim may.letting [
    | inl waits ↦ inl waits
    | inr exits ↦ inr (exits.0, omega (arith, v.holds.number t o, ap (λ s. hold_words_ahead s o) may.calm, held_is w P t within v o, exits.1))
  ]

  stays : (i : ℕ) → IsStampOf (λ u. (w.known u).log) (monitor_of P i).owner (λ u. (x.known u).unfinished) i (w.words (Stamp i))
  stays i = stamp_goes_on (λ u. (w.known u).log) (monitor_of P i).owner t l w.known i (w.words (Stamp i))
      (elim may.goes_on [ inl g ↦ inl (sym g) | inr none ↦ inr none ]) (v.stamps.exact i)

  -- the stamp is the thread's next one, or the word was no less
  raised_or_old : IsStampOf (λ u. (w.known u).log) (monitor_of P o).owner (λ u. (x.known u).unfinished) o (max n s)
  raised_or_old = elim (cases_lt n s) [
    | inl up ↦ inr (inr (record {
      thread = t;
      owns = owner_is;
      letting = subst (λ (k : ThreadView). IsAboutToLetGo k.unfinished (w.known t).log o) (sym (with_known_here t l w.known)) about_to;
      next = omega (arith, up);
    }))
    | inr down ↦
        let same : n ≡ max n s = omega (arith, down) in
        subst (IsStampOf (λ u. (w.known u).log) (monitor_of P o).owner (λ u. (x.known u).unfinished) o) same (stays o)
  ]

  all_after : AllHold (kept_parts w z P)
  all_after seen = seen_next step x.words P (own_seen w P t p (search (may.runs, uncounted)) v)
  -- the stamp is one more than all entries at most, and the thread lets go; its owner's last stamp bounds the object's entries
  all_after stamps = record {
    logged = v.stamps.logged;
    words = λ i. at (λ i y. y ≤ entries (logs w) + 1) i (let a = v.stamps.words o in let b = v.stamps.logged t in omega (arith, a, b)) (v.stamps.words i);
    even = λ i. at (λ i y. ((u : ℕ) → (monitor_of P i).owner ≡ Some u → lets_go (x.known u).unfinished i ≡ false) → y ≤ entries (logs w)) i
        (λ h. let a = h t owner_is in let here = ap (λ (k : ThreadView). lets_go k.unfinished o) (with_known_here t l w.known) in
        absurd (cc (sym here ∙ a, about_lets e.unfinished (w.known t).log o about_to)))
        ((stamps_go_on step P may.goes_on v).even i);
    bound = λ i. at (λ i y. IsBounded (logs w) i (bound_stamp (λ u. (w.known u).log) y (monitor_of P i).owner)) i
        (subst (IsBounded (logs w) o) (ap (bound_stamp (λ u. (w.known u).log) n) owner_is
        ∙ sym (ap (bound_stamp (λ u. (w.known u).log) (max n s)) owner_is)) (v.stamps.bound o))
        (v.stamps.bound i);
    exact = λ i. at (λ i y. IsStampOf (λ u. (w.known u).log) (monitor_of P i).owner (λ u. (x.known u).unfinished) i y) i raised_or_old (stays i);
  }
  all_after c = quiet_step step P may.goes_on may.runs v c

  raised : Fits x P
  raised = step_fits step x.words P (kept_parts w z P) (parts_stand w z P refl (λ u. refl) (λ u. refl) refl refl refl (λ e. refl)) all_after

-- the thread stands calm
pub raising_valid : (e : CallContext) (o : ℕ) → KeepsValid (λ w t. MayRaise (w.known t) e o) (λ w t. raise_stamp_plan e o (next_stamp (local_of (w.known t))))
raising_valid e o w P t within may valid =
    let fits = raised w P t e o within may (fits_running w P t may.runs valid) in
    inl (subst (λ stage. Fits (world_after (with_stage stage (raise_stamp_plan e o (next_stamp (local_of (w.known t))))) t w) P) may.calm fits)
