-- What the words of an object show of its owner and count.
use Rattle.std.proofs.Common.{◌≡◌, ◌≢◌, ℕ, ◌==◌, ◌||◌, eqb-true, ne_eqb, Bool, true, false, cond, List, Option, Some, None, refl, sym, ap, ◌∙◌, arith, inl, inr}
use Rattle.std.proofs.Math.Bool.{or-false, or-true}
use Rattle.std.proofs.lemmas.Bool.Decides.{nat_tests}
use Rattle.std.proofs.lemmas.Option.{same_Some}
use Rattle.mark_word.specs.declared.mark.MarkForm.{MarkForm}
use Rattle.mark_word.specs.declared.mark.MarkForm.TheVariants.{Inflated}
use Rattle.mark_word.specs.Mark.{mark_of, read_mark, IsMarkInRange}
use Rattle.mark_word.proofs.ReadingMarks.{read_mark-mark_of}
use Rattle.plain_monitor.specs.Monitor.{PlainMonitor, is_thread, count_of, owns}
use Rattle.plain_monitor.specs.Objects.{PlainObject}
use Rattle.plain_history.specs.Sound.{IsSound}
use Rattle.core_world.specs.declared.word_id.WordId.{WordId}
use Rattle.core_world.specs.declared.word_id.WordId.TheVariants.{Mark}
use Rattle.core_world.specs.declared.stage.Stage.{Stage}
use Rattle.core_world.specs.declared.stage.Stage.TheVariants.{Settled, BiasAcquired, Enters, Exits, Waits}
use Rattle.core_world.specs.Words.Names.{same_name, with_word}
use Rattle.core_world.specs.Words.Forms.{monitor_form}
use Rattle.core_world.specs.Threads.Stages.{one_if, bears, hold_words_ahead, revocation_in}
use Rattle.core_world.specs.World.{World}
use Rattle.core_world.specs.Locks.{monitor_of, hold_count, holds_by_monitor, or_zero, owner_at, waits_at, owner_and_count}
use Rattle.core_world.specs.Locks.{owner_and_count_by, who, lock, lock_form, marks, prototype_of, owner_words, inflations}
use Rattle.core_world.specs.Valid.{Fits, IsValid, Valid}
use Rattle.core_world.proofs.enter_exit.ObjectHolds.{sound, same_number, thread_is, same_owner, no_owner, unowned_count}
use Rattle.core_world.proofs.enter_exit.ObjectHolds.{owner_standing, outside_standing, waiter_unnotified}

-- a thread that bears nothing of the object has its lock exactly where it is the plain owner
who_without : (w : World) (objects : List PlainObject) (o t : ℕ) → Fits w objects → bears (w.known t).stage o ≡ false
    → is_thread (who w o) t ≡ owner_at objects o t
who_without w objects o t fits e =
    let unborne : (owner_at objects o t || bears (w.known t).stage o) ≡ owner_at objects o t =
    ap (λ b. owner_at objects o t || b) e ∙ or-false (owner_at objects o t) in
    fits.owners.same o t ∙ unborne

-- a thread that bears the object has its lock
pub who_bears : (w : World) (objects : List PlainObject) (o t : ℕ) → Fits w objects → bears (w.known t).stage o ≡ true → who w o ≡ Some t
who_bears w objects o t fits e =
    let borne : (owner_at objects o t || bears (w.known t).stage o) ≡ true = ap (λ b. owner_at objects o t || b) e ∙ or-true (owner_at objects o t) in
    thread_is (who w o) t (fits.owners.same o t ∙ borne)

-- with the plain owner and the number of its holds by the plain monitor, the plain owner and count are shown
plain_shown : (m : PlainMonitor) (held : ℕ → ℕ) → IsSound m
    → ((t : ℕ) → owns m t ≡ true → held t ≡ holds_by_monitor m t) → owner_and_count_by m.owner held ≡ (m.owner, m.count)
plain_shown m held s h = cases m.owner refl
  where
    cases : (a : Option ℕ) → m.owner ≡ a → owner_and_count_by a held ≡ (a, m.count)
    cases None e = let c : 0 ≡ m.count = sym (unowned_count m s e) in ap (λ (n : ℕ). let x : Option ℕ × ℕ = (None, n) in x) c
    cases (Some t) e =
        let owner : owns m t ≡ true = ap (λ a. is_thread a t) e ∙ same_number t in
        let c : held t ≡ m.count = h t owner ∙ owner_standing m t s owner in
        ap (λ (n : ℕ). let x : Option ℕ × ℕ = (Some t, n) in x) c

-- the plain owner of an object that it isn't taking has no hold word besides those of its log
owner_even : (w : World) (objects : List PlainObject) (o t : ℕ) → Fits w objects
    → owner_at objects o t ≡ true → bears (w.known t).stage o ≡ false → hold_words_ahead (w.known t).stage o ≡ 0
owner_even w objects o t fits owner rest = by_stage (w.known t).stage refl
  where
    by_test : (b : Bool) → b ≡ false → one_if b ≡ 0
    by_test true e = absurd (cc e)
    by_test false e = refl

    by_object : (i p : ℕ) (b : Bool) → (i == o) ≡ b → (w.known t).stage ≡ Exits i p → one_if b ≡ 0
    by_object i p true e s =
        let here : (w.known t).stage ≡ Exits o p = s ∙ ap (λ j. Exits j p) (eqb-true i o e) in
        absurd (cc (fits.owners.left o t p here, owner))
    by_object i p false e s = refl

    by_stage : (s : Stage) → (w.known t).stage ≡ s → hold_words_ahead s o ≡ 0
    by_stage (Enters i p path) e = by_test (i == o) (sym (ap (λ x. bears x o) e) ∙ rest)
    by_stage (Exits i p) e = by_object i p (i == o) refl e
    by_stage _ e = refl

-- an object that no thread is taking, or has to let go since its Wait, shows its plain owner and count
pub at_rest_shown : (w : World) (objects : List PlainObject) (o : ℕ) → Fits w objects → ((t : ℕ) → bears (w.known t).stage o ≡ false)
    → owner_and_count w o ≡ ((monitor_of objects o).owner, (monitor_of objects o).count)
at_rest_shown w objects o fits rest =
    let owner : who w o ≡ (monitor_of objects o).owner = same_owner (who w o) (monitor_of objects o).owner (λ t. who_without w objects o t fits (rest t)) in
    let shows = ap (λ a. owner_and_count_by a (λ t. hold_count o (w.known t).holds)) owner in
    let held = λ (t : ℕ) (own : owner_at objects o t ≡ true).
    let n : hold_count o (w.known t).holds ≡ holds_by_monitor (monitor_of objects o) t =
    omega (arith, fits.holds.number t o, owner_even w objects o t fits own (rest t)) in n in
    shows ∙ plain_shown (monitor_of objects o) (λ t. hold_count o (w.known t).holds) (sound w objects fits o) held

-- at a reached safepoint each thread is calm, or about to take a bias: what says the same of both stages says so of each thread's
pub safepoint_part : {A : Type 0} (part : Stage → A) (a : A) → part Settled ≡ a → ((i : ℕ) → part (BiasAcquired i) ≡ a)
    → (w : World) (objects : List PlainObject) (t u : ℕ) → Fits w objects → (w.known t).reached ≡ true
    → part (w.known u).stage ≡ a
safepoint_part part a calm takes w objects t u fits e = elim (fits.quiet.quiet u ((fits.safe.safepoint t e).1 u)) [
  | inl b ↦ ap part b ∙ calm
  | inr b ↦ ap part b.1.1 ∙ takes b.1.0
]

-- at a reached safepoint every object shows its plain owner and count
pub at_safepoint_shown : (w : World) (objects : List PlainObject) (t o : ℕ) → Fits w objects → (w.known t).reached ≡ true
    → owner_and_count w o ≡ ((monitor_of objects o).owner, (monitor_of objects o).count)
at_safepoint_shown w objects t o fits e = at_rest_shown w objects o fits (λ u. safepoint_part (λ s. bears s o) false refl (λ i. refl) w objects t u fits e)

-- an object that a thread is taking, or has not let go since its Wait, shows that thread with its hold words
pub taken_shown : (w : World) (objects : List PlainObject) (o t : ℕ) → Fits w objects → bears (w.known t).stage o ≡ true
    → owner_and_count w o ≡ (Some t, hold_count o (w.known t).holds)
taken_shown w objects o t fits e = ap (λ a. owner_and_count_by a (λ u. hold_count o (w.known u).holds)) (who_bears w objects o t fits e)

-- a thread that has logged its Wait and not let go bears the object
waits_bears : (w : World) (o t : ℕ) → (w.known t).stage ≡ Waits o → bears (w.known t).stage o ≡ true
waits_bears w o t e = ap (λ s. bears s o) e ∙ same_number o

-- the object has no plain owner then
pub leaving_unowned : (w : World) (objects : List PlainObject) (o t : ℕ) → Fits w objects → (w.known t).stage ≡ Waits o → (monitor_of objects o).owner ≡ None
leaving_unowned w objects o t fits e = no_owner (monitor_of objects o).owner (λ u. by_owner u (owner_at objects o u) refl)
  where
    by_owner : (u : ℕ) (b : Bool) → owner_at objects o u ≡ b → owner_at objects o u ≡ false
    by_owner u false f = f
    by_owner u true f =
        let also : is_thread (who w o) u ≡ true = fits.owners.same o u ∙ ap (λ b. b || bears (w.known u).stage o) f in
        let same : Some u ≡ Some t = sym (thread_is (who w o) u also) ∙ who_bears w objects o t fits (waits_bears w o t e) in
        let let_go = fits.owners.let_go o t e in
        absurd (cc (same, let_go, f))

-- which are as many as the count that it keeps as one who waits
pub leaving_shown : (w : World) (objects : List PlainObject) (o t : ℕ) → Fits w objects → (w.known t).stage ≡ Waits o
    → ((monitor_of objects o).owner ≡ None) × (owner_and_count w o ≡ (Some t, or_zero (count_of (waits_at objects o) t)))
leaving_shown w objects o t fits e =
    let none : hold_words_ahead (w.known t).stage o ≡ 0 = ap (λ s. hold_words_ahead s o) e in
    let uncalled = waiter_unnotified (monitor_of objects o) t (sound w objects fits o) (fits.waits.leaving t o e) in
    let outside = outside_standing (monitor_of objects o) t (fits.owners.let_go o t e) in
    let count : hold_count o (w.known t).holds ≡ or_zero (count_of (waits_at objects o) t) = omega (arith, fits.holds.number t o, none, outside, uncalled) in
    let shows = taken_shown w objects o t fits (waits_bears w o t e) in
    (leaving_unowned w objects o t fits e, shows ∙ ap (λ (n : ℕ). let x : Option ℕ × ℕ = (Some t, n) in x) count)

-- nobody else takes such an object or owns it
pub taken_alone : (w : World) (objects : List PlainObject) (o t u : ℕ) → Fits w objects → bears (w.known t).stage o ≡ true → u ≢ t
    → (bears (w.known u).stage o ≡ false) × (owner_at objects o u ≡ false)
taken_alone w objects o t u fits e d =
    let other : is_thread (who w o) u ≡ false = ap (λ a. is_thread a u) (who_bears w objects o t fits e) ∙ ne_eqb t u (λ same. d (sym same)) in
    none (owner_at objects o u) (bears (w.known u).stage o) (sym (fits.owners.same o u) ∙ other)
  where
    none : (a b : Bool) → (a || b) ≡ false → (b ≡ false) × (a ≡ false)
    none true b h = absurd (cc h)
    none false b h = (h, refl)

-- in a valid world with no revocation under way, every clause holds
pub unrevoking_fits : (w : World) (v : Valid w) → ((u : ℕ) → revocation_in (w.known u).stage ≡ None) → Fits w v.objects
unrevoking_fits w v h = elim v.is [
  | inl fits ↦ fits
  | inr s ↦ absurd (cc (s.its_revocation, h s.requester))
]

-- so at its safepoint every object shows its plain owner and count
pub safepoint_shown : (w : World) (v : Valid w) (t o : ℕ) → (w.known t).reached ≡ true → ((u : ℕ) → revocation_in (w.known u).stage ≡ None)
    → owner_and_count w o ≡ ((monitor_of v.objects o).owner, (monitor_of v.objects o).count)
safepoint_shown w v t o e h = at_safepoint_shown w v.objects t o (unrevoking_fits w v h) e

-- while a thread runs, every clause holds: a revocation is under way only at a reached safepoint
pub running_fits : (w : World) (v : Valid w) (t : ℕ) → (w.known t).running ≡ true → Fits w v.objects
running_fits w v t e = elim v.is [
  | inl fits ↦ fits
  | inr s ↦
      let reached : (w.known s.requester).reached ≡ true = ap (λ k. k.reached) s.knows ∙ s.reached in
      let stopped = (s.safe.safepoint s.requester reached).1 t in
      absurd (cc (stopped, e))
]

-- a name is the same as itself
same_name_self : (n : WordId) → same_name n n ≡ true
same_name_self n = grind (arith, nat_tests)

-- a word is what was just written
pub with_word_there : (at : WordId) (v : ℕ) (f : WordId → ℕ) → with_word at v f at ≡ v
with_word_there at v f = ap (λ b. cond b v (f at)) (same_name_self at)

-- the mark that was just written is read back
pub with_word_mark : (o : ℕ) (form : MarkForm) (f : WordId → ℕ) → IsMarkInRange form → read_mark (with_word (Mark o) (mark_of form) f (Mark o)) ≡ Some form
with_word_mark o form f r = ap read_mark (with_word_there (Mark o) (mark_of form) f) ∙ read_mark-mark_of form r

-- the lock by the form of the mark
pub lock_by_form : (w : World) (o : ℕ) (form : MarkForm) → read_mark (marks w o) ≡ Some form
    → lock w o ≡ lock_form (Some form) (prototype_of w o) (owner_words w) (inflations w o)
lock_by_form w o form e = ap (λ f. lock_form f (prototype_of w o) (owner_words w) (inflations w o)) e

-- of any plain objects for which the world is valid
pub fits_running : (w : World) (P : List PlainObject) (t : ℕ) → (w.known t).running ≡ true → IsValid w P → Fits w P
fits_running w P t runs valid = running_fits w (record { objects = P; is = valid }) t runs

-- a mark that names a monitor is inflated
pub inflated_form : (f : Option MarkForm) (m : ℕ) → monitor_form f ≡ Some m → f ≡ Some (Inflated m)
inflated_form (Some (Inflated n)) m e = ap (λ k. Some (Inflated k)) (same_Some n m e)
inflated_form _ m e = absurd (cc e)
