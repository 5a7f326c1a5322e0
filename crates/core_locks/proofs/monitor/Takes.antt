-- A thread exchanges the free owner word of a monitor for itself, to enter or at the end of a wait.
use Rattle.core_locks.proofs.Prelude.{◌≡◌, ◌≢◌, ◌⊎◌, ℕ, ◌+◌, ◌<◌, ◌≤◌, ◌==◌, ◌||◌, eq-eqb, ne_eqb, Bool, true, false, cond, List, slice_index}
use Rattle.core_locks.proofs.Prelude.{Some, None, refl, sym, ap, ◌∙◌, subst, arith, inl, inr, eqb-true, same_Some, read_mark, read_owner}
use Rattle.core_locks.proofs.Prelude.{owner_of, ByThread, Free, read_owner-owner_of, is_thread, is_listed, PlainObject, WordId, Owner}
use Rattle.core_locks.proofs.Prelude.{Recursions, StepPlan, Stage, Settled, RecordLocked, MonitorAcquired, Resumes, Exits, Waits, OwnerConverted}
use Rattle.core_locks.proofs.Prelude.{Notifies, hold_word, monitor_in, inflation_in, bears, hold_words_ahead, recursions_ahead, recursions_lowered}
use Rattle.core_locks.proofs.Prelude.{notification_in, revocation_in, same_name, ThreadView, last_seen, World, with_known, Lock, Open, BiasedTo}
use Rattle.core_locks.proofs.Prelude.{OnRecord, OwnedBy, lock, lock_form, marks, displaced_words, owner_words, prototype_of, inflations, who}
use Rattle.core_locks.proofs.Prelude.{holder, hold_count, recursion_count, owner_at, waits_at, notified_at, owner_lock, Stays, GoesByMonitor}
use Rattle.core_locks.proofs.Prelude.{CallContext, with_stage, swap, world_after, Fits, IsValid, IsOwner, HasFound, by_equal, each_with_known}
use Rattle.core_locks.proofs.Prelude.{owner_zero, fits_running, inflated_form, stays_back, GoesOn, SawInflated}
use Rattle.core_locks.proofs.WaitOut.{neither}
use Rattle.core_locks.proofs.enter_exit.MarkHolds.{standing_names}
use Rattle.core_locks.proofs.MarkMeanings.{forms_owned}
use Rattle.core_locks.proofs.Clauses.{turned_parts, seen, forms, quiet, waits, holds, owners, biases, records, recursions, hashes, AllHold}
use Rattle.core_locks.proofs.Steps.{turning, IsStep, next, seen_next, quiet_next, quiet_step, stage_back, waits_turn, holds_stand}
use Rattle.core_locks.proofs.OwnSeen.{back_by, left_with, hit_world}
use Rattle.core_locks.proofs.monitor.MonitorSeen.{stays_nearly, monitor_seen, others_by, uncounted_named}
use Rattle.core_locks.proofs.LockTurns.{LockTurn, records_turn, owners_taken}
use Rattle.core_locks.proofs.monitor.OwnerTurns.{owned_locks, owner_turn, again_zero, owner_turned}
use Rattle.core_locks.proofs.MarkChanges.{biases_by_marks, hashes_by_marks}
use Rattle.core_locks.proofs.enter_exit.HoldWays.{saw_inflated}
use Rattle.core_locks.proofs.monitor.SwapLaws.{swap_valid, found_by_mark}

-- a thread that comes to bear o alone counts besides on the owner and the recursions of its monitor
pub stays_borne : (w : World) (k : ThreadView) (stage : Stage) (owner : ℕ → ℕ → Bool) (u o m : ℕ) → revocation_in k.stage ≡ None
    → inflation_in stage ≡ inflation_in k.stage → ((i : ℕ) → i ≢ o → bears stage i ≡ bears k.stage i) → monitor_in (marks w o) ≡ Some m
    → (n : WordId) (s : ℕ) → Stays w (record k { stage = stage }) owner u n s → Stays w k owner u n s ⊎ ((n ≡ Owner m) ⊎ (n ≡ Recursions m))
stays_borne w k stage owner u o m none_revokes inflates bearing names =
    stays_nearly {w = w} {x = w} {k = k} {y = record k { stage = stage }} {owner = owner} {u = u} (λ n. (n ≡ Owner m) ⊎ (n ≡ Recursions m)) (record {
      run = λ h. h;
      ask = λ h. h;
      not_revoking = λ h. none_revokes;
      prototype = refl;
      inflates = λ i h. inl (sym inflates ∙ h);
      kept = λ a h. inl h;
      held = λ i a r n h. by_equal i o
          (λ s. let same : a ≡ m = same_Some _ _ (sym n ∙ ap (λ j. monitor_in (marks w j)) s ∙ names) in inr (inl (ap Owner same), inr (ap Recursions same)))
          (λ d. inl (n, ap (λ (b : Bool). owner i u || b) (sym (bearing i d)) ∙ h));
    })

-- what the thread knows, and that it saw nothing of the monitor's recursions in this call, or that they are 0
pub record MayTake (k : ThreadView) (e : CallContext) (o m : ℕ) : Type 0 where
  pub runs : k.running ≡ true
  pub calm : k.stage ≡ Settled
  pub inflated : SawInflated k o m
  pub unseen : (r : ℕ) → last_seen (Recursions m) k.seen ≡ Some r → r ≡ 0
  pub goes_on : GoesOn k e

module _ (w : World) (P : List PlainObject) (t : ℕ) (e : CallContext) (o m : ℕ) (within : t < w.shape.threads)
    (may : MayTake (w.known t) e o m) (hit : (w.words (Owner m) == owner_of Free) ≡ true) (v : Fits w P) where
  abbrev word : ℕ
  word = cond (w.words (Owner m) == owner_of Free) (owner_of (ByThread t)) (w.words (Owner m))

  mark_names : monitor_in (marks w o) ≡ Some m
  mark_names = saw_inflated w P t o may.runs v m may.inflated

  was_open : lock w o ≡ Open
  was_open =
      ap (λ f. lock_form f (prototype_of w o) (owner_words w) (inflations w o)) (inflated_form (read_mark (marks w o)) m mark_names)
      ∙ ap (λ n. owner_lock (read_owner n)) (eqb-true (w.words (Owner m)) 0 hit) ∙ ap owner_lock owner_zero

  spelled : read_owner word ≡ Some (ByThread t)
  spelled = let few : t < 32 = omega (arith, within, v.limits.threads) in
      ap (λ (b : Bool). read_owner (cond b (owner_of (ByThread t)) (w.words (Owner m)))) hit ∙ read_owner-owner_of (ByThread t) few

  -- nobody had it
  pub nobody : (u : ℕ) → (owner_at P o u ≡ false) × (bears (w.known u).stage o ≡ false)
  nobody u = neither (owner_at P o u) (bears (w.known u).stage o)
      (ap (λ f. is_thread (holder f (λ z. hold_count o (w.known z).holds)) u) (sym was_open) ∙ v.owners.same o u)

  none : w.words (Recursions m) ≡ 0
  none = v.recursions.free o m mark_names was_open

  -- the thread has no hold word of the object, and enters; or it was notified, and resumes
  module _ (s : Stage) (way : ((s ≡ MonitorAcquired o) × (hold_count o (w.known t).holds ≡ 0))
      ⊎ ((s ≡ Resumes o) × (is_listed (notified_at P o) t ≡ true))) where
    by_way : (F : Stage → Type 0) → F (MonitorAcquired o) → F (Resumes o) → F s
    by_way F grabs resumes = elim way [ inl a ↦ subst F (sym a.0) grabs | inr a ↦ subst F (sym a.0) resumes ]

    abbrev plan : StepPlan
    plan = with_stage s (swap e (Owner m) (owner_of Free) (owner_of (ByThread t)))

    abbrev l : ThreadView
    l = left_with w t plan

    abbrev x : World
    x = hit_world w t plan

    abbrev locks : ℕ → Lock
    locks = owned_locks w m word

    turn : LockTurn w o locks Open (OwnedBy t)
    turn = owner_turn w P o m word Open (OwnedBy t) v mark_names was_open (ap owner_lock spelled)

    open turn use {now, back, forth}

    inflates : inflation_in l.stage ≡ inflation_in (w.known t).stage
    inflates = by_way (λ f. inflation_in f ≡ None) refl refl ∙ sym (ap inflation_in may.calm)

    step : IsStep w t l turning
    step = record { within = within; mine = refl; others = λ k. refl }

    abbrev z : World
    z = next w t l turning x.words

    at_back : (f : Stage) (u : ℕ) → (MonitorAcquired o ≡ f → ⊥) → (Resumes o ≡ f → ⊥) → (with_known t l w.known u).stage ≡ f → (u ≢ t) × ((w.known u).stage ≡ f)
    at_back f u grabs resumes = stage_back step f u (by_way (λ s. s ≡ f → ⊥) grabs resumes)

    calls_same : notification_in l.stage ≡ notification_in (w.known t).stage
    calls_same = by_way (λ f. notification_in f ≡ None) refl refl ∙ sym (ap notification_in may.calm)

    alone : (u : ℕ) → who w o ≡ Some u → u ≡ t
    alone u h = absurd (cc (sym h ∙ ap (λ f. holder f (λ u. hold_count o (w.known u).holds)) was_open))

    goes : (i u : ℕ) → GoesByMonitor (locks i) (waits_at P i) (notified_at P i) u
        → GoesByMonitor (lock w i) (waits_at P i) (notified_at P i) u ⊎ ((i ≡ o) × (u ≡ t) × (hold_count o (w.known t).holds ≡ 0))
    goes i u (inr g) = inl (inr g)
    goes i u (inl g) = elim (now i) [
      | inl a ↦
          (let s : OwnedBy t ≡ OwnedBy u = sym a.1 ∙ g in let same : t ≡ u = cc s in elim way [
            | inl b ↦ inr (a.0, sym same, b.1)
            | inr b ↦ inl (inr (inr ((λ j. is_listed (notified_at P (a.0 j)) (sym same j)) ∙ b.1)))
          ])
      | inr a ↦ inl (inl (sym a.1 ∙ g))
    ]

    -- without a hold word of the object no record of it counts
    no_record : hold_count o (w.known t).holds ≡ 0 → (q d : ℕ) → d ≤ 64 → slice_index (w.known t).holds q ≡ hold_word o d → ⊥
    no_record unheld q d small h = omega (arith, standing_names w P v t q o d small h, unheld)

    no_again : hold_count o (w.known t).holds ≡ 0 → recursion_count o (displaced_words w t) (w.known t).holds ≡ 0
    no_again unheld = again_zero o (displaced_words w t) (w.known t).holds (λ q d small h. absurd (no_record unheld q (d + 2) (omega (arith, small)) h))

    bears_is : (i : ℕ) → bears s i ≡ (o == i)
    bears_is i = by_way (λ f. bears f i ≡ (o == i)) refl refl

    same_monitor : (i a : ℕ) → monitor_in (marks w i) ≡ Some a → i ≡ o → a ≡ m
    same_monitor i a n s = same_Some _ _ (sym n ∙ ap (λ j. monitor_in (marks w j)) s ∙ mark_names)

    -- what it saw of the monitor's words stands
    mine : (n : WordId) (y : ℕ) → last_seen n (w.known t).seen ≡ Some y → same_name n (Owner m) ≡ false → Stays x l (owner_at P) t n y → w.words n ≡ y
    mine n y saw d g = elim (stays_borne w (w.known t) s (owner_at P) t o m (v.quiet.none_revokes t) inflates
        (λ i c. bears_is i ∙ ne_eqb o i (λ q. c (sym q)) ∙ sym (ap (λ s. bears s i) may.calm)) mark_names n y
        (stays_back w x (record (w.known t) { stage = s }) l (owner_at P) (owner_at P) t
        (back_by w x (record (w.known t) { stage = s }) l (owner_at P) (owner_at P) t refl refl
        (λ h. h) refl refl (λ a. a) refl (λ i h. h) (λ i a q h. h)) n y g)) [
          | inl a ↦ v.seen.stays t n y saw a
          | inr a ↦ elim a [
            | inl b ↦ (let same : same_name n (Owner m) ≡ true = ap (λ f. same_name f (Owner m)) b ∙ eq-eqb m m refl in absurd (cc (same, d)))
            | inr b ↦ ap w.words b ∙ none ∙ sym (may.unseen y (ap (λ f. last_seen f (w.known t).seen) (sym b) ∙ saw))
          ]
        ]

    all_after : AllHold (turned_parts w z P locks)
    all_after seen = seen_next step x.words P (monitor_seen w P t plan (record {
      runs = may.runs;
      seen = refl;
      running = refl;
      requesting = refl;
      reached = refl;
      mine = mine;
      kept = λ a h. inl h;
      fresh = λ a is. inr (o, mark_names ∙ is);
      others = λ u n s d e. others_by w x (owner_at P) refl refl u n s;
      uncounted = λ u s d g h. uncounted_named w P o m u v mark_names
          (ap (λ f. is_thread (holder f (λ y. hold_count o (w.known y).holds)) u) was_open) (Owner m) s refl g;
      unbiased = λ o h. h;
      biased = λ o h. h;
      there = λ o h. h;
      names = λ o a h. h;
      waits = λ u o h. h;
      idle = λ o is. absurd (cc is);
    }) v)
    all_after forms = forms_owned m word v.forms (subst (IsOwner w.shape) (sym spelled) within)
    all_after holds = holds_stand step P (λ i. by_way (λ f. hold_words_ahead f i ≡ 0) refl refl ∙ sym (ap (λ f. hold_words_ahead f i) may.calm)) v
    all_after owners = owners_taken step v locks o (OwnedBy t) now may.calm nobody refl bears_is
        (by_way (λ f. notification_in f ≡ None) refl refl) (λ i. by_way (λ f. f ≡ Waits i → ⊥) (λ c. cc c) (λ c. cc c))
        (λ i q. by_way (λ f. f ≡ Exits i q → ⊥) (λ c. cc c) (λ c. cc c))
    all_after biases = biases_by_marks (marks w) (marks w) (lock w) locks _ _ _ _ (λ i b. b) (λ i u g b. forth i (BiasedTo u) g (λ c. cc c)) v.biases
    all_after records = records_turn step v locks o (OwnedBy t) now (λ u q c. cc c) alone (λ i q c. cc (sym may.calm ∙ c))
        (λ i q. by_way (λ f. f ≡ RecordLocked i q → ⊥) (λ c. cc c) (λ c. cc c))
        (λ i h. elim way [
          | inl b ↦
              (let both : MonitorAcquired o ≡ MonitorAcquired i = sym b.0 ∙ h in let here : o ≡ i = cc both in
              elim (now i) [ inl a ↦ (a.1, ap (λ j. hold_count j (w.known t).holds) (sym here) ∙ b.1) | inr a ↦ absurd (a.0 (sym here)) ])
          | inr b ↦ absurd (cc (sym b.0 ∙ h))
        ])
    all_after recursions = record {
      first = λ i u q g h. elim (goes i u g) [
        | inl a ↦ v.recursions.first i u q a h
        | inr a ↦ absurd (no_record a.2 q 1 (omega arith) ((λ j. slice_index (w.known (sym a.1 j)).holds q) ∙ h ∙ ap (λ j. hold_word j 1) a.0))
      ];
      others = λ i u q d g h small. elim (goes i u g) [
        | inl a ↦ v.recursions.others i u q d a h small
        | inr a ↦ absurd (no_record a.2 q (d + 2) (omega (arith, small))
            ((λ j. slice_index (w.known (sym a.1 j)).holds q) ∙ h ∙ ap (λ j. hold_word j (d + 2)) a.0))
      ];
      owned = λ i a u n. each_with_known (λ u y. locks i ≡ OwnedBy u → (y.stage ≡ Waits i → ⊥) → (y.stage ≡ Resumes i → ⊥)
          → w.words (Recursions a) + recursions_lowered y.stage i
          ≡ recursion_count i (displaced_words w u) (w.known u).holds + recursions_ahead y.stage i) t l w.known u
          (λ g b c. elim (now i) [
            | inl r ↦ elim way [
              | inl f ↦
                  (let number = ap (λ k. w.words (Recursions k)) (same_monitor i a n r.0) in
                  let count = ap (λ j. recursion_count j (displaced_words w t) (w.known t).holds) r.0 in
                  let up = ap (λ s. recursions_ahead s i) f.0 in
                  let down = ap (λ s. recursions_lowered s i) f.0 in
                  omega (arith, number, none, count, no_again f.1, up, down))
              | inr f ↦ absurd (c (f.0 ∙ ap Resumes (sym r.0)))
            ]
            | inr r ↦
                let was = v.recursions.owned i a t n (sym r.1 ∙ g) (λ f. let calm = may.calm in absurd (cc (calm, f)))
                (λ f. let calm = may.calm in absurd (cc (calm, f))) in
                let up = ap (λ s. recursions_ahead s i) may.calm in
                let down = ap (λ s. recursions_lowered s i) may.calm in
                let up_now = by_way (λ f. recursions_ahead f i ≡ 0) refl refl in
                let down_now = by_way (λ f. recursions_lowered f i ≡ 0) refl refl in
                omega (arith, was, up, down, up_now, down_now)
          ])
          (λ d g b c. v.recursions.owned i a u n (back i (OwnedBy u) g (λ s. d (let q : t ≡ u = cc s in sym q))) b c);
      waiting = v.recursions.waiting;
      on_record = λ i a u q n g. v.recursions.on_record i a u q n (back i (OnRecord u q) g (λ c. cc c));
      free = λ i a n g. v.recursions.free i a n (back i Open g (λ c. cc c));
      thread_owns = λ i u h. v.recursions.thread_owns i u (at_back (OwnerConverted i) u (λ c. cc c) (λ c. cc c) h).1;
    }
    all_after hashes = hashes_by_marks (marks w) (marks w) (lock w) locks _ _ _ _ (λ i b. b)
        (λ i u q r. back i (OnRecord u q) r (λ c. cc c)) v.hashes
    all_after quiet = quiet_next step P (by_way (λ f. revocation_in f ≡ None) refl refl) may.runs v
    all_after waits =
        waits_turn step calls_same (λ i c. cc (sym may.calm ∙ c)) (λ i k. by_way (λ f. f ≡ Notifies i k → ⊥) (λ c. cc c) (λ c. cc c))
        (λ i h. elim way [
          | inl b ↦ absurd (cc (sym b.0 ∙ h))
          | inr b ↦ (let both : Resumes o ≡ Resumes i = sym b.0 ∙ h in let here : o ≡ i = cc both in ap (λ j. is_listed (notified_at P j) t) (sym here) ∙ b.1)
        ])
        (λ i h. absurd (by_way (λ f. f ≡ Waits i → ⊥) (λ c. cc c) (λ c. cc c) h)) (quiet_step step P may.goes_on may.runs v waits)
    all_after c = quiet_step step P may.goes_on may.runs v c

    pub taken_fits : Fits x P
    taken_fits = owner_turned P step m word inflates all_after

-- where the exchange misses, it is a look
pub takes_free : (w : World) (P : List PlainObject) (t : ℕ) (e : CallContext) (o m : ℕ) (s : Stage)
    → (within : t < w.shape.threads) → (may : MayTake (w.known t) e o m)
    → ((hit : (w.words (Owner m) == owner_of Free) ≡ true) (v : Fits w P)
    → ((s ≡ MonitorAcquired o) × (hold_count o (w.known t).holds ≡ 0)) ⊎ ((s ≡ Resumes o) × (is_listed (notified_at P o) t ≡ true)))
    → IsValid w P → IsValid (world_after (with_stage s (swap e (Owner m) (owner_of Free) (owner_of (ByThread t)))) t w) P
takes_free w P t e o m s within may way valid =
    let v = fits_running w P t may.runs valid in
    swap_valid w P t (with_stage s (swap e (Owner m) (owner_of Free) (owner_of (ByThread t)))) within
    (record {
      outside = λ stopped. let runs = may.runs in absurd (cc (stopped, runs));
      found = λ r a is. subst (λ k. HasFound (w.known t) k) (same_Some _ _ is) (found_by_mark (w.known t) o m may.inflated);
    })
    (λ hit. taken_fits w P t e o m within may hit v s (way hit v)) valid
