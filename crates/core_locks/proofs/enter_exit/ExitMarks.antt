-- A thread exchanges the mark that names its record for the header that it displaced, and so logs its last Exit.
use Rattle.core_locks.proofs.Prelude.{◌≡◌, ◌≢◌, ◌⊎◌, ℕ, ◌<◌, ◌||◌, eq-eqb, ne_eqb, true, false, cond, List, Some, refl, sym, ap, ◌∙◌, subst}
use Rattle.core_locks.proofs.Prelude.{arith, inl, eqb-true, read_mark, mark_of, Locked, PlainObject, take_entry, Exit, Prototype, Mark, Displaced}
use Rattle.core_locks.proofs.Prelude.{Revocations, LastBulk, StepPlan, is_neutral, monitor_in, inflation_in, bears, word_after, hits, ThreadView}
use Rattle.core_locks.proofs.Prelude.{World, with_word_and_known, Open, OnRecord, lock, header, marks, displaced_words, headers, owner_words}
use Rattle.core_locks.proofs.Prelude.{prototype_of, inflations, who, holder, hold_count, owner_at, hash_at, waits_at, notified_at, SeenStays}
use Rattle.core_locks.proofs.Prelude.{CallContext, let_go_plan, world_after, known_hit, seen_before, known_miss, Fits, IsValid, CompareExchange}
use Rattle.core_locks.proofs.Prelude.{bulk_rebiases, bulk_revokes, IsMark, inflations_stay, fits_running, seen_is_part, Spares, seen_moves}
use Rattle.core_locks.proofs.Prelude.{counts_more, Counts, miss_valid, Logs, LogsValid, KeepsValid, MayLetGo}
use Rattle.core_locks.proofs.MarkChanges.{biases_by_marks, hashes_by_marks, classes_by_marks, inflating_by_marks, names_same, bias_back, bias_forth}
use Rattle.core_locks.proofs.MarkChanges.{bias_before, zero_back, zero_forth, lock_at, lock_else, header_same, mark_back, mark_spares}
use Rattle.core_locks.proofs.MarkMeanings.{forms_marked, IsBare, bare_unnamed, neutral_is, neutral_bare, neutral_some, neutral_lock}
use Rattle.core_locks.proofs.MarkMeanings.{neutral_header, locked_read, locked_bare, locked_some, locked_lock, locked_header}
use Rattle.core_locks.proofs.enter_exit.ExitEntries.{objects_where, exit_parts, exit_are, own_displaced}
use Rattle.core_locks.proofs.enter_exit.LastExit.{freed, IsLastExit, inside, letting_go_taken as takes_exit}
use Rattle.core_locks.proofs.enter_exit.LastExit.{owner_back, was_locked, recursions_law, last_step}
use Rattle.core_locks.proofs.Clauses.{parts_of, seen, forms, biases, inflating, recursions, hashes, classes, AllHold}
use Rattle.core_locks.proofs.OwnSeen.{either}
use Rattle.core_locks.proofs.Steps.{none_reached, noting, IsStep, next, next_is, stepped, step_fits, holds_next, inflates_stay}

module _ (w : World) (P : List PlainObject) (t : ℕ) (e : CallContext) (o h s p : ℕ) (within : t < w.shape.threads) (may : MayLetGo w.shape (w.known t) o h s p)
    (was : w.words (Mark o) ≡ mark_of (Locked t p)) (v : Fits w P) where
  abbrev plan : StepPlan
  plan = let_go_plan e o (mark_of (Locked t p)) h p

  abbrev l : ThreadView
  l = known_hit w.shape w.start plan (w.words (Mark o)) (w.known t)

  abbrev x : World
  x = with_word_and_known (Mark o) h t l w

  abbrev Q : List PlainObject
  Q = objects_where P o (freed P o)

  step : IsStep w t l noting
  step = record { within = within; mine = refl; others = λ k. refl }

  last_exit : IsLastExit w P t l noting o p s
  last_exit = record { step = step; may = search may; exits = record { grows = refl; stage = refl; draws = refl }; fits = v }

  letting_go_taken : take_entry P t (Exit o) ≡ Some Q
  letting_go_taken = takes_exit last_exit

  owner_gone : (i u : ℕ) → owner_at Q i u ≡ true → (i ≢ o) × (owner_at P i u ≡ true)
  owner_gone = owner_back last_exit

  -- the marks: the old one names the thread's record, and the new one is the header that this record displaced
  old_form : read_mark (marks w o) ≡ Some (Locked t p)
  old_form = ap read_mark was ∙ locked_read t p (omega (arith, within, v.limits.threads)) may.place

  locked : lock w o ≡ OnRecord t p
  locked = locked_lock (marks w o) t p (prototype_of w o) (owner_words w) (inflations w o) old_form

  header_word : w.words (Displaced t p) ≡ h
  header_word = own_displaced w P t p h v may.runs may.displaced

  neutral : is_neutral h ≡ true
  neutral = ap is_neutral (sym header_word) ∙ v.records.header o t p locked

  old : IsBare (marks w o)
  old = locked_bare (marks w o) t p old_form

  old_some : marks w o ≢ 0
  old_some = locked_some (marks w o) t p old_form

  new : IsBare h
  new = neutral_bare h neutral

  names : (i : ℕ) → monitor_in (marks w i) ≡ monitor_in (marks x i)
  names = names_same w o h t l (old.unnamed ∙ sym new.unnamed)

  inflation : inflations w ≡ inflations x
  inflation = inflations_stay w.shape.threads _ _ (λ j. λ u. sym (inflates_stay step (sym (ap inflation_in may.calm)) u) j)

  lock_now : (i : ℕ) → ((i ≡ o) × (lock x i ≡ Open)) ⊎ ((i ≢ o) × (lock x i ≡ lock w i))
  lock_now = lock_at w o h t l inflation Open (neutral_lock h (prototype_of w o) (owner_words w) (inflations w o) neutral)

  header_is : header w ≡ header x
  header_is =
      header_same w o h t l inflation
      (neutral_header h (displaced_words w) (headers w) (inflations w o) neutral ∙ ap Some (sym header_word)
      ∙ sym (locked_header (marks w o) t p (displaced_words w) (headers w) (inflations w o) old_form))

  -- nobody else owns the object or bears it
  holder_is : who w o ≡ Some t
  holder_is = ap (λ f. holder f (λ u. hold_count o (w.known u).holds)) locked

  -- what was seen stays, by the word that the exchange stores
  seen_law : SeenStays x (owner_at Q) (waits_at P)
  seen_law =
      let spares = mark_spares w o h t l (owner_at P) (owner_at Q) (waits_at P) (waits_at P) old old_some new (λ u. v.inflating.zero u)
      (λ u i d a. (owner_gone i u a).1) (λ u i d a b. b) (none_reached w P t l v may.runs refl) v.seen.classed in
      let back = mark_back w o h t l (w.known t) l (owner_at P) (owner_at Q) t
      (λ i a g. names i ∙ g) refl refl (sym (ap inflation_in may.calm)) (λ a. v.quiet.none_revokes t) refl
      (λ i a. (owner_gone i t a).1) (λ i a b g. mine i g) in
      let counts = counts_more (Mark o) h t l w (owner_at P) (owner_at Q) (waits_at P)
      (waits_at P) (seen_before w.shape (w.known t)) (seen_is_part w.shape (w.known t)) back
      (λ i a. inl a) (λ i r a. absurd (cc a))
      (λ i a r b g. absurd ((owner_gone i t b).0 (eqb-true i o a))) (λ i a b. b) spares (λ u i a b. b) v.seen in
      subst (λ n. SeenStays (with_word_and_known (Mark o) n t l w) (owner_at Q) (waits_at P)) writes
      (seen_moves plan (w.words (Mark o)) t l w (owner_at P) (owner_at Q) (waits_at P) (waits_at P) (seen_before w.shape (w.known t)) refl
      (subst (λ n. Counts (Mark o) n t l w (owner_at Q) (waits_at P) (seen_before w.shape (w.known t))) (sym writes) counts)
      (subst (λ n. Spares (Mark o) n t l w (owner_at P) (owner_at Q) (waits_at P) (waits_at P)) (sym writes) spares)
      v.seen)
    where
      writes : word_after (CompareExchange (mark_of (Locked t p)) h) (w.words (Mark o)) ≡ h
      writes = ap (λ b. cond b h (w.words (Mark o))) (eq-eqb (w.words (Mark o)) (mark_of (Locked t p)) was)

      mine : (i : ℕ) → (owner_at Q i t || bears l.stage i) ≡ true → (owner_at P i t || bears (w.known t).stage i) ≡ true
      mine i g = ap (λ f. owner_at P i t || bears f i) may.calm ∙ either (owner_at Q i t) false (owner_at P i t) (λ a. (owner_gone i t a).1) g

  abbrev n : World
  n = next w t l noting x.words

  all_after : AllHold (exit_parts w (stepped w t l x.words) P (lock x) (parts_of n Q))
  all_after seen = holds_next step (λ y. SeenStays y (owner_at Q) (waits_at P)) x.words seen_law
  all_after forms = forms_marked o h v.forms (subst (IsMark w.shape) (sym (neutral_is h neutral).1) refl)
  all_after biases = biases_by_marks (marks w) (marks x) (lock w) (lock x) (λ u. (w.known u).holds)
      (hash_at P) (waits_at P) (notified_at P) (λ i b. (bias_back w o h t l new.unbiased i b).1)
      (λ i u f b. lock_else w o h t l inflation i (bias_back w o h t l new.unbiased i b).0 ∙ f) v.biases
  all_after inflating = inflating_by_marks (marks w) (marks x) (λ u. inflation_in (w.known u).stage)
      (inflations w) (zero_back w o h t l (neutral_some h neutral)) (zero_forth w o h t l old_some) v.inflating
  all_after recursions = recursions_law last_exit holder_is (lock x) lock_now (marks x) (λ i a f. names i ∙ f)
      (λ a f. absurd (bare_unnamed (marks w o) a old (names o ∙ f)))
  all_after hashes = hashes_by_marks (marks w) (marks x) (lock w) (lock x) _ _ _ _ (bias_before w o h t l old.unbiased)
      (λ i u q f. (was_locked last_exit holder_is (lock x) lock_now i (OnRecord u q) f (λ g. cc g)).1) v.hashes
  all_after classes = classes_by_marks w.biasing (λ c. w.words (Prototype c)) (λ c. w.words (Revocations c)) (λ c. w.words (LastBulk c))
      (marks w) (marks x) (bulk_rebiases w.shape.threads (λ u. (w.known u).counts)) (bulk_revokes w.shape.threads (λ u. (w.known u).counts))
      (bias_forth w o h t l new.unbiased) v.classes
  all_after c = last_step last_exit holder_is (lock x) lock_now c

  letting_go_fits : Fits x Q
  letting_go_fits =
      step_fits step x.words Q (exit_parts w (stepped w t l x.words) P (lock x) (parts_of n Q))
      (exit_are step x.words P o (freed P o) (inside last_exit) refl refl
      (lock x) (inflates_stay step (sym (ap inflation_in may.calm))) (λ j. λ i. sym (names i) j)
      (λ j. lock (sym (next_is step x.words) j)) ((λ j. header (sym (next_is step x.words) j)) ∙ sym header_is)) all_after

  -- the exchange hits
  letting_go_logs : Logs w P t plan (Exit o)
  letting_go_logs =
      let hit : hits plan.act (w.words (Mark o)) ≡ true = eq-eqb (w.words (Mark o)) (mark_of (Locked t p)) was in
      let same : world_after plan t w ≡ x = λ i. with_word_and_known (Mark o) (cond (hit i) h (w.words (Mark o))) t
      (cond (hit i) l (known_miss w.shape w.start plan (w.words (Mark o)) (w.known t))) w in
      record { now = Q; taken = letting_go_taken; valid = subst (λ f. IsValid f Q) (sym same) (inl letting_go_fits) }

-- the law, where the exchange hits
pub exits_by_the_mark : (e : CallContext) (o header stamp p : ℕ)
    → LogsValid (λ w t. MayLetGo w.shape (w.known t) o header stamp p × (w.words (Mark o) ≡ mark_of (Locked t p)))
    (λ w t. let_go_plan e o (mark_of (Locked t p)) header p) (Exit o)
exits_by_the_mark e o header stamp p w P t within may valid = letting_go_logs w P t e o header stamp p within may.0 may.1 (fits_running w P t may.0.runs valid)

-- and where it misses, as the mark was exchanged meanwhile
pub exit_misses : (e : CallContext) (o header stamp p : ℕ)
    → KeepsValid (λ w t. MayLetGo w.shape (w.known t) o header stamp p × (w.words (Mark o) ≢ mark_of (Locked t p)))
    (λ w t. let_go_plan e o (mark_of (Locked t p)) header p)
exit_misses e o header stamp p w P t within may valid =
    miss_valid w P t (let_go_plan e o (mark_of (Locked t p)) header p) within
    (record {
      missed = ne_eqb (w.words (Mark o)) (mark_of (Locked t p)) may.1;
      may = record { outside = λ r n. absurd (cc (r, may.0.runs)); found = λ r m is. absurd (cc is) };
    }) valid
