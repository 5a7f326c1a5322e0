-- A step that changes the safepoint word keeps every clause, by the state that the word spelled and the one that it spells then.
use Rattle.core_locks.proofs.Prelude.{◌≡◌, ◌≢◌, ℕ, ◌<◌, ◌&&◌, ◌||◌, Bool, true, false, List, ◌∷◌, length, Some, None, refl, sym, ap, ◌∙◌, subst}
use Rattle.core_locks.proofs.Prelude.{inl, inr, IfSome, SafeForm, safe_of, read_safe, IsSafeInRange, read_safe-safe_of, is_thread, PlainObject}
use Rattle.core_locks.proofs.Prelude.{Safepoint, Waiting, Settled, says_ended, is_halted, asks_in, runs_form, runs_in, requester_form, requester_in}
use Rattle.core_locks.proofs.Prelude.{halted_form, word_after, hits, ThreadView, StepMade, World, with_word_and_known, with_known, monitor_of}
use Rattle.core_locks.proofs.Prelude.{owner_at, waits_at, CallContext, quiet_plan, world_after, known_hit, seen_before, kept_by_act, reached_after}
use Rattle.core_locks.proofs.Prelude.{runs_after, asks_after, Fits, SeenFit, ends, IsStuck, IsSafepoint, Act, each_with_known, part_moves, Spares}
use Rattle.core_locks.proofs.Prelude.{seen_moves, Counts, GoesOn, Still, Fetches, Returns, IsQuiet, Stage, with_stage}
use Rattle.core_locks.proofs.Clauses.{kept_parts, parts_stand, absent, seen, forms, safe, quiet as calmly}
use Rattle.core_locks.proofs.Clauses.{waits, stamps, shots, lengths, moves, AllHold, clauses}
use Rattle.core_locks.proofs.OwnSeen.{other_back, hit_moved}
use Rattle.core_locks.proofs.Steps.{asking, IsStep, next, step_fits, seen_next, absent_next, waits_go_on, stamps_go_on, dumps_go_on}

-- a halt by thread t: nobody runs, and the threads are stuck
pub record Halts (w : World) (P : List PlainObject) (t word : ℕ) (l : ThreadView) : Type 0 where
  pub unasked : requester_in word ≡ None
  pub stopped : l.running ≡ false
  pub nobody : (u : ℕ) → (w.known u).running ≡ false
  pub unfinished : (w.known t).unfinished ≡ l.unfinished
  pub stuck : IsStuck w.shape.threads (λ u. ends (w.known u).log) (λ u. (w.known u).unfinished) (monitor_of P)

-- what thread t knows after its step, if it hits
abbrev pub known_then : World → ℕ → CallContext → Act → Stage → ThreadView
known_then w t e act st = known_hit w.shape w.start (with_stage st (quiet_plan e Safepoint act)) (w.words Safepoint) (w.known t)

-- the step of thread t makes of the safepoint word, which spelled f, one that spells g
pub record Changes (w : World) (P : List PlainObject) (t : ℕ) (e : CallContext) (act : Act) (f g : SafeForm) (st : Stage) : Type 0 where
  pub hit : hits act (w.words Safepoint) ≡ true
  pub left : word_after act (w.words Safepoint) ≡ safe_of g
  -- an act that changes the word tells its thread what the word says of it
  pub told : (runs_after Safepoint act (word_after act (w.words Safepoint)) (w.known t) ≡ runs_in (word_after act (w.words Safepoint)) (w.known t).thread)
      × (asks_after Safepoint act (word_after act (w.words Safepoint)) (w.known t) ≡ asks_in (word_after act (w.words Safepoint)) (w.known t).thread)
      × (reached_after Safepoint act (word_after act (w.words Safepoint)) (w.known t)
      ≡ ((w.known t).reached && asks_in (word_after act (w.words Safepoint)) (w.known t).thread))
  pub calm : (w.known t).stage ≡ st
  -- which is no stage of a lock where it stops
  pub standing : runs_form (Some g) t ≡ false → st ≡ Settled
  pub still : (w.known t).moving ≡ Still
  pub goes_on : GoesOn (w.known t) e
  pub was : read_safe (w.words Safepoint) ≡ Some f
  pub unhalted : f.halted ≡ false
  pub range : IsSafeInRange g
  pub here : IfSome g.requester (λ u. u < w.shape.threads)
  -- it says of the other threads what it said
  pub others_run : (u : ℕ) → u ≢ t → runs_form (Some g) u ≡ runs_form (Some f) u
  pub others_ask : (u : ℕ) → u ≢ t → is_thread g.requester u ≡ is_thread f.requester u
  -- no safepoint is reached any more
  pub unreached : (u : ℕ) → (w.known u).reached ≡ true → (u ≡ t → is_thread g.requester t ≡ true) → ⊥
  pub halts : g.halted ≡ true → (known_then w t e act st).running ≡ runs_form (Some g) t → Halts w P t (safe_of g) (known_then w t e act st)
  pub published : runs_form (Some g) t ≡ false → is_thread g.requester t ≡ false → g.halted ≡ false → (w.known t).published ≡ length (w.known t).log
  pub ended : ends (w.known t).log ≡ true → runs_form (Some g) t ≡ false → says_ended (w.words (Waiting t)) ≡ true
  -- what the thread goes on to count on
  pub old : List StepMade
  pub kept : asks_in (word_after act (w.words Safepoint)) (w.known t).thread ≡ is_thread g.requester t
      → kept_by_act Safepoint act (word_after act (w.words Safepoint)) (w.known t) (seen_before w.shape (w.known t)) ≡ old
  pub counts : (known_then w t e act st).running ≡ runs_form (Some g) t
      → Counts Safepoint (safe_of g) t (known_then w t e act st) w (owner_at P) (waits_at P) old

both_true : (a b : Bool) → (a && b) ≡ true → (a ≡ true) × (b ≡ true)
both_true true b h = (refl, h)
both_true false b h = absurd (cc h)

module _ (w : World) (P : List PlainObject) (t : ℕ) (e : CallContext) (act : Act) (f g : SafeForm)
    (st : Stage) (within : t < w.shape.threads) (c : Changes w P t e act f g st) (v : Fits w P) where
  abbrev l : ThreadView
  l = known_then w t e act st

  -- the word that is left, as it is read
  reads : read_safe (safe_of g) ≡ Some g
  reads = read_safe-safe_of g c.range

  runs_now : (u : ℕ) → runs_in (safe_of g) u ≡ runs_form (Some g) u
  runs_now u = ap (λ z. runs_form z u) reads

  asks_now : (u : ℕ) → asks_in (safe_of g) u ≡ is_thread g.requester u
  asks_now u = ap (λ z. is_thread (requester_form z) u) reads

  halted_now : is_halted (safe_of g) ≡ g.halted
  halted_now = ap halted_form reads

  -- what the thread knows is what the word says of it
  runs_known : l.running ≡ runs_form (Some g) t
  runs_known = c.told.0 ∙ (λ i. runs_in (c.left i) (v.numbered t i)) ∙ runs_now t

  asks_same : asks_in (word_after act (w.words Safepoint)) (w.known t).thread ≡ is_thread g.requester t
  asks_same = (λ i. asks_in (c.left i) (v.numbered t i)) ∙ asks_now t

  asks_known : l.requesting ≡ is_thread g.requester t
  asks_known = c.told.1 ∙ asks_same

  unhalted_before : is_halted (w.words Safepoint) ≡ false
  unhalted_before = ap halted_form c.was ∙ c.unhalted

  form_now : IsSafepoint w.shape (read_safe (safe_of g))
  form_now = subst (IsSafepoint w.shape) (sym reads) c.here

  halt_learnt : (b : Bool) → (w.known t).halted ≡ b → (b || is_halted (word_after act (w.words Safepoint))) ≡ true → is_halted (safe_of g) ≡ true
  halt_learnt true k h = let was = v.safe.stopped t k in let not_was = unhalted_before in absurd (cc (was, not_was))
  halt_learnt false k h = ap is_halted (sym c.left) ∙ h

  unreached : (u : ℕ) → (with_known t l w.known u).reached ≡ true → ⊥
  unreached u = each_with_known (λ u y. y.reached ≡ true → ⊥) t l w.known u
      (λ r. let a = both_true (w.known t).reached (asks_in (word_after act (w.words Safepoint)) (w.known t).thread) (sym c.told.2 ∙ r) in c.unreached t a.0
      (λ s. sym asks_same ∙ a.1))
      (λ d r. c.unreached u r (λ s. absurd (d s)))

  step : IsStep w t l asking
  step = record { within = within; mine = λ i. record l { stage = sym c.calm i }; others = λ k. refl }

  abbrev x : World
  x = with_word_and_known Safepoint (safe_of g) t l w

  -- the others count on what they counted on, which is never the safepoint word
  spares : Spares Safepoint (safe_of g) t l w (owner_at P) (owner_at P) (waits_at P) (waits_at P)
  spares = record {
    before = λ u n s d seen. other_back w x (w.known u) (owner_at P) (owner_at P) u refl refl (λ i h. h) n s;
    owned = λ u o d h. h;
    word = λ u s d st was. elim st [ inl a ↦ absurd a.1 | inr a ↦ absurd a.2 ];
    bias = λ u o s e r h. h;
    there = λ o h. h;
    classed = v.seen.classed;
    waits = λ u y o d a h. h;
    unwaited = λ u o d a h. h;
    unreached = unreached;
    names = λ o m h. h;
  }

  seen_law : SeenFit x P
  seen_law =
      subst (λ n. SeenFit (with_word_and_known Safepoint n t l w) P) c.left
      (seen_moves (with_stage st (quiet_plan e Safepoint act)) (w.words Safepoint) t l w (owner_at P) (owner_at P) (waits_at P) (waits_at P) c.old
      (ap (λ (z : List StepMade). record { plan = with_stage st (quiet_plan e Safepoint act); found = w.words Safepoint } ∷ z) (c.kept asks_same))
      (subst (λ n. Counts Safepoint n t l w (owner_at P) (waits_at P) c.old) (sym c.left) (c.counts runs_known))
      (subst (λ n. Spares Safepoint n t l w (owner_at P) (owner_at P) (waits_at P) (waits_at P)) (sym c.left) spares) v.seen)

  abbrev z : World
  z = next w t l asking x.words

  all_after : AllHold (kept_parts w z P)
  all_after absent = absent_next step P v
  all_after seen = seen_next step x.words P seen_law
  all_after forms = search (form_now, v.forms)
  all_after safe = record {
    bits = λ u. each_with_known (λ u y. runs_in (safe_of g) u ≡ y.running) t l w.known u (runs_now t ∙ sym runs_known)
        (λ d. runs_now u ∙ c.others_run u d ∙ ap (λ z. runs_form z u) (sym c.was) ∙ v.safe.bits u);
    few = λ u. each_with_known (λ u y. y.running ≡ true → u < w.shape.threads) t l w.known u (λ r. within) (λ d. v.safe.few u);
    requester = λ u. each_with_known (λ u y. asks_in (safe_of g) u ≡ y.requesting) t l w.known u (asks_now t ∙ sym asks_known)
        (λ d. asks_now u ∙ c.others_ask u d ∙ ap (λ z. is_thread (requester_form z) u) (sym c.was) ∙ v.safe.requester u);
    safepoint = λ u r. absurd (unreached u r);
    stopped = λ u. each_with_known (λ u y. y.halted ≡ true → is_halted (safe_of g) ≡ true) t l w.known u (halt_learnt (w.known t).halted refl)
        (λ d h. let was = v.safe.stopped u h in absurd (cc (was, unhalted_before)));
    still = λ h.
        let a = c.halts (sym halted_now ∙ h) runs_known in (
          a.unasked,
          λ u. each_with_known (λ u y. y.running ≡ false) t l w.known u a.stopped (λ d. a.nobody u),
          subst (λ z. IsStuck w.shape.threads (λ u. ends (w.known u).log) z (monitor_of P)) (part_moves (λ y. y.unfinished) t l w.known a.unfinished) a.stuck,
        );
  }
  all_after calmly = record {
    quiet = λ u. each_with_known (λ u y. y.running ≡ false → IsQuiet y.reached (w.known u).stage) t l w.known u
        (λ r. inl (c.calm ∙ c.standing (sym runs_known ∙ r))) (λ d. v.quiet.quiet u);
    none_revokes = v.quiet.none_revokes;
  }
  all_after waits =
      let stopped : (u : ℕ) → ends (w.known u).log ≡ true → (with_known t l w.known u).running ≡ false → says_ended (w.words (Waiting u)) ≡ true =
      λ u. each_with_known (λ u y. ends (w.known u).log ≡ true → y.running ≡ false → says_ended (w.words (Waiting u)) ≡ true) t l w.known u
      (λ a r. c.ended a (sym runs_known ∙ r)) (λ d. v.waits.stopped u) in
      search (stopped, waits_go_on step P c.goes_on v)
  all_after stamps = stamps_go_on step P c.goes_on v
  all_after shots = dumps_go_on step P c.goes_on v
  all_after lengths = record {
    few = v.lengths.few;
    stored = v.lengths.stored;
    most = v.lengths.most;
    all = λ u. each_with_known (λ u y. y.running ≡ false → y.requesting ≡ false
        → is_halted (safe_of g) ≡ false → (w.known u).published ≡ length (w.known u).log) t l w.known u
        (λ r a h. c.published (sym runs_known ∙ r) (sym asks_known ∙ a) (sym halted_now ∙ h)) (λ d r a h. v.lengths.all u r a unhalted_before);
  }
  all_after moves = record {
    runs = λ u p. each_with_known (λ u y. (w.known u).moving ≡ Fetches p → y.running ≡ true) t l w.known u
        (λ h. let none = c.still in absurd (cc (none, h))) (λ d. v.moves.runs u p);
    reaches = λ u m. each_with_known (λ u y. (w.known u).moving ≡ Returns m → y.reached ≡ true) t l w.known u
        (λ h. let none = c.still in absurd (cc (none, h))) (λ d. v.moves.reaches u m);
  }
  all_after k = clauses w P v k

  pub changed_fits : Fits (world_after (with_stage st (quiet_plan e Safepoint act)) t w) P
  changed_fits =
      hit_moved w P t (with_stage st (quiet_plan e Safepoint act)) c.hit (subst (λ n. Fits (with_word_and_known Safepoint n t l w) P) (sym c.left)
      (step_fits step x.words P (kept_parts w z P) (parts_stand w z P refl (λ u. refl) (λ u. refl) refl refl refl (λ e. refl)) all_after))
