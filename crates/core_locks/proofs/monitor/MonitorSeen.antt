-- What the threads have seen stays when a running thread makes a step that logs nothing: what it counts on afterwards, and what the others count on.
use Rattle.core_locks.proofs.Prelude.{◌≡◌, ◌≢◌, ◌⊎◌, ℕ, ◌||◌, ne_eqb, Bool, true, false, List, [], ◌∷◌, Some, None, refl, sym, ap, ◌∙◌, subst, inl}
use Rattle.core_locks.proofs.Prelude.{inr, read_mark, is_thread, PlainObject, WordId, Safepoint, Prototype, Mark, Stamp, Slot, Hold, Displaced}
use Rattle.core_locks.proofs.Prelude.{Waiting, Length, Owner, Recursions, Header, Object, Claim, Revocations, LastBulk, StepPlan, is_biased}
use Rattle.core_locks.proofs.Prelude.{monitor_in, waits_on, Inflation, inflation_in, bears, revocation_in, word_after, same_name, its_monitor}
use Rattle.core_locks.proofs.Prelude.{ThreadView, last_seen, World, marks, prototype_of, who, owner_at, waits_at, Stays, IsKeptOrNamed}
use Rattle.core_locks.proofs.Prelude.{IsValidBias, IsOwnMonitor, StaysWhileRunning, StaysWhileAsking, seen_before, Fits, SeenFit, IsOfMonitor}
use Rattle.core_locks.proofs.Prelude.{seen_is_part, stays_back, Spares, seen_moves, Counts, End, Ring, Class, has_class}
use Rattle.core_locks.proofs.OwnSeen.{left_with, hit_world, back_by}
use Rattle.core_locks.proofs.Steps.{none_reached}
use Rattle.core_locks.proofs.monitor.Places.{kept_once, kept_apart}

pub record Seeing (w : World) (P : List PlainObject) (t : ℕ) (p : StepPlan) : Type 0 where
  pub runs : (w.known t).running ≡ true
  pub seen : (left_with w t p).seen ≡ record { plan = p; found = w.words p.at } ∷ seen_before w.shape (w.known t)
  pub running : (left_with w t p).running ≡ (w.known t).running
  pub requesting : (left_with w t p).requesting ≡ (w.known t).requesting
  pub reached : (left_with w t p).reached ≡ (w.known t).reached
  -- what it saw of other words before, and counts on afterwards, stands
  pub mine : (n : WordId) (s : ℕ) → last_seen n (w.known t).seen ≡ Some s → same_name n p.at ≡ false
      → Stays (hit_world w t p) (left_with w t p) (owner_at P) t n s → w.words n ≡ s
  pub kept : (m : ℕ) → (w.known t).kept ≡ Some m → IsKeptOrNamed (hit_world w t p) (left_with w t p) m
  pub fresh : (m : ℕ) → IsOfMonitor m p.at → IsKeptOrNamed (hit_world w t p) (left_with w t p) m
  -- the others count on no more than before, and not on the word that changes
  pub others : (u : ℕ) (n : WordId) (s : ℕ) → u ≢ t → last_seen n (w.known u).seen ≡ Some s
      → Stays (hit_world w t p) (w.known u) (owner_at P) u n s → Stays w (w.known u) (owner_at P) u n s
  pub uncounted : (u s : ℕ) → u ≢ t → Stays w (w.known u) (owner_at P) u p.at s → w.words p.at ≡ s → ⊥
  -- marks, classes and waiting words
  pub unbiased : (o : ℕ) → is_biased (marks w o) ≡ false → is_biased (marks (hit_world w t p) o) ≡ false
  pub biased : (o : ℕ) → is_biased (marks (hit_world w t p) o) ≡ true → is_biased (marks w o) ≡ true
  pub there : (o : ℕ) → has_class w.shape w.words o ≡ true → has_class w.shape (hit_world w t p).words o ≡ true
  pub names : (o m : ℕ) → monitor_in (marks w o) ≡ Some m → monitor_in (marks (hit_world w t p) o) ≡ Some m
  pub waits : (u o : ℕ) → waits_on (w.words (Waiting u)) o ≡ false → waits_on ((hit_world w t p).words (Waiting u)) o ≡ false
  pub idle : (o : ℕ) → same_name (Mark o) p.at ≡ true → monitor_in (word_after p.act (w.words p.at)) ≡ None → waits_at P o ≡ []

module _ (w : World) (P : List PlainObject) (t : ℕ) (p : StepPlan) (a : Seeing w P t p) (v : Fits w P) where
  abbrev l : ThreadView
  l = left_with w t p

  spares : Spares p.at (word_after p.act (w.words p.at)) t l w (owner_at P) (owner_at P) (waits_at P) (waits_at P)
  spares = record {
    before = a.others;
    owned = λ u o d h. h;
    word = λ u s d h g. absurd (a.uncounted u s d h g);
    bias = λ u o s e r. a.unbiased o;
    there = a.there;
    classed = λ o h. v.seen.classed o (a.biased o h);
    waits = λ u y o d e h. a.waits y o h;
    unwaited = λ u o d e h. h;
    unreached = none_reached w P t l v a.runs a.reached;
    names = a.names;
  }

  counts : Counts p.at (word_after p.act (w.words p.at)) t l w (owner_at P) (waits_at P) (seen_before w.shape (w.known t))
  counts = record {
    others = λ n s e. a.mine n s (seen_is_part w.shape (w.known t) n s e);
    unbiased = λ o s e g r. a.unbiased o (v.seen.unbiased t o s (seen_is_part w.shape (w.known t) (Mark o) s e) (inl a.runs) g);
    classed = λ o s e g r. v.seen.saw_classed t o s (seen_is_part w.shape (w.known t) (Mark o) s e) (inl a.runs) g;
    unwaiting = λ u o s e h g r. a.waits u o (v.seen.unwaiting t u o s (seen_is_part w.shape (w.known t) (Waiting u) s e) a.runs h g);
    unwaited = λ o s e r h g. v.seen.unwaited t o s (seen_is_part w.shape (w.known t) (Mark o) s e) a.runs h g;
    idle = λ o is r h g. a.idle o is g;
    monitors = λ m s r e. elim (v.seen.monitors t m s a.runs (e.0, e.1, seen_is_part w.shape (w.known t) e.0 s e.2)) [
      | inl h ↦ a.kept m h
      | inr h ↦ inr (h.0, a.names h.0 m h.1)
    ];
    fresh = λ m r is. a.fresh m is;
  }

  pub monitor_seen : SeenFit (hit_world w t p) P
  monitor_seen = seen_moves p (w.words p.at) t l w (owner_at P) (owner_at P) (waits_at P)
      (waits_at P) (seen_before w.shape (w.known t)) a.seen counts spares v.seen

-- where marks and prototypes are as they were, the others count on no more than before
pub others_by : (w x : World) (owner : ℕ → ℕ → Bool) → marks x ≡ marks w → prototype_of x ≡ prototype_of w
    → (u : ℕ) (n : WordId) (s : ℕ) → Stays x (w.known u) owner u n s → Stays w (w.known u) owner u n s
others_by w x owner mark prototype u n s = stays_back w x (w.known u) (w.known u) owner owner u
    (back_by w x (w.known u) (w.known u) owner owner u mark prototype (λ e. e) refl refl (λ e. e) refl (λ i h. h) (λ i a g h. h)) n s

-- WHAT COUNTS BESIDES. Thread u, which knew k in the world w, knows y in x: it counts on no more than before, but for these words.
pub record Nearly (w x : World) (k y : ThreadView) (owner : ℕ → ℕ → Bool) (u : ℕ) (besides : WordId → Type 0) : Type 0 where
  pub run : y.running ≡ true → k.running ≡ true
  pub ask : y.requesting ≡ true → k.requesting ≡ true
  pub not_revoking : revocation_in y.stage ≡ None → revocation_in k.stage ≡ None
  pub prototype : prototype_of x ≡ prototype_of w
  pub inflates : (i : Inflation) → inflation_in y.stage ≡ Some i
      → (inflation_in k.stage ≡ Some i) ⊎ (besides (Mark i.object) × besides (Displaced i.thread i.place))
  pub kept : (a : ℕ) → y.kept ≡ Some a → (k.kept ≡ Some a) ⊎ (besides (Owner a) × besides (Recursions a) × besides (Header a) × besides (Object a))
  pub held : (i a : ℕ) → y.running ≡ true → monitor_in (marks x i) ≡ Some a → (owner i u || bears y.stage i) ≡ true
      → ((monitor_in (marks w i) ≡ Some a) × ((owner i u || bears k.stage i) ≡ true)) ⊎ (besides (Owner a) × besides (Recursions a))

pub stays_nearly : {w x : World} {k y : ThreadView} {owner : ℕ → ℕ → Bool} {u : ℕ} (besides : WordId → Type 0)
    → Nearly w x k y owner u besides → (n : WordId) (s : ℕ) → Stays x y owner u n s → Stays w k owner u n s ⊎ besides n
stays_nearly {w} {x} {k} {y} {owner} {u} besides b n s (inr h) = inl (inr (b.ask h.0, b.not_revoking h.1, by_name n h.2))
  where
    by_name : (n : WordId) → StaysWhileAsking x n s → StaysWhileAsking w n s
    by_name (Prototype i) g = g
    by_name (Revocations i) g = g
    by_name (LastBulk i) g = g
    by_name (Class i) g = g
    by_name (Mark i) g = subst (IsValidBias (read_mark s)) (λ j. b.prototype j i) g
    by_name Safepoint g = g
    by_name (Stamp i) g = g
    by_name (Slot i j) g = g
    by_name (Hold i j) g = g
    by_name (Displaced i j) g = g
    by_name (Waiting i) g = g
    by_name (Length i) g = g
    by_name (Owner i) g = g
    by_name (Recursions i) g = g
    by_name (Header i) g = g
    by_name (Object i) g = g
    by_name Claim g = g
    by_name End g = g
    by_name (Ring i) g = g
stays_nearly {w} {x} {k} {y} {owner} {u} besides b n s (inl h) = by_name n h.1
  where
    is : (n : WordId) → StaysWhileRunning w k owner u n s → Stays w k owner u n s ⊎ besides n
    is n g = inl (inl (b.run h.0, g))

    by_name : (n : WordId) → StaysWhileRunning x y owner u n s → Stays w k owner u n s ⊎ besides n
    by_name Safepoint g = is Safepoint g
    by_name (Prototype i) g = is (Prototype i) g
    by_name (Revocations i) g = is (Revocations i) g
    by_name (LastBulk i) g = is (LastBulk i) g
    by_name (Class i) g = is (Class i) g
    by_name (Mark i) (inl g) = is (Mark i) (inl (subst (IsValidBias (read_mark s)) (λ j. b.prototype j i) g))
    by_name (Mark i) (inr (inl g)) = is (Mark i) (inr (inl g))
    by_name (Mark i) (inr (inr (inl g))) =
        elim (b.inflates g.0 g.1) [ inl a ↦ is (Mark i) (inr (inr (inl (g.0, a, g.2)))) | inr a ↦ inr (subst (λ j. besides (Mark j)) g.2 a.0) ]
    by_name (Mark i) (inr (inr (inr g))) = is (Mark i) (inr (inr (inr g)))
    by_name (Stamp i) g = is (Stamp i) g
    by_name (Slot i j) g = is (Slot i j) g
    by_name (Hold i j) g = is (Hold i j) g
    by_name (Displaced i j) (inl g) = is (Displaced i j) (inl g)
    by_name (Displaced i j) (inr g) = elim (b.inflates g.0 g.1) [
      | inl a ↦ is (Displaced i j) (inr (g.0, a, g.2))
      | inr a ↦ inr (subst (λ (z : ℕ × ℕ). besides (Displaced z.0 z.1)) (λ c. (g.2.0 c, g.2.1 c)) a.1)
    ]
    by_name (Waiting i) g = is (Waiting i) g
    by_name (Length i) g = is (Length i) g
    by_name (Owner a) (inl g) = elim (b.kept a g) [ inl c ↦ is (Owner a) (inl c) | inr c ↦ inr c.0 ]
    by_name (Owner a) (inr g) = elim (b.held g.0 a h.0 g.1 g.2) [ inl c ↦ is (Owner a) (inr (g.0, c.0, c.1)) | inr c ↦ inr c.0 ]
    by_name (Recursions a) (inl g) = elim (b.kept a g) [ inl c ↦ is (Recursions a) (inl c) | inr c ↦ inr c.1 ]
    by_name (Recursions a) (inr g) = elim (b.held g.0 a h.0 g.1 g.2) [ inl c ↦ is (Recursions a) (inr (g.0, c.0, c.1)) | inr c ↦ inr c.1 ]
    by_name (Header a) g = elim (b.kept a g) [ inl c ↦ is (Header a) c | inr c ↦ inr c.2 ]
    by_name (Object a) g = elim (b.kept a g) [ inl c ↦ is (Object a) c | inr c ↦ inr c.3 ]
    by_name Claim g = is Claim g
    by_name End g = is End g
    by_name (Ring i) g = is (Ring i) g

-- a thread that comes to keep a monitor counts on its words besides
pub stays_kept : (w : World) (k : ThreadView) (owner : ℕ → ℕ → Bool) (u c : ℕ) (n : WordId) (s : ℕ)
    → Stays w (record k { kept = Some c }) owner u n s → Stays w k owner u n s ⊎ (its_monitor n ≡ Some c)
stays_kept w k owner u c = stays_nearly {w = w} {x = w} {k = k} {y = record k { kept = Some c }} {owner = owner} {u = u} (λ n. its_monitor n ≡ Some c)
    (record {
      run = λ h. h;
      ask = λ h. h;
      not_revoking = λ h. h;
      prototype = refl;
      inflates = λ i h. inl h;
      kept = λ a h. inr (sym h, sym h, sym h, sym h);
      held = λ i a r n h. inl (n, h);
    })

-- who counts on a word of a monitor keeps it, or has the lock of the object whose mark names it
pub monitor_word_counts : (w : World) (k : ThreadView) (owner : ℕ → ℕ → Bool) (u m : ℕ) (n : WordId) (s : ℕ)
    → its_monitor n ≡ Some m → Stays w k owner u n s → (k.kept ≡ Some m) ⊎ IsOwnMonitor w k owner u m
monitor_word_counts w k owner u m n s is (inl h) = by_name n is h.1
  where
    by_name : (n : WordId) → its_monitor n ≡ Some m → StaysWhileRunning w k owner u n s → (k.kept ≡ Some m) ⊎ IsOwnMonitor w k owner u m
    by_name (Owner a) e (inl g) = inl (g ∙ e)
    by_name (Owner a) e (inr g) = inr (g.0, g.1 ∙ e, g.2)
    by_name (Recursions a) e (inl g) = inl (g ∙ e)
    by_name (Recursions a) e (inr g) = inr (g.0, g.1 ∙ e, g.2)
    by_name (Header a) e g = inl (g ∙ e)
    by_name (Object a) e g = inl (g ∙ e)
    by_name _ e g = absurd (cc e)
monitor_word_counts w k owner u m n s is (inr h) = absurd (by_name n is h.2)
  where
    by_name : (n : WordId) → its_monitor n ≡ Some m → StaysWhileAsking w n s → ⊥
    by_name (Owner a) e g = g
    by_name (Recursions a) e g = g
    by_name (Header a) e g = g
    by_name (Object a) e g = g
    by_name _ e g = absurd (cc e)

-- nobody else counts on a word of the monitor that the thread keeps
pub uncounted_kept : (w : World) (P : List PlainObject) (t m : ℕ) → Fits w P → (w.known t).kept ≡ Some m
    → (n : WordId) (u s : ℕ) → its_monitor n ≡ Some m → u ≢ t → Stays w (w.known u) (owner_at P) u n s → ⊥
uncounted_kept w P t m v kept n u s is d h = elim (monitor_word_counts w (w.known u) (owner_at P) u m n s is h) [
  | inl a ↦ d (kept_once v.claims u t m a kept)
  | inr a ↦ kept_apart v.claims t a.0 m kept a.1
]

-- nor does one who hasn't the lock on a word of the monitor that its mark names
pub uncounted_named : (w : World) (P : List PlainObject) (o m u : ℕ) → Fits w P → monitor_in (marks w o) ≡ Some m
    → is_thread (who w o) u ≡ false → (n : WordId) (s : ℕ) → its_monitor n ≡ Some m
    → Stays w (w.known u) (owner_at P) u n s → ⊥
uncounted_named w P o m u v named none n s is h = elim (monitor_word_counts w (w.known u) (owner_at P) u m n s is h) [
  | inl a ↦ kept_apart v.claims u o m a named
  | inr a ↦
      let same : a.0 ≡ o = v.monitors.alone a.0 o m a.1 named in
      let has : is_thread (who w o) u ≡ true = v.owners.same o u ∙ ap (λ i. owner_at P i u || bears (w.known u).stage i) (sym same) ∙ a.2 in
      absurd (cc (has, none))
]

-- so no other thread does where one has the lock
pub uncounted_held : (w : World) (P : List PlainObject) (t o m : ℕ) → Fits w P → monitor_in (marks w o) ≡ Some m → who w o ≡ Some t
    → (n : WordId) → its_monitor n ≡ Some m → (u s : ℕ) → u ≢ t → Stays w (w.known u) (owner_at P) u n s → w.words n ≡ s → ⊥
uncounted_held w P t o m v named has n its u s d h is =
    uncounted_named w P o m u v named (ap (λ a. is_thread a u) has ∙ ne_eqb t u (λ q. d (sym q))) n s its h
