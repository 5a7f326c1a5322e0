-- The law of biases after the store of a hold word, with which a thread is about to log an Enter.
use Rattle.std.proofs.Common.{◌≡◌, ◌⊎◌, ℕ, ◌<◌, ◌≤◌, ◌==◌, ◌&&◌, not, eq-eqb, ne_eqb, eqb-true, cond, Bool, true}
use Rattle.std.proofs.Common.{false, List, Option, Some, None, refl, sym, ap, ◌∙◌, subst, arith, inl, inr}
use Rattle.std.proofs.lemmas.Option.{same_Some}
use Rattle.mark_word.specs.declared.mark.MarkForm.{MarkForm}
use Rattle.mark_word.specs.declared.mark.MarkForm.TheVariants.{Biased}
use Rattle.mark_word.specs.Mark.{read_mark}
use Rattle.plain_monitor.specs.declared.entry.Path.{Path}
use Rattle.plain_monitor.specs.declared.entry.Path.TheVariants.{BiasOwn, BiasTaken, StackFirst, StackAgain, MonitorFirst, MonitorAgain}
use Rattle.plain_monitor.specs.Objects.{PlainObject}
use Rattle.plain_history.specs.EnterPaths.{is_by_bias, is_own, is_first}
use Rattle.plain_history.specs.HeldByLog.{held_by, nothing_held}
use Rattle.core_world.specs.declared.word_id.WordId.TheVariants.{Mark, Prototype, Hold, Class}
use Rattle.core_world.specs.declared.stage.Stage.TheVariants.{BiasAcquired}
use Rattle.core_world.specs.Words.Forms.{is_biased, epoch_in, hold_word}
use Rattle.core_world.specs.Threads.ThreadView.{ThreadView}
use Rattle.core_world.specs.Locks.{BiasedTo, lock, is_valid_bias, marks, hold_count, prototype_of}
use Rattle.core_world.specs.Trees.Plans.{CallContext}
use Rattle.core_world.specs.Clauses.SeenWords.{IsValidBias}
use Rattle.core_world.specs.Words.Names.{class_by}
use Rattle.core_world.proofs.There.{class_seen}
use Rattle.core_world.specs.Threads.Stages.{hold_words_ahead, path_into}
use Rattle.core_world.specs.Steps.{world_after, known_hit}
use Rattle.core_world.specs.Valid.{Fits}
use Rattle.core_world.specs.World.{World}
use Rattle.core_world.specs.Trees.LockSteps.{hold_plan}
use Rattle.core_law.specs.BiasLaw.{BiasLawHolds}
use Rattle.core_locks.specs.Knowing.{IsBiasTo, SawOwnBias}
use Rattle.bias_law.specs.Steps.{WentBefore, MayComeBy}
use Rattle.bias_law.proofs.enter_exit.Holds.{held_named}
use Rattle.bias_law.proofs.Leaning.{leans, rests_unbiased, manned_unbiased, inflated_unbiased, left_biases, left_counts}
use Rattle.bias_law.proofs.Logged.{unbiased_still}
use Rattle.bias_law.proofs.Beside.{coming_world, hit_keeps, beside_keeps}

-- a mark that is validly biased to thread t
biased_form : (t : ℕ) (m : Option MarkForm) (p : ℕ) → IsBiasTo t m (epoch_in p)
    → (epoch age : ℕ) × (m ≡ Some (Biased t epoch age)) × (is_valid_bias m p ≡ true) × IsValidBias m p
biased_form t (Some (Biased u epoch age)) p h = (epoch, age, ap (λ z. Some (Biased z epoch age)) h.0, h.1, h.1)
biased_form t _ p h = absurd h

-- a thread that saw its own bias has it still
own_still : (w : World) (P : List PlainObject) (t o : ℕ) → Fits w P → (w.known t).running ≡ true → SawOwnBias w.shape (w.known t) o → lock w o ≡ BiasedTo t
own_still w P t o v runs saw =
    let class : class_by w.shape w.words o ≡ saw.2 =
    class_seen w.shape w.words (w.known t).seen o saw.2 (λ c k d. v.seen.stays t (Class o) c k (inl (runs, d))) saw.4 in
    let proto : prototype_of w o ≡ saw.1 = ap (λ c. w.words (Prototype c)) class ∙ v.seen.stays t (Prototype saw.2) saw.1 saw.5 (inl (runs, tt)) in
    let its : IsBiasTo (w.known t).thread (read_mark saw.0) (epoch_in (prototype_of w o)) =
    subst (λ z. IsBiasTo (w.known t).thread (read_mark saw.0) (epoch_in z)) (sym proto) saw.6 in
    let form = biased_form (w.known t).thread (read_mark saw.0) (prototype_of w o) its in
    let is : marks w o ≡ saw.0 = v.seen.stays t (Mark o) saw.0 saw.3 (inl (runs, inl form.4)) in
    leans w o t (
      form.0,
      form.1,
      ap read_mark is ∙ form.2 ∙ ap (λ u. Some (Biased u form.0 form.1)) (v.numbered t),
      ap (λ m. is_valid_bias (read_mark m) (prototype_of w o)) is ∙ form.3,
    )

-- what a thread comes to an Enter by, in its world
record Comes (w : World) (t o : ℕ) (path : Path) : Type 0 where
  none : (i : ℕ) → path_into (w.known t).stage i ≡ None
  even : hold_words_ahead (w.known t).stage o ≡ 0
  first : is_first path ≡ ((hold_count o (w.known t).holds == 0) && not (is_own path))
  leaning : is_by_bias path ≡ true → lock w o ≡ BiasedTo t
  unbiased : is_by_bias path ≡ false → is_biased (marks w o) ≡ false
  other : path ≡ BiasTaken → ⊥

module _ (w : World) (P : List PlainObject) (t o p : ℕ) (v : Fits w P) (runs : (w.known t).running ≡ true) where
  -- a first hold, and a further one
  empty : (n : ℕ) → n ≡ 0 → true ≡ ((n == 0) && true)
  empty n e = ap (λ m. (m == 0) && true) (sym e)

  some : (n : ℕ) → 1 ≤ n → false ≡ ((n == 0) && true)
  some n h = ap (λ (b : Bool). b && true) (sym (ne_eqb n 0 (λ e. absurd (omega (arith, h, e)))))

  own_bias : (b : Bool) → false ≡ (b && false)
  own_bias true = refl
  own_bias false = refl

  by_path : (path : Path) → WentBefore w.biasing w.shape (w.known t) o p path → (path ≡ BiasTaken) ⊎ Comes w t o path
  by_path BiasTaken h = inl refl
  by_path BiasOwn h = inr (record {
    none = λ i. ap (λ s. path_into s i) h.0;
    even = ap (λ s. hold_words_ahead s o) h.0;
    first = own_bias (hold_count o (w.known t).holds == 0);
    leaning = λ b. own_still w P t o v runs h.1;
    unbiased = λ b. absurd (cc b);
    other = λ e. cc e;
  })
  by_path StackFirst h = let seized = v.records.seized o t p h in inr (record {
    none = λ i. ap (λ s. path_into s i) h;
    even = ap (λ s. hold_words_ahead s o) h;
    first = empty (hold_count o (w.known t).holds) seized.3;
    leaning = λ b. absurd (cc b);
    unbiased = λ b. rests_unbiased w o t p seized.0;
    other = λ e. cc e;
  })
  by_path StackAgain h = inr (record {
    none = λ i. ap (λ s. path_into s i) h.0;
    even = ap (λ s. hold_words_ahead s o) h.0;
    first = some (hold_count o (w.known t).holds) h.1;
    leaning = λ b. absurd (cc b);
    unbiased = λ b. elim h.2 [ inl plain ↦ v.classes.unbiased plain o | inr saw ↦ unbiased_still w P t o v runs saw ];
    other = λ e. cc e;
  })
  by_path MonitorFirst h = let grabbed = v.records.grabbed o t h in inr (record {
    none = λ i. ap (λ s. path_into s i) h;
    even = ap (λ s. hold_words_ahead s o) h;
    first = empty (hold_count o (w.known t).holds) grabbed.1;
    leaning = λ b. absurd (cc b);
    unbiased = λ b. manned_unbiased w o t grabbed.0;
    other = λ e. cc e;
  })
  by_path MonitorAgain h = let saw = h.2.1 in inr (record {
    none = λ i. ap (λ s. path_into s i) h.0;
    even = ap (λ s. hold_words_ahead s o) h.0;
    first = some (hold_count o (w.known t).holds) h.1;
    leaning = λ b. absurd (cc b);
    unbiased = λ b. unbiased_still w P t o v runs (saw.0, saw.1, inflated_unbiased saw.0 h.2.0 saw.2);
    other = λ e. cc e;
  })

module _ (w : World) (P : List PlainObject) (t : ℕ) (e : CallContext) (o d p : ℕ) (path : Path) (within : t < w.shape.threads)
    (may : MayComeBy w.biasing w.shape (w.known t) e o p path) (v : Fits w P) (law : BiasLawHolds w) where
  abbrev l : ThreadView
  l = known_hit w.shape w.start (hold_plan e t o d p path) (w.words (Hold t p)) (w.known t)

  -- it has taken the bias, and its path is as it was
  taken : path ≡ BiasTaken → BiasLawHolds (world_after (hold_plan e t o d p path) t w)
  taken h =
      let stage : (w.known t).stage ≡ BiasAcquired o = subst (WentBefore w.biasing w.shape (w.known t) o p) h may.before in
      beside_keeps w t (hold_plan e t o d p path) law
      (record {
        log = refl;
        own = λ counts. refl;
        goes_on = may.goes_on;
        stands = λ i. ap (λ (q : Path). cond (o == i) (Some q) None) h ∙ ap (λ s. path_into s i) (sym stage);
        leaves = inl refl;
      })

  -- the path that it is about to log
  only : (i : ℕ) (other : Path) → cond (o == i) (Some path) None ≡ Some other → (o ≡ i) × (path ≡ other)
  only i other h = by_test (o == i) refl h
    where
      by_test : (b : Bool) → (o == i) ≡ b → cond b (Some path) None ≡ Some other → (o ≡ i) × (path ≡ other)
      by_test true s g = (eqb-true o i s, same_Some path other g)
      by_test false s g = absurd (cc g)

  comes : Comes w t o path → BiasLawHolds (world_after (hold_plan e t o d p path) t w)
  comes h = hit_keeps w t (hold_plan e t o d p path) law (λ hits.
      let named_is : hold_count o (w.known t).holds ≡ held_by nothing_held (w.known t).log o =
      let a = h.even in let b = held_named w P t o within v in omega (arith, a, b) in
      coming_world w (Hold t p) (hold_word o d) t l law refl refl may.goes_on (left_counts w (Hold t p) (hold_word o d) t l (inl refl)) (λ i. refl) o path
      (left_biases w (Hold t p) (hold_word o d) t l (inl refl)) only (ap (λ (b : Bool). cond b (Some path) None) (eq-eqb o o refl))
      (λ i g. absurd (let n = h.none i in cc (n, g))) h.leaning h.unbiased h.other
      (h.first ∙ ap (λ n. (n == 0) && not (is_own path)) named_is))

  pub hold_stored : BiasLawHolds (world_after (hold_plan e t o d p path) t w)
  hold_stored = elim (by_path w P t o p v may.runs path may.before) [ inl h ↦ taken h | inr h ↦ comes h ]
