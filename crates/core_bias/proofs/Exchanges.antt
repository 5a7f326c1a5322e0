-- A running thread exchanges an anonymous or stale mark, for its own bias or for a neutral one.
use Rattle.core_locks.proofs.Prelude.{◌≡◌, ℕ, ◌<◌, ◌==◌, ◌||◌, eqb-true, Bool, true, false, cond, if◌then◌else◌, List, Option, Some, refl}
use Rattle.core_locks.proofs.Prelude.{sym, ap, ◌∙◌, subst, inl, inr, MarkForm, Biased, read_mark, is_thread, PlainObject, CompareExchange}
use Rattle.core_locks.proofs.Prelude.{Mark, StepPlan, Settled, BiasAcquired, word_after, is_biased, monitor_in, inflation_in, bears}
use Rattle.core_locks.proofs.Prelude.{ThreadView, World, with_word_and_known, with_known, Lock, Open, BiasedTo, lock, lock_form, holder}
use Rattle.core_locks.proofs.Prelude.{marks, owner_words, prototype_of, inflations, hold_count, owner_at, waits_at, CallContext, with_stage}
use Rattle.core_locks.proofs.Prelude.{swap, IsValidBias, Stays, world_after, known_hit, known_miss, seen_before, Fits, SeenFit, seen_is_part}
use Rattle.core_locks.proofs.Prelude.{unwaited_fits, with_known_here, stays_back, Spares, counts_more, seen_moves}
use Rattle.core_world.specs.Words.Names.{has_class}
use Rattle.core_locks.proofs.MarkMeanings.{each_set}
use Rattle.core_locks.proofs.MarkChanges.{names_same, mark_back}
use Rattle.core_locks.proofs.Steps.{none_reached}
use Rattle.core_bias.proofs.Unseen.{FitsUnseen, set_mark, unseen, with_seen}
use Rattle.core_bias.proofs.ComesToTake.{OnlyTakes, takes_fits}
use Rattle.core_bias.proofs.Knows.{knows_fits, told_told}
use Rattle.core_bias.proofs.MarkTurns.{MarkTurns, mark_turned, biased_unnamed, biased_some}

-- a valid bias leans
valid_leans : (w : World) (o : ℕ) → IsValidBias (read_mark (marks w o)) (prototype_of w o) → lock w o ≡ Open → ⊥
valid_leans w o h e = by_form (read_mark (marks w o)) h e
  where
    by_form : (a : Option MarkForm) → IsValidBias a (prototype_of w o) → lock_form a (prototype_of w o) (owner_words w) (inflations w o) ≡ Open → ⊥
    by_form (Some (Biased t epoch age)) h e = let leans = ap (λ (b : Bool). if b then BiasedTo t else Open) h in absurd (cc (leans, e))
    by_form _ h e = h

module _ (w : World) (P : List PlainObject) (t : ℕ) (e : CallContext) (o mark m : ℕ) (f : Lock)
    (within : t < w.shape.threads) (runs : (w.known t).running ≡ true) (calm : (w.known t).stage ≡ Settled)
    (goes_on : e.unfinished ≡ (w.known t).unfinished) (hit : (w.words (Mark o) == mark) ≡ true)
    (open_was : lock w o ≡ Open) (turns_to : MarkTurns w o m f) (v : Fits w P) where
  abbrev plan : StepPlan
  plan = swap e (Mark o) mark m

  abbrev n : ℕ
  n = word_after (CompareExchange mark m) (w.words (Mark o))

  left : n ≡ m
  left = ap (λ (b : Bool). cond b m (w.words (Mark o))) hit

  turns : MarkTurns w o n f
  turns = subst (λ z. MarkTurns w o z f) (sym left) turns_to

  abbrev l : ThreadView
  l = known_hit w.shape w.start plan (w.words (Mark o)) (w.known t)

  abbrev x : World
  x = with_word_and_known (Mark o) n t l w

  unseen_now : FitsUnseen x P
  unseen_now =
      knows_fits (set_mark o n w) P t l
      (search (calm, sym goes_on))
      within (λ c. refl) (λ c. refl) (mark_turned w P o n f turns (unseen w P v))

  names : (i : ℕ) → monitor_in (marks w i) ≡ monitor_in (marks x i)
  names = names_same w o n t l (biased_unnamed (marks w o) turns.biased ∙ sym turns.unnamed)

  unowned : (u : ℕ) → owner_at P o u ≡ true → ⊥
  unowned u owns =
      let nobody = ap (λ z. is_thread (holder z (λ y. hold_count o (w.known y).holds)) u) open_was in
      let somebody = v.owners.same o u ∙ ap (λ b. b || bears (w.known u).stage o) owns in
      absurd (cc (nobody, somebody))

  -- no thread counts on the old mark
  uncounted : (u s : ℕ) → Stays w (w.known u) (owner_at P) u (Mark o) s → w.words (Mark o) ≡ s → ⊥
  uncounted u s st is =
      let bias : IsValidBias (read_mark s) (prototype_of w o)
      → ⊥ = λ h. valid_leans w o (subst (λ z. IsValidBias (read_mark z) (prototype_of w o)) (sym is) h) open_was in
      elim st [
        | inl a ↦ elim a.1 [
          | inl b ↦ bias b
          | inr b ↦ elim b [
            | inl c ↦ (let none = biased_unnamed (marks w o) turns.biased in let some = ap monitor_in is ∙ c.1 in absurd (cc (none, some)))
            | inr c ↦ elim c [
              | inl d ↦ biased_some (marks w o) turns.biased (ap (marks w) (sym d.2) ∙ v.inflating.zero u d.0 d.1)
              | inr d ↦ unowned u d.1
            ]
          ]
        ]
        | inr a ↦ bias a.2
      ]

  bias_forth : (i : ℕ) → is_biased (marks w i) ≡ false → is_biased (marks x i) ≡ false
  bias_forth i = each_set (λ j y. is_biased (marks w j) ≡ false → is_biased y ≡ false) o n
      (marks w) i (λ h. let yes = turns.biased in absurd (cc (yes, h))) (λ d h. h)

  spares : Spares (Mark o) n t l w (owner_at P) (owner_at P) (waits_at P) (waits_at P)
  spares = record {
    before = λ u name s d a g.
        stays_back w x (w.known u) (w.known u) (owner_at P) (owner_at P) u
        (mark_back w o n t l (w.known u) (w.known u) (owner_at P) (owner_at P) u
        (λ i a h. names i ∙ h) refl refl refl (λ z. z) refl (λ i h. h) (λ i a h b. b)) name s g;
    owned = λ u i d h. h;
    word = λ u s d st is. absurd (uncounted u s st is);
    bias = λ u i s e r. bias_forth i;
    there = λ i h. h;
    classed = λ i. each_set (λ j y. is_biased y ≡ true → has_class w.shape w.words j ≡ true) o n (marks w) i (λ h. v.seen.classed o turns.biased)
        (λ d. v.seen.classed i);
    waits = λ u i j d h g. g;
    unwaited = λ u i d h g. g;
    unreached = none_reached w P t l v runs refl;
    names = λ i a h. sym (names i) ∙ h;
  }

  held : (i a : ℕ) → monitor_in (marks x i) ≡ Some a → (owner_at P i t || bears l.stage i) ≡ true → (owner_at P i t || bears (w.known t).stage i) ≡ true
  held i a h b = ap (λ s. owner_at P i t || bears s i) calm ∙ b

  seen_now : SeenFit x P
  seen_now =
      seen_moves plan (w.words (Mark o)) t l w (owner_at P) (owner_at P) (waits_at P) (waits_at P) (seen_before w.shape (w.known t)) refl
      (counts_more (Mark o) n t l w (owner_at P) (owner_at P) (waits_at P) (waits_at P) (seen_before w.shape (w.known t)) (seen_is_part w.shape (w.known t))
      (mark_back w o n t l (w.known t) l (owner_at P) (owner_at P) t (λ i a h. names i ∙ h) refl refl
      (sym (ap inflation_in calm)) (λ z. v.quiet.none_revokes t) refl (λ i h. h) held)
      (λ a h. inl h) (λ a r h. absurd (cc h))
      (λ i h r own none. unwaited_fits w P v i (ap (λ j. monitor_in (marks w j)) (eqb-true i o h) ∙ biased_unnamed (marks w o) turns.biased))
      (λ i h g. g) spares (λ u i h g. g) v.seen)
      spares v.seen

  -- THE LAW where the exchange hits, and the thread stands in the middle of nothing then,
  exchanged : Fits x P
  exchanged = with_seen x P seen_now unseen_now

  -- or in the middle of taking the object
  abbrev y : ThreadView
  y = known_hit w.shape w.start (with_stage (BiasAcquired o) plan) (w.words (Mark o)) (w.known t)

  only : OnlyTakes (x.known t) y o
  only = subst (λ k. OnlyTakes k y o) (sym (with_known_here t l w.known)) (record { is = refl; seen = λ name. refl })

  taken : Fits (with_word_and_known (Mark o) n t y w) P
  taken =
      let again : with_known t y (with_known t l w.known) ≡ with_known t y w.known = told_told t y l w.known in
      subst (λ k. Fits (record { shape = w.shape; start = w.start; biasing = w.biasing; words = x.words; known = k }) P) again
      (takes_fits x P t o y within (ap (λ (k : ThreadView). k.running) (with_known_here t l w.known) ∙ runs)
      (ap (λ (k : ThreadView). k.stage) (with_known_here t l w.known)) only exchanged)

  hit_is : (p : StepPlan) → known_hit w.shape w.start p (w.words (Mark o)) (w.known t)
      ≡ cond (w.words (Mark o) == mark) (known_hit w.shape w.start p (w.words (Mark o)) (w.known t))
      (known_miss w.shape w.start p (w.words (Mark o)) (w.known t))
  hit_is p = ap (λ (b : Bool). cond b (known_hit w.shape w.start p (w.words (Mark o)) (w.known t))
      (known_miss w.shape w.start p (w.words (Mark o)) (w.known t))) (sym hit)

  pub exchanged_fits : Fits (world_after plan t w) P
  exchanged_fits = subst (λ k. Fits (with_word_and_known (Mark o) n t k w) P) (hit_is plan) exchanged

  pub taken_fits : Fits (world_after (with_stage (BiasAcquired o) plan) t w) P
  taken_fits = subst (λ k. Fits (with_word_and_known (Mark o) n t k w) P) (hit_is (with_stage (BiasAcquired o) plan)) taken
