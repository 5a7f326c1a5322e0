-- The law of biases after an exchange of a mark that is validly biased to nobody for the bias to the thread.
use Rattle.std.proofs.Common.{◌≡◌, ◌≢◌, ◌⊎◌, ℕ, ◌<◌, ◌≤◌, ◌==◌, ◌&&◌, eq-eqb, ne_eqb, eqb-true, cond, Bool}
use Rattle.std.proofs.Common.{true, false, List, Some, None, refl, sym, ap, ◌∙◌, subst, arith, inl, inr}
use Rattle.std.proofs.lemmas.Option.{same_Some}
use Rattle.mark_word.specs.declared.mark.MarkForm.TheVariants.{Biased}
use Rattle.mark_word.specs.Mark.{mark_of, read_mark}
use Rattle.mark_word.proofs.ReadingMarks.{read_mark-mark_of}
use Rattle.plain_monitor.specs.Limits.{most_threads}
use Rattle.plain_monitor.specs.declared.entry.Entry.TheVariants as entry
use Rattle.plain_monitor.specs.declared.entry.Path.{Path}
use Rattle.plain_monitor.specs.declared.entry.Path.TheVariants.{BiasTaken}
use Rattle.plain_monitor.specs.Objects.{PlainObject}
use Rattle.plain_monitor.specs.Order.{order}
use Rattle.plain_history.specs.EnterPaths.{PathFits, entries_on, is_by_bias}
use Rattle.plain_history.specs.HeldByLog.{held_by, nothing_held}
use Rattle.core_world.specs.declared.word_id.WordId.TheVariants.{Mark, Prototype, Class}
use Rattle.core_world.specs.declared.stage.Stage.TheVariants.{Settled, BiasAcquired}
use Rattle.core_world.specs.Threads.Counts.{counts_of}
use Rattle.core_world.specs.Clauses.Classes.{bulk_revokes}
use Rattle.core_world.specs.Words.Forms.{is_biased, epoch_form, epoch_in}
use Rattle.core_world.specs.Threads.ThreadView.{ThreadView}
use Rattle.core_world.specs.Locks.{BiasedTo, lock, has_epoch, is_valid_bias, marks, prototype_of}
use Rattle.core_world.specs.Trees.Plans.{CallContext, with_stage, swap}
use Rattle.core_world.specs.Words.Names.{class_by}
use Rattle.core_world.proofs.There.{class_seen}
use Rattle.core_world.specs.Threads.Stages.{path_into}
use Rattle.core_world.specs.Steps.{world_after, known_hit}
use Rattle.core_world.specs.Valid.{Fits}
use Rattle.core_world.specs.World.{World, with_word_and_known, logs}
use Rattle.core_world.proofs.KnowledgeParts.{by_equal, with_known_here}
use Rattle.core_locks.specs.Knowing.{GoesOn}
use Rattle.core_law.specs.BiasLaw.{BiasLawHolds}
use Rattle.core_law.specs.CountsAndVerdicts.{sum_below}
use Rattle.core_law.specs.BiasOwners.{IsFree, bias_owner, owner_form}
use Rattle.core_law.specs.MarksAndLogs.{is_anonymous}
use Rattle.bias_law.specs.Moves.{LogsNothing}
use Rattle.bias_law.specs.inner.FreeBiases.{TakesFreeBiases}
use Rattle.bias_law.specs.Steps.{MayTakeBias}
use Rattle.core_world.specs.Trees.BiasSteps.{rebias_plan}
use Rattle.core_world.proofs.Readings.{mark_one}
use Rattle.bias_law.proofs.bias.BiasDrops.{revokes_sum}
use Rattle.bias_law.proofs.enter_exit.Holds.{unheld_of}
use Rattle.bias_law.proofs.Leaning.{leans, still_leans, unleaning}
use Rattle.bias_law.proofs.Beside.{quiet_world, hit_keeps}
use Rattle.bias_law.proofs.bias.Walks.{epoch_small}

-- An exchange that hits, of a mark that is validly biased to nobody for the bias to the thread.
module _ (w : World) (t o mark found epoch : ℕ) (e : CallContext) (within : t < w.shape.threads) (few : w.shape.threads ≤ most_threads)
    (small : epoch < 4) (law : BiasLawHolds w) (calm : (w.known t).stage ≡ Settled) (goes : GoesOn (w.known t) e)
    (biased : is_biased (marks w o) ≡ true) (unleaning : (u : ℕ) → lock w o ≡ BiasedTo u → ⊥)
    (valid : epoch_in (prototype_of w o) ≡ Some epoch) (unheld : held_by nothing_held (w.known t).log o ≡ 0)
    (unrevoked : sum_below w.shape.threads (λ u. (counts_of (w.known u).counts (class_by w.shape w.words o)).revoke) ≡ 0) where
  abbrev bias : ℕ
  bias = mark_of (Biased t epoch 0)

  abbrev k : ThreadView
  k = known_hit w.shape w.start (with_stage (BiasAcquired o) (swap e (Mark o) mark (mark_of (Biased t epoch 0)))) found (w.known t)

  abbrev z : World
  z = with_word_and_known (Mark o) (mark_of (Biased t epoch 0)) t k w

  here : marks z o ≡ bias
  here = ap (λ (b : Bool). cond b bias (marks w o)) (eq-eqb o o refl)

  away : (i : ℕ) → i ≢ o → marks z i ≡ marks w i
  away i d = ap (λ (b : Bool). cond b bias (marks w i)) (ne_eqb i o d)

  reads : read_mark (marks z o) ≡ Some (Biased t epoch 0)
  reads = ap read_mark here ∙ read_mark-mark_of (Biased t epoch 0) (omega (arith, within, few), small, omega arith)

  lock_away : (i u : ℕ) → i ≢ o → lock w i ≡ BiasedTo u → lock z i ≡ BiasedTo u
  lock_away i u d = still_leans w z i (away i d) refl u

  lock_here : lock z o ≡ BiasedTo t
  lock_here =
      leans z o t
      (epoch, 0, reads, ap (λ m. is_valid_bias m (prototype_of w o)) reads ∙ ap (λ a. has_epoch a epoch) valid ∙ eq-eqb epoch epoch refl)

  stage_is : (z.known t).stage ≡ BiasAcquired o
  stage_is = ap (λ (k : ThreadView). k.stage) (with_known_here t k w.known)

  unfinished_is : (z.known t).unfinished ≡ e.unfinished
  unfinished_is = ap (λ (k : ThreadView). k.unfinished) (with_known_here t k w.known)

  -- the path that it is about to log
  into_here : path_into (z.known t).stage o ≡ Some BiasTaken
  into_here = ap (λ s. path_into s o) stage_is ∙ ap (λ (b : Bool). cond b (Some BiasTaken) None) (eq-eqb o o refl)

  into_only : (i : ℕ) (path : Path) → path_into (z.known t).stage i ≡ Some path → (o ≡ i) × (BiasTaken ≡ path)
  into_only i path h = by_test (o == i) refl (sym (ap (λ s. path_into s i) stage_is) ∙ h)
    where
      by_test : (b : Bool) → (o == i) ≡ b → cond (o == i) (Some BiasTaken) None ≡ Some path → (o ≡ i) × (BiasTaken ≡ path)
      by_test true s g = (eqb-true o i s, same_Some BiasTaken path (sym (ap (λ (c : Bool). cond c (Some BiasTaken) None) s) ∙ g))
      by_test false s g = absurd (let c = ap (λ (d : Bool). cond d (Some BiasTaken) None) s in cc (c, g))

  mine_goes : ((z.known t).unfinished ≡ (w.known t).unfinished) ⊎ ((w.known t).unfinished ≡ None)
  mine_goes = elim goes [ inl g ↦ inl (unfinished_is ∙ g) | inr g ↦ inr g ]

  quietly : LogsNothing w.biasing t (class_by w.shape w.words) (marks w) (lock w) (λ i. entries_on i (order (logs w)))
      (λ u. (w.known u).stage) (λ u. (w.known u).unfinished) (λ c. sum_below w.shape.threads (λ u. (counts_of (w.known u).counts c).revoke))
      (marks z) (lock z) (λ u. (z.known u).stage) (λ u. (z.known u).unfinished) (λ c. sum_below w.shape.threads (λ u. (counts_of (w.known u).counts c).revoke))
  quietly = record {
    pattern = λ i h. by_equal i o (λ s. ap (λ j. is_biased (marks w j)) s ∙ biased) (λ d. ap is_biased (sym (away i d)) ∙ h);
    owners = λ i u h. by_equal i o
        (λ s. inr (same_Some u t (sym h ∙ ap (λ j. bias_owner (marks z j)) s ∙ ap owner_form reads), ap (λ j. path_into (z.known t).stage j) s ∙ into_here))
        (λ d. inl (ap bias_owner (sym (away i d)) ∙ h));
    leans = λ i u path d h g. by_equal i o (λ s. absurd (unleaning u (ap (lock w) (sym s) ∙ g))) (λ n. lock_away i u n g);
    biased = λ i path h b. ap (lock z) (sym (into_only i path h).0) ∙ lock_here;
    unbiased = λ i path h b. absurd (let s = ap is_by_bias (into_only i path h).1 in cc (s, b));
    taking = λ i h. absurd (let s = ap (λ s. path_into s i) calm in cc (s, h));
    hash = λ i h. elim mine_goes [ inl g ↦ g ∙ h | inr g ↦ absurd (cc (g, h)) ];
    nobody = λ b i r f h. by_equal i o (λ s. inr (inl (ap (λ j. path_into (z.known t).stage j) s ∙ into_here))) (λ d. inl (ap is_anonymous (away i d) ∙ h));
    fewer = λ c h. h;
  }

  -- the bias was free
  takes_free : TakesFreeBiases t (class_by w.shape w.words) (marks w) (lock w) (λ u. (w.known u).stage) (λ c. sum_below w.shape.threads
      (λ u. (counts_of (w.known u).counts c).rebias)) (λ c. sum_below w.shape.threads (λ u. (counts_of (w.known u).counts c).revoke))
      (marks z) (lock z) (λ u. (z.known u).stage) (λ c. sum_below w.shape.threads (λ u. (counts_of (w.known u).counts c).rebias))
      (λ c. sum_below w.shape.threads (λ u. (counts_of (w.known u).counts c).revoke))
  takes_free = record {
    more = λ c. omega arith;
    comes = λ i h. inr (inl (subst (IsFree (class_by w.shape w.words) (marks w) (lock w)
        (λ c. sum_below w.shape.threads (λ u. (counts_of (w.known u).counts c).revoke))) (into_only i BiasTaken h).0 (unrevoked, biased, unleaning)));
    free = λ i f. by_equal i o (λ s. absurd (f.2 t (ap (lock z) s ∙ lock_here)))
        (λ d. inl (f.0, ap is_biased (sym (away i d)) ∙ f.1, λ u h. f.2 u (lock_away i u d h)));
  }

  path_fits : (i : ℕ) (path : Path) → path_into (z.known t).stage i ≡ Some path → PathFits (held_by nothing_held (w.known t).log) (entry.Enter i path)
  path_fits i path h =
      let only = into_only i path h in
      let first : PathFits (held_by nothing_held (w.known t).log) (entry.Enter o BiasTaken) = ap (λ n. (n == 0) && true) (sym unheld) in
      subst (λ j. PathFits (held_by nothing_held (w.known t).log) (entry.Enter j path)) only.0
      (subst (λ q. PathFits (held_by nothing_held (w.known t).log) (entry.Enter o q)) only.1 first)

  taken_hit : BiasLawHolds z
  taken_hit = quiet_world w (Mark o) (mark_of (Biased t epoch 0)) t k law refl refl goes (λ c. refl)
      (λ i. refl) quietly takes_free (λ i path h. path_fits i path (ap (λ s. path_into s i) stage_is ∙ h))

-- a class with such a prototype wasn't revoked in bulk
unrevoked_of : (w : World) (P : List PlainObject) (o epoch : ℕ) → Fits w P → is_biased (marks w o) ≡ true → epoch_in (prototype_of w o) ≡ Some epoch
    → sum_below w.shape.threads (λ u. (counts_of (w.known u).counts (class_by w.shape w.words o)).revoke) ≡ 0
unrevoked_of w P o epoch v biased valid = by_biasing w.biasing refl
  where
    none_revoked : (r : ℕ) (b : Bool) → (r == 0) ≡ b → (m : ℕ) → epoch_in (cond b m 1) ≡ Some epoch → r ≡ 0
    none_revoked r true e m h = eqb-true r 0 e
    none_revoked r false e m h = absurd (let none = ap epoch_form mark_one in cc (none, h))

    by_biasing : (b : Bool) → w.biasing ≡ b → sum_below w.shape.threads (λ u. (counts_of (w.known u).counts (class_by w.shape w.words o)).revoke) ≡ 0
    by_biasing true e =
        let c = class_by w.shape w.words o in
        let is = v.classes.prototypes e c in
        sym (revokes_sum w.shape.threads (λ u. (w.known u).counts) c)
        ∙ none_revoked (bulk_revokes w.shape.threads (λ u. (w.known u).counts) c) _ refl _ (ap epoch_in (sym is) ∙ valid)
    by_biasing false e = absurd (let none = v.classes.unbiased e o in cc (none, biased))

pub bias_taken : (w : World) (P : List PlainObject) (t : ℕ) (e : CallContext) (o mark prototype epoch : ℕ)
    → t < w.shape.threads → MayTakeBias w.shape (w.known t) e o mark prototype epoch
    → Fits w P → BiasLawHolds w → BiasLawHolds (world_after (rebias_plan e t o mark epoch) t w)
bias_taken w P t e o mark prototype epoch within may v law =
    hit_keeps w t (rebias_plan e t o mark epoch) law (λ h.
    let is : marks w o ≡ mark = eqb-true (marks w o) mark h in
    let class : class_by w.shape w.words o ≡ may.saw.class =
    class_seen w.shape w.words (w.known t).seen o may.saw.class (λ c k d. v.seen.stays t (Class o) c k (inl (may.runs, d))) may.saw.saw_class in
    let proto : prototype_of w o ≡ prototype = ap (λ c. w.words (Prototype c)) class
    ∙ v.seen.stays t (Prototype may.saw.class) prototype may.saw.seen (inl (may.runs, tt)) in
    let valid : epoch_in (prototype_of w o) ≡ Some epoch = ap epoch_in proto ∙ may.valid in
    let biased : is_biased (marks w o) ≡ true = ap is_biased is ∙ may.saw.biased in
    let free : is_valid_bias (read_mark (marks w o)) (prototype_of w o) ≡ false =
    ap (λ m. is_valid_bias (read_mark m) (prototype_of w o)) is ∙ ap (is_valid_bias (read_mark mark)) proto ∙ may.saw.free in
    subst (λ n. BiasLawHolds (with_word_and_known (Mark o) n t (known_hit w.shape w.start (rebias_plan e t o mark epoch) (marks w o) (w.known t)) w))
    (ap (λ (b : Bool). cond b (mark_of (Biased t epoch 0)) (marks w o)) (sym h))
    (taken_hit w t o mark (marks w o) epoch e within v.limits.threads (epoch_small _ (prototype_of w o) epoch refl valid) law may.calm may.goes_on biased
    (λ u. unleaning w o u free) valid (unheld_of w P t o within v biased (unleaning w o t free)) (unrevoked_of w P o epoch v biased valid)))
