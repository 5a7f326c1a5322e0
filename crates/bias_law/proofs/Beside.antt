-- The bias law of worlds after steps that log nothing: one that leaves the biases, and the store of a hold word.
use Rattle.std.proofs.Common.{◌≡◌, ◌⊎◌, ℕ, cond, Bool, true, false, List, Some, None, refl, sym, ap, ◌∙◌, subst, arith, inl, inr}
use Rattle.plain_monitor.specs.declared.entry.Entry.TheVariants as entry
use Rattle.plain_monitor.specs.declared.entry.Logged.{Logged}
use Rattle.plain_monitor.specs.declared.entry.Path.{Path}
use Rattle.plain_monitor.specs.declared.entry.Path.TheVariants.{BiasTaken}
use Rattle.plain_monitor.specs.Order.{order}
use Rattle.core_world.specs.declared.word_id.WordId.{WordId}
use Rattle.core_world.specs.declared.word_id.WordId.TheVariants.{Revocations, Class}
use Rattle.core_world.specs.Words.Names.{class_by}
use Rattle.core_world.specs.Threads.Counts.{ClassCounts, counts_of}
use Rattle.core_world.specs.Words.Forms.{is_biased}
use Rattle.core_world.specs.Threads.ThreadView.{ThreadView}
use Rattle.core_world.specs.Locks.{BiasedTo, lock, marks}
use Rattle.core_world.specs.Threads.Stages.{path_into}
use Rattle.core_world.specs.Words.Acts.{word_after, hits}
use Rattle.core_world.specs.declared.act.Act.{Act}
use Rattle.core_world.specs.declared.act.Act.TheVariants as act
use Rattle.core_world.specs.declared.plan.StepPlan.{StepPlan}
use Rattle.core_world.specs.Steps.{world_after, known_hit, known_miss}
use Rattle.bias_law.specs.Steps.{IsBeside}
use Rattle.bias_law.proofs.Leaning.{left_biases, left_counts, left_classes, by_class_words}
use Rattle.core_world.specs.World.{World, with_word_and_known, logs}
use Rattle.core_law.specs.BiasLaw.{BiasLaw, BiasLawHolds, is_logged}
use Rattle.plain_history.specs.EnterPaths.{PathFits, entries_on, is_by_bias}
use Rattle.plain_history.specs.HeldByLog.{held_by, nothing_held}
use Rattle.core_law.specs.CountsAndVerdicts.{sum_below}
use Rattle.bias_law.specs.Moves.{BiasesKept, OthersStay, LogsNothing}
use Rattle.bias_law.specs.inner.FreeBiases.{TakesFreeBiases}
use Rattle.core_world.proofs.KnowledgeParts.{with_known_here, with_known_else, part_moves, logs_stay}
use Rattle.bias_law.proofs.Whole.{quiet_law}

module _ (w : World) (at : WordId) (v t : ℕ) (l : ThreadView) (law : BiasLawHolds w)
    (same_log : l.log ≡ (w.known t).log) (same_counts : l.counts ≡ (w.known t).counts)
    (goes : (l.unfinished ≡ (w.known t).unfinished) ⊎ ((w.known t).unfinished ≡ None)) (same_count : (c : ℕ)
    → (with_word_and_known at v t l w).words (Revocations c) ≡ w.words (Revocations c)) where
  abbrev x : World
  x = with_word_and_known at v t l w

  abbrev revoked : ℕ → ℕ
  revoked c = sum_below w.shape.threads (λ u. (counts_of (w.known u).counts c).revoke)

  abbrev rebiased : ℕ → ℕ
  rebiased c = sum_below w.shape.threads (λ u. (counts_of (w.known u).counts c).rebias)

  rest_stays : OthersStay t (λ u. (w.known u).log) (λ u. (w.known u).stage) (λ u. (w.known u).unfinished)
      (λ u. (w.known u).log) (λ u. (x.known u).stage) (λ u. (x.known u).unfinished)
  rest_stays = record {
    logs = λ u d. refl;
    stages = λ u d. ap (λ (k : ThreadView). k.stage) (with_known_else t l w.known u d);
    operations = λ u d. ap (λ (k : ThreadView). k.unfinished) (with_known_else t l w.known u d);
  }

  stage_is : (x.known t).stage ≡ l.stage
  stage_is = ap (λ (k : ThreadView). k.stage) (with_known_here t l w.known)

  mine_goes : ((x.known t).unfinished ≡ (w.known t).unfinished) ⊎ ((w.known t).unfinished ≡ None)
  mine_goes = elim goes [ inl g ↦ inl (ap (λ (k : ThreadView). k.unfinished) (with_known_here t l w.known) ∙ g) | inr g ↦ inr g ]

  -- the law of the world afterwards, but with the classes as they were
  abbrev pub Unclassed : Type 0
  Unclassed =
      BiasLaw w.biasing w.shape.threads w.shape.classes (is_logged w.shape (logs x)) (class_by w.shape w.words) (marks x) (lock x)
      (λ i. entries_on i (order (logs x))) (λ u. (x.known u).log) (λ u. (x.known u).stage) (λ u. (x.known u).unfinished)
      (λ c. x.words (Revocations c)) (λ u. counts_of (x.known u).counts)

  -- the class words stay
  abbrev ClassesStay : Type 0
  ClassesStay = (i : ℕ) → x.words (Class i) ≡ w.words (Class i)

  classed : ClassesStay → Unclassed → BiasLawHolds x
  classed same_class =
      by_class_words (λ class. BiasLaw w.biasing w.shape.threads w.shape.classes (is_logged w.shape (logs x)) class (marks x) (lock x)
      (λ i. entries_on i (order (logs x))) (λ u. (x.known u).log) (λ u. (x.known u).stage) (λ u. (x.known u).unfinished)
      (λ c. x.words (Revocations c)) (λ u. counts_of (x.known u).counts)) w.shape w.words x.words (λ i. sym (same_class i))

  -- what the law of a quiet step asks for
  abbrev IsQuiet : Type 0
  IsQuiet =
      LogsNothing w.biasing t (class_by w.shape w.words) (marks w) (lock w) (λ i. entries_on i (order (logs w))) (λ u. (w.known u).stage)
      (λ u. (w.known u).unfinished) revoked (marks x) (lock x) (λ u. (x.known u).stage) (λ u. (x.known u).unfinished) revoked

  abbrev TakesFree : Type 0
  TakesFree =
      TakesFreeBiases t (class_by w.shape w.words) (marks w) (lock w) (λ u. (w.known u).stage) rebiased revoked
      (marks x) (lock x) (λ u. (x.known u).stage) rebiased revoked

  abbrev PathsFit : Type 0
  PathsFit = (i : ℕ) (path : Path) → path_into l.stage i ≡ Some path → PathFits (held_by nothing_held (w.known t).log) (entry.Enter i path)

  -- any step that logs nothing
  quiet_unclassed : IsQuiet → TakesFree → PathsFit → Unclassed
  quiet_unclassed a free fits =
      subst (λ (f : ℕ → ℕ). BiasLaw w.biasing w.shape.threads w.shape.classes (is_logged w.shape (logs x)) (class_by w.shape w.words)
      (marks x) (lock x) (λ i. entries_on i (order (logs x))) (λ u. (x.known u).log)
      (λ u. (x.known u).stage) (λ u. (x.known u).unfinished) f (λ u. counts_of (x.known u).counts))
      (λ i. λ c. sym (same_count c) i)
      (subst (λ (f : ℕ → ℕ → ClassCounts). BiasLaw w.biasing w.shape.threads w.shape.classes (is_logged w.shape (logs x)) (class_by w.shape w.words)
      (marks x) (lock x) (λ i. entries_on i (order (logs x))) (λ u. (x.known u).log) (λ u. (x.known u).stage) (λ u. (x.known u).unfinished)
      (λ c. w.words (Revocations c)) f)
      (part_moves (λ k. counts_of k.counts) t l w.known (ap counts_of (sym same_counts)))
      (subst (λ (f : ℕ → List Logged). BiasLaw w.biasing w.shape.threads w.shape.classes (is_logged w.shape (logs x)) (class_by w.shape w.words)
      (marks x) (lock x) (λ i. entries_on i (order (logs x))) f (λ u. (x.known u).stage)
      (λ u. (x.known u).unfinished) (λ c. w.words (Revocations c)) (λ u. counts_of (w.known u).counts))
      (part_moves (λ k. k.log) t l w.known (sym same_log))
      (subst (λ (ls : List (List Logged)). BiasLaw w.biasing w.shape.threads w.shape.classes (is_logged w.shape ls) (class_by w.shape w.words)
      (marks x) (lock x) (λ i. entries_on i (order ls)) (λ u. (w.known u).log) (λ u. (x.known u).stage) (λ u. (x.known u).unfinished)
      (λ c. w.words (Revocations c)) (λ u. counts_of (w.known u).counts))
      (sym (logs_stay 0 w.shape.threads t l w.known same_log))
      (quiet_law w.biasing w.shape.threads w.shape.classes (is_logged w.shape (logs w)) (class_by w.shape w.words) (marks w) (lock w)
      (λ i. entries_on i (order (logs w))) (λ u. (w.known u).log) (λ u. (w.known u).stage) (λ u. (w.known u).unfinished)
      (λ c. w.words (Revocations c)) (λ u. counts_of (w.known u).counts) (marks x) (lock x) (λ u. (x.known u).stage) (λ u. (x.known u).unfinished) t law
      rest_stays a free (λ i path h. fits i path (ap (λ s. path_into s i) (sym stage_is) ∙ h)) mine_goes))))

  pub quiet_world : ClassesStay → IsQuiet → TakesFree → PathsFit → BiasLawHolds x
  quiet_world same_class a free fits = classed same_class (quiet_unclassed a free fits)

  -- a step that leaves the biases frees none
  takes_none : BiasesKept (marks w) (lock w) (marks x) (lock x)
      → ((i : ℕ) → path_into (x.known t).stage i ≡ Some BiasTaken → path_into (w.known t).stage i ≡ Some BiasTaken) → TakesFree
  takes_none kept back = record {
    more = λ c. omega arith;
    comes = λ i h. inl (back i h);
    free = λ i f. inl (f.0, sym (kept.pattern i) ∙ f.1, λ u h. f.2 u (kept.leans i u h));
  }

  -- one that leaves the biases, and is about to log the enter that it was about to log
  pub same_unclassed : BiasesKept (marks w) (lock w) (marks x) (lock x) → ((i : ℕ) → path_into l.stage i ≡ path_into (w.known t).stage i) → Unclassed
  same_unclassed kept into =
      let back : (i : ℕ) (path : Path) → path_into (x.known t).stage i ≡ Some path → path_into (w.known t).stage i ≡ Some path =
      λ i path h. sym (into i) ∙ ap (λ s. path_into s i) (sym stage_is) ∙ h in
      quiet_unclassed
      (record {
        pattern = λ i h. sym (kept.pattern i) ∙ h;
        owners = λ i u h. inl (sym (kept.owners i) ∙ h);
        leans = λ i u path d h g. kept.leans i u g;
        biased = λ i path h g. kept.leans i t (law.marks.biased t i path (back i path h) g);
        unbiased = λ i path h g. kept.pattern i ∙ law.marks.unbiased t i path (back i path h) g;
        taking = λ i h. ap (λ s. path_into s i) stage_is ∙ into i ∙ h;
        hash = λ i h. elim mine_goes [ inl g ↦ g ∙ h | inr g ↦ absurd (cc (g, h)) ];
        nobody = λ b i r f h. inl (kept.nobody i ∙ h);
        fewer = λ c h. h;
      })
      (takes_none kept (λ i h. back i BiasTaken h))
      (λ i path h. law.paths.coming t i path (sym (into i) ∙ h))

  pub same_world : ClassesStay → BiasesKept (marks w) (lock w) (marks x) (lock x) → ((i : ℕ) → path_into l.stage i ≡ path_into (w.known t).stage i)
      → BiasLawHolds x
  same_world same_class kept into = classed same_class (same_unclassed kept into)

  -- one that leaves the biases, and by which the thread is about to log this enter
  pub coming_world : ClassesStay → (o : ℕ) (path : Path) → BiasesKept (marks w) (lock w) (marks x) (lock x)
      → ((i : ℕ) (other : Path) → path_into l.stage i ≡ Some other → (o ≡ i) × (path ≡ other)) → path_into l.stage o ≡ Some path
      → ((i : ℕ) → path_into (w.known t).stage i ≡ Some BiasTaken → (o ≡ i) × (path ≡ BiasTaken))
      → (is_by_bias path ≡ true → lock w o ≡ BiasedTo t) → (is_by_bias path ≡ false → is_biased (marks w o) ≡ false)
      → (path ≡ BiasTaken → ⊥) → PathFits (held_by nothing_held (w.known t).log) (entry.Enter o path) → BiasLawHolds x
  coming_world same_class o path kept only into taken by_bias not_by not_taken fits =
      let mine : (i : ℕ) (other : Path) → path_into (x.known t).stage i ≡ Some other
      → (o ≡ i) × (path ≡ other) = λ i other h. only i other (ap (λ s. path_into s i) (sym stage_is) ∙ h) in
      quiet_world same_class
      (record {
        pattern = λ i h. sym (kept.pattern i) ∙ h;
        owners = λ i u h. inl (sym (kept.owners i) ∙ h);
        leans = λ i u other d h g. kept.leans i u g;
        biased = λ i other h g. let k = mine i other h in kept.leans i t (ap (lock w) (sym k.0) ∙ by_bias (ap is_by_bias k.1 ∙ g));
        unbiased = λ i other h g. let k = mine i other h in kept.pattern i ∙ ap (λ j. is_biased (marks w j)) (sym k.0) ∙ not_by (ap is_by_bias k.1 ∙ g);
        taking = λ i h. let k = taken i h in ap (λ s. path_into s i) stage_is ∙ ap (path_into l.stage) (sym k.0) ∙ into ∙ ap Some k.1;
        hash = λ i h. elim mine_goes [ inl g ↦ g ∙ h | inr g ↦ absurd (cc (g, h)) ];
        nobody = λ b i r f h. inl (kept.nobody i ∙ h);
        fewer = λ c h. h;
      })
      (takes_none kept (λ i h. absurd (not_taken (mine i BiasTaken h).1)))
      (λ i other h. let k = only i other h in
      subst (λ j. PathFits (held_by nothing_held (w.known t).log) (entry.Enter j other)) k.0
      (subst (λ q. PathFits (held_by nothing_held (w.known t).log) (entry.Enter o q)) k.1 fits))

-- an act that misses leaves its word
missed : (a : Act) (n : ℕ) → hits a n ≡ false → word_after a n ≡ n
missed act.Load n h = refl
missed (act.CompareExchange expected word) n h = ap (λ (b : Bool). cond b word n) h
missed _ n h = absurd (cc h)

-- THE STEP OF A PLAN
module _ (w : World) (t : ℕ) (p : StepPlan) (law : BiasLawHolds w) where
  abbrev n : ℕ
  n = w.words p.at

  -- what its thread knows afterwards, where it hits and where it misses
  abbrev hit : ThreadView
  hit = known_hit w.shape w.start p (w.words p.at) (w.known t)

  abbrev miss : ThreadView
  miss = known_miss w.shape w.start p (w.words p.at) (w.known t)

  abbrev with : Bool → World
  with b = with_word_and_known p.at (word_after p.act (w.words p.at)) t
      (cond b (known_hit w.shape w.start p (w.words p.at) (w.known t)) (known_miss w.shape w.start p (w.words p.at) (w.known t))) w

  without : hits p.act (w.words p.at) ≡ false → BiasLawHolds (with false)
  without h =
      let leaves = inr (inl (missed p.act (w.words p.at) h)) in
      same_world w p.at (word_after p.act (w.words p.at)) t miss law refl refl (inl refl)
      (left_counts w p.at _ t miss leaves) (left_classes w p.at _ t miss leaves) (left_biases w p.at _ t miss leaves) (λ i. refl)

  -- one that misses
  pub missed_keeps : hits p.act (w.words p.at) ≡ false → BiasLawHolds (world_after p t w)
  missed_keeps h = subst (λ b. BiasLawHolds (with b)) (sym h) (without h)

  -- one that hits, as the world after the hit says
  pub hit_keeps : (hits p.act (w.words p.at) ≡ true → BiasLawHolds (with_word_and_known p.at (word_after p.act (w.words p.at)) t hit w))
      → BiasLawHolds (world_after p t w)
  hit_keeps h = by_test (hits p.act (w.words p.at)) refl
    where
      by_test : (b : Bool) → hits p.act (w.words p.at) ≡ b → BiasLawHolds (with b)
      by_test true e = h e
      by_test false e = without e

  -- and one beside the biases
  pub beside_keeps : IsBeside w t p → BiasLawHolds (world_after p t w)
  beside_keeps a = hit_keeps (λ h.
      same_world w p.at (word_after p.act (w.words p.at)) t hit law
      a.log (a.own (w.known t).counts) a.goes_on
      (left_counts w p.at _ t hit a.leaves) (left_classes w p.at _ t hit a.leaves) (left_biases w p.at _ t hit a.leaves) a.stands)
