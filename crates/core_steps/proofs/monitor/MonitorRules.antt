-- The laws of core_locks on the words of monitors, as rules of the logic.
use Rattle.std.proofs.Common.{◌≡◌, ℕ, ◌<◌, true, None, refl, sym, ◌∙◌, subst, arith}
use Rattle.std.proofs.lemmas.Nat.{mod_below, pow_pos}
use Rattle.std.proofs.lemmas.Option.{same_Some}
use Rattle.plain_monitor.specs.declared.entry.Entry.TheVariants.{Exit}
use Rattle.core_world.specs.declared.word_id.WordId.{WordId}
use Rattle.core_world.specs.declared.word_id.WordId.TheVariants as id
use Rattle.core_world.specs.declared.stage.Stage.TheVariants.{Settled}
use Rattle.core_world.specs.Threads.ThreadView.{ThreadView}
use Rattle.core_world.specs.Threads.References.{HasReference}
use Rattle.core_world.specs.Looking.{HasFound, IsOfMonitor}
use Rattle.core_world.specs.Trees.MonitorSteps.{claim_plan, fetch_plan, prepare_plan, inflate_plan, name_plan, name_neutral_plan, grab_plan}
use Rattle.core_world.specs.Trees.MonitorSteps.{take_over_plan, raise_count_plan, lower_count_plan, reset_count_plan, free_plan}
use Rattle.core_world.specs.Trees.Plans.{CallContext, load_plan}
use Rattle.core_world.specs.Trees.WaitSteps.{save_count_plan, drop_plan, quit_plan, regain_plan, restore_plan}
use Rattle.core_world.specs.There.{IsIn}
use Rattle.core_world.specs.Words.Shape.{Shape, monitor_count, ring_bits, ring_places}
use Rattle.core_world.specs.Steps.{world_after}
use Rattle.core_world.specs.Valid.{IsValid}
use Rattle.core_locks.specs.Knowing.{GoesOn, KeepsValid, SawInflated}
use Rattle.core_locks.specs.MonitorLaws.{MayClaim, MayFetch, MayPrepare, MayPrepareOwner, MayPrepareObject, MayCount, MaySaveCount}
use Rattle.core_locks.specs.MonitorLaws.{MayRaiseCount, MayLowerCount, MayResetCount, MayTakeOver, MayGrab, MayInflate, MayName}
use Rattle.core_locks.specs.MonitorLaws.{MayNameNeutral, MayFree, MayDrop, MayQuit, MayRegain, MayRestore}
use Rattle.core_locks.proofs.monitor.SwapLaws.{found_by_mark}
use Rattle.core_locks.proofs.monitor.Claims.{claims_one}
use Rattle.core_locks.proofs.monitor.Fetches.{fetches_one}
use Rattle.core_locks.proofs.monitor.Prepares.{prepares_owner, prepares_recursions, prepares_header, prepares_object}
use Rattle.core_locks.proofs.monitor.Counting.{raises_count, lowers_count, resets_count}
use Rattle.core_locks.proofs.monitor.TakesOver.{takes_over_own}
use Rattle.core_locks.proofs.monitor.Grabs.{grabs_free}
use Rattle.core_locks.proofs.monitor.Inflates.{inflates_locked}
use Rattle.core_locks.proofs.monitor.NamesLaws.{names_inflated, names_neutral}
use Rattle.core_locks.proofs.monitor.Frees.{frees_owner}
use Rattle.core_locks.proofs.wait.LetsGo.{drops_recursions, quits_monitor}
use Rattle.core_locks.proofs.wait.Regains.{regains_free}
use Rattle.core_locks.proofs.wait.Restores.{restores_recursions}
use Rattle.core_locks.proofs.wait.Saves.{saves_count}
use Rattle.bias_law.proofs.LoggedKinds as logged
use Rattle.bias_law.proofs.QuietKinds as quiet
use Rattle.bias_law.specs.Steps.{KeepsBiases}
use Rattle.core_law.specs.BiasLaw.{BiasLawHolds}
use Rattle.core_law.specs.Logic.{Heap, SoundWorldWith, Keeps}
use Rattle.core_steps.proofs.FairSteps.{Begins, begins_none, works_making_none, told}
use Rattle.core_steps.proofs.FairLooks.{Sees}
use Rattle.core_steps.proofs.LawRules.{kept_in, monitor_in_heap, keeps, enters_in_log}
use Rattle.core_steps.proofs.Looks.{looks_where}

-- the heap has the words of a monitor that it has
word_in : (s : Shape) (n : WordId) (m : ℕ) → IsOfMonitor m n → m < monitor_count s → IsIn s n
word_in s (id.Owner i) m its h = let same = same_Some i m its in omega (arith, same, h)
word_in s (id.Recursions i) m its h = let same = same_Some i m its in omega (arith, same, h)
word_in s (id.Header i) m its h = let same = same_Some i m its in omega (arith, same, h)
word_in s (id.Object i) m its h = let same = same_Some i m its in omega (arith, same, h)
word_in s _ m its h = absurd (cc its)

-- and a word of a monitor is no mark
sees_none : (s : Shape) (k : ThreadView) (n : WordId) (m : ℕ) → IsOfMonitor m n → Sees s k n
sees_none s k (id.Mark o) m its = absurd (cc its)
sees_none s k n m its = tt

-- the laws of the load of a ring place, whose plan names the shape, for the shape that a heap has
fetches_in : (s : Shape) (e : CallContext) (p : ℕ) → KeepsValid (λ w t. (w.shape ≡ s) × MayFetch (w.known t) e p) (λ w t. fetch_plan e s p)
fetches_in s e p w P t within (same, may) valid = subst (λ z. IsValid (world_after (fetch_plan e z p) t w) P) same (fetches_one e p w P t within may valid)

fetches_biases : (s : Shape) (e : CallContext) (p : ℕ) → KeepsBiases (λ w t. (w.shape ≡ s) × MayFetch (w.known t) e p) (λ w t. fetch_plan e s p)
fetches_biases s e p w P t within (same, may) v law =
    subst (λ z. BiasLawHolds (world_after (fetch_plan e z p) t w)) same (quiet.fetches e p w P t within may v law)

module _ (heap : Heap) (k : ThreadView) where
  -- LOOKS at a word of o's monitor, which a mark that was seen in this call names
  pub looks_at_monitor : (e : CallContext) (n : WordId) (o m : ℕ) → IsOfMonitor m n → k.running ≡ true → SawInflated k o m → GoesOn k e → e.check ≡ k.checking
      → Begins heap.shape k e.unfinished → Keeps heap (load_plan e k.stage n) k
  looks_at_monitor e n o m its runs saw goes check begins = looks_where heap k e k.stage n refl check goes (record {
    outside = λ stopped. absurd (cc (stopped, runs));
    found = λ r a of. subst (HasFound k) (same_Some _ _ (sym its ∙ of)) (found_by_mark k o m saw);
  }) (λ v. word_in heap.shape n m its (monitor_in_heap heap k o m runs saw v)) begins (sees_none heap.shape k n m its)

  pub saves_rule : (e : CallContext) (o m : ℕ) → (SoundWorldWith heap k → MayCount k e o m × (k.stage ≡ Settled))
      → Begins heap.shape k e.unfinished → Keeps heap (save_count_plan e m) k
  saves_rule e o m may begins =
      keeps heap k (λ s y. MaySaveCount y e o m) (λ t y. save_count_plan e m) (saves_count e o m) (quiet.saves_count e o m) (λ t y h. refl)
      (λ s y a. a.counts.runs) (λ v. let a = may v in (monitor_in_heap heap k o m a.0.runs a.0.inflated v, tt))
      (λ v. let a = may v in record { counts = a.0; calm = a.1 }) (λ v. (refl, tt, tt)) begins

  -- A NEW MONITOR is claimed by its ring position, which is loaded, and its words are stored.
  pub claims_rule : (e : CallContext) → (SoundWorldWith heap k → MayClaim k e) → Begins heap.shape k e.unfinished → Keeps heap (claim_plan e) k
  claims_rule e may begins =
      keeps heap k (λ s y. MayClaim y e) (λ t y. claim_plan e) (claims_one e) (quiet.claims e) (λ t y h. refl) (λ s y a. a.runs) (λ v. (tt, tt)) may
      (λ v. (refl, tt, tt)) begins

  pub fetches_rule : (e : CallContext) (p : ℕ) → (SoundWorldWith heap k → MayFetch k e p)
      → Begins heap.shape k e.unfinished → Keeps heap (fetch_plan e heap.shape p) k
  fetches_rule e p may begins =
      keeps heap k (λ s y. (s ≡ heap.shape) × MayFetch y e p) (λ t y. fetch_plan e heap.shape p) (fetches_in heap.shape e p) (fetches_biases heap.shape e p)
      (λ t y h. refl) (λ s y a. a.1.runs) (λ v. (mod_below p (ring_places heap.shape) (pow_pos (ring_bits heap.shape)), tt)) (λ v. (refl, may v))
      (λ v. (refl, tt, tt)) begins

  pub prepares_owner_rule : (e : CallContext) (m word : ℕ) → (SoundWorldWith heap k → MayPrepareOwner heap.shape k e m word)
      → Begins heap.shape k e.unfinished → Keeps heap (prepare_plan e k.stage (id.Owner m) word) k
  prepares_owner_rule e m word may begins =
      keeps heap k (λ s y. MayPrepareOwner s y e m word) (λ t y. prepare_plan e y.stage (id.Owner m) word) (prepares_owner e m word)
      (quiet.prepares_owner e m word) (λ t y h. h) (λ s y a. a.prepares.runs) (λ v. let a = may v in (kept_in heap k m a.prepares.runs a.prepares.kept v, tt))
      may (λ v. (refl, tt, tt)) begins

  pub prepares_recursions_rule : (e : CallContext) (m word : ℕ) → (SoundWorldWith heap k → MayPrepare k e m)
      → Begins heap.shape k e.unfinished → Keeps heap (prepare_plan e k.stage (id.Recursions m) word) k
  prepares_recursions_rule e m word may begins =
      keeps heap k (λ s y. MayPrepare y e m) (λ t y. prepare_plan e y.stage (id.Recursions m) word) (prepares_recursions e m word)
      (quiet.prepares_recursions e m word) (λ t y h. h) (λ s y a. a.runs) (λ v. let a = may v in (kept_in heap k m a.runs a.kept v, tt)) may
      (λ v. (refl, tt, tt)) begins

  pub prepares_header_rule : (e : CallContext) (m word : ℕ) → (SoundWorldWith heap k → MayPrepare k e m)
      → Begins heap.shape k e.unfinished → Keeps heap (prepare_plan e k.stage (id.Header m) word) k
  prepares_header_rule e m word may begins =
      keeps heap k (λ s y. MayPrepare y e m) (λ t y. prepare_plan e y.stage (id.Header m) word) (prepares_header e m word) (quiet.prepares_header e m word)
      (λ t y h. h) (λ s y a. a.runs) (λ v. let a = may v in (kept_in heap k m a.runs a.kept v, tt)) may (λ v. (refl, tt, tt)) begins

  pub prepares_object_rule : (e : CallContext) (m word : ℕ) → (SoundWorldWith heap k → MayPrepareObject heap.shape k e m word)
      → Begins heap.shape k e.unfinished → Keeps heap (prepare_plan e k.stage (id.Object m) word) k
  prepares_object_rule e m word may begins =
      keeps heap k (λ s y. MayPrepareObject s y e m word) (λ t y. prepare_plan e y.stage (id.Object m) word) (prepares_object e m word)
      (quiet.prepares_object e m word) (λ t y h. h) (λ s y a. a.prepares.runs) (λ v. let a = may v in (kept_in heap k m a.prepares.runs a.prepares.kept v, tt))
      may (λ v. (refl, tt, tt)) begins

  -- INFLATION
  pub inflates_rule : (e : CallContext) (o mark u p : ℕ) → HasReference heap.shape k o → (SoundWorldWith heap k → MayInflate k e o mark u p)
      → Begins heap.shape k e.unfinished → Keeps heap (inflate_plan e o mark u p) k
  inflates_rule e o mark u p object may begins =
      keeps heap k (λ s y. MayInflate y e o mark u p) (λ t y. inflate_plan e o mark u p) (inflates_locked e o mark u p) (quiet.inflates e o mark u p)
      (λ t y h. refl) (λ s y a. a.runs) (λ v. (object.within, tt)) may (λ v. (refl, tt, object.known)) begins

  pub names_rule : (e : CallContext) (o m u p h : ℕ) → (SoundWorldWith heap k → MayName heap.shape k e o m u p h)
      → Begins heap.shape k e.unfinished → Keeps heap (name_plan e o m) k
  names_rule e o m u p h may begins =
      keeps heap k (λ s y. MayName s y e o m u p h) (λ t y. name_plan e o m) (names_inflated e o m u p h) (quiet.names e o m u p h) (λ t y h. refl)
      (λ s y a. a.runs) (λ v. ((may v).ready.object.within, tt)) may (λ v. (refl, tt, (may v).ready.object.known)) begins

  pub names_neutral_rule : (e : CallContext) (o mark m : ℕ) → (SoundWorldWith heap k → MayNameNeutral heap.shape k e o mark m)
      → Begins heap.shape k e.unfinished → Keeps heap (name_neutral_plan e o mark m) k
  names_neutral_rule e o mark m may begins =
      keeps heap k (λ s y. MayNameNeutral s y e o mark m) (λ t y. name_neutral_plan e o mark m) (names_neutral e o mark m) (quiet.names_neutral e o mark m)
      (λ t y h. refl) (λ s y a. a.runs) (λ v. ((may v).ready.object.within, tt)) may (λ v. (refl, tt, (may v).ready.object.known)) begins

  -- THE OWNER WORD AND THE RECURSIONS
  pub grabs_rule : (e : CallContext) (o m : ℕ) → (SoundWorldWith heap k → MayGrab k e o m)
      → Begins heap.shape k e.unfinished → Keeps heap (grab_plan e k.thread o m) k
  grabs_rule e o m may begins =
      keeps heap k (λ s y. MayGrab y e o m) (λ t y. grab_plan e t o m) (grabs_free e o m) (quiet.grabs e o m) (λ t y h. refl) (λ s y a. a.runs)
      (λ v. let a = may v in (monitor_in_heap heap k o m a.runs a.inflated v, tt)) may (λ v. (refl, tt, tt)) begins

  pub mans_rule : (e : CallContext) (o m p : ℕ) → (SoundWorldWith heap k → MayTakeOver k e o m p)
      → Begins heap.shape k e.unfinished → Keeps heap (take_over_plan e k.thread o m) k
  mans_rule e o m p may begins =
      keeps heap k (λ s y. MayTakeOver y e o m p) (λ t y. take_over_plan e t o m) (takes_over_own e o m p) (quiet.takes_over e o m p) (λ t y h. refl)
      (λ s y a. a.runs) (λ v. let a = may v in (monitor_in_heap heap k o m a.runs a.inflated v, tt)) may (λ v. (refl, tt, tt)) begins

  pub raises_count_rule : (e : CallContext) (o m r : ℕ) → (SoundWorldWith heap k → MayRaiseCount k e o m r)
      → Begins heap.shape k e.unfinished → Keeps heap (raise_count_plan e o m r) k
  raises_count_rule e o m r may begins =
      keeps heap k (λ s y. MayRaiseCount y e o m r) (λ t y. raise_count_plan e o m r) (raises_count e o m r) (quiet.raises_count e o m r) (λ t y h. refl)
      (λ s y a. a.counts.runs) (λ v. let a = may v in (monitor_in_heap heap k o m a.counts.runs a.counts.inflated v, tt)) may (λ v. (refl, tt, tt)) begins

  pub lowers_count_rule : (e : CallContext) (o m r : ℕ) → (SoundWorldWith heap k → MayLowerCount k e o m r)
      → Begins heap.shape k e.unfinished → Keeps heap (lower_count_plan e o m r) k
  lowers_count_rule e o m r may begins =
      keeps heap k (λ s y. MayLowerCount y e o m r) (λ t y. lower_count_plan e o m r) (lowers_count e o m r) (quiet.lowers_count e o m r) (λ t y h. refl)
      (λ s y a. a.counts.runs) (λ v. let a = may v in (monitor_in_heap heap k o m a.counts.runs a.counts.inflated v, tt)) may (λ v. (refl, tt, tt)) begins

  pub resets_count_rule : (e : CallContext) (o m : ℕ) → (SoundWorldWith heap k → MayResetCount k e o m)
      → Begins heap.shape k e.unfinished → Keeps heap (reset_count_plan e m) k
  resets_count_rule e o m may begins =
      keeps heap k (λ s y. MayResetCount y e o m) (λ t y. reset_count_plan e m) (resets_count e o m) (quiet.resets_count e o m) (λ t y h. refl)
      (λ s y a. a.counts.runs) (λ v. let a = may v in (monitor_in_heap heap k o m a.counts.runs a.counts.inflated v, tt)) may (λ v. (refl, tt, tt)) begins

  pub frees_rule : (e : CallContext) (o m p stamp : ℕ) → (SoundWorldWith heap k → MayFree heap.shape k o m stamp)
      → Keeps heap (free_plan e o m p) k
  frees_rule e o m p stamp may =
      enters_in_log heap k (λ s y. MayFree s y o m stamp) (λ t y. free_plan e o m p) (λ n. Exit o) (frees_owner e o m p stamp)
      (logged.exits_by_monitor e o m p stamp) (λ t y h. refl) (λ v. tt) (λ s y a. a.runs)
      (λ v. let a = may v in (monitor_in_heap heap k o m a.runs a.inflated v, tt)) may
      (λ v. (tt, tt, λ n. told refl (λ log. refl) tt refl (works_making_none k (Exit o) refl (may v).own_entry.operation) ((may v).object.known, tt)))
      (begins_none heap.shape k None refl)

  -- A WAIT lets go, and takes the monitor again.
  pub drops_rule : (e : CallContext) (o m : ℕ) → (SoundWorldWith heap k → MayDrop k e o m) → Begins heap.shape k e.unfinished → Keeps heap (drop_plan e o m) k
  drops_rule e o m may begins =
      keeps heap k (λ s y. MayDrop y e o m) (λ t y. drop_plan e o m) (drops_recursions e o m) (quiet.drops e o m) (λ t y h. refl) (λ s y a. a.runs)
      (λ v. let a = may v in (monitor_in_heap heap k o m a.runs a.inflated v, tt)) may (λ v. (refl, tt, tt)) begins

  pub quits_rule : (e : CallContext) (o m : ℕ) → (SoundWorldWith heap k → MayQuit k e o m) → Begins heap.shape k e.unfinished → Keeps heap (quit_plan e m) k
  quits_rule e o m may begins =
      keeps heap k (λ s y. MayQuit y e o m) (λ t y. quit_plan e m) (quits_monitor e o m) (quiet.quits e o m) (λ t y h. refl) (λ s y a. a.drops.runs)
      (λ v. let a = may v in (monitor_in_heap heap k o m a.drops.runs a.drops.inflated v, tt)) may (λ v. (refl, tt, tt)) begins

  pub regains_rule : (e : CallContext) (o m : ℕ) → (SoundWorldWith heap k → MayRegain k e o m)
      → Begins heap.shape k e.unfinished → Keeps heap (regain_plan e k.thread o m) k
  regains_rule e o m may begins =
      keeps heap k (λ s y. MayRegain y e o m) (λ t y. regain_plan e t o m) (regains_free e o m) (quiet.regains e o m) (λ t y h. refl) (λ s y a. a.runs)
      (λ v. let a = may v in (monitor_in_heap heap k o m a.runs a.inflated v, tt)) may (λ v. (refl, tt, tt)) begins

  pub restores_rule : (e : CallContext) (o m word : ℕ) → (SoundWorldWith heap k → MayRestore k e o m)
      → Begins heap.shape k e.unfinished → Keeps heap (restore_plan e o m word) k
  restores_rule e o m word may begins =
      keeps heap k (λ s y. MayRestore y e o m) (λ t y. restore_plan e o m word) (restores_recursions e o m word) (quiet.restores e o m word) (λ t y h. refl)
      (λ s y a. a.runs) (λ v. let a = may v in (monitor_in_heap heap k o m a.runs a.inflated v, tt)) may (λ v. (refl, tt, tt)) begins
