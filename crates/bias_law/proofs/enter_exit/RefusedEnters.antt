-- An Enter by a bias that is logged after an entry which ended the bias, by an own bias that was never taken, or by one that was taken too often: the law
-- of biases refuses it.
use Rattle.std.proofs.Common.{◌≡◌, ℕ, ◌+◌, ◌<◌, ◌||◌, eq-eqb, arith, Bool, true, false, List, [], ◌∷◌, ◌++◌, slice_set, Some, refl, sym, ap, ◌∙◌, subst}
use Rattle.std.specs.List.{list_any}
use Rattle.plain_monitor.specs.declared.entry.Entry.{Entry}
use Rattle.plain_monitor.specs.declared.entry.Entry.TheVariants as entry
use Rattle.plain_monitor.specs.declared.entry.Logged.{Logged}
use Rattle.plain_monitor.specs.declared.entry.Path.{Path}
use Rattle.plain_monitor.specs.declared.entry.Path.TheVariants.{BiasOwn, BiasTaken}
use Rattle.plain_monitor.specs.Objects.{PlainObject}
use Rattle.plain_monitor.specs.Monitor.{PlainMonitor}
use Rattle.plain_monitor.specs.Order.{order}
use Rattle.plain_monitor.specs.History.{last_stamp}
use Rattle.plain_history.specs.EnterPaths.{entries_on, ends_bias, needs_bias, is_by_bias, EndsStay}
use Rattle.plain_history.proofs.EntriesOn.{any_push, appended_on}
use Rattle.core_world.specs.declared.act.Act.TheVariants.{Load}
use Rattle.core_world.specs.declared.word_id.WordId.TheVariants.{Stamp}
use Rattle.core_world.specs.Threads.Counts.{ClassCounts, counts_of}
use Rattle.core_world.specs.Threads.ThreadView.{ThreadView}
use Rattle.core_world.specs.Threads.Stages.{one_if}
use Rattle.core_world.specs.Words.Names.{class_by}
use Rattle.core_world.specs.Locks.{monitor_of, object_of}
use Rattle.core_world.specs.Trees.Plans.{CallContext, logging_plan}
use Rattle.core_world.specs.Steps.{world_after, known_after, stamp_by}
use Rattle.core_world.specs.Valid.{Fits}
use Rattle.core_world.specs.World.{World, logs}
use Rattle.core_world.proofs.KnowledgeParts.{logs_grow, part_moves, with_known_here}
use Rattle.core_locks.specs.JournalLaws.{MayLogEnter}
use Rattle.core_locks.proofs.Logging.{IsLogging, may_log}
use Rattle.core_locks.proofs.enter_exit.EnterLogs.{is_taking}
use Rattle.core_locks.proofs.enter_exit.EnterFits as fits
use Rattle.core_law.specs.BiasLaw.{BiasLawHolds, summed}
use Rattle.core_law.specs.TakenBiases.{has_taken, times_taken}
use Rattle.bias_law.proofs.Takings.{times_push}
use Rattle.bias_law.proofs.Owners.{or_right}

-- after an entry that ended the bias no enter by a bias comes last
ended_before : (es : List Entry) (e : Entry) → EndsStay (es ++ e ∷ []) → list_any ends_bias es ≡ true → needs_bias e ≡ true → ⊥
ended_before [] e h some by = absurd (cc some)
ended_before (x ∷ es) e h some by = by_head (ends_bias x) refl some (λ g. ended_before es e h.1 g by)
  where
    by_head : (b : Bool) → ends_bias x ≡ b → (b || list_any ends_bias es) ≡ true → (list_any ends_bias es ≡ true → ⊥) → ⊥
    by_head true q g rest =
        let a : (list_any needs_bias es || needs_bias e) ≡ true = or_right (list_any needs_bias es) (needs_bias e) by in
        let b : (list_any needs_bias es || needs_bias e) ≡ false = sym (any_push needs_bias es e) ∙ h.0 q in
        absurd (cc (a, b))
    by_head false q g rest = rest g

module _ (w : World) (P : List PlainObject) (t o p : ℕ) (path : Path) (r : CallContext) (within : t < w.shape.threads)
    (may : MayLogEnter w.shape (w.known t) o p path) (v : Fits w P) where
  abbrev l : ThreadView
  l = known_after w.shape w.start (logging_plan (entry.Enter o path) r (Stamp o) Load) (w.words (Stamp o)) (w.known t)

  -- the plain monitor, the plain objects and the entry
  abbrev m : PlainMonitor
  m = record (monitor_of P o) { owner = Some t; count = (monitor_of P o).count + 1 }

  abbrev Q : List PlainObject
  Q = slice_set P o (record (object_of P o) { monitor = m })

  abbrev y : Logged
  y = record { stamp = stamp_by (entry.Enter o path) (w.words (Stamp o)) (last_stamp (w.known t).log); entry = entry.Enter o path }

  logs_it : IsLogging w P Q t y l
  logs_it = fits.logs_it w P t o (entry.Enter o path) r m (is_taking w P t o p path within may v) v

  abbrev x : World
  x = world_after (logging_plan (entry.Enter o path) r (Stamp o) Load) t w

  -- it comes last on its object
  comes_last : entries_on o (order (logs x)) ≡ entries_on o (order (logs w)) ++ entry.Enter o path ∷ []
  comes_last =
      ap (λ ls. entries_on o (order ls)) (logs_grow w.shape.threads t y l w.known within logs_it.grows)
      ∙ appended_on (logs w) t o y v.legal.rises (may_log w P Q t y l v logs_it) refl

  pub no_ended_bias : is_by_bias path ≡ true → list_any ends_bias (entries_on o (order (logs w))) ≡ true → BiasLawHolds x → ⊥
  no_ended_bias by ended law = ended_before (entries_on o (order (logs w))) (entry.Enter o path) (subst EndsStay comes_last (law.marks.stays o)) ended by

-- the log of its thread has it as the last
module _ (w : World) (P : List PlainObject) (t o p : ℕ) (r : CallContext)
    (within : t < w.shape.threads) (may : MayLogEnter w.shape (w.known t) o p BiasOwn) (v : Fits w P) where
  abbrev own : Logged
  own = y w P t o p BiasOwn r within may v

  pub no_untaken_bias : has_taken o (w.known t).log ≡ false → BiasLawHolds (x w P t o p BiasOwn r within may v) → ⊥
  no_untaken_bias none law =
      let place : ((x w P t o p BiasOwn r within may v).known t).log ≡ (w.known t).log ++ own ∷ [] =
      ap (λ (k : ThreadView). k.log) (with_known_here t (l w P t o p BiasOwn r within may v) w.known) ∙ (logs_it w P t o p BiasOwn r within may v).grows in
      let has = law.taken.logged t o (w.known t).log own [] place refl in
      cc (none, has)

-- it takes the bias once more
module _ (w : World) (P : List PlainObject) (t o p : ℕ) (r : CallContext) (within : t < w.shape.threads)
    (may : MayLogEnter w.shape (w.known t) o p BiasTaken) (v : Fits w P) where
  abbrev rebiases : (ℕ → ℕ → ClassCounts) → ℕ
  rebiases counts = (summed w.shape.threads counts (class_by w.shape w.words o)).rebias

  pub no_bias_too_often : rebiases (λ u. counts_of (w.known u).counts) < times_taken o (entries_on o (order (logs w)))
      → BiasLawHolds (x w P t o p BiasTaken r within may v) → ⊥
  no_bias_too_often often law =
      let few = law.few.logged o in
      let times : times_taken o (entries_on o (order (logs (x w P t o p BiasTaken r within may v)))) ≡ times_taken o (entries_on o (order (logs w))) + 1 =
      ap (times_taken o) (comes_last w P t o p BiasTaken r within may v) ∙ times_push o (entries_on o (order (logs w))) (entry.Enter o BiasTaken)
      ∙ ap (λ (b : Bool). times_taken o (entries_on o (order (logs w))) + one_if b) (eq-eqb o o refl) in
      let counts = ap rebiases (part_moves (λ k. counts_of k.counts) t (l w P t o p BiasTaken r within may v) w.known refl) in
      omega (arith, few, times, counts, often)
