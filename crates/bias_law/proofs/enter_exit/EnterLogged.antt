-- The law of biases after a load of a stamp that logs an Enter, of whatever path.
use Rattle.std.proofs.Common.{◌≡◌, ℕ, ◌+◌, ◌<◌, ◌==◌, eq-eqb, eqb-true, cond, Bool, true, false, List, slice_set, Some, None, refl, sym, ap, ◌∙◌, inl}
use Rattle.std.proofs.lemmas.Option.{same_Some}
use Rattle.plain_monitor.specs.declared.entry.Entry.TheVariants as entry
use Rattle.plain_monitor.specs.declared.entry.Logged.{Logged}
use Rattle.plain_monitor.specs.declared.entry.Path.{Path}
use Rattle.plain_monitor.specs.Objects.{PlainObject}
use Rattle.plain_monitor.specs.Monitor.{PlainMonitor}
use Rattle.plain_monitor.specs.History.{last_stamp}
use Rattle.core_world.specs.declared.act.Act.TheVariants.{Load}
use Rattle.core_world.specs.declared.word_id.WordId.TheVariants.{Stamp}
use Rattle.core_world.specs.Threads.ThreadView.{ThreadView}
use Rattle.core_world.specs.Locks.{monitor_of, object_of}
use Rattle.core_world.specs.Trees.Plans.{CallContext, logging_plan}
use Rattle.core_world.specs.Threads.Stages.{path_into}
use Rattle.core_world.specs.Steps.{world_after, known_after, stamp_by}
use Rattle.core_world.specs.Valid.{Fits}
use Rattle.core_world.specs.World.{World}
use Rattle.core_locks.specs.JournalLaws.{MayLogEnter}
use Rattle.core_locks.proofs.Logging.{IsLogging, may_log}
use Rattle.core_locks.proofs.enter_exit.EnterLogs.{is_taking}
use Rattle.core_locks.proofs.enter_exit.EnterFits as fits
use Rattle.core_law.specs.BiasLaw.{BiasLawHolds}
use Rattle.bias_law.specs.Steps.{LogsBeside}
use Rattle.bias_law.proofs.Logged.{entry_logged}

module _ (w : World) (P : List PlainObject) (t o p : ℕ) (path : Path) (r : CallContext) (within : t < w.shape.threads)
    (may : MayLogEnter w.shape (w.known t) o p path) (v : Fits w P) (law : BiasLawHolds w) where
  abbrev l : ThreadView
  l = known_after w.shape w.start (logging_plan (entry.Enter o path) r (Stamp o) Load) (w.words (Stamp o)) (w.known t)

  -- the plain monitor, the plain objects and the entry
  abbrev m : PlainMonitor
  m = record (monitor_of P o) { owner = Some t; count = (monitor_of P o).count + 1 }

  abbrev Q : List PlainObject
  Q = slice_set P o (record (object_of P o) { monitor = m })

  abbrev y : Logged
  y = record { stamp = stamp_by (entry.Enter o path) (w.words (Stamp o)) (last_stamp (w.known t).log); entry = entry.Enter o path }

  logs_it : IsLogging w P Q t y l
  logs_it = fits.logs_it w P t o (entry.Enter o path) r m (is_taking w P t o p path within may v) v

  -- the enter that it is about to log
  into : (i : ℕ) → path_into (w.known t).stage i ≡ cond (o == i) (Some path) None
  into i = ap (λ s. path_into s i) may.stage

  into_other : (i : ℕ) (other : Path) (b : Bool) → (o == i) ≡ b → cond (o == i) (Some path) None ≡ Some other → entry.Enter o path ≡ entry.Enter i other
  into_other i other true e h =
      let a : o ≡ i = eqb-true o i e in
      let b : path ≡ other = same_Some path other (sym (ap (λ (c : Bool). cond c (Some path) None) e) ∙ h) in
      ap (λ j. entry.Enter j path) a ∙ ap (entry.Enter i) b
  into_other i other false e h = absurd (let c = ap (λ (d : Bool). cond d (Some path) None) e in cc (c, h))

  enters_it : (i : ℕ) (other : Path) → entry.Enter o path ≡ entry.Enter i other → cond (o == i) (Some path) None ≡ Some other
  enters_it i other e =
      let a : o ≡ i = cc e in let b : path ≡ other = cc e in
      ap (λ (c : Bool). cond c (Some path) None) (eq-eqb o i a) ∙ ap Some b

  logs_beside : LogsBeside w (Stamp o) (w.words (Stamp o)) t y l
  logs_beside = record {
    runs = may.runs;
    appends = may_log w P Q t y l v logs_it;
    grows = refl;
    counts = refl;
    makes_none = refl;
    operation = may.own_entry.operation;
    came = λ i other e. into_other i other (o == i) refl (sym (into i) ∙ e);
    enters = λ i other e. into i ∙ enters_it i other e;
    left = λ i. refl;
    ended = tt;
    leaves = inl refl;
  }

  pub enter_logged : BiasLawHolds (world_after (logging_plan (entry.Enter o path) r (Stamp o) Load) t w)
  enter_logged = entry_logged w P (Stamp o) (w.words (Stamp o)) t y l logs_beside v law
