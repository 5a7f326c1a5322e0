-- The law of biases after a step whose entry, no Enter and no Resume, the plain objects take.
use Rattle.std.proofs.Common.{◌≡◌, ℕ, ◌+◌, ◌<◌, eq-eqb, true, false, List, length, Option, Some, None, refl, ap, subst, arith}
use Rattle.plain_monitor.specs.declared.entry.Entry.{Entry}
use Rattle.plain_monitor.specs.declared.entry.Entry.TheVariants as entry
use Rattle.plain_monitor.specs.declared.entry.Logged.{Logged}
use Rattle.plain_monitor.specs.declared.entry.Path.{Path}
use Rattle.plain_monitor.specs.Objects.{PlainObject, take_entry}
use Rattle.plain_monitor.specs.History.{last_stamp, log_of}
use Rattle.plain_history.specs.Appending.{MayAppend}
use Rattle.plain_history.specs.Stamps.{IsBounded}
use Rattle.plain_history.specs.Tied.{bound_to}
use Rattle.plain_history.proofs.Bounds.{above_bound, unbound_may_append}
use Rattle.core_world.specs.declared.word_id.WordId.TheVariants.{Stamp}
use Rattle.core_world.specs.declared.plan.StepPlan.{StepPlan}
use Rattle.core_world.specs.Words.Acts.{word_after}
use Rattle.core_world.specs.Threads.ThreadView.{ThreadView}
use Rattle.core_world.specs.Locks.{monitor_of, owner_at}
use Rattle.core_world.specs.Clauses.Stamps.{bound_stamp}
use Rattle.core_world.specs.Steps.{world_after, known_hit, is_taking}
use Rattle.core_world.specs.Valid.{Fits}
use Rattle.core_world.specs.World.{World, logs}
use Rattle.core_world.proofs.KnowledgeParts.{log_at, logs_length}
use Rattle.core_locks.specs.OwnersEntries.{is_by_owner}
use Rattle.core_locks.proofs.Prelude.{thread_is}
use Rattle.core_locks.proofs.enter_exit.RefutedOwning.{taken_by_owner}
use Rattle.core_law.specs.BiasLaw.{BiasLawHolds}
use Rattle.bias_law.specs.Steps.{LogsBeside}
use Rattle.bias_law.specs.inner.Steps.{LogsTaken}
use Rattle.bias_law.proofs.Beside.{hit_keeps}
use Rattle.bias_law.proofs.Logged.{entry_logged}

-- an entry that is bound to an object, and takes nothing, is one of its owner
by_owner : (e : Entry) (o : ℕ) → is_taking e ≡ false → bound_to e ≡ Some o → is_by_owner o e ≡ true
by_owner (entry.Enter i p) o n b = absurd (cc n)
by_owner (entry.Resume i) o n b = absurd (cc n)
by_owner (entry.Exit i) o n b = let same : i ≡ o = cc b in eq-eqb i o same
by_owner (entry.Get i s u) o n b = let same : i ≡ o = cc b in eq-eqb i o same
by_owner (entry.Put i s u) o n b = let same : i ≡ o = cc b in eq-eqb i o same
by_owner (entry.Wait i) o n b = let same : i ≡ o = cc b in eq-eqb i o same
by_owner (entry.Notify i u) o n b = let same : i ≡ o = cc b in eq-eqb i o same
by_owner (entry.NotifyAll i u) o n b = let same : i ≡ o = cc b in eq-eqb i o same
by_owner _ o n b = absurd (cc b)

-- such an entry may be appended with the thread's next stamp
takes_appends : (w : World) (P Q : List PlainObject) (t : ℕ) (y : Logged) → Fits w P
    → (w.known t).running ≡ true → is_taking y.entry ≡ false → y.stamp ≡ last_stamp (w.known t).log + 1
    → take_entry P t y.entry ≡ Some Q → MayAppend (logs w) t y
takes_appends w P Q t y v runs other stamp taken = by_bound (bound_to y.entry) refl
  where
    within : t < w.shape.threads
    within = v.safe.few t runs

    many : t < length (logs w)
    many = omega (arith, within, logs_length 0 w.shape.threads w.known)

    rises : last_stamp (log_of (logs w) t) < y.stamp
    rises = omega (arith, ap last_stamp (log_at 0 w.shape.threads t t w.known (omega arith) within), stamp)

    by_bound : (b : Option ℕ) → bound_to y.entry ≡ b → MayAppend (logs w) t y
    by_bound None e = unbound_may_append (logs w) t y many rises e
    by_bound (Some o) e =
        let owner : owner_at P o t ≡ true = taken_by_owner P Q t o y.entry (by_owner y.entry o other e) taken in
        let bounded : IsBounded (logs w) o (last_stamp (w.known t).log) =
        subst (λ a. IsBounded (logs w) o (bound_stamp (λ u. (w.known u).log) (w.words (Stamp o)) a))
        (thread_is (monitor_of P o).owner t owner) (v.stamps.bound o) in
        above_bound (logs w) t y o (last_stamp (w.known t).log) many rises e bounded (omega (arith, stamp))

module _ (w : World) (P : List PlainObject) (t : ℕ) (p : StepPlan) (e : Entry) (a : LogsTaken w P t p e) (v : Fits w P) (law : BiasLawHolds w) where
  abbrev y : Logged
  y = record { stamp = last_stamp (w.known t).log + 1; entry = e }

  abbrev l : ThreadView
  l = known_hit w.shape w.start p (w.words p.at) (w.known t)

  no_enter : (o : ℕ) (path : Path) → e ≡ entry.Enter o path → ⊥
  no_enter o path is = let taking = ap is_taking is in cc (taking, a.other)

  beside : LogsBeside w p.at (word_after p.act (w.words p.at)) t y l
  beside = record {
    runs = a.runs;
    appends = takes_appends w P a.now t y v a.runs a.other refl a.taken;
    grows = a.log;
    counts = a.own (w.known t).counts;
    makes_none = a.makes_none;
    operation = a.operation;
    came = λ o path h. absurd (let n = a.calm o in cc (n, h));
    enters = λ o path is. absurd (no_enter o path is);
    left = a.left;
    ended = a.ended;
    leaves = a.leaves;
  }

  pub taken_logged : BiasLawHolds (world_after p t w)
  taken_logged = hit_keeps w t p law (λ h. entry_logged w P p.at (word_after p.act (w.words p.at)) t y l beside v law)
