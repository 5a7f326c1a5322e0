-- A thread publishes its length with one entry more, and so logs that entry.
use Rattle.core_locks.proofs.Prelude.{◌≡◌, ℕ, ◌+◌, ◌<◌, ◌≤◌, max, true, false, cond, List, [], ◌∷◌, ◌++◌, length, slice_set, Some, None, refl, sym}
use Rattle.core_locks.proofs.Prelude.{ap, ◌∙◌, subst, arith, inl, append-nil, PlainMonitor, owns, PlainObject, take_entry, take_at, Logged}
use Rattle.core_locks.proofs.Prelude.{last_stamp, Entry, Notify, NotifyAll, Print, Dump, Trap, Spent, Done, Value, bound_to, Safepoint, Slot, Length}
use Rattle.core_locks.proofs.Prelude.{StepPlan, names, is_halted, ThreadView, World, with_known, logs_from, object_of, monitor_of, owner_at, hash_at}
use Rattle.core_locks.proofs.Prelude.{CallContext, with_stage, publish_plan, world_after, known_hit, seen_before, stamp_by, is_taking, Fits, DrawsFit}
use Rattle.core_locks.proofs.Prelude.{draw_in, SlotsFit, each_with_known, fits_running, Logs, LogsValid, MayPublish, MayTell, IsOwnEntry, Stage}
use Rattle.plain_monitor.specs.Objects as plain
use Rattle.core_locks.proofs.Logging.{length_more}
use Rattle.core_locks.proofs.wait.TellNobody.{nobody_waits}
use Rattle.core_locks.proofs.telling.TellTaken.{IsFreeToTell, IsTaken, owns_held, object_there, unbound_taken, owner_taken}
use Rattle.core_locks.proofs.telling.Tells.{IsTelling, tells_so, still_parts, still_are, told_step}
use Rattle.core_locks.proofs.Clauses.{seen, lengths, AllHold}
use Rattle.core_locks.proofs.OwnSeen.{length_uncounted, own_seen}
use Rattle.core_locks.proofs.Steps.{announcing, IsStep, next, each_written, step_fits, seen_next, lengths_next}
use Rattle.core_locks.proofs.hash.Drawing.{draws_counted, draws_still}
use Rattle.core_world.proofs.Updates.{slots_stay}

-- What an entry that may be published makes of the plain objects: they keep their slots too. It is no Enter or Resume.
record IsQuiet (P : List PlainObject) (t : ℕ) (y : Entry) : Type 0 where
  pub now : List PlainObject
  pub entry : IsTaken P now t y
  pub slots : ◌≡◌ {A = ℕ → List Value} (λ i. (object_of P i).slots) (λ i. (object_of now i).slots)
  pub untaking : is_taking y ≡ false

-- one that names no object
quiet_unbound : (P : List PlainObject) (t : ℕ) (y : Entry) → take_entry P t y ≡ Some P
    → bound_to y ≡ None → is_taking y ≡ false → draw_in y ≡ None → IsQuiet P t y
quiet_unbound P t y taken unbound untaking undrawn = record { now = P; entry = unbound_taken P t y taken unbound undrawn; slots = refl; untaking = untaking }

-- one of an object's owner, which leaves its monitor as it is
quiet_owner : (P : List PlainObject) (t o : ℕ) (y : Entry) (m : PlainMonitor) → o < length P
    → owner_at P o t ≡ true → bound_to y ≡ Some o → plain.named y ≡ Some o → is_taking y ≡ false
    → m ≡ monitor_of P o → take_at (object_of P o) t y ≡ Some (record (object_of P o) { monitor = m }) → IsQuiet P t y
quiet_owner P t o y m within own bound names untaking same taken =
    let z : PlainObject = record (object_of P o) { monitor = m } in
    record {
      now = slice_set P o z;
      entry = owner_taken P t o y z within own bound names same refl taken;
      slots = slots_stay P o z within refl;
      untaking = untaking;
    }

-- a notify where nobody waits
notify_taken : (x : PlainObject) (t o : ℕ) → owns x.monitor t ≡ true → x.monitor.waits ≡ [] → take_at x t (Notify o None) ≡ Some x
notify_taken x t o own none = rw (own, none) refl

-- and a notify of all
abbrev all_called : PlainMonitor → PlainMonitor
all_called m = record m { waits = []; called = m.called ++ m.waits }

notify_all_taken : (x : PlainObject) (t o n : ℕ) → owns x.monitor t ≡ true → x.monitor.waits ≡ []
    → n ≡ 0 → take_at x t (NotifyAll o n) ≡ Some (record x { monitor = all_called x.monitor })
notify_all_taken x t o n own none few = rw (own, none, few) refl

nobody_called : (m : PlainMonitor) → m.waits ≡ [] → all_called m ≡ m
nobody_called m none =
    let called : m.called ++ m.waits ≡ m.called = ap (λ ps. m.called ++ ps) none ∙ append-nil m.called in
    let first : all_called m ≡ record m { waits = [] } = ap (λ ps. record m { waits = []; called = ps }) called in
    let second : record m { waits = [] } ≡ m = ap (λ ps. record m { waits = ps }) (sym none) in
    first ∙ second

entry_quiet : (w : World) (P : List PlainObject) (t : ℕ) → Fits w P → IsFreeToTell (w.known t) → (y : Entry) → MayTell w.shape (w.known t) y → IsQuiet P t y
entry_quiet w P t v free (Print value) h = quiet_unbound P t (Print value) refl refl refl refl
entry_quiet w P t v free (Dump number) h = quiet_unbound P t (Dump number) refl refl refl refl
entry_quiet w P t v free (Trap fault index) h = quiet_unbound P t (Trap fault index) refl refl refl refl
entry_quiet w P t v free Spent h = quiet_unbound P t Spent refl refl refl refl
entry_quiet w P t v free Done h = quiet_unbound P t Done refl refl refl refl
entry_quiet w P t v free (Notify o None) h =
    let own = owns_held w P t v free o h.0 in
    let none = nobody_waits w P t o v free.runs free.calm own h.2 in
    quiet_owner P t o (Notify o None) (monitor_of P o) (object_there w P o v h.1.within) own refl refl refl refl (notify_taken (object_of P o) t o own none)
entry_quiet w P t v free (NotifyAll o n) h =
    let own = owns_held w P t v free o h.0 in
    let none = nobody_waits w P t o v free.runs free.calm own h.2 in
    quiet_owner P t o (NotifyAll o n) (all_called (monitor_of P o)) (object_there w P o v h.1.within) own refl refl refl
    (nobody_called (monitor_of P o) none) (notify_all_taken (object_of P o) t o n own none h.3)
entry_quiet w P t v free _ h = absurd h

module _ (w : World) (P : List PlainObject) (t : ℕ) (e : CallContext) (y : Entry) (within : t < w.shape.threads)
    (free : IsFreeToTell (w.known t)) (own : IsOwnEntry (w.known t) y) (v : Fits w P) (b : IsQuiet P t y) where
  -- the step, at the stage at which the thread stands
  abbrev plan : StepPlan
  plan = with_stage (w.known t).stage (publish_plan e t y (length (w.known t).log + 1))

  abbrev told_entry : Logged
  told_entry = record { stamp = stamp_by y (w.words (Length t)) (last_stamp (w.known t).log); entry = y }

  abbrev l : ThreadView
  l = known_hit w.shape w.start plan (w.words (Length t)) (w.known t)

  abbrev x : World
  x = world_after plan t w

  step : IsStep w t l announcing
  step = record { within = within; mine = refl; others = λ k. refl }

  abbrev z : World
  z = next w t l announcing x.words

  tells : IsTelling w P b.now t told_entry l
  tells = tells_so v within free refl
      (ap (λ c. cond c (max (w.words (Length t)) (last_stamp (w.known t).log) + 1) (last_stamp (w.known t).log + 1)) b.untaking) b.entry own

  drawn : DrawsFit w.start (logs_from 0 w.shape.threads (with_known t l w.known))
      (λ u. (with_known t l w.known u).log) (λ u. (with_known t l w.known u).draws) (hash_at P)
  drawn = draws_still w P b.now t told_entry l v tells.logs (draws_counted y (w.known t).draws) b.entry.undrawn

  all_after : AllHold (still_parts step tells x.words)
  all_after seen =
      let kept = ap (λ c. record { plan = plan; found = w.words (Length t) } ∷ cond c [] (seen_before w.shape (w.known t))) b.untaking in
      seen_next step x.words P (own_seen w P t plan (search (free.runs, kept, length_uncounted w P t)) v)
  -- each length word is as its thread published it
  all_after lengths = record {
    few = (lengths_next step P (length_more (w.known t).log told_entry) free.room free.runs v).few;
    stored = λ u. each_written (λ u n k. n ≡ k.published) t (length (w.known t).log + 1) l (λ u. w.words (Length u)) w.known u refl (λ d. v.lengths.stored u);
    most = λ u. each_with_known (λ u k. k.published ≤ length k.log) t l w.known u
        (let a = length_more (w.known t).log told_entry in omega (arith, a)) (λ d. v.lengths.most u);
    all = λ u. each_with_known (λ u k. (w.known u).running ≡ false → (w.known u).requesting ≡ false
        → is_halted (w.words Safepoint) ≡ false → k.published ≡ length k.log) t l w.known u
        (λ r q h. sym (length_more (w.known t).log told_entry)) (λ d. v.lengths.all u);
  }
  all_after c = told_step step tells v (subst (SlotsFit w.shape (λ i j. w.words (Slot i j))) b.slots v.slots) drawn c

  publishes : Logs w P t (publish_plan e t y (length (w.known t).log + 1)) y
  publishes =
      let fits = step_fits step x.words b.now (still_parts step tells x.words) (still_are step tells b.entry.hashes x.words) all_after in
      let moved : Stage → World = λ stage. world_after (with_stage stage (publish_plan e t y (length (w.known t).log + 1))) t w in
      record { now = b.now; taken = b.entry.taken; valid = inl (subst (λ stage. Fits (moved stage) b.now) free.calm fits) }

pub publish_law : (e : CallContext) (y : Entry) → LogsValid (λ w t. MayPublish w.shape (w.known t) y) (λ w t. publish_plan e t y (length (w.known t).log + 1)) y
publish_law e y w P t within may is =
    let v = fits_running w P t may.runs is in
    let free : IsFreeToTell (w.known t) = search may in
    publishes w P t e y within free may.own_entry v (entry_quiet w P t v free y may.tells)
