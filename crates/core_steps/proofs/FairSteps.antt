-- Which steps keep the law of what is there, by what their thread knows: what the act leaves of its word, and what is unfinished afterwards.
use Rattle.std.proofs.Common.{◌≡◌, ◌⊎◌, ℕ, ◌<◌, ◌≤◌, ◌==◌, ◌&&◌, eqb-true, Bool, true, false, cond}
use Rattle.std.proofs.Common.{List, Option, Some, None, refl, sym, ap, ◌∙◌, subst, inl, inr}
use Rattle.std.specs.List.{AllByRecursion}
use Rattle.plain_monitor.specs.declared.entry.Entry.{Entry}
use Rattle.plain_monitor.specs.declared.entry.Entry.TheVariants as entry
use Rattle.plain_monitor.specs.declared.entry.Logged.{Logged}
use Rattle.plain_monitor.specs.History.{last_stamp}
use Rattle.plain_monitor.specs.Made.{creates, needs}
use Rattle.plain_monitor.specs.Objects.{PlainObject, take_entry}
use Rattle.plain_monitor.proofs.Lists.{all_weaker}
use Rattle.plain_history.specs.Tied.{bound_to}
use Rattle.core_world.specs.declared.act.Act.{Act}
use Rattle.core_world.specs.declared.act.Act.TheVariants as act
use Rattle.core_world.specs.declared.word_id.WordId.{WordId}
use Rattle.core_world.specs.declared.word_id.WordId.TheVariants as id
use Rattle.core_world.specs.declared.plan.LogEffect.{LogEffect}
use Rattle.core_world.specs.declared.plan.LogEffect.TheVariants.{Quiet, LogHash}
use Rattle.core_world.specs.declared.plan.LocalEffect.{LocalEffect}
use Rattle.core_world.specs.declared.plan.LocalEffect.TheVariants.{TakeShot}
use Rattle.core_world.specs.declared.plan.StepPlan.{StepPlan}
use Rattle.core_world.specs.declared.heap_call.Operation.{Operation}
use Rattle.core_world.specs.declared.heap_call.Operation.TheVariants as op
use Rattle.core_world.specs.declared.heap_call.Unfinished.{Unfinished}
use Rattle.core_world.specs.Clauses.Safepoints.{IsUnfinished}
use Rattle.core_world.specs.Words.Acts.{word_after, hits}
use Rattle.core_world.specs.Words.Forms.{names, hash_in}
use Rattle.core_world.specs.Words.Shape.{Shape}
use Rattle.core_world.specs.Threads.ThreadView.{ThreadView}
use Rattle.core_world.specs.Threads.References.{numbering, knows_by_log, has_object, is_on, made_by_op, making_in}
use Rattle.core_world.specs.Steps.{known_hit, known_miss, log_after, unfinished_after, shots_after, stamp_by, with_entry, is_taking, world_after}
use Rattle.core_world.specs.Valid.{Fits}
use Rattle.core_world.specs.World.{World, with_word_and_known}
use Rattle.core_locks.specs.Knowing.{WorksFor, operation_of}
use Rattle.core_law.specs.MadeLaw.{MadeLawHolds}
use Rattle.core_law.proofs.Wholes.{All}
use Rattle.core_made.specs.Steps.{SparesAbsent, EndsByExchange, IsFair, IsFairQuietly, is_there_in, knows_in}
use Rattle.core_made.proofs.Fair.{known_there}
use Rattle.core_made.proofs.MarksSeen.{missed_marks}
use Rattle.core_made.proofs.Quiets.{quiet_world, quiet_keeps}
use Rattle.core_made.proofs.EntriesTold.{telling_keeps}

-- the thread knows the object by its log
abbrev pub KnowsBy : Shape → ThreadView → ℕ → Type 0
KnowsBy s k o = knows_by_log (numbering s) k.log o ≡ true

-- WHAT IS UNFINISHED AFTERWARDS was so before, or is an operation on an object that the thread knows
abbrev pub OnKnown : Shape → ThreadView → Option Unfinished → Type 0
OnKnown s k u = (o : ℕ) → is_on u o ≡ true → KnowsBy s k o

-- and neither before nor afterwards the thread is making an object
pub record BeginsOther (s : Shape) (k : ThreadView) (u : Option Unfinished) : Type 0 where
  pub on_known : OnKnown s k u
  pub makes_none_before : making_in k.unfinished ≡ None
  pub makes_none : making_in u ≡ None

abbrev pub Begins : Shape → ThreadView → Option Unfinished → Type 0
Begins s k u = (u ≡ k.unfinished) ⊎ BeginsOther s k u

-- so by this the making of an object neither begins nor ends
pub makes_as_before : (s : Shape) (k : ThreadView) (u : Option Unfinished) → Begins s k u → making_in u ≡ making_in k.unfinished
makes_as_before s k u begins = elim begins [ inl same ↦ ap making_in same | inr other ↦ other.makes_none ∙ sym other.makes_none_before ]

-- A thread that goes on with an operation, or works for an entry, which makes no object, is making none.
pub goes_making_none : (u now : Option Unfinished) → making_in u ≡ None → (u ≡ now) ⊎ (now ≡ None) → making_in now ≡ None
goes_making_none u now none goes = elim goes [ inl same ↦ ap making_in (sym same) ∙ none | inr nothing ↦ ap making_in nothing ]

entry_making_none : (e : Entry) → creates e ≡ None → making_in (operation_of e) ≡ None
entry_making_none (entry.New o class) none = absurd (cc none)
entry_making_none _ none = refl

pub works_making_none : (k : ThreadView) (e : Entry) → creates e ≡ None → WorksFor k e → making_in k.unfinished ≡ None
works_making_none k e none works = elim works [ inl nothing ↦ ap making_in nothing | inr its ↦ ap making_in its ∙ entry_making_none e none ]

-- an operation on an object makes none
pub none_made : (a : Operation) (o : ℕ) → has_object a ≡ true → made_by_op a o ≡ None
none_made op.Dump o on = absurd (cc on)
none_made op.Create o on = absurd (cc on)
none_made _ o on = refl

-- nothing at all, this operation, or what is on no object that it would have to know
pub begins_none : (s : Shape) (k : ThreadView) (u : Option Unfinished) → u ≡ None → making_in k.unfinished ≡ None → Begins s k u
begins_none s k u none making = inr (record {
  on_known = λ o on. let a = ap (λ z. is_on z o) (sym none) ∙ on in absurd (cc a);
  makes_none_before = making;
  makes_none = ap making_in none;
})

pub begins_going : (s : Shape) (k : ThreadView) (u : Option Unfinished) → OnKnown s k u → making_in u ≡ None → (u ≡ k.unfinished) ⊎ (k.unfinished ≡ None)
    → Begins s k u
begins_going s k u known none goes = elim goes [
  | inl same ↦ inl same
  | inr nothing ↦ inr (record { on_known = known; makes_none_before = ap making_in nothing; makes_none = none })
]

pub begins_its : (s : Shape) (k : ThreadView) (u : Option Unfinished) (a : Operation) (o : ℕ) → IsUnfinished u a o → made_by_op a o ≡ None → KnowsBy s k o
    → (u ≡ k.unfinished) ⊎ (k.unfinished ≡ None) → Begins s k u
begins_its s k u a o its none knows goes =
    begins_going s k u (λ i on. by_op (has_object a) i (ap (λ z. is_on z i) (sym its) ∙ on)) (ap making_in its ∙ none) goes
  where
    by_op : (b : Bool) (i : ℕ) → (b && (o == i)) ≡ true → KnowsBy s k i
    by_op true i h = subst (KnowsBy s k) (eqb-true o i h) knows
    by_op false i h = absurd (cc h)

-- THE WORD. A mark is of an object that the thread knows, and so is what a new hold word names; no stamp falls, and a class word stays. A running
-- thread may change the safepoint word as it may, another one only exchanges it.
abbrev pub Spares : Shape → ThreadView → WordId → Act → Type 0
Spares s k (id.Mark o) a = KnowsBy s k o
Spares s k (id.Hold t p) a = (found o : ℕ) → names o (word_after a found) ≡ true → KnowsBy s k o
Spares s k (id.Stamp o) a = (found : ℕ) → found ≤ word_after a found
Spares s k (id.Class o) a = (found : ℕ) → word_after a found ≡ found
Spares s k id.Safepoint a = (k.running ≡ true) ⊎ EndsByExchange id.Safepoint a true
Spares s k _ a = Unit {0}

-- WHAT IT MAKES. A step that ends its operation by a hash that it found is of a thread that is making no object
abbrev pub MakesNoneAt : LogEffect → ThreadView → Type 0
MakesNoneAt (LogHash o) k = making_in k.unfinished ≡ None
MakesNoneAt _ k = Unit {0}

-- THE SHOTS stay
abbrev pub KeepsShots : LocalEffect → Type 0
KeepsShots TakeShot = ⊥
KeepsShots _ = Unit {0}

-- WHAT IS LOGGED by a step that hits: nothing, or this entry. An entry that takes an object is stamped by that object's stamp word, and the thread knows
-- what the entry needs.
abbrev pub TakesAt : Entry → WordId → Type 0
TakesAt (entry.Enter o path) at = at ≡ id.Stamp o
TakesAt (entry.Resume o) at = at ≡ id.Stamp o
TakesAt _ at = Unit {0}

pub record Tells (s : Shape) (k : ThreadView) (p : StepPlan) (e : Entry) (found : ℕ) : Type 0 where
  pub hits : hits p.act found ≡ true
  pub grows : (log : List Logged) → log_after p.note found log ≡ with_entry e found log
  pub takes : TakesAt e p.at
  pub makes_none : creates e ≡ None
  pub works_for_it : making_in k.unfinished ≡ None
  pub needs : AllByRecursion (KnowsBy s k) (needs e)

-- made of its parts, in this order
pub told : {s : Shape} {k : ThreadView} {p : StepPlan} {e : Entry} {found : ℕ} → hits p.act found ≡ true
    → ((log : List Logged) → log_after p.note found log ≡ with_entry e found log) → TakesAt e p.at → creates e ≡ None → making_in k.unfinished ≡ None
    → AllByRecursion (KnowsBy s k) (needs e) → Tells s k p e found
told it_hits grows takes none works knows =
    record { hits = it_hits; grows = grows; takes = takes; makes_none = none; works_for_it = works; needs = knows }

-- in a step that logs nothing
abbrev pub Quietly : Shape → ThreadView → StepPlan → Type 0
Quietly s k p = (p.note ≡ Quiet) × KeepsShots p.own × Spares s k p.at p.act

-- THE PARTS, by what the thread knows
on_after : (note : LogEffect) (found : ℕ) (u : Option Unfinished) (o : ℕ) → is_on (unfinished_after note found u) o ≡ true → is_on u o ≡ true
on_after (LogHash i) found u o h = by_hash (hash_in found == 0) h
  where
    by_hash : (b : Bool) → is_on (cond b u None) o ≡ true → is_on u o ≡ true
    by_hash true g = g
    by_hash false g = absurd (cc g)
on_after note found u o h = h

makes_none_at : (note : LogEffect) (k : ThreadView) → making_in k.unfinished ≡ None → MakesNoneAt note k
makes_none_at (LogHash o) k none = none
makes_none_at note k none = tt

making_after : (note : LogEffect) (found : ℕ) (u : Option Unfinished) (k : ThreadView) → MakesNoneAt note k → making_in u ≡ making_in k.unfinished
    → making_in (unfinished_after note found u) ≡ making_in k.unfinished
making_after (LogHash i) found u k none same = by_hash (hash_in found == 0)
  where
    by_hash : (b : Bool) → making_in (cond b u None) ≡ making_in k.unfinished
    by_hash true = same
    by_hash false = sym none
making_after note found u k none same = same

shots_stay : (own : LocalEffect) (s : Shape) (k : ThreadView) → KeepsShots own → shots_after own s k ≡ k.shots
shots_stay TakeShot s k none = absurd none
shots_stay own s k kept = refl

taken_at : (e : Entry) (at : WordId) (o : ℕ) → TakesAt e at → is_taking e ≡ true → bound_to e ≡ Some o → at ≡ id.Stamp o
taken_at (entry.Enter i path) at o is taking b = let same : i ≡ o = cc b in is ∙ ap id.Stamp same
taken_at (entry.Resume i) at o is taking b = let same : i ≡ o = cc b in is ∙ ap id.Stamp same
taken_at e at o is taking b = absurd (cc taking)

-- IN A WORLD in which the law holds
module _ (w : World) (made : MadeLawHolds w) (t : ℕ) where
  -- what was unfinished before is on an object that the thread knows, too
  pub on_known : (u : Option Unfinished) → Begins w.shape (w.known t) u → OnKnown w.shape (w.known t) u
  on_known u begins o on = elim begins [ inl same ↦ made.unfinished t o (ap (λ z. is_on z o) (sym same) ∙ on) | inr other ↦ other.on_known o on ]

  pub begun : (p : StepPlan) → Begins w.shape (w.known t) p.after → (o : ℕ) → is_on (unfinished_after p.note (w.words p.at) p.after) o ≡ true
      → knows_in w t o ≡ true
  begun p begins o h = on_known p.after begins o (on_after p.note (w.words p.at) p.after o h)

  pub makes_same : (p : StepPlan) → MakesNoneAt p.note (w.known t) → Begins w.shape (w.known t) p.after
      → making_in (unfinished_after p.note (w.words p.at) p.after) ≡ making_in (w.known t).unfinished
  makes_same p none begins = making_after p.note (w.words p.at) p.after (w.known t) none (makes_as_before w.shape (w.known t) p.after begins)

  -- where an exchange misses
  pub missed_made : (p : StepPlan) → hits p.act (w.words p.at) ≡ false → IsFair w t p → MadeLawHolds (world_after p t w)
  missed_made p missed f =
      let hit = known_hit w.shape w.start p (w.words p.at) (w.known t) in
      let miss = known_miss w.shape w.start p (w.words p.at) (w.known t) in
      subst (λ b. MadeLawHolds (with_word_and_known p.at (word_after p.act (w.words p.at)) t (cond b hit miss) w)) (sym missed)
      (quiet_world w p.at (word_after p.act (w.words p.at)) t miss made refl f.spares (λ o e h. h) refl (made.unfinished t)
      (missed_marks w made t p f.looks) (made.cut_in_time t))

-- and every clause, and the laws
module _ (w : World) (P : List PlainObject) (a : All w P) (t : ℕ) where
  there : (o : ℕ) → KnowsBy w.shape (w.known t) o → is_there_in w o ≡ true
  there o knows = known_there w a.made t o knows

  spared : (at : WordId) (b : Act) → Spares w.shape (w.known t) at b → SparesAbsent (is_there_in w) at (w.words at) (word_after b (w.words at))
  spared (id.Mark o) b s = inl (there o s)
  spared (id.Hold u p) b s = λ o h. there o (s (w.words (id.Hold u p)) o h)
  spared (id.Stamp o) b s = s (w.words (id.Stamp o))
  spared (id.Class o) b s = s (w.words (id.Class o))
  spared at b s = tt

  -- the safepoint of a thread that runs isn't reached
  unreached : (w.known t).running ≡ true → (w.known t).reached ≡ false
  unreached runs = by_test (w.known t).reached refl
    where
      by_test : (b : Bool) → (w.known t).reached ≡ b → b ≡ false
      by_test true e = let stopped = (a.fits.safe.safepoint t e).1 t in absurd (cc (stopped, runs))
      by_test false e = refl

  ending : (at : WordId) (b : Act) → Spares w.shape (w.known t) at b → EndsByExchange at b (w.known t).reached
  ending id.Safepoint act.Load s = tt
  ending id.Safepoint (act.CompareExchange expected word) s = tt
  ending id.Safepoint b s = elim s [ inl runs ↦ unreached runs | inr never ↦ absurd (cc never) ]
  ending at b s = tt

  pub fair : (p : StepPlan) → KeepsShots p.own → Spares w.shape (w.known t) p.at p.act → MakesNoneAt p.note (w.known t)
      → Begins w.shape (w.known t) p.after → IsFair w t p
  fair p shots spares none begins = record {
    spares = spared p.at p.act spares;
    begins = begun w a.made t p begins;
    looks = λ o is free. subst (λ at. Spares w.shape (w.known t) at p.act) is spares;
    ends = ending p.at p.act spares;
    shots = shots_stay p.own w.shape (w.known t) shots;
    makes = makes_same w a.made t p none begins;
  }

  pub fair_quietly : (p : StepPlan) → Quietly w.shape (w.known t) p → Begins w.shape (w.known t) p.after → IsFairQuietly w t p
  fair_quietly p q begins = record {
    fair = fair p q.1 q.2 (subst (λ note. MakesNoneAt note (w.known t)) (sym q.0) tt) begins;
    log = ap (λ note. log_after note (w.words p.at) (w.known t).log) q.0;
  }

  -- THE LAW AFTERWARDS, where the step logs nothing, and where it logs an entry
  pub quiet_made : (p : StepPlan) → Quietly w.shape (w.known t) p → Begins w.shape (w.known t) p.after → MadeLawHolds (world_after p t w)
  quiet_made p q begins = quiet_keeps w t p a.made (fair_quietly p q begins)

  pub told_made : (p : StepPlan) (e : Entry) (Q : List PlainObject) → t < w.shape.threads → KeepsShots p.own → Spares w.shape (w.known t) p.at p.act
      → Begins w.shape (w.known t) p.after → Tells w.shape (w.known t) p e (w.words p.at) → take_entry P t e ≡ Some Q → Fits (world_after p t w) Q
      → MadeLawHolds (world_after p t w)
  told_made p e Q within shots spares begins tells taken after =
      telling_keeps w P Q t p (record { stamp = stamp_by e (w.words p.at) (last_stamp (w.known t).log); entry = e }) within
      (record {
        fair = fair p shots spares (makes_none_at p.note (w.known t) tells.works_for_it) begins;
        hits = tells.hits;
        grows = tells.grows (w.known t).log;
        stamp = refl;
        takes = λ o taking b. taken_at e p.at o tells.takes taking b;
        makes_none = tells.makes_none;
        needs = all_weaker (KnowsBy w.shape (w.known t)) (λ o. knows_in w t o ≡ true) (λ o h. h) (needs e) tells.needs;
      }) taken a.fits after a.made
