-- A thread that holds an object loads or stores one of its slots, and so logs a Get or a Put.
use Rattle.core_locks.proofs.Prelude.{◌≡◌, ◌≢◌, ◌⊎◌, ℕ, ◌+◌, ◌<◌, ◌&&◌, nat_lt, eq-eqb, true, false, cond, List, [], ◌∷◌, ◌++◌, length, slice_set}
use Rattle.core_locks.proofs.Prelude.{Option, Some, None, refl, sym, ap, ◌∙◌, subst, arith, inl, inr, slice_get, nat_tests, Decides-int_eq}
use Rattle.core_locks.proofs.Prelude.{only_if, PlainObject, take_at, same_value, has_value, Logged, last_stamp, Get, Put, Value, read_value}
use Rattle.core_locks.proofs.Prelude.{word_of, Slot, StepPlan, Stage, Settled, word_after, with_word, same_name, ThreadView, StepMade, World}
use Rattle.core_locks.proofs.Prelude.{with_word_and_known, object_of, owner_at, Stays, CallContext, known_hit, seen_before, draws_after, log_after}
use Rattle.core_locks.proofs.Prelude.{kept_by_note, Fits, Store, Load, drawn_by, SlotsFit, IsHere, Unfinished, Act, Log, LogGet, value_found}
use Rattle.core_locks.proofs.Prelude.{by_equal, fits_running, with_word_there, frame2, with_word_same, Logs, MayTouch, MayPut, IsOwnEntry}
use Rattle.core_locks.proofs.Prelude.{LogsFound, LogsValid, get_plan, put_plan, MayGet, get_entry, slice_index_or, HasValue, Shape}
use Rattle.plain_monitor.specs.declared.entry.Value.TheVariants.{Nil, Int, Ref}
use Rattle.std.proofs.lemmas.List.{length-set, get_or-set_same}
use Rattle.std.proofs.lemmas.Option.{slice_get-get_or, slice_get_within, get_or_from_slice_get}
use Rattle.plain_monitor.proofs.Lists.{get_set_other}
use Rattle.plain_monitor.proofs.ValuesRead.{read_value-word_of}
use Rattle.core_world.specs.declared.plan.LogEffect.{LogEffect}
use Rattle.core_world.specs.declared.plan.LocalEffect.TheVariants.{Unchanged}
use Rattle.core_world.proofs.ObjectSlots.{slots_are}
use Rattle.core_locks.proofs.telling.TellTaken.{IsFreeToTell, IsTaken, owns_held, one_owner, object_there, owner_taken}
use Rattle.core_locks.proofs.telling.Tells.{IsTelling, tells_so, still_parts, still_are, told_step}
use Rattle.core_locks.proofs.Clauses.{seen, AllHold}
use Rattle.core_locks.proofs.hash.Drawing.{draws_still}
use Rattle.core_locks.proofs.OwnSeen.{own_seen}
use Rattle.core_locks.proofs.Steps.{telling, IsStep, step_fits, seen_next}
use Rattle.core_world.proofs.Updates.{object_here, object_else, slots_stay}

-- a value to whose object the thread has a reference names one that is there
value_here : (s : Shape) (k : ThreadView) (v : Value) → HasValue s k v → IsHere s v
value_here s k Nil h = tt
value_here s k (Int i) h = tt
value_here s k (Ref o) h = h.within

-- the slots after one has got another value
slot_here : (xs : List Value) (i : ℕ) (v u : Value) → slice_get (slice_set xs i v) i ≡ Some u → v ≡ u
slot_here xs i v u h =
    let within : i < length xs = omega (arith, slice_get_within (slice_set xs i v) i u h, length-set xs i v) in
    sym (get_or-set_same xs i v Nil within) ∙ get_or_from_slice_get (slice_set xs i v) i u Nil h

same_value_self : (v : Value) → same_value v v ≡ true
same_value_self Nil = refl
same_value_self (Int n) = grind (arith, Decides-int_eq)
same_value_self (Ref o) = eq-eqb o o refl

-- a step on a slot, by its act, its note, what is unfinished afterwards unless the note says otherwise, and the stage
abbrev touch : CallContext → ℕ → ℕ → Act → LogEffect → Option Unfinished → Stage → StepPlan
touch e o slot act note last stage = record {
  at = Slot o slot;
  act = act;
  note = note;
  own = Unchanged;
  task = e.task;
  after = last;
  check = e.check;
  stage = stage;
}

-- What the step logs, and what it leaves: `y` is the entry, and `z` what that makes of the object.
record LogsTouch (w : World) (P : List PlainObject) (t o slot : ℕ) (act : Act) (note : LogEffect) (y : Logged) (z : PlainObject) : Type 0 where
  pub log : log_after note (w.words (Slot o slot)) (w.known t).log ≡ (w.known t).log ++ y ∷ []
  pub stamp : y.stamp ≡ last_stamp (w.known t).log + 1
  pub still : (w.known t).draws ≡ draws_after note (w.known t).draws
  pub counts : (seen : List StepMade) → kept_by_note note seen ≡ seen
  pub entry : IsTaken P (slice_set P o z) t y.entry
  pub own : IsOwnEntry (w.known t) y.entry
  pub slots : SlotsFit w.shape (λ i j. with_word (Slot o slot) (word_after act (w.words (Slot o slot))) w.words (Slot i j))
      (λ i. (object_of (slice_set P o z) i).slots)

module _ (w : World) (P : List PlainObject) (t : ℕ) (e : CallContext) (o slot : ℕ)
    (within : t < w.shape.threads) (may : MayTouch w.shape (w.known t) o slot) (v : Fits w P) where
  free : IsFreeToTell (w.known t)
  free = search may

  own : owner_at P o t ≡ true
  own = owns_held w P t v free o may.holds

  there : o < length P
  there = object_there w P o v may.object.within

  slot_within : slot < length (object_of P o).slots
  slot_within = omega (arith, slots_are w P v o, may.within)

  -- another thread that counts on the slot would own the object
  uncounted : (u s : ℕ) → u ≢ t → Stays w (w.known u) (owner_at P) u (Slot o slot) s → w.words (Slot o slot) ≡ s → ⊥
  uncounted u s d (inl h) is = d (one_owner P o t u own h.1)
  uncounted u s d (inr h) is = h.2

  module _ (act : Act) (note : LogEffect) (last : Option Unfinished) (y : Logged) (z : PlainObject) (a : LogsTouch w P t o slot act note y z) where
    -- the step, at the stage at which the thread stands
    abbrev plan : StepPlan
    plan = touch e o slot act note last (w.known t).stage

    abbrev l : ThreadView
    l = known_hit w.shape w.start plan (w.words (Slot o slot)) (w.known t)

    abbrev x : World
    x = with_word_and_known (Slot o slot) (word_after act (w.words (Slot o slot))) t l w

    abbrev Q : List PlainObject
    Q = slice_set P o z

    step : IsStep w t l telling
    step = record { within = within; mine = refl; others = λ k. refl }

    tells : IsTelling w P Q t y l
    tells = tells_so v within free a.log a.stamp a.entry a.own

    all_after : AllHold (still_parts step tells x.words)
    all_after seen =
        let kept = ap (λ (ms : List StepMade). record { plan = plan; found = w.words (Slot o slot) } ∷ ms) (a.counts (seen_before w.shape (w.known t))) in
        seen_next step x.words P (own_seen w P t plan (search (free.runs, kept, uncounted)) v)
    all_after c = told_step step tells v a.slots
        (draws_still w P Q t y l v tells.logs (let n = ap drawn_by a.entry.undrawn in omega (arith, n, a.still)) a.entry.undrawn) c

    touches : Fits (with_word_and_known (Slot o slot) (word_after act (w.words (Slot o slot))) t
        (known_hit w.shape w.start (touch e o slot act note last Settled) (w.words (Slot o slot)) (w.known t)) w) Q
    touches = subst (λ stage. Fits (with_word_and_known (Slot o slot) (word_after act (w.words (Slot o slot))) t
        (known_hit w.shape w.start (touch e o slot act note last stage) (w.words (Slot o slot)) (w.known t)) w) Q) may.calm
        (step_fits step x.words Q (still_parts step tells x.words) (still_are step tells a.entry.hashes x.words) all_after)

  -- the value that the word spells
  abbrev found : Value
  found = value_found (read_value (w.words (Slot o slot)))

  -- an object from which its owner gets a value stays as it is
  get_taken : take_at (object_of P o) t (Get o slot found) ≡ Some (object_of P o)
  get_taken =
      let a : Value = slice_index_or (object_of P o).slots slot Nil in
      let there : slice_get (object_of P o).slots slot ≡ Some a = slice_get-get_or (object_of P o).slots slot Nil slot_within in
      let is : found ≡ a = ap value_found (v.slots.value o slot a there) in
      let has : has_value (slice_get (object_of P o).slots slot) found ≡ true = ap (λ c. has_value c found) there ∙ ap (same_value a) is ∙ same_value_self a in
      ap (λ b. only_if (b && has_value (slice_get (object_of P o).slots slot) found) (object_of P o)) own ∙ ap (λ b. only_if b (object_of P o)) has

  gets : Logs w P t (get_plan e o slot) (Get o slot found)
  gets =
      let Q : List PlainObject = slice_set P o (object_of P o) in
      let entry = owner_taken P t o (Get o slot found) (object_of P o) there own refl refl refl refl get_taken in
      let same : w.words ≡ with_word (Slot o slot) (w.words (Slot o slot)) w.words = sym (with_word_same (Slot o slot) (w.words (Slot o slot)) w.words refl) in
      let slots = frame2 (SlotsFit w.shape) (λ i. λ n j. same i (Slot n j)) (slots_stay P o (object_of P o) there refl) v.slots in
      let own_entry : IsOwnEntry (w.known t) (Get o slot found) = record { operation = inl may.nothing; shot = tt } in
      record {
        now = Q;
        taken = entry.taken;
        valid = inl (touches Load (LogGet o slot) e.unfinished (record { stamp = last_stamp (w.known t).log + 1; entry = Get o slot found }) (object_of P o)
            (search (entry, own_entry, slots)));
      }

  -- the object with another value in the slot
  abbrev filled : Value → PlainObject
  filled value = record (object_of P o) { slots = slice_set (object_of P o).slots slot value }

  put_taken : (value : Value) → take_at (object_of P o) t (Put o slot value) ≡ Some (filled value)
  put_taken value =
      let below : nat_lt slot (length (object_of P o).slots) ≡ true = (let h = slot_within in grind (arith, nat_tests)) in
      ap (λ b. only_if (b && nat_lt slot (length (object_of P o).slots)) (filled value)) own ∙ ap (λ b. only_if b (filled value)) below

  -- a slot that has a value afterwards is this one, with that value, or another one that had it
  slots_after : (value : Value) (i j : ℕ) (x : Value) → slice_get (object_of (slice_set P o (filled value)) i).slots j ≡ Some x
      → ((Slot i j ≡ Slot o slot) × (value ≡ x)) ⊎ ((same_name (Slot i j) (Slot o slot) ≡ false) × (slice_get (object_of P i).slots j ≡ Some x))
  slots_after value i j x h =
      by_equal i o
      (λ same.
      let set : slice_get (slice_set (object_of P o).slots slot value) j ≡ Some x =
      sym (ap (λ (z : PlainObject). slice_get z.slots j) (ap (object_of (slice_set P o (filled value))) same ∙ object_here P o (filled value) there)) ∙ h in
      by_equal j slot
      (λ s. inl (
        ap (λ n. Slot n j) same ∙ ap (λ n. Slot o n) s,
        slot_here (object_of P o).slots slot value x (ap (slice_get (slice_set (object_of P o).slots slot value)) (sym s) ∙ set),
      ))
      (λ d.
      let stays = sym (get_set_other (object_of P o).slots slot j value (λ e. d (sym e))) in
      inr (grind (arith, nat_tests), ap (λ n. slice_get (object_of P n).slots j) same ∙ stays ∙ set)))
      (λ d. inr (grind (arith, nat_tests), sym (ap (λ (z : PlainObject). slice_get z.slots j) (object_else P o i (filled value) d)) ∙ h))

  put_slots : (value : Value) → MayPut w.shape (w.known t) o slot value
      → SlotsFit w.shape (λ i j. with_word (Slot o slot) (word_of value) w.words (Slot i j)) (λ i. (object_of (slice_set P o (filled value)) i).slots)
  put_slots value put = record {
    value = λ i j x h. elim (slots_after value i j x h) [
      | inl c ↦
          ap (λ n. read_value (with_word (Slot o slot) (word_of value) w.words n)) c.0 ∙ ap read_value (with_word_there (Slot o slot) (word_of value) w.words)
          ∙ read_value-word_of value put.spellable ∙ ap Some c.1
      | inr c ↦ ap (λ b. read_value (cond b (word_of value) (w.words (Slot i j)))) c.0 ∙ v.slots.value i j x c.1
    ];
    here = λ i j x h. elim (slots_after value i j x h) [
      | inl c ↦ subst (IsHere w.shape) c.1 (value_here w.shape (w.known t) value put.here)
      | inr c ↦ v.slots.here i j x c.1
    ];
  }

  puts : (value : Value) → MayPut w.shape (w.known t) o slot value → Logs w P t (put_plan e o slot value) (Put o slot value)
  puts value put =
      let entry = owner_taken P t o (Put o slot value) (filled value) there own refl refl refl refl (put_taken value) in
      let own_entry : IsOwnEntry (w.known t) (Put o slot value) = record { operation = inl may.nothing; shot = tt } in
      record {
        now = slice_set P o (filled value);
        taken = entry.taken;
        valid = inl (touches (Store (word_of value)) (Log (Put o slot value)) None
            (record { stamp = last_stamp (w.known t).log + 1; entry = Put o slot value }) (filled value)
            (search (entry, own_entry, put_slots value put)));
      }

-- THE LAWS
pub get_law : (e : CallContext) (o slot : ℕ) → LogsFound (λ w t. MayGet w.shape (w.known t) e o slot) (λ w t. get_plan e o slot) (get_entry o slot)
get_law e o slot w P t within may is = gets w P t e o slot within may.touches (fits_running w P t may.touches.runs is)

pub put_law : (e : CallContext) (o slot : ℕ) (value : Value)
    → LogsValid (λ w t. MayPut w.shape (w.known t) o slot value) (λ w t. put_plan e o slot value) (Put o slot value)
put_law e o slot value w P t within may is = puts w P t e o slot within may.touches (fits_running w P t may.touches.runs is) value may
