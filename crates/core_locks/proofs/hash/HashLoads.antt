-- A running, calm thread loads a word in which it may find an object's hash: it logs Hash if it finds one, and else has looked.
use Rattle.core_locks.proofs.Prelude.{◌≡◌, ◌⊎◌, ℕ, zero, suc, ◌+◌, ◌<◌, ◌==◌, eq-eqb, true, false, cond, List, [], ◌∷◌, ◌++◌, length}
use Rattle.core_locks.proofs.Prelude.{slice_set, Option, Some, None, refl, sym, ap, ◌∙◌, subst, arith, inl, inr, only_if, PlainObject}
use Rattle.core_locks.proofs.Prelude.{take_entry, with_hash, hashed, Logged, last_stamp, WordId, StepPlan, hash_in, ThreadView, StepMade}
use Rattle.core_locks.proofs.Prelude.{World, object_of, owner_at, hash_at, waits_at, or_zero, IsKeptOrNamed, CallContext, world_after}
use Rattle.core_locks.proofs.Prelude.{known_hit, seen_before, reached_after, halted_after, seen_at_safepoint_before, Fits, IsValid, SeenFit}
use Rattle.core_locks.proofs.Prelude.{Load, IsOfMonitor, find_hash_plan, seen_is_part, runs_load, asks_load, holds_load, wait_load}
use Rattle.core_locks.proofs.Prelude.{published_load, kept_load, unwaited_fits, with_knowledge, with_knowledge_alone, Logs, GoesOn, MayHash}
use Rattle.plain_monitor.specs.declared.entry.Entry.TheVariants as entry
use Rattle.core_world.proofs.SeenNoted.{seen_noted}
use Rattle.core_locks.proofs.Clauses.{kept_parts, parts_stand, seen, AllHold}
use Rattle.core_locks.proofs.hash.Drawing.{draws_still}
use Rattle.core_locks.proofs.telling.Tells.{IsTelling, told_parts, told_are, told_step}
use Rattle.core_locks.proofs.Logging.{IsLogging}
use Rattle.core_locks.proofs.Steps.{quietly, telling, IsStep, next, step_fits, seen_next, quiet_step}
use Rattle.core_locks.proofs.telling.TellTaken.{IsFreeToTell, object_there}
use Rattle.core_world.proofs.Updates.{takes}

-- an object with a hash takes the same one again
some_hash : (a : Option ℕ) (h : ℕ) → or_zero a ≡ h → (h == 0) ≡ false → a ≡ Some h
some_hash None h e n = absurd (cc (e, n))
some_hash (Some g) h e n = ap Some e

set_same : (P : List PlainObject) (o : ℕ) → slice_set P o (object_of P o) ≡ P
set_same [] o = refl
set_same (x ∷ P) zero = refl
set_same (x ∷ P) (suc o) = ap (λ R. x ∷ R) (set_same P o)

pub found_taken : (P : List PlainObject) (t o h : ℕ) → o < length P → hash_at P o ≡ h → (h == 0) ≡ false → take_entry P t (entry.Hash o h None) ≡ Some P
found_taken P t o h within is some =
    let has : (object_of P o).hash ≡ Some h = some_hash (object_of P o).hash h is some in
    let again : hashed (object_of P o).hash h ≡ Some (object_of P o).hash =
    ap (λ a. hashed a h) has ∙ ap (λ b. only_if b (Some h)) (eq-eqb h h refl) ∙ ap Some (sym has) in
    takes P o t (entry.Hash o h None) (object_of P o) within refl (ap (with_hash (object_of P o)) again) ∙ ap Some (set_same P o)

-- the word is none of the run, and if it is one of a monitor, a mark names that
pub record IsFindable (w : World) (k : ThreadView) (at : WordId) : Type 0 where
  pub reached : reached_after at Load (w.words at) k ≡ k.reached
  pub halted : halted_after at (w.words at) k ≡ k.halted
  pub fresh : (m : ℕ) → IsOfMonitor m at → IsKeptOrNamed w k m

module _ (w : World) (P : List PlainObject) (t : ℕ) (e : CallContext) (o : ℕ) (at : WordId) (within : t < w.shape.threads)
    (may : MayHash w.shape (w.known t) o) (at_it : IsFindable w (w.known t) at) (v : Fits w P) where
  abbrev plan : StepPlan
  plan = find_hash_plan e at o

  abbrev found : ℕ
  found = w.words at

  abbrev l : ThreadView
  l = known_hit w.shape w.start plan found (w.known t)

  free : IsFreeToTell (w.known t)
  free = record { runs = may.runs; calm = may.calm; ready = may.ready; room = may.room }

  unreached : l.reached ≡ true → ⊥
  unreached r = let stopped = (v.safe.safepoint t (sym at_it.reached ∙ r)).1 t in absurd (cc (stopped, may.runs))

  seen_law : SeenFit (with_knowledge t l w) P
  seen_law = seen_noted plan found t l w (owner_at P) (waits_at P) (record {
    word = refl;
    as_found = refl;
    unwritten = refl;
    run = runs_load at found (w.known t);
    ask = asks_load at found (w.known t);
    stage = sym may.calm;
    kept = refl;
    old = seen_before w.shape (w.known t);
    seen = ap (λ (z : List StepMade). record { plan = plan; found = found } ∷ z) (kept_load at found (w.known t) (seen_before w.shape (w.known t)));
    part = seen_is_part w.shape (w.known t);
    since = seen_at_safepoint_before at Load (w.known t);
    seen_at_safepoint = refl;
    there = λ n s r. absurd (unreached r);
    alone = λ r. absurd (unreached r);
    fresh = λ r. at_it.fresh;
    idle = λ r. unwaited_fits w P v;
  }) v.seen

  abbrev y : Logged
  y = record { stamp = last_stamp (w.known t).log + 1; entry = entry.Hash o (hash_in found) None }

  known_is : l ≡ telling true l (w.known t)
  known_is = λ i. record l {
    running = runs_load at found (w.known t) i;
    requesting = asks_load at found (w.known t) i;
    reached = at_it.reached i;
    halted = at_it.halted i;
    holds = holds_load at (w.known t) i;
    wait = wait_load at (w.known t) i;
    published = published_load at (w.known t) i;
    stage = sym may.calm i;
  }

  -- IT FINDS NO HASH: a look
  module _ (none : (hash_in found == 0) ≡ true) (goes_on : GoesOn (w.known t) e) where
    unlogged : IsStep w t l quietly
    unlogged = record {
      within = within;
      mine = known_is ∙ (λ i. record (telling true l (w.known t)) { log = cond (none i) (w.known t).log ((w.known t).log ++ y ∷ []) });
      others = λ k. refl;
    }

    goes : (l.unfinished ≡ (w.known t).unfinished) ⊎ ((w.known t).unfinished ≡ None)
    goes = let a : l.unfinished ≡ e.unfinished = ap (λ b. cond b e.unfinished None) none in elim goes_on [ inl g ↦ inl (a ∙ g) | inr g ↦ inr g ]

    abbrev same : World
    same = next w t l quietly w.words

    none_after : AllHold (kept_parts w same P)
    none_after seen = seen_next unlogged w.words P seen_law
    none_after c = quiet_step unlogged P goes may.runs v c

    none_fits : Fits (with_knowledge t l w) P
    none_fits = step_fits unlogged w.words P (kept_parts w same P) (parts_stand w same P refl (λ u. refl) (λ u. refl) refl refl refl (λ e. refl)) none_after

  -- IT FINDS ONE, which is the plain hash
  module _ (some : (hash_in found == 0) ≡ false) (plain : hash_in found ≡ hash_at P o) where
    step : IsStep w t l telling
    step = record { within = within; mine = known_is; others = λ k. refl }

    taken : take_entry P t y.entry ≡ Some P
    taken = found_taken P t o (hash_in found) (object_there w P o v may.object.within) (sym plain) some

    logs_it : IsLogging w P P t y l
    logs_it = record {
      within = within;
      grows = ap (λ b. cond b (w.known t).log ((w.known t).log ++ y ∷ [])) some;
      taken = taken;
      own = may.own_entry (hash_in found) None;
      up = omega arith;
      above = λ i b. absurd (cc b);
      follows = λ k. refl;
    }

    telling_it : IsTelling w P P t y l
    telling_it = record { free = free; logs = logs_it; owned = λ i b. absurd (cc b); stamp = refl; monitors = refl }

    all_after : AllHold (told_parts step telling_it w.words)
    all_after seen = seen_next step w.words P seen_law
    all_after c = told_step step telling_it v v.slots (draws_still w P P t y l v logs_it (omega arith) refl) c

    found_fits : Fits (with_knowledge t l w) P
    found_fits = step_fits step w.words P (told_parts step telling_it w.words) (told_are step telling_it w.words) all_after

  -- the same of the step as it is written down
  pub finds_none : (hash_in found == 0) ≡ true → GoesOn (w.known t) e → IsValid (world_after plan t w) P
  finds_none none goes_on = inl (subst (λ y. Fits y P) (sym (with_knowledge_alone at found t l w refl)) (none_fits none goes_on))

  pub finds_it : (hash_in found == 0) ≡ false → hash_in found ≡ hash_at P o → Logs w P t plan (entry.Hash o (hash_in found) None)
  finds_it some plain = record {
    now = P;
    taken = taken some plain;
    valid = inl (subst (λ y. Fits y P) (sym (with_knowledge_alone at found t l w refl)) (found_fits some plain));
  }
