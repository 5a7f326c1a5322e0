-- A load that logs nothing, and an exchange that misses, keep the world valid, with the same plain objects.
use Rattle.std.proofs.Common.{◌≡◌, ℕ, ◌&&◌, ◌||◌, Bool, true, false, cond, List, [], ◌∷◌, Some, None, refl, sym, ap, ◌∙◌, subst, inl, inr}
use Rattle.plain_monitor.specs.Objects.{PlainObject}
use Rattle.core_world.specs.declared.act.Act.TheVariants.{Load}
use Rattle.core_world.specs.declared.word_id.WordId.{WordId}
use Rattle.core_world.specs.declared.word_id.WordId.TheVariants as id
use Rattle.core_world.specs.declared.word_id.WordId.TheVariants.{Safepoint, Mark, Owner, Recursions}
use Rattle.core_world.specs.declared.plan.LogEffect.TheVariants.{Quiet}
use Rattle.core_world.specs.declared.plan.LocalEffect.TheVariants.{Unchanged}
use Rattle.core_world.specs.declared.plan.StepPlan.{StepPlan}
use Rattle.core_world.specs.Words.Forms.{monitor_in, is_halted, is_still}
use Rattle.core_world.specs.Words.Shape.{Shape}
use Rattle.core_world.specs.Words.Acts.{hits}
use Rattle.core_world.specs.Threads.ThreadView.{ThreadView, StepMade, last_seen}
use Rattle.core_world.specs.Threads.Stages.{revocation_in}
use Rattle.core_world.specs.World.{World}
use Rattle.core_world.specs.Locks.{marks, waits_at}
use Rattle.core_world.specs.Clauses.SeenWords.{IsKeptOrNamed, AreTheSteps}
use Rattle.core_world.specs.Looking.{IsOfMonitor, MayLook, IsLook, IsMiss}
use Rattle.core_world.specs.Steps.{known_hit, known_miss, known_after, seen_before, seen_at_safepoint_before, reached_after, halted_after, shots_after}
use Rattle.core_world.specs.Valid.{SeenFit, SafepointFits}
use Rattle.core_world.proofs.NoWordChanges.{Glance, still_nobody}
use Rattle.core_world.proofs.ActsLook.{runs_load, asks_load, holds_load, wait_load, published_load, kept_load, seen_is_part, missed_word, missed_write}

module _ (w : World) (P : List PlainObject) (t : ℕ) (seen : SeenFit w P) (safe : SafepointFits w P)
    (idle : (w.known t).running ≡ true → (o : ℕ) → monitor_in (marks w o) ≡ None → waits_at P o ≡ []) where
  -- a monitor that the running thread has found is kept by it, or named by a mark
  found_named : (at : WordId) → MayLook (w.known t) at → (w.known t).running ≡ true → (m : ℕ) → IsOfMonitor m at → IsKeptOrNamed w (w.known t) m
  found_named at may r m is = elim (may.found r m is) [
    | inl a ↦ inl a
    | inr a ↦ inr (a.0, ap monitor_in (seen.stays t (Mark a.0) a.1 a.2 (inl (r, inr (inl (m, a.3))))) ∙ a.3)
  ]

  -- what the thread has learnt by looking at the safepoint word is so
  learnt : (at : WordId) → reached_after at Load (w.words at) (w.known t) ≡ true → ((w.known t).requesting ≡ true) × ((u : ℕ) → (w.known u).running ≡ false)
  learnt id.Safepoint e = by_reached (w.known t).reached refl e
    where
      by_asking : (b : Bool) → (w.known t).requesting ≡ b → (b && is_still (w.words Safepoint)) ≡ true
          → ((w.known t).requesting ≡ true) × ((u : ℕ) → (w.known u).running ≡ false)
      by_asking true r e = (r, still_nobody w P safe e)
      by_asking false r e = absurd (cc e)

      by_reached : (b : Bool) → (w.known t).reached ≡ b → (b || ((w.known t).requesting && is_still (w.words Safepoint))) ≡ true
          → ((w.known t).requesting ≡ true) × ((u : ℕ) → (w.known u).running ≡ false)
      by_reached true r e = safe.safepoint t r
      by_reached false r e = by_asking (w.known t).requesting refl e
  learnt _ e = safe.safepoint t e

  halt_learnt : (at : WordId) → halted_after at (w.words at) (w.known t) ≡ true → is_halted (w.words Safepoint) ≡ true
  halt_learnt id.Safepoint e = cases (w.known t).halted refl e
    where
      cases : (b : Bool) → (w.known t).halted ≡ b → (b || is_halted (w.words Safepoint)) ≡ true → is_halted (w.words Safepoint) ≡ true
      cases true r e = safe.stopped t r
      cases false r e = e
  halt_learnt _ e = safe.stopped t e

  -- what the thread goes on to count on at its safepoint it could count on before
  since_there : (at : WordId) (n : WordId) (s : ℕ) → reached_after at Load (w.words at) (w.known t) ≡ true
      → last_seen n (seen_at_safepoint_before at Load (w.known t)) ≡ Some s
      → ((w.known t).reached ≡ true) × (last_seen n (w.known t).seen_at_safepoint ≡ Some s)
  since_there id.Safepoint n s r e = cases (w.known t).reached refl e
    where
      cases : (b : Bool) → (w.known t).reached ≡ b → last_seen n (cond b (w.known t).seen_at_safepoint []) ≡ Some s
          → ((w.known t).reached ≡ true) × (last_seen n (w.known t).seen_at_safepoint ≡ Some s)
      cases true q e = (q, e)
      cases false q e = absurd (cc e)
  since_there _ n s r e = (r, e)

  since_alone : (at : WordId) → reached_after at Load (w.words at) (w.known t) ≡ true
      → revocation_in (w.known t).stage ≡ None → AreTheSteps w.words (seen_at_safepoint_before at Load (w.known t))
  since_alone id.Safepoint r e = cases (w.known t).reached refl
    where
      cases : (b : Bool) → (w.known t).reached ≡ b → AreTheSteps w.words (cond b (w.known t).seen_at_safepoint [])
      cases true q = seen.alone t q e
      cases false q = record { before = w.words; found = tt; same = refl }
  since_alone _ r e = seen.alone t r e

  -- a safepoint that was reached is
  still_reached : (at : WordId) → (w.known t).reached ≡ true → reached_after at Load (w.words at) (w.known t) ≡ true
  still_reached id.Safepoint e = ap (λ b. b || ((w.known t).requesting && is_still (w.words Safepoint))) e
  still_reached _ e = e

  -- a load, as it is written down
  pub look_glance : (p : StepPlan) → IsLook (w.known t) p → Glance w P (w.known t) (known_after w.shape w.start p (w.words p.at) (w.known t)) p
  look_glance p look =
      let q : StepPlan = record p { act = Load; note = Quiet; own = Unchanged } in
      let same : q ≡ p = λ i. record p { act = sym look.act i; note = sym look.note i; own = sym look.own i } in
      subst (λ z. Glance w P (w.known t) (known_after w.shape w.start z (w.words z.at) (w.known t)) z) same
      (record {
        same = record {
          thread = refl;
          log = refl;
          running = sym (runs_load p.at (w.words p.at) (w.known t));
          requesting = sym (asks_load p.at (w.words p.at) (w.known t));
          kept = refl;
          moving = refl;
          saved = refl;
          holds = sym (holds_load p.at (w.known t));
          wait = sym (wait_load p.at (w.known t));
          published = sym (published_load p.at (w.known t));
          stage = sym look.stage;
          counts = refl;
          draws = refl;
          unfinished = elim look.after [ inl e ↦ inl (sym e) | inr e ↦ inr e ];
        };
        looks = record {
          word = refl;
          as_found = refl;
          unwritten = refl;
          run = runs_load p.at (w.words p.at) (w.known t);
          ask = asks_load p.at (w.words p.at) (w.known t);
          stage = look.stage;
          kept = refl;
          old = seen_before w.shape (w.known t);
          seen = ap (λ (z : List StepMade). record { plan = q; found = w.words p.at } ∷ z)
              (kept_load p.at (w.words p.at) (w.known t) (seen_before w.shape (w.known t)));
          part = seen_is_part w.shape (w.known t);
          since = seen_at_safepoint_before p.at Load (w.known t);
          seen_at_safepoint = refl;
          there = λ n s r e. let a = since_there p.at n s r e in seen.stands t n s a.0 a.1;
          alone = since_alone p.at;
          fresh = found_named p.at look.may;
          idle = idle;
        };
        reached = λ e. let a = learnt p.at e in (asks_load p.at (w.words p.at) (w.known t) ∙ a.0, a.1);
        halted = halt_learnt p.at;
        stands = still_reached p.at;
      })

  -- an exchange that missed
  pub miss_glance : (p : StepPlan) → IsMiss (w.known t) p (w.words p.at) → Glance w P (w.known t) (known_after w.shape w.start p (w.words p.at) (w.known t)) p
  miss_glance p miss =
      let hit = known_hit w.shape w.start p (w.words p.at) (w.known t) in
      let missed : known_miss w.shape w.start p (w.words p.at) (w.known t) ≡ known_after w.shape w.start p (w.words p.at) (w.known t) =
      ap (λ (b : Bool). cond b hit (known_miss w.shape w.start p (w.words p.at) (w.known t))) (sym miss.missed) in
      subst (λ z. Glance w P (w.known t) z p) missed
      (record {
        same = record {
          thread = refl;
          log = refl;
          running = refl;
          requesting = refl;
          kept = refl;
          moving = refl;
          saved = refl;
          holds = refl;
          wait = refl;
          published = refl;
          stage = refl;
          counts = refl;
          draws = refl;
          unfinished = inl refl;
        };
        looks = record {
          word = missed_word p.act (w.words p.at) miss.missed;
          as_found = refl;
          unwritten = missed_write p.at p.act (w.words p.at) miss.missed;
          run = refl;
          ask = refl;
          stage = refl;
          kept = refl;
          old = seen_before w.shape (w.known t);
          seen = refl;
          part = seen_is_part w.shape (w.known t);
          since = (w.known t).seen_at_safepoint;
          seen_at_safepoint = refl;
          there = λ n s r e. seen.stands t n s r e;
          alone = seen.alone t;
          fresh = found_named p.at miss.may;
          idle = idle;
        };
        reached = safe.safepoint t;
        halted = halt_learnt p.at;
        stands = λ e. e;
      })

-- neither keeps a shot
pub look_shots : (s : Shape) (start : ℕ) (p : StepPlan) (n : ℕ) (k : ThreadView) → IsLook k p → k.shots ≡ (known_after s start p n k).shots
look_shots s start p n k look =
    sym (ap (λ a. (cond (hits a n) (known_hit s start p n k) (known_miss s start p n k)).shots) look.act ∙ ap (λ o. shots_after o s k) look.own)

pub miss_shots : (s : Shape) (start : ℕ) (p : StepPlan) (n : ℕ) (k : ThreadView) → IsMiss k p n → k.shots ≡ (known_after s start p n k).shots
miss_shots s start p n k miss = sym (ap (λ b. (cond b (known_hit s start p n k) (known_miss s start p n k)).shots) miss.missed)
