-- What a step leaves its thread knowing gives the premises of the next step of its tree, while the call goes on.
use Rattle.core_locks.proofs.Prelude.{◌≡◌, ◌≢◌, ℕ, ◌+◌, ◌==◌, eq-eqb, ne_eqb, Bool, true, false, cond, List, ◌∷◌, Some, refl, sym, ap, ◌∙◌}
use Rattle.core_locks.proofs.Prelude.{inl, inr, owner_of, wait_of, ByThread, Free, Notified, Mark, Waiting, Owner, Recursions, waits_on}
use Rattle.core_locks.proofs.Prelude.{ThreadView, last_seen, World, CallContext, known_hit, seen_before, SawInflated, SawOwn, MayWake, MayWakeNext}
use Rattle.core_locks.proofs.Prelude.{wake_next_plan, MayDrop, MayQuit, drop_plan, MayRegain, MayRestore, regain_plan, restore_plan}
use Rattle.core_locks.proofs.wait.WakeOrder.{Remain, oldest_seen, others_remain}

-- the call goes on, so that what it saw counts, and the thread knows its number
module _ (w : World) (t : ℕ) (going : seen_before w.shape (w.known t) ≡ (w.known t).seen) (number : (w.known t).thread ≡ t) where
  abbrev k : ThreadView
  k = w.known t

  -- a wait clears the recursions, and may free the monitor
  pub drop_then_quit : (e : CallContext) (o m : ℕ) → MayDrop (w.known t) e o m
      → MayQuit (known_hit w.shape w.start (drop_plan e o m) (w.words (Recursions m)) (w.known t)) e o m
  drop_then_quit e o m may = record {
    drops = record {
      runs = may.runs;
      stage = refl;
      inflated = (may.inflated.0, ap (last_seen (Mark o)) going ∙ may.inflated.1, may.inflated.2);
      owner = ap (last_seen (Owner m)) going ∙ may.owner;
      goes_on = inl refl;
    };
    recursions = ap (λ (b : Bool). cond b (Some 0) (last_seen (Recursions m) (seen_before w.shape (w.known t)))) (eq-eqb m m refl);
  }

  -- a thread that has the monitor back may restore the recursions
  pub regain_then_restore : (e : CallContext) (o m : ℕ) → (w.words (Owner m) == owner_of Free) ≡ true → MayRegain (w.known t) e o m
      → MayRestore (known_hit w.shape w.start (regain_plan e t o m) (w.words (Owner m)) (w.known t)) e o m
  regain_then_restore e o m hit may = record {
    runs = may.runs;
    stage = refl;
    inflated = (may.inflated.0, ap (last_seen (Mark o)) going ∙ may.inflated.1, may.inflated.2);
    owner =
        ap (λ (b : Bool). cond b (Some (cond (w.words (Owner m) == owner_of Free) (owner_of (ByThread t)) (w.words (Owner m))))
        (last_seen (Owner m) (seen_before w.shape (w.known t)))) (eq-eqb m m refl)
        ∙ ap (λ (b : Bool). Some (cond b (owner_of (ByThread t)) (w.words (Owner m)))) hit ∙ ap (λ u. Some (owner_of (ByThread u))) (sym number);
    goes_on = inl refl;
  }

  -- restoring them, it still knows that it is the owner, and that they are what it saved
  pub restore_then_log : (e : CallContext) (o m : ℕ) → MayRestore (w.known t) e o m
      → SawInflated (known_hit w.shape w.start (restore_plan e o m (w.known t).saved) (w.words (Recursions m)) (w.known t)) o m
      × SawOwn (known_hit w.shape w.start (restore_plan e o m (w.known t).saved) (w.words (Recursions m)) (w.known t)) (w.known t).thread m
      × (last_seen (Recursions m) (known_hit w.shape w.start (restore_plan e o m (w.known t).saved)
      (w.words (Recursions m)) (w.known t)).seen ≡ Some (w.known t).saved)
  restore_then_log e o m may = (
    (may.inflated.0, ap (last_seen (Mark o)) going ∙ may.inflated.1, may.inflated.2),
    ap (last_seen (Owner m)) going ∙ may.owner,
    ap (λ (b : Bool). cond b (Some (w.known t).saved) (last_seen (Recursions m) (seen_before w.shape (w.known t)))) (eq-eqb m m refl),
  )

  -- of those who wait the next one is the oldest then
  pub wake_then_wake : (e : CallContext) (o n : ℕ) (p q : ℕ × ℕ) (ps : List (ℕ × ℕ)) → p.0 ≢ t
      → waits_on (wait_of (Notified o)) o ≡ false → MayWakeNext w.shape (w.known t) e o p.0 n
      → Remain w.shape.threads (w.known t) o (p ∷ q ∷ ps)
      → MayWake w.shape (known_hit w.shape w.start (wake_next_plan e o p.0 (n + 1)) (w.words (Waiting p.0)) (w.known t)) o q.0 (n + 1)
      × Remain w.shape.threads (known_hit w.shape w.start (wake_next_plan e o p.0 (n + 1)) (w.words (Waiting p.0)) (w.known t)) o (q ∷ ps)
  wake_then_wake e o n p q ps other quiet may remain =
      let l : ThreadView = known_hit w.shape w.start (wake_next_plan e o p.0 (n + 1)) (w.words (Waiting p.0)) (w.known t) in
      let now : (z : ℕ) → last_seen (Waiting z) l.seen ≡ cond (z == p.0) (Some (wait_of (Notified o))) (last_seen (Waiting z) (w.known t).seen) =
      λ z. ap (λ ms. cond (z == p.0) (Some (wait_of (Notified o))) (last_seen (Waiting z) ms)) going in
      let left = others_remain w.shape.threads (w.known t) l o (wait_of (Notified o)) p (q ∷ ps) now quiet remain in (
        record {
          runs = may.wakes.runs;
          ready = ap (λ (b : Bool). cond b (wait_of (Notified o)) (w.known t).wait) (ap (λ u. p.0 == u) number ∙ ne_eqb p.0 t other) ∙ may.wakes.ready;
          holds = may.wakes.holds;
          object = record { within = may.wakes.object.within; known = may.wakes.object.known };
          told = inr refl;
          oldest = oldest_seen w.shape.threads l o q ps left;
        },
        left,
      )
