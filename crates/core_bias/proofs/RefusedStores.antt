-- Stores that no valid world has: of a bias that isn't exchanged, of a revocation beside a thread that runs, and of a second count.
use Rattle.core_locks.proofs.Prelude.{◌≡◌, ◌≢◌, ℕ, ◌<◌, ◌==◌, ◌||◌, ◌++◌, eq-eqb, ne_eqb, Bool, true, false, cond, if◌then◌else◌, List, []}
use Rattle.core_locks.proofs.Prelude.{◌∷◌, Some, None, refl, sym, ap, ◌∙◌, arith, inl, inr, read_mark, mark_of, Biased, read_mark-mark_of}
use Rattle.core_locks.proofs.Prelude.{is_thread, WordId, Mark, Revocations, StepPlan, BiasAcquired, bears, revocation_in, ThreadView, World}
use Rattle.core_locks.proofs.Prelude.{Open, BiasedTo, lock, lock_form, has_epoch, holder, hold_count, owner_words, prototype_of, inflations}
use Rattle.core_locks.proofs.Prelude.{owner_at, epoch_in, CallContext, with_stage, store, IsRevoking, Valid, world_after, with_known_here}
use Rattle.core_locks.proofs.Prelude.{with_known_else, by_equal, running_fits, same_Some, logs, objects_after, logs_stay}
use Rattle.std.proofs.Common.{append_assoc}
use Rattle.core_world.specs.declared.plan.LocalEffect.{LocalEffect}
use Rattle.core_world.specs.RevocationRules.{Write, write, revocation_writes, writes_in}
use Rattle.core_world.specs.Threads.Stages.{Revocation}
use Rattle.core_locks.proofs.RefutedSteps.{hit, hit_fits, knows}
use Rattle.core_bias.proofs.CountOnce.{count_once}
use Rattle.core_world.specs.Trees.RevocationSteps.{revoke_plan}

pub no_stored_bias : (w : World) (t u o epoch : ℕ) (e : CallContext) (v : Valid w)
    → (w.known t).running ≡ true → u ≢ t → owner_at v.objects o u ≡ true → epoch < 4
    → Valid (world_after (with_stage (BiasAcquired o) (store e (Mark o) (mark_of (Biased t epoch 0)))) t w) → ⊥
no_stored_bias w t u o epoch e v runs other owns low valid =
    let m = mark_of (Biased t epoch 0) in
    let plan : StepPlan = with_stage (BiasAcquired o) (store e (Mark o) m) in
    let before = running_fits w v t runs in
    let x = hit plan t w in
    let now = hit_fits plan t w refl runs valid in
    let within = before.safe.few t runs in
    let reads = read_mark-mark_of (Biased t epoch 0) (omega (arith, within, before.limits.threads), low, omega arith) in
    -- the plain objects are the same, by the same logs
    let all : logs x ≡ logs w = logs_stay 0 w.shape.threads t (knows plan t w) w.known refl in
    let same : v.objects ≡ now.0 = same_Some _ _ (sym before.taken ∙ ap (objects_after w.shape.objects) (sym all) ∙ now.1.taken) in
    let still : owner_at now.0 o u ≡ true = ap (λ P. owner_at P o u) (sym same) ∙ owns in
    let mark : x.words (Mark o) ≡ m = ap (λ (c : Bool). cond c m (w.words (Mark o))) (eq-eqb o o refl) in
    let lock_is : lock x o ≡ (if has_epoch (epoch_in (prototype_of x o)) epoch then BiasedTo t else Open) =
    ap (λ n. lock_form (read_mark n) (prototype_of x o) (owner_words x) (inflations x o)) mark
    ∙ ap (λ f. lock_form f (prototype_of x o) (owner_words x) (inflations x o)) reads in
    let hasnt = ap (λ f. is_thread (holder f (λ y. hold_count o (x.known y).holds)) u) lock_is
    ∙ leaning (λ y. hold_count o (x.known y).holds) (has_epoch (epoch_in (prototype_of x o)) epoch) in
    let has = now.1.owners.same o u ∙ ap (λ a. a || bears (x.known u).stage o) still in
    absurd (cc (hasnt, has))
  where
    leaning : (c : ℕ → ℕ) (a : Bool) → is_thread (holder (if a then BiasedTo t else Open) c) u ≡ false
    leaning c false = refl
    leaning c true = by_count (c t == 0)
      where
        by_count : (a : Bool) → is_thread (cond a None (Some t)) u ≡ false
        by_count true = refl
        by_count false = ne_eqb t u (λ q. other (sym q))

module _ (w : World) (r : ℕ) (e : CallContext) (b : Revocation) (own : LocalEffect) (at : WordId) (word : ℕ) where
  abbrev x : World
  x = world_after (revoke_plan e b own at word) r w

  -- its thread stands at the revocation then
  its_revocation : revocation_in (x.known r).stage ≡ Some b
  its_revocation = ap (λ (k : ThreadView). revocation_in k.stage) (with_known_here r (knows (revoke_plan e b own at word) r w) w.known)

  -- so the world is in the middle of it, and the thread is the requester
  pub in_middle : (v : Valid x) → IsRevoking x v.objects
  in_middle v = elim v.is [ inl f ↦ (let none = f.quiet.none_revokes r in absurd (cc (none, its_revocation))) | inr s ↦ s ]

  pub its_own : (v : Valid x) → (in_middle v).requester ≡ r
  its_own v =
      by_equal (in_middle v).requester r (λ q. q)
      (λ d.
      let s = in_middle v in
      let none = s.fits.quiet.none_revokes r in
      let same = ap (λ (k : ThreadView). revocation_in k.stage) (s.others r (λ q. d (sym q))) in
      absurd (cc (none, same, its_revocation)))

  -- and nobody runs
  pub nobody_runs : Valid x → (u : ℕ) → (x.known u).running ≡ false
  nobody_runs v u = let s = in_middle v in (s.safe.safepoint s.requester (ap (λ (k : ThreadView). k.reached) s.knows ∙ s.reached)).1 u

pub no_running : (w : World) (r u : ℕ) (e : CallContext) (b : Revocation) (own : LocalEffect) (at : WordId) (word : ℕ)
    → (w.known u).running ≡ true → u ≢ r → Valid (world_after (revoke_plan e b own at word) r w) → ⊥
no_running w r u e b own at word runs other v =
    let stopped = nobody_runs w r e b own at word v u in
    let same = ap (λ (k : ThreadView). k.running) (with_known_else r (knows (revoke_plan e b own at word) r w) w.known u other) in
    absurd (cc (stopped, same, runs))

pub no_count : (w : World) (r c : ℕ) (e : CallContext) (b : Revocation) (own : LocalEffect) (word : ℕ)
    → writes_in (w.known r).seen_at_safepoint ≢ [] → Valid (world_after (revoke_plan e b own (Revocations c) word) r w) → ⊥
no_count w r c e b own word some v = by_stores (writes_in (w.known r).seen_at_safepoint) refl
  where
    s : IsRevoking (world_after (revoke_plan e b own (Revocations c) word) r w) v.objects
    s = in_middle w r e b own (Revocations c) word v

    l : ThreadView
    l = knows (revoke_plan e b own (Revocations c) word) r w

    made : (writes_in (w.known r).seen_at_safepoint ++ write (Revocations c) word ∷ [])
        ++ s.rest ≡ revocation_writes s.before.shape s.requester s.revocation s.before.words
    made =
        let here : (world_after (revoke_plan e b own (Revocations c) word) r w).known s.requester ≡ l =
        ap (world_after (revoke_plan e b own (Revocations c) word) r w).known (its_own w r e b own (Revocations c) word v)
        ∙ with_known_here r l w.known in
        ap (λ (k : ThreadView). writes_in k.seen_at_safepoint ++ s.rest) (sym here) ∙ s.writes

    by_stores : (xs : List Write) → writes_in (w.known r).seen_at_safepoint ≡ xs → ⊥
    by_stores [] q = some q
    by_stores (y ∷ ys) q =
        count_once s.before.shape s.requester s.revocation s.before.words y ys s.rest c word
        (sym (append_assoc (y ∷ ys) (write (Revocations c) word ∷ []) s.rest) ∙ ap (λ zs. (zs ++ write (Revocations c) word ∷ []) ++ s.rest) (sym q) ∙ made)
