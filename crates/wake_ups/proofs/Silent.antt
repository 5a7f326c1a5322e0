-- A notify that logs whom it wakes, and stores nothing, leads to no valid world: who is notified in the logs then still waits by its word.
use Rattle.core_locks.proofs.Prelude.{◌≡◌, ℕ, ◌+◌, ◌==◌, ◌||◌, Bool, true, false, cond, List, [], ◌∷◌, ◌++◌, length, Some, None, refl, sym}
use Rattle.core_locks.proofs.Prelude.{ap, ◌∙◌, inl, is_listed, owns, calls, only_if, with_monitor, same_Some, PlainObject, Logged, Waiting}
use Rattle.core_locks.proofs.Prelude.{Length, StepPlan, waits_on, ThreadView, World, notified_at, Notify, local_of, same_number}
use Rattle.plain_monitor.specs.Monitor.{notify}
use Rattle.core_world.specs.Steps.{is_idle, world_after}
use Rattle.core_world.specs.Trees.Plans.{CallContext, next_stamp}
use Rattle.core_world.specs.Trees.WaitSteps.{publish_plan, publish_steps}
use Rattle.core_world.specs.Valid.{Valid}
use Rattle.core_world.proofs.bias.LookWhileRevoking.{without_clause}
use Rattle.core_world.proofs.enter_exit.OwnersShown.{running_fits}
use Rattle.core_locks.proofs.enter_exit.RefutedOwning.{takes_it}
use Rattle.core_locks.proofs.RefutedSteps.{knows, hit, hit_fits}
use Rattle.core_locks.proofs.RefutedTaken.{taken_here, object_after}
use Rattle.core_law.specs.Logic.{Heap, SoundWorldWith, DoesSteps}
use Rattle.core_law.specs.WholeLaw.{LawsHold}
use Rattle.core_law.proofs.Standing.{away, valid_here}
use Rattle.wake_ups.proofs.Notified.{no_lost_notify}

-- whom a notify wakes was notified after it
listed_at_end : (ps : List (ℕ × ℕ)) (p : ℕ × ℕ) (u : ℕ) → (p.0 == u) ≡ true → is_listed (ps ++ p ∷ []) u ≡ true
listed_at_end [] p u h = ap (λ b. b || false) h
listed_at_end (q ∷ ps) p u h = by_head (q.0 == u) (listed_at_end ps p u h)
  where
    by_head : (b : Bool) → is_listed (ps ++ p ∷ []) u ≡ true → (b || is_listed (ps ++ p ∷ []) u) ≡ true
    by_head true ih = refl
    by_head false ih = ih

woken : (x y : PlainObject) (t u : ℕ) → with_monitor x (notify x.monitor t (Some u)) ≡ Some y → is_listed y.monitor.called u ≡ true
woken x y t u taken = by_owner (owns x.monitor t) taken
  where
    by_waits : (ps : List (ℕ × ℕ)) → with_monitor x (calls x.monitor ps (Some u)) ≡ Some y → is_listed y.monitor.called u ≡ true
    by_waits [] h = absurd (cc h)
    by_waits (p ∷ ps) h = by_test (p.0 == u) refl h
      where
        by_test : (b : Bool) → (p.0 == u) ≡ b
            → with_monitor x (only_if b (record x.monitor { waits = ps; called = x.monitor.called ++ p ∷ [] })) ≡ Some y → is_listed y.monitor.called u ≡ true
        by_test true f g =
            ap (λ (z : PlainObject). is_listed z.monitor.called u) (sym (same_Some _ y g)) ∙ listed_at_end x.monitor.called p u f
        by_test false f g = absurd (cc g)

    by_owner : (b : Bool) → with_monitor x (cond b (calls x.monitor x.monitor.waits (Some u)) None) ≡ Some y → is_listed y.monitor.called u ≡ true
    by_owner true h = by_waits x.monitor.waits h
    by_owner false h = absurd (cc h)

pub no_silent_notify : (w : World) (o t u n : ℕ) (e : CallContext) → Valid w → (w.known t).running ≡ true → waits_on (w.words (Waiting u)) o ≡ true
    → Valid (world_after (publish_plan e t (Notify o (Some u)) n) t w) → ⊥
no_silent_notify w o t u n e v runs waits valid =
    let plan : StepPlan = publish_plan e t (Notify o (Some u)) n in
    let before = running_fits w v t runs in
    let a = hit_fits plan t w refl runs valid in
    let y : Logged = record { stamp = next_stamp (local_of (w.known t)); entry = Notify o (Some u) } in
    let taken = takes_it w v.objects a.0 (Length t) n t o (knows plan t w) y runs refl refl (same_number o) before a.1 in
    let here = taken_here v.objects a.0 t o (Notify o (Some u)) refl taken in
    let notified : is_listed (notified_at a.0 o) u ≡ true =
    ap (λ (k : PlainObject). is_listed k.monitor.called u) (object_after v.objects a.0 t o (Notify o (Some u)) here) ∙ woken here.x here.y t u here.step in
    no_lost_notify (hit plan t w) (record { objects = a.0; is = inl a.1 }) u o notified waits

-- so the tree that makes this step keeps no such world valid
pub no_silent_steps : (heap : Heap) (k : ThreadView) (fresh : Bool) (v : SoundWorldWith heap k) (e : CallContext) (o u : ℕ) → is_idle heap.shape k ≡ fresh
    → k.running ≡ true → waits_on (v.world.words (Waiting u)) o ≡ true
    → DoesSteps heap fresh (publish_steps (Notify o (Some u)) e (local_of k)) k → ⊥
no_silent_steps heap k fresh v e o u at_first runs waits does =
    let plan : StepPlan = publish_plan e k.thread (Notify o (Some u)) (length k.log + 1) in
    no_silent_notify v.world o k.thread u (length k.log + 1) e (record { objects = v.objects; is = valid_here heap k v })
    (away heap k v (λ s y. y.running ≡ true) runs) waits (without_clause LawsHold (world_after plan k.thread v.world) ((does.by.0 at_first).by v))
