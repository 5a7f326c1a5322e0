-- A load at the safepoint after all stores of a revocation: it is one in the middle of the revocation, and its thread stands in the middle of
-- nothing then.
use Rattle.core_locks.proofs.Prelude.{◌≡◌, ℕ, ◌<◌, ◌||◌, ◌&&◌, Bool, true, false, cond, List, [], append-nil, Some, refl, sym, ap, ◌∙◌, subst, inl}
use Rattle.core_locks.proofs.Prelude.{PlainObject, Load, WordId, StepPlan, is_still, ThreadView, last_seen, same_name, CallContext, load, with_stage}
use Rattle.core_locks.proofs.Prelude.{Shape, revocation_in, world_after, known_hit, kept_by_act, reached_after, seen_before, seen_at_safepoint_before}
use Rattle.core_locks.proofs.Prelude.{Fits, IsRevoking, IsValid, World, with_known, kept_load, seen_is_part, look_valid, with_known_here}
use Rattle.core_world.specs.declared.word_id.WordId.TheVariants as id
use Rattle.core_world.specs.RevocationRules.{FoundAfter, writes_in}
use Rattle.core_world.specs.Threads.Stages.{Revocation}
use Rattle.core_bias.specs.Revoking.{MayEndRevoking, MayLookAfterRevoking, is_kept_on_request}
use Rattle.core_bias.proofs.Endings.{OnlyCalm, calm_fits}
use Rattle.core_bias.proofs.Knows.{told_told}
use Rattle.core_bias.proofs.Singles.{reached_within}
use Rattle.core_bias.proofs.Unseen.{unseen}
use Rattle.core_bias.proofs.Wholes.{all_made, by_requester, made}

-- a load leaves the safepoint reached, and the steps since then
pub reached_load : (at : WordId) (n : ℕ) (k : ThreadView) → k.reached ≡ true → reached_after at Load n k ≡ true
reached_load id.Safepoint n k e = ap (λ b. b || (k.requesting && is_still n)) e
reached_load _ n k e = e

stood_load : (at : WordId) (k : ThreadView) → k.reached ≡ true → seen_at_safepoint_before at Load k ≡ k.seen_at_safepoint
stood_load id.Safepoint k e = ap (λ b. cond b k.seen_at_safepoint []) e
stood_load _ k e = refl

module _ (w : World) (P : List PlainObject) (t : ℕ) (e : CallContext) (b : Revocation)
    (at : WordId) (may : MayLookAfterRevoking w.shape (w.known t) e t b) where
  abbrev k : ThreadView
  k = w.known t

  -- the load as one in the middle, and as one after it
  abbrev looking : StepPlan
  looking = with_stage k.stage (load e at)

  abbrev y : ThreadView
  y = known_hit w.shape w.start looking (w.words at) k

  abbrev l : ThreadView
  l = known_hit w.shape w.start (load e at) (w.words at) k

  abbrev x : World
  x = world_after looking t w

  reached : k.reached ≡ true
  reached = may.ends.reached

  stood : seen_at_safepoint_before at Load k ≡ k.seen_at_safepoint
  stood = stood_load at k reached

  -- what it knows after the load in the middle
  ends : MayEndRevoking w.shape y e t b
  ends = record {
    reached = reached_load at (w.words at) k reached;
    its_revocation = may.ends.its_revocation;
    still = may.ends.still;
    all = λ f biased found. append-nil _ ∙ ap writes_in stood ∙ may.ends.all f biased (subst (FoundAfter f) stood found.1);
    goes_on = refl;
  }

  since : (n : WordId) (v : ℕ) → is_kept_on_request n ≡ true → last_seen n y.seen ≡ Some v → last_seen n y.seen_at_safepoint ≡ Some v
  since n v kept = by_name (same_name n at)
    where
      by_name : (c : Bool) → cond c (Some (w.words at)) (last_seen n (kept_by_act at Load (w.words at) k (seen_before w.shape k))) ≡ Some v
          → cond c (Some (w.words at)) (last_seen n (seen_at_safepoint_before at Load k)) ≡ Some v
      by_name true h = h
      by_name false h = ap (last_seen n) stood
          ∙ may.since n v kept (seen_is_part w.shape k n v (ap (last_seen n) (sym (kept_load at (w.words at) k (seen_before w.shape k))) ∙ h))

  only : OnlyCalm y l
  only = record { is = refl; seen = λ n. refl; seen_at_safepoint = λ n. refl; writes = refl; found = λ f h. h }

  here : x.known t ≡ y
  here = with_known_here t y w.known

  -- the law, where the load in the middle led to a world in the middle of the revocation
  law : (s : IsRevoking x P) → s.requester ≡ t → Fits (world_after (load e at) t w) P
  law s it =
      let mine : x.known s.requester ≡ y = ap x.known it ∙ here in
      let ends_now : MayEndRevoking x.shape (x.known s.requester) e s.requester b =
      subst (λ u. MayEndRevoking w.shape (x.known u) e u b) (sym it) (subst (λ z. MayEndRevoking w.shape z e t b) (sym here) ends) in
      let since_now = subst (λ (z : ThreadView). (n : WordId) (v : ℕ) → is_kept_on_request n ≡ true
      → last_seen n z.seen ≡ Some v → last_seen n z.seen_at_safepoint ≡ Some v) (sym mine) since in
      let done = calm_fits x P s e (all_made x P e b s ends_now) (made x P e b s ends_now) l (subst (λ z. OnlyCalm z l) (sym mine) only) since_now in
      subst (λ f. Fits (record { shape = w.shape; start = w.start; biasing = w.biasing; words = x.words; known = f }) P)
      ((λ i. with_known (it i) l (with_known t y w.known)) ∙ told_told t l y w.known) done

  within : IsValid w P → t < w.shape.threads
  within = by_requester w P t b reached may.ends.its_revocation (λ u. u < w.shape.threads)
      (λ s it. subst (λ (z : Shape). s.requester < z.threads) (sym s.shape) (reached_within s.before P s.requester s.reached (unseen s.before P s.fits)))

  stopped : IsValid w P → k.running ≡ false
  stopped = by_requester w P t b reached may.ends.its_revocation (λ u. (w.known u).running ≡ false)
      (λ s it. (s.safe.safepoint s.requester (ap (λ u. (w.known u).reached) it ∙ reached)).1 s.requester)

  pub load_fits : IsValid w P → Fits (world_after (load e at) t w) P
  load_fits valid =
      by_requester x P t b (ap (λ (z : ThreadView). z.reached) here ∙ ends.reached) (ap (λ (z : ThreadView). revocation_in z.stage) here
      ∙ may.ends.its_revocation) (λ u. Fits (world_after (load e at) t w) P) (λ s it. law s it)
      (look_valid w P t looking (within valid)
      (record {
        act = refl;
        note = refl;
        own = refl;
        stage = refl;
        check = may.check;
        after = inl may.ends.goes_on;
        may = record { outside = λ r g. absurd (cc (g, reached)); found = λ r. let no = stopped valid in absurd (cc (r, no)) };
      })
      valid)
