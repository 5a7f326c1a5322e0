-- When every clause holds and the laws with them, and how a step that ends no revocation keeps all.
use Rattle.std.proofs.Common.{◌≡◌, ℕ, Bool, true, false, cond, List, None, ap, ◌∙◌, inl, inr}
use Rattle.plain_monitor.specs.Objects.{PlainObject}
use Rattle.core_world.specs.declared.word_id.WordId.TheVariants.{Safepoint}
use Rattle.core_world.specs.declared.plan.StepPlan.{StepPlan}
use Rattle.core_world.specs.declared.stage.Stage.TheVariants.{Settled}
use Rattle.core_world.specs.Words.Acts.{hits}
use Rattle.core_world.specs.Words.Forms.{requester_in}
use Rattle.core_world.specs.Threads.ThreadView.{ThreadView}
use Rattle.core_world.specs.Threads.Stages.{revocation_in}
use Rattle.core_world.specs.Steps.{known_after, known_hit, known_miss, world_after}
use Rattle.core_world.specs.Valid.{Fits, IsRevoking, IsValid}
use Rattle.core_world.specs.World.{World}
use Rattle.plain_monitor.specs.Monitor.{is_thread}
use Rattle.core_world.proofs.KnowledgeParts.{each_with_known}
use Rattle.core_world.proofs.NoWordChanges.{one_requester}
use Rattle.core_law.specs.BiasLaw.{BiasLawHolds}
use Rattle.core_law.specs.MadeLaw.{MadeLawHolds}
use Rattle.core_law.specs.WholeLaw.{IsWhollyValid, WhollyValid}

-- NO BIAS IS BEING REVOKED
module _ (w : World) (P : List PlainObject) (s : IsRevoking w P) where
  reached_now : (w.known s.requester).reached ≡ true
  reached_now = ap (λ (k : ThreadView). k.reached) s.knows ∙ s.reached

  -- while a thread runs
  pub stops_all : (t : ℕ) → (w.known t).running ≡ true → ⊥
  stops_all t runs = let stopped = (s.safe.safepoint s.requester reached_now).1 t in absurd (cc (stopped, runs))

  -- while nobody asks for a safepoint
  pub was_asked : requester_in (w.words Safepoint) ≡ None → ⊥
  was_asked none =
      let asks = s.safe.requester s.requester ∙ (s.safe.safepoint s.requester reached_now).0 in
      let not_asked = ap (λ a. is_thread a s.requester) none in
      absurd (cc (asks, not_asked))

  -- the thread that has reached a safepoint revokes it
  pub requester_is : (t : ℕ) → (w.known t).reached ≡ true → s.requester ≡ t
  requester_is t reached = one_requester w P s.safe s.requester t (s.safe.safepoint s.requester reached_now).0 (s.safe.safepoint t reached).0

  -- and so no bias is being revoked where that thread is in the middle of nothing
  pub not_calm : (t : ℕ) → (w.known t).reached ≡ true → (w.known t).stage ≡ Settled → ⊥
  not_calm t reached calm =
      let none = ap (λ u. revocation_in (w.known u).stage) (requester_is t reached) ∙ ap revocation_in calm in
      let some = s.its_revocation in
      absurd (cc (none, some))

-- ALL CLAUSES HOLD, the laws with them,
pub record All (w : World) (P : List PlainObject) : Type 0 where
  pub fits : Fits w P
  pub biases : BiasLawHolds w
  pub made : MadeLawHolds w

-- and so they do where no bias is being revoked
pub all_unless : (w : World) (P : List PlainObject) → (IsRevoking w P → ⊥) → IsWhollyValid w P → All w P
all_unless w P none valid = elim valid [ inl a ↦ record { fits = a.0; biases = a.1.biases; made = a.1.made } | inr a ↦ absurd (none a.0) ]

-- A STEP from there after which its thread revokes nothing leads to where all clauses hold, if it leads to a valid world and keeps the laws.
module _ (w : World) (P : List PlainObject) (t : ℕ) (p : StepPlan) (a : All w P)
    (unrevoking : revocation_in (w.known t).stage ≡ None → revocation_in p.stage ≡ None) where
  stage_after : revocation_in (known_after w.shape w.start p (w.words p.at) (w.known t)).stage ≡ None
  stage_after = cases (hits p.act (w.words p.at))
    where
      cases : (b : Bool)
          → revocation_in (cond b (known_hit w.shape w.start p (w.words p.at) (w.known t))
          (known_miss w.shape w.start p (w.words p.at) (w.known t))).stage ≡ None
      cases true = unrevoking (a.fits.quiet.none_revokes t)
      cases false = a.fits.quiet.none_revokes t

  unrevoked : (Q : List PlainObject) → IsRevoking (world_after p t w) Q → ⊥
  unrevoked Q s =
      let none = each_with_known (λ u y. revocation_in y.stage ≡ None) t (known_after w.shape w.start p (w.words p.at) (w.known t)) w.known s.requester
      stage_after (λ d. a.fits.quiet.none_revokes s.requester) in
      let some = s.its_revocation in
      absurd (cc (none, some))

  pub kept_whole : (Q : List PlainObject) → IsValid (world_after p t w) Q
      → BiasLawHolds (world_after p t w) → MadeLawHolds (world_after p t w) → WhollyValid (world_after p t w)
  kept_whole Q valid biases made =
      record { objects = Q; is = elim valid [ inl v ↦ inl (v, record { biases = biases; made = made }) | inr s ↦ absurd (unrevoked Q s) ] }
