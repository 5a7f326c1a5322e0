-- A revocation from the request for its safepoint on, or from where its request stands.
use Rattle.std.proofs.Common.{◌≡◌, ◌⊎◌, ℕ, ◌<◌, nat_lt, Bool, true, false, List, length, Some, refl, sym, ap, ◌∙◌, subst, inl, inr}
use Rattle.mark_word.specs.Mark.{read_mark}
use Rattle.core_world.specs.declared.answer.Progress.{Progress}
use Rattle.core_world.specs.declared.answer.Progress.TheVariants.{Done, Pending}
use Rattle.core_world.specs.declared.word_id.WordId.{WordId}
use Rattle.core_world.specs.declared.word_id.WordId.TheVariants as id
use Rattle.core_world.specs.declared.heap_call.Operation.{Operation}
use Rattle.core_world.specs.declared.heap_call.Operation.TheVariants as op
use Rattle.core_world.specs.Threads.AtRest.{AtRest, IsItsPrototype, MayAsk, MayRevoke, SawClass, SawNoOther}
use Rattle.core_world.specs.Words.Forms.{waits_on}
use Rattle.core_world.specs.Threads.ThreadView.{ThreadView, StepMade, last_seen}
use Rattle.core_world.specs.Locks.{is_valid_bias}
use Rattle.core_world.specs.Trees.Operations.{and_then, revocation_steps}
use Rattle.core_world.specs.Trees.Plans.{CallContext}
use Rattle.core_world.specs.Trees.SafepointSteps.{safepoint_steps}
use Rattle.core_world.specs.Trees.RevocationSteps.{revoke_at_safepoint_steps}
use Rattle.core_world.specs.Threads.Stages.{Revocation}
use Rattle.core_world.specs.Steps.{seen_before}
use Rattle.core_world.specs.Trees.StepTree.{StepTree, ◌>>=◌}
use Rattle.core_world.specs.Valid.{RevokesWithin}
use Rattle.core_world.specs.Threads.References.{has_object}
use Rattle.core_law.specs.Logic.{Heap, Does}
use Rattle.core_steps.proofs.ClassSteps.{class_from}
use Rattle.core_steps.proofs.Facts.{Knows}
use Rattle.core_steps.proofs.bias.KeptHeaders.{works_on}
use Rattle.core_steps.proofs.safepoint.Requests.{Asks, Since, Stood, BeginsSafepoint, safepoint_does}
use Rattle.core_steps.proofs.OwnParts.{keeps_own_all, own_of}
use Rattle.core_steps.proofs.Resting.{Carries, rests_with}
use Rattle.core_steps.proofs.bias.RevocationMiddle.{OneRevocation}
use Rattle.core_steps.proofs.bias.RevocationBegins.{revoke_does}
use Rattle.core_steps.proofs.bias.RevocationEnds.{Released, Revoked, ending_steps, ending_does}
use Rattle.core_steps.proofs.safepoint.SafepointLooks.{going}
use Rattle.core_steps.proofs.Trees.{answers, binds, follows}

module _ (heap : Heap) (e : CallContext) (b : Revocation) where
  -- a valid bias of the object was seen by these steps
  abbrev pub ValidBiasIn : List StepMade → Type 0
  ValidBiasIn seen =
      (v p c : ℕ) × (last_seen (id.Mark b.object) seen ≡ Some v) × SawClass heap.shape seen b.object c
      × (last_seen (id.Prototype c) seen ≡ Some p) × (is_valid_bias (read_mark v) p ≡ true)

  -- and no words but those, the class word of an object that isn't declared, and the safepoint word
  abbrev pub NoOtherIn : List StepMade → Type 0
  NoOtherIn seen = (n : WordId) (v : ℕ) → last_seen n seen ≡ Some v → (n ≡ id.Safepoint) ⊎ (n ≡ id.Mark b.object)
      ⊎ ((n ≡ id.Class b.object) × (nat_lt b.object heap.shape.declared ≡ false)) ⊎ IsItsPrototype heap.shape seen b.object n

  -- what a thread has to know that asks for a revocation, or whose request for it stands
  pub record BeginsRevocation (operation : Operation) (k : ThreadView) : Type 0 where
    pub begins : BeginsSafepoint heap e k.thread k
    pub saw : ValidBiasIn (seen_before heap.shape k)
    pub alone : NoOtherIn (seen_before heap.shape k)
    pub unreached : k.reached ≡ false
    pub known : Knows heap k.log b.object
    -- the operation is on an object: so it isn't the making of one
    pub on_object : has_object operation ≡ true
    pub unwaiting : operation ≡ op.Wait → waits_on k.wait b.object ≡ false

  may_ask : (a : Operation) (l : ThreadView) → RevokesWithin a b.rebias → (a ≡ op.Wait → waits_on l.wait b.object ≡ false) → MayRevoke heap.shape l b.object
      → MayAsk heap.shape l (Some (record { op = a; object = b.object }))
  may_ask op.Exit l allowed out may = absurd allowed
  may_ask op.Wait l allowed out may = (out refl, may)
  may_ask op.Dump l allowed out may = absurd allowed
  may_ask _ l allowed out may = may

  module _ (operation : Operation) (unfinished : e.unfinished ≡ Some (record { op = operation; object = b.object }))
      (allowed : RevokesWithin operation b.rebias) (object : b.object < length heap.shape.objects)
      (unchecks : e.check ≡ false) where
    -- the steps up to the safepoint are on the safepoint word alone
    alone_since : (k l : ThreadView) → NoOtherIn (seen_before heap.shape k) → Since heap e k.thread k l → SawNoOther heap.shape l b.object
    alone_since k l alone since n v saw = elim (since.alone n v saw) [
      | inl is ↦ inl is
      | inr g ↦ elim (alone n v g) [
        | inl is ↦ inl is
        | inr (inl is) ↦ inr (inl is)
        | inr (inr (inl is)) ↦ inr (inr (inl is))
        | inr (inr (inr is)) ↦ inr (inr (inr (is.0, class_from heap.shape (seen_before heap.shape k) l.seen b.object is.0 (since.class b.object) is.1, is.2)))
      ]
    ]

    saw_since : (k l : ThreadView) → ValidBiasIn (seen_before heap.shape k) → Since heap e k.thread k l → ValidBiasIn l.seen
    saw_since k l saw since = (
      saw.0,
      saw.1,
      saw.2,
      since.mark b.object ∙ saw.3,
      class_from heap.shape (seen_before heap.shape k) l.seen b.object saw.2 (since.class b.object) saw.4,
      since.prototype saw.2 ∙ saw.5,
      saw.6,
    )

    -- while its request stands it is at rest
    asked : (k : ThreadView) → BeginsRevocation operation k → (l : ThreadView) → Asks heap e k.thread l
        → Since heap e k.thread k l → (k.reached ≡ false → l.reached ≡ false) → AtRest heap.shape l
    asked k may l a since unreached =
        let carries : Carries l.moving l.log l.wait l.holds l.shots l.unfinished = subst (Carries l.moving l.log l.wait l.holds l.shots) a.mine a.carries in
        let revokes : MayRevoke heap.shape l b.object = (saw_since k l may.saw since, unreached may.unreached, alone_since k l may.alone since) in
        rests_with heap.shape l a.calm carries (λ asks. a.stopped) (λ asks unchecked. subst (MayAsk heap.shape l) (sym unfinished ∙ a.mine)
        (may_ask operation l allowed (λ waits. ap (λ z. waits_on z.wait b.object) since.local ∙ may.unwaiting waits) revokes))
        (λ checks. let check = a.check in absurd (cc (checks, check, unchecks)))

    abbrev made_by : ℕ → OneRevocation
    made_by me = record { heap = heap; call = e; revocation = b; thread = me }

    -- after the safepoint
    abbrev revoking : ℕ → Progress (Unit {0}) → StepTree (Progress Bool)
    revoking me progress = and_then progress (λ u. do
      outcome ← revoke_at_safepoint_steps heap.shape me e b
      ending_steps (made_by me) outcome.took)

    released_since : (k l m : ThreadView) (took : Bool) → Since heap e k.thread k l → Released heap e b l took m → Released heap e b k took m
    released_since k l m took since x = record {
      own = keeps_own_all (own_of k) (own_of l) (own_of m) since.own x.own;
      runs = x.runs;
      unasks = x.unasks;
      still = x.still;
      unchecks = x.unchecks;
      mine = x.mine;
      stage = x.stage;
      mark = x.mark;
      unseen = x.unseen;
      untaken = x.untaken;
    }

    revoked_since : (k l m : ThreadView) (progress : Progress Bool) → Since heap e k.thread k l
        → Revoked heap e b l progress m → Revoked heap e b k progress m
    revoked_since k l m (Done took) since x = released_since k l m took since x
    revoked_since k l m (Pending why) since x = x

    then_revoking : (k : ThreadView) → BeginsRevocation operation k
        → (f : Bool) (progress : Progress (Unit {0})) (l : ThreadView) → (f ≡ false) × Stood heap e k.thread k progress l
        → Does heap f (revoking k.thread progress) l (λ f progress m. (f ≡ false) × Revoked heap e b k progress m)
    then_revoking k may f (Done x) l s =
        let unwritten = s.1.2 may.unreached in
        let since = s.1.1 in
        let saw = saw_since k l may.saw since in
        subst (λ z. Does heap z (revoking k.thread (Done tt)) l (λ f progress m. (f ≡ false) × Revoked heap e b k progress m)) (sym s.0)
        (going heap (revoke_at_safepoint_steps heap.shape k.thread e b) (λ outcome. ending_steps (made_by k.thread) outcome.took) l _ (
        follows heap false (revoke_at_safepoint_steps heap.shape k.thread e b) l _ _
        (revoke_does (made_by k.thread) operation unfinished allowed object l s.1.0 unwritten saw (alone_since k l may.alone since)
        (subst (λ z. Knows heap z.log b.object) (sym since.local) may.known))
        (λ f a m y. follows heap false _ m _ _ (ending_does (made_by k.thread) (works_on operation e.unfinished b.object unfinished may.on_object)
        object l s.1.0 unwritten saw.2 m a y.1) (λ f progress n z. (z.0, revoked_since k l n progress since z.1)))))
    then_revoking k may f (Pending why) l s = answers heap f (Pending why) l _ s

    pub revocation_does : (fresh : Bool) (k : ThreadView) → BeginsRevocation operation k
        → Does heap fresh (revocation_steps heap.shape k.thread k.requesting e b) k (λ f progress l. (f ≡ false) × Revoked heap e b k progress l)
    revocation_does fresh k may =
        binds heap fresh (safepoint_steps e k.thread k.requesting) (revoking k.thread) k _ (
        follows heap fresh _ k _ _ (safepoint_does heap e k.thread k (asked k may) fresh may.begins) (λ f progress l x. then_revoking k may f progress l x))
