-- A load that logs nothing keeps the laws, in a world in which every clause holds and while a bias is being revoked; and so does an exchange of the
-- safepoint word that misses.
use Rattle.std.proofs.Common.{◌≡◌, ℕ, ◌<◌, Bool, true, false, cond, List, Option, refl, sym, ap, ◌∙◌, subst, arith, inl, inr}
use Rattle.plain_monitor.specs.Objects.{PlainObject}
use Rattle.core_world.specs.declared.act.Act.TheVariants.{Load}
use Rattle.core_world.specs.declared.word_id.WordId.{WordId}
use Rattle.core_world.specs.declared.word_id.WordId.TheVariants as id
use Rattle.core_world.specs.declared.plan.LogEffect.TheVariants.{Quiet}
use Rattle.core_world.specs.declared.plan.LocalEffect.TheVariants.{Unchanged}
use Rattle.core_world.specs.declared.plan.StepPlan.{StepPlan}
use Rattle.core_world.specs.declared.heap_call.Unfinished.{Unfinished}
use Rattle.core_world.specs.Looking.{IsLook, IsMiss}
use Rattle.core_world.specs.Words.Acts.{hits}
use Rattle.core_world.specs.Words.Shape.{Shape}
use Rattle.core_world.specs.Threads.ThreadView.{ThreadView}
use Rattle.core_world.specs.Threads.References.{numbering, knows_by_log, making_in}
use Rattle.core_world.specs.Trees.Plans.{CallContext}
use Rattle.core_world.specs.Trees.SafepointSteps.{resume_plan}
use Rattle.core_world.specs.Steps.{known_hit, known_miss, reached_after, world_after}
use Rattle.core_world.specs.Valid.{IsRevoking, IsValidWith}
use Rattle.core_world.specs.World.{World}
use Rattle.core_world.proofs.KnowledgeParts.{by_equal, logs_stay, with_known_here}
use Rattle.core_world.proofs.bias.LookWhileRevoking.{look_valid_with, miss_valid_with}
use Rattle.core_world.proofs.Naming.{same_as_itself}
use Rattle.core_world.proofs.enter_exit.ObjectHolds.{word_is_hold}
use Rattle.core_law.specs.MadeLaw.{MadeLawHolds, is_there_by}
use Rattle.core_law.specs.WholeLaw.{LawsHold, IsWhollyValid}
use Rattle.core_law.proofs.Wholes.{All}
use Rattle.bias_law.proofs.Beside.{missed_keeps}
use Rattle.bias_law.proofs.QuietKinds as quiet
use Rattle.core_made.specs.Steps.{SparesAbsent, EndsByExchange, IsFairQuietly, is_there_in}
use Rattle.core_made.proofs.Fair.{held_there}
use Rattle.core_made.proofs.Quiets.{quiet_keeps}
use Rattle.core_steps.proofs.FairSteps.{KnowsBy, OnKnown, Begins, makes_as_before, on_known, begun, makes_same, missed_made}

-- but at its reached safepoint a thread comes to no mark of another object than it knows
abbrev pub Sees : Shape → ThreadView → WordId → Type 0
Sees s k (id.Mark o) = k.reached ≡ false → KnowsBy s k o
Sees s k _ = Unit {0}

pub sees_reached : (s : Shape) (k : ThreadView) (at : WordId) → k.reached ≡ true → Sees s k at
sees_reached s k (id.Mark o) reached = λ free. absurd (cc (reached, free))
sees_reached s k at reached = tt

sees_known : (s : Shape) (k : ThreadView) (at : WordId) → Sees s k at → (o : ℕ) → at ≡ id.Mark o → k.reached ≡ false → KnowsBy s k o
sees_known s k at sees o is free = (subst (Sees s k) is sees) free

pub load_ends : (at : WordId) (reached : Bool) → EndsByExchange at Load reached
load_ends id.Safepoint reached = tt
load_ends at reached = tt

-- what a load leaves
module _ (w : World) (P : List PlainObject) (a : All w P) where
  left_alone : (at : WordId) → SparesAbsent (is_there_in w) at (w.words at) (w.words at)
  left_alone (id.Mark o) = inr refl
  left_alone (id.Hold t p) = λ o h.
      let some = word_is_hold w P t p o a.fits h in held_there w a.made t o (λ none. absurd (omega (arith, some, none)))
  left_alone (id.Stamp o) = omega arith
  left_alone (id.Class o) = refl
  left_alone at = tt

  -- of this plan, which is one
  load_fair : (t : ℕ) (p : StepPlan) → p.act ≡ Load → p.note ≡ Quiet → p.own ≡ Unchanged → Begins w.shape (w.known t) p.after → Sees w.shape (w.known t) p.at
      → IsFairQuietly w t p
  load_fair t p act note own begins sees =
      let q : StepPlan = record p { act = Load; note = Quiet; own = Unchanged } in
      let same : q ≡ p = λ i. record p { act = sym act i; note = sym note i; own = sym own i } in
      subst (IsFairQuietly w t) same
      (record {
        fair = record {
          spares = left_alone p.at;
          begins = begun w a.made t q begins;
          looks = sees_known w.shape (w.known t) p.at sees;
          ends = load_ends p.at (w.known t).reached;
          shots = refl;
          makes = makes_same w a.made t q tt begins;
        };
        log = refl;
      })

-- after such a load the same one is fair again
module _ (w : World) (t : ℕ) (p : StepPlan) where
  abbrev q : StepPlan
  q = record p { act = Load; note = Quiet; own = Unchanged }

  abbrev l : ThreadView
  l = known_hit w.shape w.start q (w.words p.at) (w.known t)

  abbrev x : World
  x = world_after q t w

  known_now : x.known t ≡ l
  known_now = with_known_here t l w.known

  word_now : x.words p.at ≡ w.words p.at
  word_now = ap (λ (b : Bool). cond b (w.words p.at) (w.words p.at)) (same_as_itself p.at)

  there_now : ◌≡◌ {A = ℕ → Bool} (is_there_in w) (is_there_in x)
  there_now = let same = logs_stay 0 w.shape.threads t l w.known refl in λ i. λ o. is_there_by (numbering w.shape) (sym same i) o

  knows_now : (o : ℕ) → KnowsBy w.shape (w.known t) o → KnowsBy x.shape (x.known t) o
  knows_now o h = ap (λ (y : ThreadView). knows_by_log (numbering w.shape) y.log o) known_now ∙ h

  free_before : (o : ℕ) → p.at ≡ id.Mark o → (x.known t).reached ≡ false → (w.known t).reached ≡ false
  free_before o is free =
      ap (λ at. reached_after at Load (w.words p.at) (w.known t)) (sym is) ∙ ap (λ (y : ThreadView). y.reached) (sym known_now) ∙ free

  again : IsFairQuietly w t q → IsFairQuietly x t q
  again f = record {
    fair = record {
      spares = subst (λ n. SparesAbsent (is_there_in x) p.at n n) (sym word_now)
          (subst (λ (there : ℕ → Bool). SparesAbsent there p.at (w.words p.at) (w.words p.at)) there_now f.fair.spares);
      begins = λ o h. knows_now o (f.fair.begins o h);
      looks = λ o is free. knows_now o (f.fair.looks o is (free_before o is free));
      ends = load_ends p.at (x.known t).reached;
      shots = refl;
      makes = ap (λ (y : ThreadView). making_in y.unfinished) (sym known_now);
    };
    log = refl;
  }

look_again : (w : World) (t : ℕ) (p : StepPlan) → IsLook (w.known t) p → IsFairQuietly w t p → IsFairQuietly (world_after p t w) t p
look_again w t p look =
    let q : StepPlan = record p { act = Load; note = Quiet; own = Unchanged } in
    let same : q ≡ p = λ i. record p { act = sym look.act i; note = sym look.note i; own = sym look.own i } in
    subst (λ z. IsFairQuietly w t z → IsFairQuietly (world_after z t w) t z) same (again w t p)

-- WHILE A BIAS IS REVOKED a thread has logged, reached and left unfinished what it had before the first store
module _ (w : World) (P : List PlainObject) (s : IsRevoking w P) where
  part_before : {A : Type 0} (part : ThreadView → A) (t : ℕ) → (t ≡ s.requester → part (w.known s.requester) ≡ part (s.before.known s.requester))
      → part (w.known t) ≡ part (s.before.known t)
  part_before part t mine =
      by_equal t s.requester
      (λ e. ap (λ u. part (w.known u)) e ∙ mine e ∙ ap (λ u. part (s.before.known u)) (sym e))
      (λ d. ap part (s.others t d))

  log_before : (t : ℕ) → (w.known t).log ≡ (s.before.known t).log
  log_before t = part_before (λ k. k.log) t (λ e. ap (λ (k : ThreadView). k.log) s.knows)

  knows_before : (t o : ℕ) → KnowsBy w.shape (w.known t) o → KnowsBy s.before.shape (s.before.known t) o
  knows_before t o h =
      ap (λ log. knows_by_log (numbering s.before.shape) log o) (sym (log_before t)) ∙ ap (λ z. knows_by_log (numbering z) (w.known t).log o) (sym s.shape) ∙ h

  on_known_before : (t : ℕ) (u : Option Unfinished) → OnKnown w.shape (w.known t) u → OnKnown s.before.shape (s.before.known t) u
  on_known_before t u known o on = knows_before t o (known o on)

  unfinished_before : (t : ℕ) → (w.known t).unfinished ≡ (s.before.known t).unfinished
  unfinished_before t = part_before (λ k. k.unfinished) t (λ e. ap (λ (k : ThreadView). k.unfinished) s.knows)

  begins_before : (t : ℕ) (u : Option Unfinished) → Begins w.shape (w.known t) u → Begins s.before.shape (s.before.known t) u
  begins_before t u begins = elim begins [
    | inl same ↦ inl (same ∙ unfinished_before t)
    | inr other ↦ inr (record {
      on_known = on_known_before t u other.on_known;
      makes_none_before = ap making_in (sym (unfinished_before t)) ∙ other.makes_none_before;
      makes_none = other.makes_none;
    })
  ]

  sees_before : (t : ℕ) (at : WordId) → Sees w.shape (w.known t) at → Sees s.before.shape (s.before.known t) at
  sees_before t (id.Mark o) sees =
      λ free. knows_before t o (sees (part_before (λ k. k.reached) t (λ e. ap (λ (k : ThreadView). k.reached) s.knows) ∙ free))
  sees_before t at sees = tt

-- a clause with another one beside it
weaker : (F G : World → Type 0) (w : World) (P : List PlainObject) → IsValidWith (λ x. F x × G x) w P → IsValidWith F w P
weaker F G w P valid = elim valid [ inl a ↦ inl (a.0, a.1.0) | inr a ↦ inr (a.0, a.1.0) ]

module _ (w : World) (P : List PlainObject) (t : ℕ) (within : t < w.shape.threads) where
  -- A LOOK
  pub look_whole : (p : StepPlan) → IsLook (w.known t) p → Begins w.shape (w.known t) p.after → Sees w.shape (w.known t) p.at → IsWhollyValid w P
      → IsWhollyValid (world_after p t w) P
  look_whole p look begins sees valid =
      let fair_in : (v : World) → All v P → Begins v.shape (v.known t) p.after → Sees v.shape (v.known t) p.at → IsFairQuietly v t p =
      λ v a b s. load_fair v P a t p look.act look.note look.own b s in
      weaker LawsHold (λ v. IsFairQuietly v t p) (world_after p t w) P
      (look_valid_with (λ v. LawsHold v × IsFairQuietly v t p) w P t p within look
      (λ v h f. (record { biases = quiet.looks v t p h f.0.biases; made = quiet_keeps v t p f.0.made f.1 }, look_again v t p h f.1))
      (elim valid [
        | inl a ↦ inl (a.0, (a.1, fair_in w (record { fits = a.0; biases = a.1.biases; made = a.1.made }) begins sees))
        | inr a ↦ inr (
          a.0,
          (
            a.1,
            fair_in a.0.before (record { fits = a.0.fits; biases = a.1.biases; made = a.1.made })
                (begins_before w P a.0 t p.after begins) (sees_before w P a.0 t p.at sees),
          ),
        )
      ]))

  -- what is unfinished by this call is on an object that the thread knows, or makes the one that the thread is making
  abbrev Goes : World → CallContext → Type 0
  Goes v e = OnKnown v.shape (v.known t) e.unfinished × (making_in e.unfinished ≡ making_in (v.known t).unfinished)

  -- A RESUME THAT MISSES
  pub resume_missed : (e : CallContext) (word : ℕ) → let p = resume_plan e t word in IsMiss (w.known t) p (w.words id.Safepoint)
      → Begins w.shape (w.known t) e.unfinished → IsWhollyValid w P → IsWhollyValid (world_after p t w) P
  resume_missed e word miss begins valid =
      let p : StepPlan = resume_plan e t word in
      weaker LawsHold (λ v. Goes v e) (world_after p t w) P
      (miss_valid_with (λ v. LawsHold v × Goes v e) w P t p within miss
      (λ v h f. (
        record {
          biases = missed_keeps v t p f.0.biases h;
          made = missed_made v f.0.made t p h
              (record { spares = tt; begins = f.1.0; looks = λ o is free. absurd (cc is); ends = tt; shots = refl; makes = f.1.1 });
        },
        goes_missed v h f.1,
      ))
      (elim valid [
        | inl a ↦ inl (a.0, (a.1, goes w a.1.made begins))
        | inr a ↦ inr (a.0, (a.1, goes a.0.before a.1.made (begins_before w P a.0 t e.unfinished begins)))
      ]))
    where
      goes : (v : World) → MadeLawHolds v → Begins v.shape (v.known t) e.unfinished → Goes v e
      goes v made begins = (on_known v made t e.unfinished begins, makes_as_before v.shape (v.known t) e.unfinished begins)

      goes_missed : (v : World) → hits (resume_plan e t word).act (v.words id.Safepoint) ≡ false → Goes v e → Goes (world_after (resume_plan e t word) t v) e
      goes_missed v missed g =
          let p : StepPlan = resume_plan e t word in
          let hit = known_hit v.shape v.start p (v.words id.Safepoint) (v.known t) in
          let miss = known_miss v.shape v.start p (v.words id.Safepoint) (v.known t) in
          let now = with_known_here t (cond (hits p.act (v.words id.Safepoint)) hit miss) v.known ∙ ap (λ (b : Bool). cond b hit miss) missed in (
            λ o on. ap (λ (y : ThreadView). knows_by_log (numbering v.shape) y.log o) now ∙ g.0 o on,
            g.1 ∙ ap (λ (y : ThreadView). making_in y.unfinished) (sym now),
          )
