-- A step that changes no word keeps the world valid, where what it makes of its thread's knowledge is true of the world.
use Rattle.std.proofs.Common.{◌≡◌, ℕ, ◌<◌, ◌==◌, eqb-true, true, false, List, ◌⊎◌, Option, Some, None, refl, sym, ap, ◌∙◌, subst, inl, inr}
use Rattle.std.proofs.lemmas.Nat.Bits.{bit_at-zero}
use Rattle.std.specs.Int.{bit_at}
use Rattle.mark_word.specs.declared.safe.SafeForm.{SafeForm}
use Rattle.mark_word.specs.Safe.{read_safe}
use Rattle.plain_monitor.specs.Monitor.{is_thread}
use Rattle.plain_monitor.specs.Objects.{PlainObject}
use Rattle.core_world.specs.declared.word_id.WordId.TheVariants.{Safepoint}
use Rattle.core_world.specs.declared.plan.StepPlan.{StepPlan}
use Rattle.core_world.specs.Words.Forms.{runs_in, runs_form, asks_in, is_halted, is_still, still_form}
use Rattle.core_world.specs.Threads.ThreadView.{ThreadView, Fetches, Returns}
use Rattle.core_world.specs.World.{World, with_known}
use Rattle.core_world.specs.Locks.{monitor_of, owner_at, waits_at}
use Rattle.core_world.specs.Clauses.Safepoints.{IsHeldUp, ends, StoppedAreQuiet, IsQuiet}
use Rattle.core_world.specs.Threads.Stages.{revocation_in}
use Rattle.core_world.specs.Clauses.Claims.{MovesFit}
use Rattle.core_world.specs.Shots.{ShotsFit}
use Rattle.core_world.specs.Valid.{Fits, SeenFit, SafepointFits}
use Rattle.core_world.proofs.Frames.{frame4}
use Rattle.core_world.proofs.KnowledgeParts.{each_with_known, part_moves}
use Rattle.core_world.proofs.Naming.{with_knowledge}
use Rattle.core_world.proofs.shot.ShotsStay.{shots_go_on}
use Rattle.core_world.proofs.KnowledgeFrames.{SameBut, with_knowledge_fits}
use Rattle.core_world.proofs.SeenNoted.{Looks, seen_noted}

-- where no thread runs by the safepoint word, no bit is set
still_runs : (f : Option SafeForm) (u : ℕ) → still_form f ≡ true → runs_form f u ≡ false
still_runs None u e = absurd (cc e)
still_runs (Some f) u e = let z : f.running ≡ 0 = eqb-true f.running 0 e in ap (λ n. bit_at n u == 1) z ∙ ap (λ n. n == 1) (bit_at-zero u)

-- at a still safepoint word nobody runs
pub still_nobody : (w : World) (P : List PlainObject) → SafepointFits w P → is_still (w.words Safepoint) ≡ true → (u : ℕ) → (w.known u).running ≡ false
still_nobody w P safe e u = sym (safe.bits u) ∙ still_runs (read_safe (w.words Safepoint)) u e

-- only one thread is the requester
pub one_requester : (w : World) (P : List PlainObject) → SafepointFits w P → (t u : ℕ) → (w.known t).requesting ≡ true → (w.known u).requesting ≡ true → t ≡ u
one_requester w P safe t u e f = same _ (safe.requester t ∙ e) (safe.requester u ∙ f)
  where
    same : (a : Option ℕ) → is_thread a t ≡ true → is_thread a u ≡ true → t ≡ u
    same None e f = absurd (cc e)
    same (Some r) e f = sym (eqb-true r t e) ∙ eqb-true r u f

-- thread t, which knew k, knows l after its step on the word of p: what the clauses read is the same, what it has seen is there, and what it
-- learnt of the safepoint is so
pub record Glance (w : World) (P : List PlainObject) (k l : ThreadView) (p : StepPlan) : Type 0 where
  pub same : SameBut k l
  pub looks : Looks w (waits_at P) k l p (w.words p.at)
  pub reached : l.reached ≡ true → (l.requesting ≡ true) × ((u : ℕ) → (w.known u).running ≡ false)
  pub halted : l.halted ≡ true → is_halted (w.words Safepoint) ≡ true
  pub stands : k.reached ≡ true → l.reached ≡ true

module _ (w : World) (P : List PlainObject) (t : ℕ) (l : ThreadView) (p : StepPlan) (g : Glance w P (w.known t) l p) where
  -- a thread with nothing unfinished that is held up is so whatever it has unfinished
  held_up_forth : IsHeldUp (monitor_of P) t (w.known t).unfinished → IsHeldUp (monitor_of P) t l.unfinished
  held_up_forth h = elim g.same.unfinished [
    | inl e ↦ subst (IsHeldUp (monitor_of P) t) e h
    | inr e ↦ none (subst (IsHeldUp (monitor_of P) t) e h)
  ]
    where
      none : IsHeldUp (monitor_of P) t None → IsHeldUp (monitor_of P) t l.unfinished
      none h = (
        h.0,
        elim h.1 [
          | inl a ↦ inl a
          | inr a ↦ elim a.0 [ inl b ↦ inr (inl b, a.1) | inr b ↦ absurd (cc b) ]
        ],
      )

  pub glance_seen : SeenFit w P → SeenFit (with_knowledge t l w) P
  glance_seen seen = seen_noted p (w.words p.at) t l w (owner_at P) (waits_at P) g.looks seen

  pub glance_safe : SafepointFits w P → SafepointFits (with_knowledge t l w) P
  glance_safe safe =
      let nobody : ((u : ℕ) → (w.known u).running ≡ false) → (u : ℕ) → ((with_knowledge t l w).known u).running ≡ false =
      λ h u. each_with_known (λ u y. y.running ≡ false) t l w.known u (sym g.same.running ∙ h t) (λ d. h u) in
      record {
        bits = λ u. each_with_known (λ u y. runs_in (w.words Safepoint) u ≡ y.running) t l w.known u (safe.bits t ∙ g.same.running) (λ d. safe.bits u);
        few = λ u. each_with_known (λ u y. y.running ≡ true → u < w.shape.threads) t l w.known u (λ e. safe.few t (g.same.running ∙ e)) (λ d. safe.few u);
        requester = λ u. each_with_known (λ u y. asks_in (w.words Safepoint) u ≡ y.requesting) t l w.known u
            (safe.requester t ∙ g.same.requesting) (λ d. safe.requester u);
        safepoint = λ u. each_with_known (λ u y. y.reached ≡ true
            → (y.requesting ≡ true) × ((z : ℕ) → ((with_knowledge t l w).known z).running ≡ false)) t l w.known u
            (λ e. let a = g.reached e in (a.0, nobody a.1)) (λ d e. let a = safe.safepoint u e in (a.0, nobody a.1));
        stopped = λ u. each_with_known (λ u y. y.halted ≡ true → is_halted (w.words Safepoint) ≡ true) t l w.known u g.halted (λ d. safe.stopped u);
        still = λ e.
            let a = safe.still e in
            let live = a.2.0 in (
              a.0,
              nobody a.1,
              (
                (
                  live.0,
                  live.1,
                  each_with_known (λ u y. ends (w.known u).log ≡ false → ends y.log ≡ false) t l w.known live.0
                      (λ z. ap ends (sym g.same.log) ∙ z) (λ d z. z) live.2,
                ),
                λ u h. each_with_known (λ u y. u < w.shape.threads → ends y.log ≡ false → IsHeldUp (monitor_of P) u y.unfinished) t l w.known u
                    (λ m z. held_up_forth (a.2.1 t m (ap ends g.same.log ∙ z))) (λ d m z. a.2.1 u m z) h,
              ),
            );
      }

  -- with the same shots, which may stand for a dump that has begun
  pub glance_fits : t < w.shape.threads → (w.known t).shots ≡ l.shots → Fits w P → Fits (with_knowledge t l w) P
  glance_fits within same v =
      let goes_on : (u : ℕ) → ((w.known u).unfinished ≡ (with_known t l w.known u).unfinished) ⊎ ((w.known u).unfinished ≡ None) =
      λ u. each_with_known (λ u y. ((w.known u).unfinished ≡ y.unfinished) ⊎ ((w.known u).unfinished ≡ None)) t l w.known u g.same.unfinished (λ d. inl refl) in
      let shots = frame4 (ShotsFit w.shape.objects) refl refl (part_moves (λ y. y.shots) t l w.known same) refl (shots_go_on goes_on v.shots) in
      let moves : MovesFit (λ u. (with_known t l w.known u).running) (λ u. (with_known t l w.known u).reached) (λ u. (with_known t l w.known u).moving) =
      record {
        runs = λ u p. each_with_known (λ u y. y.moving ≡ Fetches p → y.running ≡ true) t l w.known u
            (λ e. sym g.same.running ∙ v.moves.runs t p (g.same.moving ∙ e)) (λ d. v.moves.runs u p);
        reaches = λ u m. each_with_known (λ u y. y.moving ≡ Returns m → y.reached ≡ true) t l w.known u
            (λ e. g.stands (v.moves.reaches t m (g.same.moving ∙ e))) (λ d. v.moves.reaches u m);
      } in
      let quiet : StoppedAreQuiet (λ u. (with_known t l w.known u).running) (λ u. (with_known t l w.known u).reached) (λ u. (with_known t l w.known u).stage) =
      record {
        quiet = λ u. each_with_known (λ u y. y.running ≡ false → IsQuiet y.reached y.stage) t l w.known u
            (λ r. elim (v.quiet.quiet t (g.same.running ∙ r)) [
              | inl a ↦ inl (sym g.same.stage ∙ a)
              | inr a ↦ inr (g.stands a.0, (a.1.0, sym g.same.stage ∙ a.1.1))
            ]) (λ d. v.quiet.quiet u);
        none_revokes = λ u. each_with_known (λ u y. revocation_in y.stage ≡ None) t l w.known u
            (ap revocation_in (sym g.same.stage) ∙ v.quiet.none_revokes t) (λ d. v.quiet.none_revokes u);
      } in
      with_knowledge_fits w P t l within g.same (glance_seen v.seen) (glance_safe v.safe) moves quiet shots v
