-- A world in the middle of a call of a thread that is left alone, where it has logged nothing and released its safepoint: who has the lock of an object is its
-- plain owner from before the call, but for the thread itself.
use Rattle.core_locks.proofs.Prelude.{◌≡◌, ◌≢◌, ℕ, ◌<◌, ◌==◌, ◌||◌, ◌++◌, cond, not, Bool, true, false, List, [], ◌∷◌, Option, Some, None, refl}
use Rattle.core_locks.proofs.Prelude.{sym, ap, ◌∙◌, subst, eq-eqb, eqb-true, by_equal, or-false, same_Some, MarkForm, Inflating, read_mark}
use Rattle.core_locks.proofs.Prelude.{PlainObject, Logged, Entry, WordId, Safepoint, Mark, Prototype, World, logs, logs_from, Fits, Shape, who}
use Rattle.core_locks.proofs.Prelude.{owner_words, inflations, owner_at, monitor_of, hold_count, bears, is_thread, StepMade, ThreadView}
use Rattle.plain_monitor.specs.History.{objects_after}
use Rattle.core_world.specs.declared.plan.LogEffect.{LogEffect}
use Rattle.core_world.specs.declared.plan.LogEffect.TheVariants.{Quiet as Says_nothing, Log, LogGet, LogHash}
use Rattle.core_world.specs.Locks.{holder, lock_form}
use Rattle.core_world.specs.Threads.Stages.{Inflation}
use Rattle.core_world.specs.RevocationRules.{holds_in}
use Rattle.core_world.specs.Steps.{known_along, known_after, known_hit, known_miss, log_after}
use Rattle.core_world.specs.Words.Acts.{hits}
use Rattle.core_world.specs.Words.Forms.{hash_in, requester_in}
use Rattle.core_world.specs.Words.Names.{class_by}
use Rattle.core_world.specs.Trees.SafepointSteps.{released_word}
use Rattle.core_world.proofs.KnowledgeParts.{with_known_here, with_known_else}
use Rattle.core_world.proofs.bias.LookWhileRevoking.{forgotten}
use Rattle.core_world.proofs.RefusedWorlds.{logs_same}
use Rattle.core_law.specs.WholeLaw.{LawsHold}
use Rattle.core_bias.proofs.Places.{holds_are}
use Rattle.core_locks.proofs.safepoint.SafeFacts.{fits_unasked}
use Rattle.core_calls.specs.Paths.{noted, entries_of}
use Rattle.core_law.specs.Logic.{Heap}
use Rattle.core_law.specs.Reached.{IsReachable, moves}
use Rattle.core_steps.proofs.ReachedWorlds.{reached_worlds_valid}
use Rattle.core_world.specs.Words.Shape.{IsInLimits}
use Rattle.solo_progress.specs.Alone.{words_left}
use Rattle.solo_progress.specs.Answers.{is_other, is_anothers, who_in}
use Rattle.solo_progress.specs.LeftAlone.{IsLeftAlone}
use Rattle.solo_progress.specs.Moves.{Moves, stays, goes}
use Rattle.solo_progress.proofs.OneRun.{QuietAt, not_inflating}
use Rattle.solo_progress.proofs.Runs.{moves_found}
use Rattle.solo_progress.proofs.Safe.{no_requester}
use Rattle.solo_progress.proofs.Worlds.{all_calm}

-- STEPS THAT LOG NOTHING leave the log
both_none : {A : Type 0} (xs ys : List A) → xs ++ ys ≡ [] → (xs ≡ []) × (ys ≡ [])
both_none [] ys e = (refl, e)
both_none (x ∷ xs) ys e = absurd (cc e)

silent_note : (note : LogEffect) (n : ℕ) (log : List Logged) → noted note n ≡ [] → log_after note n log ≡ log
silent_note Says_nothing n log e = refl
silent_note (Log entry) n log e = absurd (cc e)
silent_note (LogGet o slot) n log e = absurd (cc e)
silent_note (LogHash o) n log e = cases (hash_in n == 0) _ _ e
  where
    cases : (b : Bool) (entry : Entry) (x : List Logged) → cond b [] (entry ∷ []) ≡ [] → cond b log x ≡ log
    cases true entry x e = refl
    cases false entry x e = absurd (cc e)

pub silent_log : (s : Shape) (start : ℕ) (ms : List StepMade) (k : ThreadView) → entries_of ms ≡ [] → (known_along s start ms k).log ≡ k.log
silent_log s start [] k e = refl
silent_log s start (m ∷ ms) k e =
    let parts = both_none (entries_of ms) (cond (hits m.plan.act m.found) (noted m.plan.note m.found) []) e in
    by_hit (hits m.plan.act m.found) parts.1 ∙ silent_log s start ms k parts.0
  where
    l : ThreadView
    l = known_along s start ms k

    by_hit : (b : Bool) → cond b (noted m.plan.note m.found) [] ≡ []
        → (cond b (known_hit s start m.plan m.found (known_along s start ms k)) (known_miss s start m.plan m.found (known_along s start ms k))).log
        ≡ (known_along s start ms k).log
    by_hit true h = silent_note m.plan.note m.found (known_along s start ms k).log h
    by_hit false h = refl

-- A RUN OF ONE THREAD changes what that thread knows, by its steps
pub record Went (w : World) (t : ℕ) (ms : List StepMade) (v : World) : Type 0 where
  pub shape : v.shape ≡ w.shape
  pub start : v.start ≡ w.start
  pub known : v.known t ≡ known_along w.shape w.start ms (w.known t)
  pub others : (u : ℕ) → u ≢ t → v.known u ≡ w.known u

pub went : (w : World) (t : ℕ) (ms : List StepMade) (v : World) → Moves w t ms v → Went w t ms v
went w t ms v stays = record { shape = refl; start = refl; known = refl; others = λ u d. refl }
went w t ms v (goes ns x p before next) =
    let h = went w t ns x before in
    record {
      shape = h.shape;
      start = h.start;
      known =
          with_known_here t (known_after x.shape x.start p (x.words p.at) (x.known t)) x.known ∙
          (λ i. known_after (h.shape i) (h.start i) p (x.words p.at) (h.known i));
      others = λ u d. with_known_else t (known_after x.shape x.start p (x.words p.at) (x.known t)) x.known u d ∙ h.others u d;
    }

pub moved_comes : (heap : Heap) (w : World) (t : ℕ) (ms : List StepMade) (v : World) → t < w.shape.threads → IsReachable heap w → Moves w t ms v
    → IsReachable heap v
moved_comes heap w t ms v within c stays = c
moved_comes heap w t ms v within c (goes ns x p before next) =
    moves x t p (moved_comes heap w t ns x within c before)
    (subst (λ (s : Shape). t < s.threads) (sym (went w t ns x before).shape) within) next

-- two owners are as much another's where the same other threads are they
other_same : (a b : Option ℕ) (t : ℕ) → ((u : ℕ) → u ≢ t → is_thread a u ≡ is_thread b u) → is_other a t ≡ is_other b t
other_same None None t h = refl
other_same None (Some u) t h =
    by_equal u t (λ e. sym (ap not (eq-eqb u t e))) (λ d. let none = h u d in let self = eq-eqb u u refl in absurd (cc (none, self)))
other_same (Some u) None t h =
    by_equal u t (λ e. ap not (eq-eqb u t e)) (λ d. let none = h u d in let self = eq-eqb u u refl in absurd (cc (none, self)))
other_same (Some u) (Some x) t h =
    by_equal u t
    (λ e. by_equal x t (λ g. ap (λ i. not (i == t)) (e ∙ sym g))
    (λ d. let one = h x d ∙ eq-eqb x x refl in let same = eqb-true u x one in absurd (d (sym same ∙ e))))
    (λ d. let one = sym (h u d) ∙ eq-eqb u u refl in let same = eqb-true x u one in ap (λ i. not (i == t)) (sym same))

unnamed : (form : Option MarkForm) (p : ℕ) (owners : ℕ → ℕ) (x : Option Inflation) → form ≢ Some Inflating
    → lock_form form p owners None ≡ lock_form form p owners x
unnamed (Some Inflating) p owners x d = absurd (d refl)
unnamed _ p owners x d = refl

module _ (heap : Heap) (limits : IsInLimits heap.shape) (w : World) (P : List PlainObject) (t : ℕ) (a : IsLeftAlone w t) (low : t < 32)
    (before : Fits w P) (c : IsReachable heap w) (ms : List StepMade) (v : World) (m : Moves w t ms v) (silent : entries_of ms ≡ [])
    (o : ℕ) (q : QuietAt o (released_word t) (words_left w.words ms)) where
  words : v.words ≡ words_left w.words ms
  words = λ i n. (moves_found w t ms v m).words n i

  same_logs : logs v ≡ logs w
  same_logs =
      ap (λ (s : Shape). logs_from 0 s.threads v.known) (went w t ms v m).shape
      ∙ logs_same 0 w.shape.threads v.known w.known
      (λ u. by_equal u t
      (λ e. subst (λ i. (v.known i).log ≡ (w.known i).log) (sym e)
      (ap (λ (k : ThreadView). k.log) (went w t ms v m).known ∙ silent_log w.shape w.start ms (w.known t) silent))
      (λ d. ap (λ (k : ThreadView). k.log) ((went w t ms v m).others u d)))

  unasked : requester_in (v.words Safepoint) ≡ None
  unasked = ap (λ (f : WordId → ℕ). requester_in (f Safepoint)) words ∙ ap requester_in q.safepoint ∙ no_requester t low

  middle : Fits v P
  middle =
      let valid = reached_worlds_valid heap v limits (moved_comes heap w t ms v a.within c m) in
      let fits = fits_unasked v valid.objects unasked (forgotten LawsHold v valid.objects valid.is) in
      subst (Fits v) (same_Some valid.objects P
      (sym fits.taken ∙ ap (objects_after v.shape.objects) same_logs ∙ ap (λ (s : Shape). objects_after s.objects (logs w))
      (went w t ms v m).shape ∙ before.taken)) fits

  some : v.words (Mark o) ≢ 0
  some z = q.mark (ap (λ (f : WordId → ℕ). f (Mark o)) (sym words) ∙ z)

  -- by the words as they are then
  held_then : (u : ℕ) → hold_count o (holds_in v.words u) ≡ hold_count o (v.known u).holds
  held_then u = ap (hold_count o) (holds_are v.words u (v.known u).holds (middle.holds.places u) (middle.holds.stored u))

  who_then : who_in v.shape v.words o ≡ who v o
  who_then =
      (λ i. holder (lock_form (read_mark (v.words (Mark o))) (v.words (Prototype (class_by v.shape v.words o))) (owner_words v) None)
      (λ u. held_then u i))
      ∙ ap (λ l. holder l (λ u. hold_count o (v.known u).holds))
      (unnamed (read_mark (v.words (Mark o))) (v.words (Prototype (class_by v.shape v.words o))) (owner_words v) (inflations v o)
      (not_inflating (v.words (Mark o)) some))

  others_then : (u : ℕ) → u ≢ t → is_thread (who v o) u ≡ is_thread (monitor_of P o).owner u
  others_then u d =
      middle.owners.same o u
      ∙ ap (λ (k : ThreadView). owner_at P o u || bears k.stage o) ((went w t ms v m).others u d)
      ∙ ap (λ s. owner_at P o u || bears s o) (all_calm w P t a before u)
      ∙ or-false (owner_at P o u)

  pub anothers_then : is_anothers w.shape (words_left w.words ms) o t ≡ is_other (monitor_of P o).owner t
  anothers_then =
      (λ i. is_anothers (sym (went w t ms v m).shape i) (sym words i) o t)
      ∙ ap (λ b. is_other b t) who_then
      ∙ other_same (who v o) (monitor_of P o).owner t others_then
