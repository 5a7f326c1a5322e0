-- A safepoint of a thread that is left alone is reached at once, and its release puts it back.
use Rattle.std.proofs.Common.{◌≡◌, ℕ, ◌-◌, ◌^◌, ◌<◌, ◌==◌, cond, is_some, Bool, true, false, Some, None, refl, ap, ◌∙◌, arith, eq-eqb}
use Rattle.std.proofs.lemmas.Nat.{pow_below}
use Rattle.mark_word.specs.declared.safe.SafeForm.{SafeForm}
use Rattle.mark_word.specs.Safe.{safe_of, read_safe}
use Rattle.mark_word.proofs.ReadingSafepoints.{read_safe-safe_of}
use Rattle.core_world.specs.declared.word_id.WordId.{WordId}
use Rattle.core_world.specs.declared.word_id.WordId.TheVariants.{Safepoint}
use Rattle.core_world.specs.declared.stage.Stage.{Stage}
use Rattle.core_world.specs.declared.answer.Progress.{Progress}
use Rattle.core_world.specs.declared.answer.Progress.TheVariants.{Done, Pending}
use Rattle.core_world.specs.Threads.Stages.{Revocation}
use Rattle.core_world.specs.Words.Forms.{requester_in, requester_form, still_form, is_still}
use Rattle.core_world.specs.Words.Shape.{Shape}
use Rattle.core_world.specs.Trees.BiasSteps.{stage_after}
use Rattle.core_world.specs.Trees.DeflateSteps.{deflate_steps}
use Rattle.core_world.specs.Trees.Operations.{and_then, revocation_steps}
use Rattle.core_world.specs.Trees.Plans.{CallContext}
use Rattle.core_world.specs.Trees.RevocationSteps.{RevocationOutcome, revoke_at_safepoint_steps}
use Rattle.core_world.specs.Trees.SafepointSteps.{has_requester, requested_by, reached_word, released_word, request_steps}
use Rattle.core_world.specs.Trees.SafepointSteps.{reached_steps, then_reached, safepoint_steps, release_to}
use Rattle.core_world.specs.Trees.StepTree.{StepTree, ◌>>=◌}
use Rattle.solo_progress.specs.Alone.{word_of_one}
use Rattle.solo_progress.specs.Answers.{IsDone}
use Rattle.solo_progress.proofs.OneRun.{Alone, QuietAt, alone_then, alone_so, alone_either, DoneWith}
use Rattle.solo_progress.proofs.Spares.{PlainAt, plain_quiet, revocation_plain, deflation_plain}

-- A TURN that is done goes on.
pub alone_progress : {A B : Type 0} (Q : (WordId → ℕ) → A → Type 0) (P : (WordId → ℕ) → Progress B → Type 0)
    (d : StepTree (Progress A)) (k : A → StepTree (Progress B)) (f : WordId → ℕ)
    → Alone (λ g progress. DoneWith (Q g) progress) f d → ((g : WordId → ℕ) (a : A) → Q g a → Alone P g (k a))
    → Alone P f (d >>= λ progress. and_then progress k)
alone_progress {A} Q P d k f h more = alone_then (λ g progress. DoneWith (Q g) progress) P d (λ progress. and_then progress k) f h by_progress
  where
    by_progress : (g : WordId → ℕ) (progress : Progress A) → DoneWith (Q g) progress → Alone P g (and_then progress k)
    by_progress g (Done a) h = more g a h
    by_progress g (Pending why) h = absurd h

abbrev pub IsQuietProgress : {A : Type 0} → ℕ → ℕ → (WordId → ℕ) → Progress A → Type 0
IsQuietProgress o safe g progress = DoneWith (λ a. QuietAt o safe g) progress

module _ (t : ℕ) (low : t < 32) where
  abbrev released : SafeForm
  released = record { running = 2 ^ t; requester = None; halted = false }

  abbrev reached : SafeForm
  reached = record { running = 0; requester = Some t; halted = false }

  reads_released : read_safe (released_word t) ≡ Some released
  reads_released = read_safe-safe_of released (pow_below t 32 low, tt)

  reads_reached : read_safe (reached_word t) ≡ Some reached
  reads_reached = read_safe-safe_of reached (omega arith, low)

  pub unasked : has_requester (released_word t) ≡ false
  unasked = ap (λ f. is_some (requester_form f)) reads_released

  pub no_requester : requester_in (released_word t) ≡ None
  no_requester = ap requester_form reads_released

  requested : requested_by (read_safe (released_word t)) t ≡ reached_word t
  requested =
      ap (λ f. requested_by f t) reads_released ∙ ap (λ n. safe_of (record { running = n; requester = Some t; halted = false }))
      (let z : 2 ^ t - 2 ^ t ≡ 0 = omega arith in z)

  still : is_still (reached_word t) ≡ true
  still = ap still_form reads_reached

-- a call on o at a safepoint
module _ (t o : ℕ) (low : t < 32) where
  reached_alone : (e : CallContext) (f : WordId → ℕ) → QuietAt o (reached_word t) f
      → Alone (IsQuietProgress {A = Unit {0}} o (reached_word t)) f (reached_steps e)
  reached_alone e f q =
      alone_either (IsQuietProgress {A = Unit {0}} o (reached_word t)) _ (is_still (f Safepoint)) _ _
      (λ _. record { mark = q.mark; safepoint = q.safepoint })
      (λ no_still. let yes_still = ap is_still q.safepoint ∙ still t low in absurd (cc (no_still, yes_still)))

  request_alone : (e : CallContext) (f : WordId → ℕ) → QuietAt o (released_word t) f
      → Alone (IsQuietProgress {A = Unit {0}} o (reached_word t)) f (request_steps e t)
  request_alone e f q =
      alone_either (IsQuietProgress {A = Unit {0}} o (reached_word t)) _ (has_requester (f Safepoint)) _ _
      (λ asked. let none = ap has_requester q.safepoint ∙ unasked t low in absurd (cc (asked, none)))
      (λ _. alone_either (IsQuietProgress {A = Unit {0}} o (reached_word t)) _ (f Safepoint == f Safepoint) _ _
      (λ hit. record {
        mark = q.mark;
        safepoint = ap (λ (b : Bool). cond b (requested_by (read_safe (f Safepoint)) t) (f Safepoint)) hit
            ∙ ap (λ n. requested_by (read_safe n) t) q.safepoint ∙ requested t low;
      })
      (λ miss. let same = eq-eqb (f Safepoint) (f Safepoint) refl in absurd (cc (miss, same))))

  -- each of the two by itself
  is_done : {A : Type 0} (safe : ℕ) (g : WordId → ℕ) (progress : Progress A) → IsQuietProgress o safe g progress → IsDone progress
  is_done safe g (Done a) h = tt
  is_done safe g (Pending why) h = absurd h

  pub requests_done : (e : CallContext) (f : WordId → ℕ) → QuietAt o (released_word t) f → Alone (λ g progress. IsDone progress) f (request_steps e t)
  requests_done e f q =
      alone_so (IsQuietProgress {A = Unit {0}} o (reached_word t)) (λ g progress. IsDone progress) (request_steps e t) f (request_alone e f q)
      (λ g progress h. is_done (reached_word t) g progress h)

  pub reaches_done : (e : CallContext) (f : WordId → ℕ) → QuietAt o (reached_word t) f → Alone (λ g progress. IsDone progress) f (reached_steps e)
  reaches_done e f q =
      alone_so (IsQuietProgress {A = Unit {0}} o (reached_word t)) (λ g progress. IsDone progress) (reached_steps e) f (reached_alone e f q)
      (λ g progress h. is_done (reached_word t) g progress h)

  pub safepoint_alone : (e : CallContext) (requesting : Bool) (f : WordId → ℕ) → QuietAt o (word_of_one requesting t) f
      → Alone (IsQuietProgress {A = Unit {0}} o (reached_word t)) f (safepoint_steps e t requesting)
  safepoint_alone e true f q = reached_alone e f q
  safepoint_alone e false f q =
      alone_then (IsQuietProgress {A = Unit {0}} o (reached_word t)) (IsQuietProgress {A = Unit {0}} o (reached_word t)) (request_steps e t)
      (then_reached e) f (request_alone e f q) by_progress
    where
      by_progress : (g : WordId → ℕ) (progress : Progress (Unit {0})) → IsQuietProgress o (reached_word t) g progress
          → Alone (IsQuietProgress {A = Unit {0}} o (reached_word t)) g (then_reached e progress)
      by_progress g (Done x) q = reached_alone e g q
      by_progress g (Pending why) q = absurd q

  pub release_alone : (stage : Stage) (e : CallContext) (f : WordId → ℕ) → QuietAt o (reached_word t) f
      → Alone (λ g (x : Unit {0}). QuietAt o (released_word t) g) f (release_to stage e t)
  release_alone stage e f q =
      alone_either (λ g (x : Unit {0}). QuietAt o (released_word t) g) _ (f Safepoint == reached_word t) _ _
      (λ hit. record { mark = q.mark; safepoint = ap (λ (b : Bool). cond b (released_word t) (f Safepoint)) hit })
      (λ _. tt)

-- so a revocation at a safepoint isn't pending, and idle monitors are given back there
pub revocation_alone : (t : ℕ) → t < 32 → (s : Shape) (requesting : Bool) (e : CallContext) (b : Revocation) (f : WordId → ℕ)
    → QuietAt b.object (word_of_one requesting t) f
    → Alone (IsQuietProgress {A = Bool} b.object (released_word t)) f (revocation_steps s t requesting e b)
revocation_alone t low s requesting e b f q =
    alone_progress (λ g (x : Unit {0}). QuietAt o (reached_word t) g) (IsQuietProgress {A = Bool} o (released_word t))
    (safepoint_steps e t requesting) _ f (safepoint_alone t o low e requesting f q)
    (λ g x q. alone_then (λ h (x : RevocationOutcome). PlainAt o (reached_word t) h) (IsQuietProgress {A = Bool} o (released_word t))
    (revoke_at_safepoint_steps s t e b) _ g (revocation_plain s t (reached_word t) e b g q)
    (λ h outcome q. alone_then (λ i (x : Unit {0}). PlainAt o (reached_word t) i) (IsQuietProgress {A = Bool} o (released_word t))
    (deflate_steps s e (stage_after outcome.took o)) _ h (deflation_plain s o (reached_word t) e (stage_after outcome.took o) h q)
    (λ i x q. alone_then (λ j (x : Unit {0}). QuietAt o (released_word t) j) (IsQuietProgress {A = Bool} o (released_word t))
    (release_to (stage_after outcome.took o) e t) _ i
    (release_alone t o low (stage_after outcome.took o) e i (plain_quiet q)) (λ j x q. q))))
  where
    o : ℕ
    o = b.object
