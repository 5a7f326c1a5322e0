-- What the law of biases says of a run follows from the law of biases of its last world.
use Rattle.std.proofs.Common.{◌≡◌, ℕ, ◌+◌, ◌<◌, ◌≤◌, List, length, Option, None, sym, ap, ◌∙◌, subst, arith, inl, inr}
use Rattle.std.proofs.lemmas.Bool.{cases_lt}
use Rattle.plain_monitor.specs.History.{log_of}
use Rattle.plain_monitor.specs.Objects.{PlainObject}
use Rattle.plain_monitor.specs.declared.entry.Logged.{Logged}
use Rattle.plain_history.specs.EnterPaths.{PathsFit, has_hash}
use Rattle.plain_history.specs.HeldByLog.{nothing_held}
use Rattle.core_world.specs.declared.word_id.WordId.TheVariants.{Revocations}
use Rattle.core_world.specs.declared.stage.Stage.{Stage}
use Rattle.core_world.specs.declared.heap_call.Operation.TheVariants as op
use Rattle.core_world.specs.declared.heap_call.Unfinished.{Unfinished}
use Rattle.core_world.specs.Threads.ThreadView.{ThreadView}
use Rattle.core_world.specs.Locks.{marks}
use Rattle.core_world.specs.Clauses.Safepoints.{IsUnfinished}
use Rattle.core_world.specs.Words.Names.{class_by}
use Rattle.core_world.specs.Valid.{Fits}
use Rattle.core_world.specs.World.{World, logs}
use Rattle.core_world.proofs.KnowledgeParts.{log_at}
use Rattle.core_law.specs.BiasLaw.{BiasLawHolds, is_logged}
use Rattle.core_law.specs.CountsAndVerdicts.{IsDecided, VerdictsFit}
use Rattle.core_law.specs.MarksAndLogs.{IsHashed}
use Rattle.core_law.specs.OfARun.{IsHashLogged, BiasesOfRun, VerdictsAtMost}
use Rattle.core_law.specs.TakenBiases.{OwnsAreTaken}

module _ (w : World) (P : List PlainObject) (v : Fits w P) (law : BiasLawHolds w) where
  log_is : (t : ℕ) → t < w.shape.threads → log_of (logs w) t ≡ (w.known t).log
  log_is t within = log_at 0 w.shape.threads t t w.known (omega arith) within

  -- a Hash that is logged or open is logged, where none is open; a thread that the heap lacks has logged none
  hash_logged : ((t o : ℕ) → IsUnfinished (w.known t).unfinished op.Hash o → ⊥) → (o : ℕ)
      → IsHashed (λ t. (w.known t).log) (λ t. (w.known t).unfinished) o → IsHashLogged (logs w) o
  hash_logged none o (t, inr h) = absurd (none t o h)
  hash_logged none o (t, inl h) = elim (cases_lt t w.shape.threads) [
    | inl within ↦ (t, ap (has_hash o) (log_is t within) ∙ h)
    | inr far ↦ absurd (let a = ap (λ (k : ThreadView). has_hash o k.log) (v.absent t far) in cc (a, h))
  ]

  pub run_fits : ((t o : ℕ) → IsUnfinished (w.known t).unfinished op.Hash o → ⊥)
      → BiasesOfRun w.biasing w.shape.threads (is_logged w.shape (logs w)) (class_by w.shape w.words) (logs w)
      (λ c. w.words (Revocations c)) (λ t. (w.known t).counts)
  run_fits none = record {
    stays = law.marks.stays;
    paths = λ t within. subst (PathsFit nothing_held) (sym (log_is t within)) (law.paths.logged t);
    entered = λ b o path there r e. elim (law.marks.entered b o path there r e) [ inl h ↦ inl h | inr h ↦ inr (hash_logged none o h) ];
    counts = law.count_fits;
    plain = law.plain;
    uncounted = law.uncounted;
    taken = λ t within. subst OwnsAreTaken (sym (log_is t within)) (law.taken.logged t);
    few = law.few.logged;
  }

  -- one more at most, and none where the thread has nothing unfinished
  one_more : (verdicts : ℕ) (log : List Logged) (s : Stage) (u : Option Unfinished) → VerdictsFit (marks w) verdicts log s u → verdicts ≤ length log + 1
  one_more n log s u (inl h) = omega (arith, h)
  one_more n log s u (inr h) = let a = h.0 in omega (arith, a)

  no_more : (verdicts : ℕ) (log : List Logged) (s : Stage) (u : Option Unfinished)
      → u ≡ None → VerdictsFit (marks w) verdicts log s u → verdicts ≤ length log + 0
  no_more n log s u none (inl h) = omega (arith, h)
  no_more n log s u none (inr h) = absurd (subst (IsDecided (marks w) s) none h.1)

  pub verdicts_with_one_more : VerdictsAtMost 1 w.shape.threads w.shape.classes (logs w) (λ t. (w.known t).counts)
  verdicts_with_one_more t within =
      let a = one_more _ (w.known t).log (w.known t).stage (w.known t).unfinished (law.verdicts t) in
      let b = ap (λ (log : List Logged). length log) (log_is t within) in
      omega (arith, a, b)

  pub verdicts_at_most : ((t : ℕ) → (w.known t).unfinished ≡ None) → VerdictsAtMost 0 w.shape.threads w.shape.classes (logs w) (λ t. (w.known t).counts)
  verdicts_at_most none t within =
      let a = no_more _ (w.known t).log (w.known t).stage (w.known t).unfinished (none t) (law.verdicts t) in
      let b = ap (λ (log : List Logged). length log) (log_is t within) in
      omega (arith, a, b)

  pub run_ends : ((t : ℕ) → (w.known t).unfinished ≡ None)
      → BiasesOfRun w.biasing w.shape.threads (is_logged w.shape (logs w)) (class_by w.shape w.words) (logs w)
      (λ c. w.words (Revocations c)) (λ t. (w.known t).counts)
  run_ends none = run_fits (λ t o h. let n = none t in cc (n, h))
