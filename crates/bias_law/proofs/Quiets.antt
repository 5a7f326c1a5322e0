-- A step that logs nothing, and a revocation as a whole, keep what the bias law says of enters and marks.
use Rattle.std.proofs.Common.{◌≡◌, ◌≢◌, ℕ, Bool, true, false, List, Option, Some, refl, sym, ap, ◌∙◌, inl, inr}
use Rattle.plain_monitor.specs.declared.entry.Entry.{Entry}
use Rattle.plain_monitor.specs.declared.entry.Logged.{Logged}
use Rattle.plain_monitor.specs.declared.entry.Path.{Path}
use Rattle.core_world.specs.declared.stage.Stage.{Stage}
use Rattle.core_world.specs.declared.heap_call.Unfinished.{Unfinished}
use Rattle.core_world.specs.Words.Forms.{is_biased}
use Rattle.core_world.specs.Locks.{Lock, BiasedTo}
use Rattle.core_world.specs.Threads.Stages.{path_into}
use Rattle.core_law.specs.MarksAndLogs.{EntersFitMarks, IsHashed, IsTaken}
use Rattle.bias_law.specs.Moves.{OthersStay, LogsNothing}
use Rattle.core_world.proofs.KnowledgeParts.{by_equal}

-- what is not biased before is not biased afterwards
pub stays_unbiased : (m n : ℕ) → (is_biased n ≡ true → is_biased m ≡ true) → is_biased m ≡ false → (b : Bool) → is_biased n ≡ b → is_biased n ≡ false
stays_unbiased m n h e true f = absurd (cc (h f, e))
stays_unbiased m n h e false f = f

module _ (biasing : Bool) (there : ℕ → Bool) (class mark : ℕ → ℕ) (lock : ℕ → Lock) (entries : ℕ → List Entry)
    (log : ℕ → List Logged) (stage : ℕ → Stage) (unfinished : ℕ → Option Unfinished) (revoked mark2 : ℕ → ℕ) (lock2 : ℕ → Lock)
    (stage2 : ℕ → Stage) (unfinished2 : ℕ → Option Unfinished) (revoked2 : ℕ → ℕ) (t : ℕ) (law : EntersFitMarks biasing there
    class mark lock entries log stage unfinished revoked) (others : OthersStay t log stage unfinished log stage2 unfinished2)
    (a : LogsNothing biasing t class mark lock entries stage unfinished revoked mark2 lock2 stage2 unfinished2 revoked2) where
  hashed : (i : ℕ) → IsHashed log unfinished i → IsHashed log unfinished2 i
  hashed i (u, inl h) = (u, inl h)
  hashed i (u, inr h) = by_equal u t (λ e. (t, inr (a.hash i (ap unfinished (sym e) ∙ h)))) (λ d. (u, inr (others.operations u d ∙ h)))

  taken : (i : ℕ) → IsTaken stage i → IsTaken stage2 i
  taken i (u, h) = by_equal u t (λ e. (t, a.taking i (ap (λ v. path_into (stage v) i) (sym e) ∙ h))) (λ d. (u, ap (λ s. path_into s i) (others.stages u d) ∙ h))

  -- where it stood and stands
  mine : (u i : ℕ) (path : Path) → u ≡ t → path_into (stage2 u) i ≡ Some path → path_into (stage2 t) i ≡ Some path
  mine u i path s e = ap (λ v. path_into (stage2 v) i) (sym s) ∙ e

  theirs : (u i : ℕ) (path : Path) → u ≢ t → path_into (stage2 u) i ≡ Some path → path_into (stage u) i ≡ Some path
  theirs u i path d e = ap (λ s. path_into s i) (sym (others.stages u d)) ∙ e

  pub quiet_keeps : EntersFitMarks biasing there class mark2 lock2 entries log stage2 unfinished2 revoked2
  quiet_keeps = record {
    ended = λ i e. stays_unbiased (mark i) (mark2 i) (a.pattern i) (law.ended i e) (is_biased (mark2 i)) refl;
    stays = law.stays;
    biased = λ u i path e b. by_equal u t
        (λ s. a.biased i path (mine u i path s e) b ∙ ap BiasedTo (sym s))
        (λ d. a.leans i u path d (theirs u i path d e) (law.biased u i path (theirs u i path d e) b));
    unbiased = λ u i path e b. by_equal u t
        (λ s. a.unbiased i path (mine u i path s e) b)
        (λ d. stays_unbiased (mark i) (mark2 i) (a.pattern i) (law.unbiased u i path (theirs u i path d e) b) (is_biased (mark2 i)) refl);
    unentered = λ b i is r e. elim (law.unentered b i is (a.fewer (class i) r) e) [
      | inl g ↦ elim (a.nobody b i r e g) [
        | inl k ↦ inl k
        | inr k ↦ elim k [ inl m ↦ inr (inl (t, m)) | inr m ↦ inr (inr (t, inr m)) ]
      ]
      | inr g ↦ elim g [ inl k ↦ inr (inl (taken i k)) | inr k ↦ inr (inr (hashed i k)) ]
    ];
    entered = λ b i path is r e. elim (law.entered b i path is (a.fewer (class i) r) e) [ inl g ↦ inl g | inr g ↦ inr (hashed i g) ];
  }
