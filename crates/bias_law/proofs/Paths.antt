-- Paths, holds and verdicts: what a step that logs an entry, a quiet step and a revocation keep of them.
use Rattle.std.proofs.Common.{◌≡◌, ◌≢◌, ◌⊎◌, ℕ, zero, suc, ◌+◌, ◌≤◌, ◌<◌, true, List, [], ◌∷◌, ◌++◌}
use Rattle.std.proofs.Common.{length, Option, Some, None, refl, sym, ap, ◌∙◌, subst, arith, inl, inr}
use Rattle.plain_monitor.specs.declared.entry.Entry.{Entry}
use Rattle.plain_monitor.specs.declared.entry.Entry.TheVariants as entry
use Rattle.plain_monitor.specs.declared.entry.Logged.{Logged}
use Rattle.plain_monitor.specs.declared.entry.Path.{Path}
use Rattle.plain_monitor.specs.declared.entry.Path.TheVariants.{BiasTaken}
use Rattle.core_world.specs.declared.stage.Stage.{Stage}
use Rattle.core_world.specs.declared.heap_call.Unfinished.{Unfinished}
use Rattle.core_world.specs.Words.Forms.{is_biased}
use Rattle.core_world.specs.Threads.Stages.{path_into}
use Rattle.core_law.specs.MarksAndLogs.{PathsFitHolds}
use Rattle.plain_history.specs.EnterPaths.{PathsFit, PathFits}
use Rattle.core_law.specs.CountsAndVerdicts.{VerdictsFit, IsDecided, sum_below}
use Rattle.plain_history.specs.HeldByLog.{held_by, held_after, nothing_held}
use Rattle.core_world.proofs.KnowledgeParts.{by_equal}
use Rattle.bias_law.proofs.Quiets.{stays_unbiased}

pub held_push : (held : ℕ → ℕ) (log : List Logged) (y : Logged) → held_by held (log ++ y ∷ []) ≡ held_after y.entry (held_by held log)
held_push held [] y = refl
held_push held (x ∷ log) y = held_push (held_after x.entry held) log y

pub paths_push : (held : ℕ → ℕ) (log : List Logged) (y : Logged) → PathsFit held log → PathFits (held_by held log) y.entry → PathsFit held (log ++ y ∷ [])
paths_push held [] y h e = (e, tt)
paths_push held (x ∷ log) y h e = (h.0, paths_push (held_after x.entry held) log y h.1 e)

-- an entry's path fits where it does if the entry is an enter
fits_if_enter : (held : ℕ → ℕ) (e : Entry) → ((i : ℕ) (path : Path) → e ≡ entry.Enter i path → PathFits held (entry.Enter i path)) → PathFits held e
fits_if_enter held (entry.Enter o p) h = h o p refl
fits_if_enter held _ h = tt

pub entry_keeps_paths : (log : ℕ → List Logged) (stage : ℕ → Stage) (log2 : ℕ → List Logged) (stage2 : ℕ → Stage) (t : ℕ) (y : Logged) → PathsFitHolds log stage
    → ((u : ℕ) → u ≢ t → log2 u ≡ log u) → ((u : ℕ) → u ≢ t → stage2 u ≡ stage u) → log2 t ≡ log t ++ y ∷ [] → ((i : ℕ) → path_into (stage2 t) i ≡ None)
    → ((i : ℕ) (path : Path) → y.entry ≡ entry.Enter i path → path_into (stage t) i ≡ Some path) → PathsFitHolds log2 stage2
entry_keeps_paths log stage log2 stage2 t y law logs stages grows left enters = record {
  logged = λ u. by_equal u t
      (λ e. subst (λ v. PathsFit nothing_held (log2 v)) (sym e)
      (subst (PathsFit nothing_held) (sym grows)
      (paths_push nothing_held (log t) y (law.logged t) (fits_if_enter _ y.entry (λ i path f. law.coming t i path (enters i path f))))))
      (λ d. subst (PathsFit nothing_held) (sym (logs u d)) (law.logged u));
  coming = λ u o path e. by_equal u t
      (λ s. absurd (let l = left o in let c : path_into (stage2 t) o ≡ Some path = ap (λ v. path_into (stage2 v) o) (sym s) ∙ e in cc (l, c)))
      (λ d. subst (λ (g : List Logged). PathFits (held_by nothing_held g) (entry.Enter o path))
      (sym (logs u d)) (law.coming u o path (ap (λ s. path_into s o) (sym (stages u d)) ∙ e)));
}

pub quiet_keeps_paths : (log : ℕ → List Logged) (stage stage2 : ℕ → Stage) (t : ℕ) → PathsFitHolds log stage
    → ((u : ℕ) → u ≢ t → stage2 u ≡ stage u)
    → ((i : ℕ) (path : Path) → path_into (stage2 t) i ≡ Some path → PathFits (held_by nothing_held (log t)) (entry.Enter i path))
    → PathsFitHolds log stage2
quiet_keeps_paths log stage stage2 t law stages fits = record {
  logged = law.logged;
  coming = λ u o path e. by_equal u t
      (λ s. subst (λ v. PathFits (held_by nothing_held (log v)) (entry.Enter o path)) (sym s) (fits o path (ap (λ v. path_into (stage2 v) o) (sym s) ∙ e)))
      (λ d. law.coming u o path (ap (λ s. path_into s o) (sym (stages u d)) ∙ e));
}

-- VERDICTS. An entry makes room for one more.
pub entry_keeps_verdicts : (mark : ℕ → ℕ) (n : ℕ) (log : List Logged) (s : Stage)
    (u : Option Unfinished) (mark2 : ℕ → ℕ) (log2 : List Logged) (s2 : Stage) (u2 : Option Unfinished)
    → length log2 ≡ length log + 1 → VerdictsFit mark n log s u → VerdictsFit mark2 n log2 s2 u2
entry_keeps_verdicts mark n log s u mark2 log2 s2 u2 more (inl h) = inl (omega (arith, more, h))
entry_keeps_verdicts mark n log s u mark2 log2 s2 u2 more (inr h) = inl (let a = h.0 in omega (arith, more, a))

-- what is decided stays so, where no mark becomes biased, and a bias that is being taken is so afterwards
pub decided_stays : (mark mark2 : ℕ → ℕ) (s s2 : Stage) (u : Option Unfinished) → ((i : ℕ) → is_biased (mark2 i) ≡ true → is_biased (mark i) ≡ true)
    → ((i : ℕ) → path_into s i ≡ Some BiasTaken → path_into s2 i ≡ Some BiasTaken) → IsDecided mark s u → IsDecided mark2 s2 u
decided_stays mark mark2 s s2 None pattern taking h = h
decided_stays mark mark2 s s2 (Some u) pattern taking (no_dump, inl h) =
    (no_dump, inl (stays_unbiased (mark u.object) (mark2 u.object) (pattern u.object) h (is_biased (mark2 u.object)) refl))
decided_stays mark mark2 s s2 (Some u) pattern taking (no_dump, inr h) = (no_dump, inr (taking u.object h))

pub quiet_keeps_verdicts : (mark mark2 : ℕ → ℕ) (n : ℕ) (log : List Logged) (s s2 : Stage) (u u2 : Option Unfinished)
    → ((i : ℕ) → is_biased (mark2 i) ≡ true → is_biased (mark i) ≡ true)
    → ((i : ℕ) → path_into s i ≡ Some BiasTaken → path_into s2 i ≡ Some BiasTaken)
    → (u2 ≡ u) ⊎ (u ≡ None) → VerdictsFit mark n log s u → VerdictsFit mark2 n log s2 u2
quiet_keeps_verdicts mark mark2 n log s s2 u u2 pattern taking goes (inl h) = inl h
quiet_keeps_verdicts mark mark2 n log s s2 u u2 pattern taking (inl same) (inr h) =
    inr (h.0, subst (IsDecided mark2 s2) (sym same) (decided_stays mark mark2 s s2 u pattern taking h.1))
quiet_keeps_verdicts mark mark2 n log s s2 u u2 pattern taking (inr none) (inr h) = absurd (subst (IsDecided mark s) none h.1)

-- the revocation of a bias that stands, and that the thread isn't taking, by a thread
-- that counts one verdict more; afterwards it has ended or is the thread's own
pub revocation_keeps_verdicts : (mark mark2 : ℕ → ℕ) (n : ℕ) (log : List Logged) (s s2 : Stage) (u : Unfinished)
    → is_biased (mark u.object) ≡ true → path_into s u.object ≡ None
    → VerdictsFit mark n log s (Some u) → IsDecided mark2 s2 (Some u) → VerdictsFit mark2 (n + 1) log s2 (Some u)
revocation_keeps_verdicts mark mark2 n log s s2 u biased none (inl h) was_decided = by_less (n_cases n (length log) h)
  where
    n_cases : (m k : ℕ) → m ≤ k → (m + 1 ≤ k) ⊎ (m ≡ k)
    n_cases m k h = by_equal m k (λ e. inr e) (λ d. inl (omega (arith, h, d)))

    by_less : (n + 1 ≤ length log) ⊎ (n ≡ length log) → VerdictsFit mark2 (n + 1) log s2 (Some u)
    by_less (inl e) = inl e
    by_less (inr e) = inr (omega (arith, e), was_decided)
revocation_keeps_verdicts mark mark2 n log s s2 u biased none (inr h) was_decided = absurd (elim h.1.1 [ inl e ↦ cc (e, biased) | inr e ↦ cc (e, none) ])

-- SUMS. One of the summands grows by d.
pub sum_same : (n : ℕ) (f g : ℕ → ℕ) → ((i : ℕ) → i < n → g i ≡ f i) → sum_below n g ≡ sum_below n f
sum_same zero f g h = refl
sum_same (suc n) f g h = let a = sum_same n f g (λ i l. h i (omega (arith, l))) in let b = h n (omega arith) in omega (arith, a, b)

pub sum_more : (n t d : ℕ) (f g : ℕ → ℕ) → t < n → g t ≡ f t + d → ((i : ℕ) → i ≢ t → g i ≡ f i) → sum_below n g ≡ sum_below n f + d
sum_more zero t d f g h here elsewhere = absurd (omega (arith, h))
sum_more (suc n) t d f g h here elsewhere = by_equal t n
    (λ e. let a = sum_same n f g (λ i l. elsewhere i (λ s. absurd (omega (arith, l, s, e)))) in
    let b : g n ≡ f n + d = subst (λ j. g j ≡ f j + d) e here in omega (arith, a, b))
    (λ e. let a = sum_more n t d f g (omega (arith, h, e)) here elsewhere in let b = elsewhere n (λ s. e (sym s)) in omega (arith, a, b))
