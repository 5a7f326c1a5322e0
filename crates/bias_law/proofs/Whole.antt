-- The whole bias law after a step that logs an entry, after a quiet step, and after a revocation.
use Rattle.std.proofs.Common.{◌≡◌, ◌≢◌, ◌⊎◌, ℕ, ◌+◌, ◌<◌, ◌≤◌, ◌==◌, ◌||◌, eq-eqb, ne_eqb, cond, Bool, true, false, List}
use Rattle.std.proofs.Common.{[], ◌∷◌, ◌++◌, length, Option, Some, None, refl, sym, ap, ◌∙◌, subst, arith, inl}
use Rattle.std.specs.List.{list_any}
use Rattle.lock_policy.specs.declared.policy.Verdict.{Verdict}
use Rattle.lock_policy.specs.declared.policy.Verdict.TheVariants.{Single, BulkRebias, BulkRevoke}
use Rattle.lock_policy.specs.Policy.{decided, is_reset}
use Rattle.plain_monitor.specs.declared.entry.Entry.{Entry}
use Rattle.plain_monitor.specs.declared.entry.Entry.TheVariants as entry
use Rattle.plain_monitor.specs.declared.entry.Logged.{Logged}
use Rattle.plain_monitor.specs.declared.entry.Path.{Path}
use Rattle.plain_monitor.specs.declared.entry.Path.TheVariants.{BiasOwn, BiasTaken}
use Rattle.plain_history.specs.Tied.{bound_to, is_same_object}
use Rattle.core_world.specs.declared.stage.Stage.{Stage}
use Rattle.core_world.specs.declared.heap_call.Unfinished.{Unfinished}
use Rattle.core_world.specs.Threads.Counts.{ClassCounts, with_verdict, with_reset}
use Rattle.core_world.specs.Words.Forms.{is_biased}
use Rattle.core_world.specs.Locks.{Lock}
use Rattle.core_world.specs.Threads.Stages.{path_into, one_if}
use Rattle.core_law.specs.BiasLaw.{BiasLaw, summed}
use Rattle.core_law.specs.CountsAndVerdicts.{CountFits, VerdictsFit, IsDecided, sum_below, verdicts_on}
use Rattle.plain_history.specs.EnterPaths.{PathFits, needs_bias}
use Rattle.plain_history.specs.HeldByLog.{held_by, nothing_held}
use Rattle.bias_law.specs.Moves.{LockFitsMark, BiasesKept, OthersStay, LogsEntry, LogsNothing}
use Rattle.bias_law.specs.inner.FreeBiases.{TakesFreeBiases}
use Rattle.core_world.proofs.KnowledgeParts.{by_equal}
use Rattle.core_world.proofs.Frames.{frame5}
use Rattle.bias_law.proofs.Counts.{counted_fits}
use Rattle.plain_history.proofs.EntriesOn.{any_push}
use Rattle.bias_law.proofs.enter_exit.Enters.{entry_keeps, is_by}
use Rattle.bias_law.proofs.Owners.{entry_keeps_owners, quiet_keeps_owners}
use Rattle.bias_law.proofs.Quiets.{quiet_keeps}
use Rattle.bias_law.proofs.Takings.{entry_keeps_takings, quiet_keeps_takings}
use Rattle.bias_law.proofs.Paths.{entry_keeps_paths, quiet_keeps_paths, entry_keeps_verdicts}
use Rattle.bias_law.proofs.Paths.{quiet_keeps_verdicts, revocation_keeps_verdicts, sum_same, sum_more}

-- by how much a verdict raises each part of the counts
abbrev singles : Verdict → ℕ
singles Single = 1
singles _ = 0

abbrev pub bulk_rebiases : Verdict → ℕ
bulk_rebiases BulkRebias = 1
bulk_rebiases _ = 0

abbrev pub bulk_revokes : Verdict → ℕ
bulk_revokes BulkRevoke = 1
bulk_revokes _ = 0

-- a thread's counts with one more verdict on class c
abbrev pub one_more : (ℕ → ClassCounts) → ℕ → Verdict → Bool → ℕ → ClassCounts
one_more counts c v reset d = cond (d == c) (with_reset (with_verdict (counts d) v) reset) (counts d)

length_more : (log : List Logged) (y : Logged) → length (log ++ y ∷ []) ≡ length log + 1
length_more [] y = refl
length_more (x ∷ log) y = let a = length_more log y in omega (arith, a)

module _ (biasing : Bool) (threads classes : ℕ) (there : ℕ → Bool) (class mark : ℕ → ℕ) (lock : ℕ → Lock)
    (entries : ℕ → List Entry) (log : ℕ → List Logged) (stage : ℕ → Stage) (unfinished : ℕ → Option Unfinished) (count : ℕ → ℕ)
    (counts : ℕ → ℕ → ClassCounts) (mark2 : ℕ → ℕ) (lock2 : ℕ → Lock) (stage2 : ℕ → Stage) (unfinished2 : ℕ → Option Unfinished)
    (t : ℕ) (law : BiasLaw biasing threads classes there class mark lock entries log stage unfinished count counts) where
  -- without biases no mark is biased
  abbrev Plain : Type 0
  Plain = biasing ≡ false → (i : ℕ) → is_biased (mark i) ≡ false

  -- AN ENTRY
  pub entry_law : (y : Logged) (entries2 : ℕ → List Entry) (log2 : ℕ → List Logged) → Plain → LockFitsMark mark lock → BiasesKept mark lock mark2 lock2
      → OthersStay t log stage unfinished log2 stage2 unfinished2 → LogsEntry t y mark entries log stage unfinished entries2 log2 stage2 unfinished2
      → BiasLaw biasing threads classes there class mark2 lock2 entries2 log2 stage2 unfinished2 count counts
  entry_law y entries2 log2 none by_mark kept others a = record {
    marks = entry_keeps biasing there class mark lock entries log stage unfinished _
        mark2 lock2 entries2 log2 stage2 unfinished2 t y law.marks by_mark kept others a;
    paths = entry_keeps_paths log stage log2 stage2 t y law.paths others.logs others.stages a.grows a.left a.enters;
    taken = entry_keeps_owners mark entries log stage unfinished mark2 entries2 log2 stage2 unfinished2 t y law.taken kept.owners
        (λ i into. (by_mark i t (law.marks.biased t i BiasOwn into refl)).2) others a;
    few = entry_keeps_takings class mark lock entries log stage unfinished _ _ mark2 lock2 entries2 log2 stage2 unfinished2 t y law.few
        (λ u i h. law.marks.biased u i BiasTaken h refl) kept others a;
    count_fits = law.count_fits;
    verdicts = λ u. by_equal u t
        (λ e. subst (λ v. VerdictsFit mark2 (sum_below classes (λ c. verdicts_on (counts v c))) (log2 v) (stage2 v) (unfinished2 v)) (sym e)
        (entry_keeps_verdicts mark _ (log t) (stage t) (unfinished t) mark2 (log2 t) (stage2 t) (unfinished2 t)
        (ap (λ (g : List Logged). length g) a.grows ∙ length_more (log t) y) (law.verdicts t)))
        (λ d. subst (λ (g : List Logged). VerdictsFit mark2 (sum_below classes (λ c. verdicts_on (counts u c))) g
        (stage2 u) (unfinished2 u)) (sym (others.logs u d))
        (quiet_keeps_verdicts mark mark2 _ (log u) (stage u) (stage2 u) (unfinished u) (unfinished2 u) (λ i e. sym (kept.pattern i) ∙ e)
        (λ i e. ap (λ s. path_into s i) (others.stages u d) ∙ e) (inl (others.operations u d)) (law.verdicts u)));
    plain = λ b i. plain b i (is_same_object (bound_to y.entry) (Some i)) refl;
    uncounted = law.uncounted;
  }
    where
      no_need : biasing ≡ false → (d : Bool) → needs_bias y.entry ≡ d → d ≡ false
      no_need b false n = refl
      no_need b true n =
          let by = is_by y.entry n in
          absurd (cc ((by_mark by.0 t (law.marks.biased t by.0 by.1 (a.enters by.0 by.1 by.2) by.3)).0, none b by.0))

      neither : (c d : Bool) → c ≡ false → d ≡ false → (c || d) ≡ false
      neither c d p q = rw (p, q) refl

      plain : biasing ≡ false → (i : ℕ) (c : Bool) → is_same_object (bound_to y.entry) (Some i) ≡ c → list_any needs_bias (entries2 i) ≡ false
      plain b i true c = ap (list_any needs_bias) (a.here i c) ∙ any_push needs_bias (entries i) y.entry
          ∙ neither _ _ (law.plain b i) (let n = no_need b (needs_bias y.entry) refl in n)
      plain b i false c = ap (list_any needs_bias) (a.elsewhere i c) ∙ law.plain b i

  -- A QUIET STEP
  pub quiet_law : OthersStay t log stage unfinished log stage2 unfinished2
      → LogsNothing biasing t class mark lock entries stage unfinished
      (λ c. sum_below threads (λ u. (counts u c).revoke)) mark2 lock2 stage2 unfinished2 (λ c. sum_below threads (λ u. (counts u c).revoke))
      → TakesFreeBiases t class mark lock stage (λ c. sum_below threads (λ u. (counts u c).rebias))
      (λ c. sum_below threads (λ u. (counts u c).revoke)) mark2 lock2 stage2
      (λ c. sum_below threads (λ u. (counts u c).rebias)) (λ c. sum_below threads (λ u. (counts u c).revoke))
      → ((i : ℕ) (path : Path) → path_into (stage2 t) i ≡ Some path → PathFits (held_by nothing_held (log t)) (entry.Enter i path))
      → (unfinished2 t ≡ unfinished t) ⊎ (unfinished t ≡ None)
      → BiasLaw biasing threads classes there class mark2 lock2 entries log stage2 unfinished2 count counts
  quiet_law others a free fits goes = record {
    marks = quiet_keeps biasing there class mark lock entries log stage unfinished _ mark2 lock2 stage2 unfinished2 _ t law.marks others a;
    paths = quiet_keeps_paths log stage stage2 t law.paths others.stages fits;
    taken = quiet_keeps_owners mark log stage mark2 stage2 t law.taken others.stages a.taking a.owners;
    few = quiet_keeps_takings class mark lock entries stage _ _ mark2 lock2 stage2 _ _ t law.few others.stages free;
    count_fits = law.count_fits;
    verdicts = λ u. by_equal u t
        (λ e. subst (λ v. VerdictsFit mark2 (sum_below classes (λ c. verdicts_on (counts v c))) (log v) (stage2 v) (unfinished2 v)) (sym e)
        (quiet_keeps_verdicts mark mark2 _ (log t) (stage t) (stage2 t) (unfinished t) (unfinished2 t) a.pattern a.taking goes (law.verdicts t)))
        (λ d. quiet_keeps_verdicts mark mark2 _ (log u) (stage u) (stage2 u) (unfinished u) (unfinished2 u) a.pattern
        (λ i e. ap (λ s. path_into s i) (others.stages u d) ∙ e) (inl (others.operations u d)) (law.verdicts u));
    plain = law.plain;
    uncounted = law.uncounted;
  }

  -- A REVOCATION, from before its first store to its release: t, which was about to log no enter, has counted the verdict of the policy on class c.
  module _ (c last now : ℕ) (u : Unfinished) (counts2 : ℕ → ℕ → ClassCounts) (count2 : ℕ → ℕ) (within : t < threads) (class_within : c < classes)
      (mine : counts2 t ≡ one_more (counts t) c (decided (count c) last now).0 (is_reset (count c) last now)) (theirs : (v : ℕ) → v ≢ t → counts2 v ≡ counts v)
      (new : count2 c ≡ (decided (count c) last now).1) (old : (d : ℕ) → d ≢ c → count2 d ≡ count d) where
    abbrev k : Verdict
    k = (decided (count c) last now).0

    abbrev r : Bool
    r = is_reset (count c) last now

    mine_here : counts2 t c ≡ with_reset (with_verdict (counts t c) k) r
    mine_here = ap (λ (f : ℕ → ClassCounts). f c) mine ∙ ap (λ (b : Bool). cond b (with_reset (with_verdict (counts t c) k) r) (counts t c)) (eq-eqb c c refl)

    mine_else : (d : ℕ) → d ≢ c → counts2 t d ≡ counts t d
    mine_else d n = ap (λ (f : ℕ → ClassCounts). f d) mine ∙ ap (λ (b : Bool). cond b (with_reset (with_verdict (counts t d) k) r) (counts t d)) (ne_eqb d c n)

    -- a part of the counts, summed over the threads, on the class and on another
    sum_here : (part : ClassCounts → ℕ) (n : ℕ) → part (with_reset (with_verdict (counts t c) k) r) ≡ part (counts t c) + n
        → sum_below threads (λ v. part (counts2 v c)) ≡ sum_below threads (λ v. part (counts v c)) + n
    sum_here part n e = sum_more threads t n (λ v. part (counts v c)) (λ v. part (counts2 v c)) within
        (ap part mine_here ∙ e) (λ v d. ap (λ (f : ℕ → ClassCounts). part (f c)) (theirs v d))

    sum_else : (part : ClassCounts → ℕ) (d : ℕ) → d ≢ c → sum_below threads (λ v. part (counts2 v d)) ≡ sum_below threads (λ v. part (counts v d))
    sum_else part d n = sum_same threads (λ v. part (counts v d)) (λ v. part (counts2 v d)) (λ v l. by_equal v t
        (λ e. subst (λ w. part (counts2 w d) ≡ part (counts w d)) (sym e) (ap part (mine_else d n)))
        (λ m. ap (λ (f : ℕ → ClassCounts). part (f d)) (theirs v m)))

    single_more : (x : ClassCounts) (v : Verdict) → (with_verdict x v).single ≡ x.single + singles v
    single_more x Single = refl
    single_more x BulkRebias = omega arith
    single_more x BulkRevoke = omega arith

    rebias_more : (x : ClassCounts) (v : Verdict) → (with_verdict x v).rebias ≡ x.rebias + bulk_rebiases v
    rebias_more x Single = omega arith
    rebias_more x BulkRebias = refl
    rebias_more x BulkRevoke = omega arith

    revoke_more : (x : ClassCounts) (v : Verdict) → (with_verdict x v).revoke ≡ x.revoke + bulk_revokes v
    revoke_more x Single = omega arith
    revoke_more x BulkRebias = omega arith
    revoke_more x BulkRevoke = refl

    verdict_more : (x : ClassCounts) (v : Verdict) → verdicts_on (with_verdict x v) ≡ verdicts_on x + 1
    verdict_more x Single = omega arith
    verdict_more x BulkRebias = omega arith
    verdict_more x BulkRevoke = omega arith

    reset_same : (x : ClassCounts) (v : Verdict) → (with_verdict x v).reset ≡ x.reset
    reset_same x Single = refl
    reset_same x BulkRebias = refl
    reset_same x BulkRevoke = refl

    pub revoked_here : sum_below threads (λ v. (counts2 v c).revoke) ≡ sum_below threads (λ v. (counts v c).revoke) + bulk_revokes k
    revoked_here = sum_here (λ x. x.revoke) (bulk_revokes k) (revoke_more (counts t c) k)

    pub rebiased_here : sum_below threads (λ v. (counts2 v c).rebias) ≡ sum_below threads (λ v. (counts v c).rebias) + bulk_rebiases k
    rebiased_here = sum_here (λ x. x.rebias) (bulk_rebiases k) (rebias_more (counts t c) k)

    pub rebiased_more : (d : ℕ) → sum_below threads (λ v. (counts v d).rebias) ≤ sum_below threads (λ v. (counts2 v d).rebias)
    rebiased_more d = by_equal d c
        (λ e. let a = rebiased_here in
        subst (λ j. sum_below threads (λ v. (counts v j).rebias) ≤ sum_below threads (λ v. (counts2 v j).rebias)) (sym e) (omega (arith, a)))
        (λ n. let a = sum_else (λ x. x.rebias) d n in omega (arith, a))

    -- the counts of the class fit afterwards
    fits_here : CountFits (count2 c) (summed threads counts2 c).single (summed threads counts2 c).rebias
        (summed threads counts2 c).revoke (summed threads counts2 c).reset
    fits_here = frame5 CountFits (sym new)
        (single_more (summed threads counts c) k ∙ sym (sum_here (λ x. x.single) (singles k) (single_more (counts t c) k)))
        (rebias_more (summed threads counts c) k ∙ sym (sum_here (λ x. x.rebias) (bulk_rebiases k) (rebias_more (counts t c) k)))
        (revoke_more (summed threads counts c) k ∙ sym (sum_here (λ x. x.revoke) (bulk_revokes k) (revoke_more (counts t c) k)))
        (ap (λ n. n + one_if r) (reset_same (summed threads counts c) k)
        ∙ sym (sum_here (λ x. x.reset) (one_if r) (ap (λ n. n + one_if r) (reset_same (counts t c) k))))
        (counted_fits (summed threads counts c) (count c) last now (law.count_fits c))

    fits_else : (d : ℕ) → d ≢ c → CountFits (count2 d) (summed threads counts2 d).single
        (summed threads counts2 d).rebias (summed threads counts2 d).revoke (summed threads counts2 d).reset
    fits_else d n = frame5 CountFits (sym (old d n)) (sym (sum_else (λ x. x.single) d n)) (sym (sum_else (λ x. x.rebias) d n))
        (sym (sum_else (λ x. x.revoke) d n)) (sym (sum_else (λ x. x.reset) d n)) (law.count_fits d)

    -- a class that has no bulk revoke now had none
    pub fewer_revoked : (d : ℕ) → sum_below threads (λ v. (counts2 v d).revoke) ≡ 0 → sum_below threads (λ v. (counts v d).revoke) ≡ 0
    fewer_revoked d h = by_equal d c
        (λ e. let a = sum_here (λ x. x.revoke) (bulk_revokes k) (revoke_more (counts t c) k) in
        let b : sum_below threads (λ v. (counts2 v c).revoke) ≡ 0 = subst (λ j. sum_below threads (λ v. (counts2 v j).revoke) ≡ 0) e h in
        subst (λ j. sum_below threads (λ v. (counts v j).revoke) ≡ 0) (sym e) (omega (arith, a, b)))
        (λ n. sym (sum_else (λ x. x.revoke) d n) ∙ h)

    -- the verdicts of the thread
    mine_more : sum_below classes (λ d. verdicts_on (counts2 t d)) ≡ sum_below classes (λ d. verdicts_on (counts t d)) + 1
    mine_more = sum_more classes c 1 (λ d. verdicts_on (counts t d)) (λ d. verdicts_on (counts2 t d)) class_within
        (ap verdicts_on mine_here ∙ verdict_more (counts t c) k) (λ d n. ap verdicts_on (mine_else d n))

    pub revocation_law : biasing ≡ true → unfinished t ≡ Some u → unfinished2 t ≡ Some u
        → is_biased (mark u.object) ≡ true → path_into (stage t) u.object ≡ None
        → IsDecided mark2 (stage2 t) (Some u) → OthersStay t log stage unfinished log stage2 unfinished2
        → LogsNothing biasing t class mark lock entries stage unfinished
        (λ d. sum_below threads (λ v. (counts v d).revoke)) mark2 lock2 stage2 unfinished2 (λ d. sum_below threads (λ v. (counts2 v d).revoke))
        → TakesFreeBiases t class mark lock stage (λ d. sum_below threads (λ v. (counts v d).rebias))
        (λ d. sum_below threads (λ v. (counts v d).revoke)) mark2 lock2 stage2
        (λ d. sum_below threads (λ v. (counts2 v d).rebias)) (λ d. sum_below threads (λ v. (counts2 v d).revoke))
        → ((i : ℕ) (path : Path) → path_into (stage2 t) i ≡ Some path → PathFits (held_by nothing_held (log t)) (entry.Enter i path))
        → BiasLaw biasing threads classes there class mark2 lock2 entries log stage2 unfinished2 count2 counts2
    revocation_law biased going going2 was calm was_decided others a free fits = record {
      marks = quiet_keeps biasing there class mark lock entries log stage unfinished _ mark2 lock2 stage2 unfinished2 _ t law.marks others a;
      paths = quiet_keeps_paths log stage stage2 t law.paths others.stages fits;
      taken = quiet_keeps_owners mark log stage mark2 stage2 t law.taken others.stages a.taking a.owners;
      few = quiet_keeps_takings class mark lock entries stage _ _ mark2 lock2 stage2 _ _ t law.few others.stages free;
      count_fits = λ d. by_equal d c
          (λ e. subst (λ j. CountFits (count2 j) (summed threads counts2 j).single (summed threads counts2 j).rebias
          (summed threads counts2 j).revoke (summed threads counts2 j).reset) (sym e) fits_here) (fits_else d);
      verdicts = λ v. by_equal v t
          (λ e. subst (λ w. VerdictsFit mark2 (sum_below classes (λ d. verdicts_on (counts2 w d))) (log w) (stage2 w) (unfinished2 w)) (sym e)
          (subst (λ n. VerdictsFit mark2 n (log t) (stage2 t) (unfinished2 t)) (sym mine_more)
          (subst (λ o. VerdictsFit mark2 (sum_below classes (λ d. verdicts_on (counts t d)) + 1) (log t) (stage2 t) o) (sym going2)
          (revocation_keeps_verdicts mark mark2 _ (log t) (stage t) (stage2 t) u was calm
          (subst (VerdictsFit mark (sum_below classes (λ d. verdicts_on (counts t d))) (log t) (stage t)) going (law.verdicts t)) was_decided))))
          (λ n. subst (λ (f : ℕ → ClassCounts). VerdictsFit mark2
          (sum_below classes (λ d. verdicts_on (f d))) (log v) (stage2 v) (unfinished2 v)) (sym (theirs v n))
          (quiet_keeps_verdicts mark mark2 _ (log v) (stage v) (stage2 v) (unfinished v) (unfinished2 v) a.pattern
          (λ i e. ap (λ s. path_into s i) (others.stages v n) ∙ e) (inl (others.operations v n)) (law.verdicts v)));
      plain = λ e. absurd (cc (e, biased));
      uncounted = λ e. absurd (cc (e, biased));
    }
