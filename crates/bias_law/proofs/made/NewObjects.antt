-- The law of biases where one object changes on which no entry is, and which nobody is about to enter: its class, its mark, and whether it is there.
use Rattle.std.proofs.Common.{◌≡◌, ◌≢◌, ℕ, ◌+◌, ◌≤◌, Bool, true, List, [], length, Option, Some, None, refl, sym, ap, ◌∙◌, subst, arith, inl, inr}
use Rattle.std.specs.List.{list_any}
use Rattle.plain_monitor.specs.declared.entry.Entry.{Entry}
use Rattle.plain_monitor.specs.declared.entry.Logged.{Logged}
use Rattle.plain_monitor.specs.declared.entry.Path.{Path}
use Rattle.plain_history.specs.EnterPaths.{ends_bias, first_path}
use Rattle.core_world.specs.declared.stage.Stage.{Stage}
use Rattle.core_world.specs.declared.heap_call.Unfinished.{Unfinished}
use Rattle.core_world.specs.Threads.Counts.{ClassCounts}
use Rattle.core_world.specs.Threads.Stages.{path_into}
use Rattle.core_world.specs.Words.Forms.{is_biased}
use Rattle.core_world.specs.Locks.{Lock, BiasedTo}
use Rattle.core_world.proofs.KnowledgeParts.{by_equal}
use Rattle.core_law.specs.BiasLaw.{BiasLaw, summed}
use Rattle.core_law.specs.BiasOwners.{bias_owner, BiasesTakenAtMost, OwnersHaveTaken}
use Rattle.core_law.specs.CountsAndVerdicts.{VerdictsFit, sum_below, verdicts_on}
use Rattle.core_law.specs.MarksAndLogs.{EntersFitMarks, is_anonymous}
use Rattle.core_law.specs.TakenBiases.{times_taken}

-- Of all other objects everything stays. Of o no entry is logged, nobody is about to enter it, its mark is biased to no thread then, and where it is
-- there then, with its class not revoked in bulk, its mark is anonymous.
pub record ChangesUnentered (biasing : Bool) (o : ℕ) (there : ℕ → Bool) (class mark : ℕ → ℕ) (lock : ℕ → Lock) (entries : ℕ → List Entry)
    (stage : ℕ → Stage) (revoked : ℕ → ℕ) (there2 : ℕ → Bool) (class2 mark2 : ℕ → ℕ) (lock2 : ℕ → Lock) : Type 0 where
  pub objects : (i : ℕ) → i ≢ o → there2 i ≡ there i
  pub classes : (i : ℕ) → i ≢ o → class2 i ≡ class i
  pub marks : (i : ℕ) → i ≢ o → mark2 i ≡ mark i
  pub leans : (i u : ℕ) → i ≢ o → lock i ≡ BiasedTo u → lock2 i ≡ BiasedTo u
  pub unentered : entries o ≡ []
  pub unentering : (u : ℕ) (path : Path) → path_into (stage u) o ≡ Some path → ⊥
  pub unowned : bias_owner (mark2 o) ≡ None
  pub anonymous : biasing ≡ true → there2 o ≡ true → revoked (class2 o) ≡ 0 → is_anonymous (mark2 o) ≡ true

module _ (biasing : Bool) (o : ℕ) (there : ℕ → Bool) (class mark : ℕ → ℕ) (lock : ℕ → Lock) (entries : ℕ → List Entry) (log : ℕ → List Logged)
    (stage : ℕ → Stage) (unfinished : ℕ → Option Unfinished) (rebiased revoked : ℕ → ℕ) (there2 : ℕ → Bool) (class2 mark2 : ℕ → ℕ) (lock2 : ℕ → Lock)
    (a : ChangesUnentered biasing o there class mark lock entries stage revoked there2 class2 mark2 lock2) where
  none_on : (i : ℕ) → i ≡ o → entries i ≡ []
  none_on i s = ap entries s ∙ a.unentered

  none_into : (u i : ℕ) (path : Path) → i ≡ o → path_into (stage u) i ≡ Some path → ⊥
  none_into u i path s h = a.unentering u path (ap (path_into (stage u)) (sym s) ∙ h)

  enters_stay : EntersFitMarks biasing there class mark lock entries log stage unfinished revoked
      → EntersFitMarks biasing there2 class2 mark2 lock2 entries log stage unfinished revoked
  enters_stay law = record {
    ended = λ i e. by_equal i o
        (λ s. absurd (let n = ap (list_any ends_bias) (none_on i s) in cc (n, e)))
        (λ d. ap is_biased (a.marks i d) ∙ law.ended i e);
    stays = law.stays;
    biased = λ u i path h b. by_equal i o (λ s. absurd (none_into u i path s h)) (λ d. a.leans i u d (law.biased u i path h b));
    unbiased = λ u i path h b. by_equal i o (λ s. absurd (none_into u i path s h)) (λ d. ap is_biased (a.marks i d) ∙ law.unbiased u i path h b);
    unentered = λ b i is r e. by_equal i o
        (λ s. inl (ap (λ j. is_anonymous (mark2 j)) s ∙ a.anonymous b (ap there2 (sym s) ∙ is) (ap (λ j. revoked (class2 j)) (sym s) ∙ r)))
        (λ d. elim (law.unentered b i (sym (a.objects i d) ∙ is) (ap revoked (sym (a.classes i d)) ∙ r) e) [
          | inl g ↦ inl (ap is_anonymous (a.marks i d) ∙ g)
          | inr g ↦ inr g
        ]);
    entered = λ b i path is r e. by_equal i o
        (λ s. absurd (let n = ap first_path (none_on i s) in cc (n, e)))
        (λ d. law.entered b i path (sym (a.objects i d) ∙ is) (ap revoked (sym (a.classes i d)) ∙ r) e);
  }

  owners_stay : OwnersHaveTaken mark log stage → OwnersHaveTaken mark2 log stage
  owners_stay law = record {
    logged = law.logged;
    owners = λ u i h. by_equal i o
        (λ s. absurd (let n = ap (λ j. bias_owner (mark2 j)) s ∙ a.unowned in cc (n, h)))
        (λ d. law.owners u i (ap bias_owner (sym (a.marks i d)) ∙ h));
  }

  -- no bias of o was taken
  untaken : (i n : ℕ) → i ≡ o → times_taken i (entries i) ≤ n
  untaken i n s = let none = ap (times_taken i) (none_on i s) in omega (arith, none)

  takings_stay : BiasesTakenAtMost class mark lock entries stage rebiased revoked → BiasesTakenAtMost class2 mark2 lock2 entries stage rebiased revoked
  takings_stay law = record {
    logged = λ i. by_equal i o (λ s. untaken i _ s) (λ d. subst (λ c. times_taken i (entries i) ≤ rebiased c + 1) (sym (a.classes i d)) (law.logged i));
    coming = λ i h. by_equal i o (λ s. untaken i _ s) (λ d. subst (λ c. times_taken i (entries i) ≤ rebiased c) (sym (a.classes i d)) (law.coming i h));
    free = λ i f. by_equal i o
        (λ s. untaken i _ s)
        (λ d. subst (λ c. times_taken i (entries i) ≤ rebiased c) (sym (a.classes i d))
        (law.free i (ap revoked (sym (a.classes i d)) ∙ f.0, ap is_biased (sym (a.marks i d)) ∙ f.1, λ u h. f.2 u (a.leans i u d h))));
  }

-- The verdicts of a thread fit, where the mark of o alone changes: a thread whose operation is on o has counted none beyond its entries.
pub verdicts_stay : (o : ℕ) (mark mark2 : ℕ → ℕ) (n : ℕ) (log : List Logged) (s : Stage) (u : Option Unfinished)
    → ((i : ℕ) → i ≢ o → mark2 i ≡ mark i) → ((f : Unfinished) → u ≡ Some f → f.object ≡ o → n ≤ length log)
    → VerdictsFit mark n log s u → VerdictsFit mark2 n log s u
verdicts_stay o mark mark2 n log s u marks even (inl h) = inl h
verdicts_stay o mark mark2 n log s None marks even (inr h) = absurd h.1
verdicts_stay o mark mark2 n log s (Some f) marks even (inr h) =
    by_equal f.object o
    (λ e. inl (even f refl e))
    (λ d. inr (h.0, (h.1.0, elim h.1.1 [ inl b ↦ inl (ap is_biased (marks f.object d) ∙ b) | inr k ↦ inr k ])))

pub unentered_changes : (biasing : Bool) (threads kinds o : ℕ) (there : ℕ → Bool) (class mark : ℕ → ℕ) (lock : ℕ → Lock) (entries : ℕ → List Entry)
    (log : ℕ → List Logged) (stage : ℕ → Stage) (unfinished : ℕ → Option Unfinished) (count : ℕ → ℕ) (counts : ℕ → ℕ → ClassCounts)
    (there2 : ℕ → Bool) (class2 mark2 : ℕ → ℕ) (lock2 : ℕ → Lock)
    → ChangesUnentered biasing o there class mark lock entries stage (λ c. (summed threads counts c).revoke) there2 class2 mark2 lock2
    → ((u : ℕ) → VerdictsFit mark (sum_below kinds (λ c. verdicts_on (counts u c))) (log u) (stage u) (unfinished u)
    → VerdictsFit mark2 (sum_below kinds (λ c. verdicts_on (counts u c))) (log u) (stage u) (unfinished u))
    → BiasLaw biasing threads kinds there class mark lock entries log stage unfinished count counts
    → BiasLaw biasing threads kinds there2 class2 mark2 lock2 entries log stage unfinished count counts
unentered_changes biasing threads kinds o there class mark lock entries log stage unfinished count counts there2 class2 mark2 lock2 a verdicts law = record {
  marks = enters_stay biasing o there class mark lock entries log stage unfinished rebiased revoked there2 class2 mark2 lock2 a law.marks;
  paths = law.paths;
  taken = owners_stay biasing o there class mark lock entries log stage unfinished rebiased revoked there2 class2 mark2 lock2 a law.taken;
  few = takings_stay biasing o there class mark lock entries log stage unfinished rebiased revoked there2 class2 mark2 lock2 a law.few;
  count_fits = law.count_fits;
  verdicts = λ u. verdicts u (law.verdicts u);
  plain = law.plain;
  uncounted = law.uncounted;
}
  where
    rebiased : ℕ → ℕ
    rebiased c = (summed threads counts c).rebias

    revoked : ℕ → ℕ
    revoked c = (summed threads counts c).revoke
