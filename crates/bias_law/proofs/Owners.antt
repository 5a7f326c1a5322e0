-- Bias owners: a step that logs an entry and one that logs nothing keep that each has taken its bias.
use Rattle.std.specs.List.{list_any}
use Rattle.std.proofs.Common.{◌≡◌, ◌≢◌, ◌⊎◌, ℕ, ◌||◌, eq-eqb, Bool, true, false, List, [], ◌∷◌, ◌++◌, Option, Some, None, refl, sym, ap, ◌∙◌, subst, inl, inr}
use Rattle.mark_word.specs.declared.mark.MarkForm.{MarkForm}
use Rattle.mark_word.specs.declared.mark.MarkForm.TheVariants.{Inflating, Neutral, Anonymous, Biased, Locked, Inflated, Marked}
use Rattle.mark_word.specs.Mark.{read_mark}
use Rattle.plain_monitor.specs.declared.entry.Entry.{Entry}
use Rattle.plain_monitor.specs.declared.entry.Entry.TheVariants as entry
use Rattle.plain_monitor.specs.declared.entry.Logged.{Logged}
use Rattle.plain_monitor.specs.declared.entry.Path.TheVariants.{BiasOwn, BiasTaken}
use Rattle.core_world.specs.declared.stage.Stage.{Stage}
use Rattle.core_world.specs.declared.heap_call.Unfinished.{Unfinished}
use Rattle.core_world.specs.Words.Forms.{is_biased, is_biased_form}
use Rattle.core_world.specs.Threads.Stages.{path_into}
use Rattle.core_world.proofs.KnowledgeParts.{by_equal}
use Rattle.core_law.specs.BiasOwners.{OwnersHaveTaken, bias_owner, owner_form}
use Rattle.core_law.specs.TakenBiases.{OwnsAreTaken, has_taken, takes_bias}
use Rattle.bias_law.specs.Moves.{OthersStay, LogsEntry}
use Rattle.bias_law.proofs.LastEntry.{last_or_before}

-- a mark without the bias pattern has no bias owner
pub unbiased_unowned : (n : ℕ) → is_biased n ≡ false → bias_owner n ≡ None
unbiased_unowned n h = by_form (read_mark n) h
  where
    by_form : (f : Option MarkForm) → is_biased_form f ≡ false → owner_form f ≡ None
    by_form None e = refl
    by_form (Some Inflating) e = refl
    by_form (Some (Neutral x a)) e = refl
    by_form (Some (Anonymous d a)) e = refl
    by_form (Some (Biased u d a)) e = absurd (cc e)
    by_form (Some (Locked u q)) e = refl
    by_form (Some (Inflated m)) e = refl
    by_form (Some Marked) e = refl

-- A LOG WITH ONE ENTRY MORE
-- a test of one of a log's entries
pub any_logged : (p : Logged → Bool) (log : List Logged) (y : Logged) → list_any p (log ++ y ∷ []) ≡ (list_any p log || p y)
any_logged p [] y = at (p y)
  where
    at : (b : Bool) → (b || false) ≡ (false || b)
    at true = refl
    at false = refl
any_logged p (x ∷ log) y = at (p x) (any_logged p log y)
  where
    at : (b : Bool) → list_any p (log ++ y ∷ []) ≡ (list_any p log || p y) → (b || list_any p (log ++ y ∷ [])) ≡ ((b || list_any p log) || p y)
    at true h = refl
    at false h = h

taken_push : (o : ℕ) (log : List Logged) (y : Logged) → has_taken o (log ++ y ∷ []) ≡ (has_taken o log || takes_bias o y.entry)
taken_push o = any_logged (λ z. takes_bias o z.entry)

pub or_left : (a b : Bool) → a ≡ true → (a || b) ≡ true
or_left true b e = refl
or_left false b e = absurd (cc e)

pub or_right : (a b : Bool) → b ≡ true → (a || b) ≡ true
or_right true b e = refl
or_right false b e = e

taken_stays : (o : ℕ) (log : List Logged) (y : Logged) → has_taken o log ≡ true → has_taken o (log ++ y ∷ []) ≡ true
taken_stays o log y h = taken_push o log y ∙ or_left _ _ h

taken_now : (o : ℕ) (log : List Logged) (y : Logged) → y.entry ≡ entry.Enter o BiasTaken → has_taken o (log ++ y ∷ []) ≡ true
taken_now o log y h = taken_push o log y ∙ or_right (has_taken o log) _ (ap (takes_bias o) h ∙ eq-eqb o o refl)

-- it stays so that each own bias was taken, where the entry doesn't enter by one, or its bias was taken
owns_push : (log : List Logged) (y : Logged) → OwnsAreTaken log
    → ((o : ℕ) → y.entry ≡ entry.Enter o BiasOwn → has_taken o log ≡ true) → OwnsAreTaken (log ++ y ∷ [])
owns_push log y was new o before l later place is = elim (last_or_before log y before l later place) [
  | inl old ↦ was o before l old.0 old.1 is
  | inr here ↦ subst (λ ls. has_taken o ls ≡ true) here.0 (new o (ap (λ (z : Logged). z.entry) here.1 ∙ is))
]

-- AN ENTRY, by a step that leaves the bias owners
pub entry_keeps_owners : (mark : ℕ → ℕ) (entries : ℕ → List Entry) (log : ℕ → List Logged) (stage : ℕ → Stage) (unfinished : ℕ → Option Unfinished)
    (mark2 : ℕ → ℕ) (entries2 : ℕ → List Entry) (log2 : ℕ → List Logged) (stage2 : ℕ → Stage) (unfinished2 : ℕ → Option Unfinished) (t : ℕ) (y : Logged)
    → OwnersHaveTaken mark log stage → ((i : ℕ) → bias_owner (mark2 i) ≡ bias_owner (mark i))
    → ((i : ℕ) → path_into (stage t) i ≡ Some BiasOwn → bias_owner (mark i) ≡ Some t)
    → OthersStay t log stage unfinished log2 stage2 unfinished2
    → LogsEntry t y mark entries log stage unfinished entries2 log2 stage2 unfinished2 → OwnersHaveTaken mark2 log2 stage2
entry_keeps_owners mark entries log stage unfinished mark2 entries2 log2 stage2 unfinished2 t y law kept leans others a = record {
  logged = λ u. by_equal u t
      (λ e. subst (λ v. OwnsAreTaken (log2 v)) (sym e) (subst OwnsAreTaken (sym a.grows) (owns_push (log t) y (law.logged t) own)))
      (λ d. subst OwnsAreTaken (sym (others.logs u d)) (law.logged u));
  owners = λ u i h. by_equal u t
      (λ e. subst (λ v. (has_taken i (log2 v) ≡ true) ⊎ (path_into (stage2 v) i ≡ Some BiasTaken))
      (sym e) (inl (ap (has_taken i) a.grows ∙ mine i (law.owners t i (sym (kept i) ∙ h ∙ ap Some e)))))
      (λ d. theirs u i d (law.owners u i (sym (kept i) ∙ h)));
}
  where
    -- who enters by a bias of its own isn't taking it, and has taken it
    own : (i : ℕ) → y.entry ≡ entry.Enter i BiasOwn → has_taken i (log t) ≡ true
    own i is =
        let into = a.enters i BiasOwn is in
        elim (law.owners t i (leans i into)) [ inl h ↦ h | inr h ↦ absurd (cc (into, h)) ]

    mine : (i : ℕ) → (has_taken i (log t) ≡ true) ⊎ (path_into (stage t) i ≡ Some BiasTaken) → has_taken i (log t ++ y ∷ []) ≡ true
    mine i (inl h) = taken_stays i (log t) y h
    mine i (inr h) = taken_now i (log t) y (a.came i BiasTaken h)

    theirs : (u i : ℕ) → u ≢ t → (has_taken i (log u) ≡ true) ⊎ (path_into (stage u) i ≡ Some BiasTaken)
        → (has_taken i (log2 u) ≡ true) ⊎ (path_into (stage2 u) i ≡ Some BiasTaken)
    theirs u i d (inl h) = inl (ap (has_taken i) (others.logs u d) ∙ h)
    theirs u i d (inr h) = inr (ap (λ s. path_into s i) (others.stages u d) ∙ h)

-- NO ENTRY: a mark is biased to whom it was, or to the thread, which is taking the bias
pub quiet_keeps_owners : (mark : ℕ → ℕ) (log : ℕ → List Logged) (stage : ℕ → Stage) (mark2 : ℕ → ℕ) (stage2 : ℕ → Stage) (t : ℕ)
    → OwnersHaveTaken mark log stage
    → ((u : ℕ) → u ≢ t → stage2 u ≡ stage u) → ((i : ℕ) → path_into (stage t) i ≡ Some BiasTaken → path_into (stage2 t) i ≡ Some BiasTaken)
    → ((i u : ℕ) → bias_owner (mark2 i) ≡ Some u → (bias_owner (mark i) ≡ Some u) ⊎ ((u ≡ t) × (path_into (stage2 t) i ≡ Some BiasTaken)))
    → OwnersHaveTaken mark2 log stage2
quiet_keeps_owners mark log stage mark2 stage2 t law others taking owners = record {
  logged = law.logged;
  owners = λ u i h. elim (owners i u h) [
    | inl was ↦ elim (law.owners u i was) [
      | inl g ↦ inl g
      | inr g ↦ inr (by_equal u t
          (λ e. ap (λ v. path_into (stage2 v) i) e ∙ taking i (ap (λ v. path_into (stage v) i) (sym e) ∙ g))
          (λ d. ap (λ s. path_into s i) (others u d) ∙ g))
    ]
    | inr takes ↦ inr (ap (λ v. path_into (stage2 v) i) takes.0 ∙ takes.1)
  ];
}
