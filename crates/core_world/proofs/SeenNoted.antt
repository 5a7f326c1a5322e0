-- What the threads have seen stays when one of them makes a step that leaves its word as it was, whether it runs or not.
use Rattle.std.proofs.Common.{◌≡◌, ◌⊎◌, ℕ, ◌||◌, Bool, true, false, cond, List, [], ◌∷◌, ◌++◌, append-nil, Some, None, sym, ap, ◌∙◌, refl, subst, inl, inr}
use Rattle.std.proofs.lemmas.Option.{same_Some}
use Rattle.core_world.specs.declared.word_id.WordId.{WordId}
use Rattle.core_world.specs.declared.word_id.WordId.TheVariants.{Mark, Waiting}
use Rattle.core_world.specs.declared.plan.StepPlan.{StepPlan}
use Rattle.core_world.specs.Words.Acts.{word_after}
use Rattle.core_world.specs.Words.Names.{same_name, its_monitor, has_class}
use Rattle.core_world.specs.Words.Forms.{is_biased, monitor_in, waits_on}
use Rattle.core_world.specs.Threads.Stages.{inflation_in, bears, revocation_in}
use Rattle.core_world.specs.Threads.ThreadView.{ThreadView, StepMade, last_seen}
use Rattle.core_world.specs.World.{World}
use Rattle.core_world.specs.Locks.{marks}
use Rattle.core_world.specs.Clauses.SeenWords.{SeenStays, Stays, HasMet, IsKeptOrNamed, AreTheSteps}
use Rattle.core_world.specs.RevocationRules.{write_by, writes_in, words_after}
use Rattle.core_world.specs.Looking.{IsOfMonitor}
use Rattle.core_world.proofs.KnowledgeParts.{each_with_known}
use Rattle.core_world.proofs.Naming.{same_named, with_knowledge}
use Rattle.core_world.proofs.SeenBack.{Back, stays_back}
use Rattle.core_world.proofs.SeenMoves.{IsPart}

-- thread t, which knew k, has looked at the word of p, and knows l: it counts on some of what it saw before in its call, and since its
-- safepoint was reached on what it saw since
pub record Looks (w : World) (waiters : ℕ → List (ℕ × ℕ)) (k l : ThreadView) (p : StepPlan) (found : ℕ) : Type 0 where
  pub word : word_after p.act found ≡ w.words p.at
  pub as_found : found ≡ w.words p.at
  pub unwritten : write_by p.at p.act ≡ []
  pub run : l.running ≡ k.running
  pub ask : l.requesting ≡ k.requesting
  pub stage : l.stage ≡ k.stage
  pub kept : l.kept ≡ k.kept
  pub old : List StepMade
  pub seen : l.seen ≡ record { plan = p; found = found } ∷ old
  pub part : IsPart old k.seen
  pub since : List StepMade
  pub seen_at_safepoint : l.seen_at_safepoint ≡ record { plan = p; found = found } ∷ since
  pub there : (n : WordId) (s : ℕ) → l.reached ≡ true → last_seen n since ≡ Some s → w.words n ≡ s
  pub alone : l.reached ≡ true → revocation_in k.stage ≡ None → AreTheSteps w.words since
  pub fresh : k.running ≡ true → (m : ℕ) → IsOfMonitor m p.at → IsKeptOrNamed w k m
  pub idle : k.running ≡ true → (o : ℕ) → monitor_in (marks w o) ≡ None → waiters o ≡ []

module _ (p : StepPlan) (found t : ℕ) (l : ThreadView) (w : World) (owner : ℕ → ℕ → Bool)
    (waiters : ℕ → List (ℕ × ℕ)) (looks : Looks w waiters (w.known t) l p found) (h : SeenStays w owner waiters) where
  -- the word of the step is as it was left
  just_seen : (n : WordId) (s : ℕ) (old : List StepMade) → same_name n p.at ≡ true
      → cond (same_name n p.at) (Some (word_after p.act found)) (last_seen n old) ≡ Some s → w.words n ≡ s
  just_seen n s old e a =
      ap w.words (same_named n p.at e) ∙ sym looks.word ∙ same_Some _ _ (ap (λ c. cond c (Some (word_after p.act found)) (last_seen n old)) (sym e) ∙ a)

  -- and the others as they were last seen before
  newest : (n : WordId) (s : ℕ) (old : List StepMade) → (last_seen n old ≡ Some s → w.words n ≡ s) → (b : Bool) → same_name n p.at ≡ b
      → cond (same_name n p.at) (Some (word_after p.act found)) (last_seen n old) ≡ Some s → w.words n ≡ s
  newest n s old before true e a = just_seen n s old e a
  newest n s old before false e a = before (ap (λ c. cond c (Some (word_after p.act found)) (last_seen n old)) (sym e) ∙ a)

  back : Back w (with_knowledge t l w) (w.known t) l owner owner t
  back = record {
    run = λ e. sym looks.run ∙ e;
    ask = λ e. sym looks.ask ∙ e;
    inflates = λ i e. ap inflation_in (sym looks.stage) ∙ e;
    not_revoking = λ e. ap revocation_in (sym looks.stage) ∙ e;
    kept = λ m e. sym looks.kept ∙ e;
    prototype = λ o. refl;
    monitor = λ o m e. e;
    owned = λ o e. e;
    held = λ o m e a. subst_stage o a;
  }
    where
      subst_stage : (o : ℕ) → (owner o t || bears l.stage o) ≡ true → (owner o t || bears (w.known t).stage o) ≡ true
      subst_stage o a = ap (λ s. owner o t || bears s o) (sym looks.stage) ∙ a

  kept_forth : (m : ℕ) → IsKeptOrNamed w (w.known t) m → IsKeptOrNamed (with_knowledge t l w) l m
  kept_forth m (inl a) = inl (looks.kept ∙ a)
  kept_forth m (inr a) = inr a

  met : (m s : ℕ) (old : List StepMade) → (w.known t).running ≡ true → (HasMet old m s → IsKeptOrNamed w (w.known t) m)
      → (n : WordId) → its_monitor n ≡ Some m → (b : Bool) → same_name n p.at ≡ b
      → cond (same_name n p.at) (Some (word_after p.act found)) (last_seen n old) ≡ Some s → IsKeptOrNamed w (w.known t) m
  met m s old r before n is true e a = looks.fresh r m (ap its_monitor (sym (same_named n p.at e)) ∙ is)
  met m s old r before n is false e a = before (n, is, ap (λ c. cond c (Some (word_after p.act found)) (last_seen n old)) (sym e) ∙ a)

  met_any : (m s : ℕ) (old all : List StepMade) → (w.known t).running ≡ true → all ≡ record { plan = p; found = found } ∷ old
      → (HasMet old m s → IsKeptOrNamed w (w.known t) m) → HasMet all m s → IsKeptOrNamed w (w.known t) m
  met_any m s old all r e before a = met m s old r before a.0 a.1 (same_name a.0 p.at) refl (ap (last_seen a.0) (sym e) ∙ a.2)

  part_met : (m s : ℕ) → HasMet looks.old m s → HasMet (w.known t).seen m s
  part_met m s a = (a.0, a.1, looks.part a.0 s a.2)

  active : (l.running ≡ true) ⊎ (l.requesting ≡ true) → ((w.known t).running ≡ true) ⊎ ((w.known t).requesting ≡ true)
  active (inl a) = inl (sym looks.run ∙ a)
  active (inr a) = inr (sym looks.ask ∙ a)

  pub seen_noted : SeenStays (with_knowledge t l w) owner waiters
  seen_noted =
      record {
        stays = λ u n s. each_with_known (λ u y. last_seen n y.seen ≡ Some s → Stays (with_knowledge t l w) y owner u n s → w.words n ≡ s) t l w.known u
            (λ e g. newest n s looks.old (λ a. h.stays t n s (looks.part n s a) (stays_back w (with_knowledge t l w)
            (w.known t) l owner owner t back n s g)) (same_name n p.at) refl (ap (last_seen n) (sym looks.seen) ∙ e))
            (λ d e g. h.stays u n s e (stays_back w (with_knowledge t l w) (w.known u) (w.known u) owner owner u
            (record {
              run = λ a. a;
              ask = λ a. a;
              not_revoking = λ a. a;
              inflates = λ i a. a;
              kept = λ m a. a;
              prototype = λ o. refl;
              monitor = λ o m a. a;
              owned = λ o a. a;
              held = λ o m a b. b;
            }) n s g));
        unbiased = λ u o s. each_with_known (λ u y. last_seen (Mark o) y.seen ≡ Some s
            → (y.running ≡ true) ⊎ (y.requesting ≡ true) → is_biased s ≡ false → is_biased (marks w o) ≡ false) t l w.known u
            (λ e r g. mark o s r g (same_name (Mark o) p.at) refl (ap (last_seen (Mark o)) (sym looks.seen) ∙ e))
            (λ d e r g. h.unbiased u o s e r g);
        classed = h.classed;
        saw_classed = λ u o s. each_with_known (λ u y. last_seen (Mark o) y.seen ≡ Some s
            → (y.running ≡ true) ⊎ (y.requesting ≡ true) → is_biased s ≡ true → has_class w.shape w.words o ≡ true) t l w.known u
            (λ e r g. there o s r g (same_name (Mark o) p.at) refl (ap (last_seen (Mark o)) (sym looks.seen) ∙ e))
            (λ d e r g. h.saw_classed u o s e r g);
        unwaiting = λ u y o s. each_with_known (λ u k. last_seen (Waiting y) k.seen ≡ Some s → k.running ≡ true
            → owner o u ≡ true → waits_on s o ≡ false → waits_on (w.words (Waiting y)) o ≡ false) t l w.known u
            (λ e r a g. wait y o s r a g (same_name (Waiting y) p.at) refl (ap (last_seen (Waiting y)) (sym looks.seen) ∙ e))
            (λ d e r a g. h.unwaiting u y o s e r a g);
        unwaited = λ u o s. each_with_known (λ u y. last_seen (Mark o) y.seen ≡ Some s
            → y.running ≡ true → owner o u ≡ true → monitor_in s ≡ None → waiters o ≡ []) t l w.known u
            (λ e r a g. alone o s r a g (same_name (Mark o) p.at) refl (ap (last_seen (Mark o)) (sym looks.seen) ∙ e))
            (λ d e r a g. h.unwaited u o s e r a g);
        stands = λ u n s. each_with_known (λ u y. y.reached ≡ true → last_seen n y.seen_at_safepoint ≡ Some s → w.words n ≡ s) t l w.known u
            (λ r e. newest n s looks.since (λ a. looks.there n s r a) (same_name n p.at) refl (ap (last_seen n) (sym looks.seen_at_safepoint) ∙ e))
            (λ d r e. h.stands u n s r e);
        alone = λ u. each_with_known (λ u y. y.reached ≡ true → revocation_in y.stage ≡ None → AreTheSteps w.words y.seen_at_safepoint) t l w.known u
            (λ r e. subst (AreTheSteps w.words) (sym looks.seen_at_safepoint) (one_more (looks.alone r (ap revocation_in (sym looks.stage) ∙ e))))
            (λ d r e. h.alone u r e);
        monitors = λ u m s. each_with_known (λ u y. y.running ≡ true → HasMet y.seen m s → IsKeptOrNamed (with_knowledge t l w) y m) t l w.known u
            (λ r e. kept_forth m (met_any m s looks.old l.seen (sym looks.run ∙ r) looks.seen (λ a. h.monitors t m s (sym looks.run ∙ r) (part_met m s a)) e))
            (λ d r e. h.monitors u m s r e);
      }
    where
      -- the step stored nothing, so the stores are those before it
      one_more : AreTheSteps w.words looks.since → AreTheSteps w.words (record { plan = p; found = found } ∷ looks.since)
      one_more a = record {
        before = a.before;
        found = (looks.as_found ∙ ap (λ (f : WordId → ℕ). f p.at) a.same, a.found);
        same = a.same ∙ ap (λ z. words_after z a.before) (sym (ap (λ z. writes_in looks.since ++ z) looks.unwritten ∙ append-nil _));
      }

      mark : (o s : ℕ) → (l.running ≡ true) ⊎ (l.requesting ≡ true) → is_biased s ≡ false → (b : Bool) → same_name (Mark o) p.at ≡ b
          → cond (same_name (Mark o) p.at) (Some (word_after p.act found)) (last_seen (Mark o) looks.old) ≡ Some s → is_biased (marks w o) ≡ false
      mark o s r g true e a = ap is_biased (just_seen (Mark o) s looks.old e a) ∙ g
      mark o s r g false e a = h.unbiased t o s
          (looks.part (Mark o) s (ap (λ c. cond c (Some (word_after p.act found)) (last_seen (Mark o) looks.old)) (sym e) ∙ a)) (active r) g

      there : (o s : ℕ) → (l.running ≡ true) ⊎ (l.requesting ≡ true) → is_biased s ≡ true → (b : Bool) → same_name (Mark o) p.at ≡ b
          → cond (same_name (Mark o) p.at) (Some (word_after p.act found)) (last_seen (Mark o) looks.old) ≡ Some s → has_class w.shape w.words o ≡ true
      there o s r g true e a = h.classed o (ap is_biased (just_seen (Mark o) s looks.old e a) ∙ g)
      there o s r g false e a = h.saw_classed t o s
          (looks.part (Mark o) s (ap (λ c. cond c (Some (word_after p.act found)) (last_seen (Mark o) looks.old)) (sym e) ∙ a)) (active r) g

      alone : (o s : ℕ) → l.running ≡ true → owner o t ≡ true → monitor_in s ≡ None → (b : Bool) → same_name (Mark o) p.at ≡ b
          → cond (same_name (Mark o) p.at) (Some (word_after p.act found)) (last_seen (Mark o) looks.old) ≡ Some s → waiters o ≡ []
      alone o s r q g true e a = looks.idle (sym looks.run ∙ r) o (ap monitor_in (just_seen (Mark o) s looks.old e a) ∙ g)
      alone o s r q g false e a = h.unwaited t o s (looks.part (Mark o) s
          (ap (λ c. cond c (Some (word_after p.act found)) (last_seen (Mark o) looks.old)) (sym e) ∙ a)) (sym looks.run ∙ r) q g

      wait : (y o s : ℕ) → l.running ≡ true → owner o t ≡ true → waits_on s o ≡ false → (b : Bool) → same_name (Waiting y) p.at ≡ b
          → cond (same_name (Waiting y) p.at) (Some (word_after p.act found)) (last_seen (Waiting y) looks.old) ≡ Some s
          → waits_on (w.words (Waiting y)) o ≡ false
      wait y o s r q g true e a = ap (λ z. waits_on z o) (just_seen (Waiting y) s looks.old e a) ∙ g
      wait y o s r q g false e a = h.unwaiting t y o s (looks.part (Waiting y) s
          (ap (λ c. cond c (Some (word_after p.act found)) (last_seen (Waiting y) looks.old)) (sym e) ∙ a)) (sym looks.run ∙ r) q g
