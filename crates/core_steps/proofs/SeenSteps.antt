-- What a thread has seen after a step that hits.
use Rattle.std.proofs.Common.{◌≡◌, ◌⊎◌, ℕ, ◌&&◌, not, Bool, true, false, cond, List, [], Option, Some, None, refl, sym, ap, ◌∙◌, inl, inr}
use Rattle.core_world.specs.declared.word_id.WordId.{WordId}
use Rattle.core_world.specs.declared.plan.StepPlan.{StepPlan}
use Rattle.core_world.specs.Words.Acts.{word_after}
use Rattle.core_world.specs.Words.Names.{same_name}
use Rattle.core_world.specs.Threads.ThreadView.{ThreadView, StepMade, last_seen}
use Rattle.core_world.specs.Steps.{is_idle, known_hit, known_miss, seen_before, kept_by_note, kept_by_act}
use Rattle.core_law.specs.Logic.{Heap}
use Rattle.core_world.proofs.Naming.{same_named, same_as_itself}

-- a word that some steps were on: the newest of them was, or those before it
pub newest_or : (n at : WordId) (w v : ℕ) (before : Option ℕ) → cond (same_name n at) (Some w) before ≡ Some v → (n ≡ at) ⊎ (before ≡ Some v)
newest_or n at w v before = cases (same_name n at) refl
  where
    cases : (b : Bool) → same_name n at ≡ b → cond b (Some w) before ≡ Some v → (n ≡ at) ⊎ (before ≡ Some v)
    cases true same h = inl (same_named n at same)
    cases false other h = inr h

module _ (heap : Heap) (p : StepPlan) (n : ℕ) (k : ThreadView) where
  -- its own word, as the step left it
  pub saw_newest : last_seen p.at (known_hit heap.shape heap.start p n k).seen ≡ Some (word_after p.act n)
  saw_newest = ap
      (λ (b : Bool). cond b (Some (word_after p.act n))
      (last_seen p.at (kept_by_note p.note (kept_by_act p.at p.act (word_after p.act n) k (seen_before heap.shape k)))))
      (same_as_itself p.at)

  -- another word as it saw it before, where this is not the call's first step
  pub saw_older : (at : WordId) → is_idle heap.shape k ≡ false → same_name at p.at ≡ false
      → kept_by_note p.note (kept_by_act p.at p.act (word_after p.act n) k (seen_before heap.shape k)) ≡ seen_before heap.shape k
      → last_seen at (known_hit heap.shape heap.start p n k).seen ≡ last_seen at k.seen
  saw_older at going other kept =
      ap (λ (b : Bool). cond b (Some (word_after p.act n))
      (last_seen at (kept_by_note p.note (kept_by_act p.at p.act (word_after p.act n) k (seen_before heap.shape k))))) other
      ∙ ap (last_seen at) kept
      ∙ ap (λ (b : Bool). last_seen at (cond (b && not k.requesting) [] k.seen)) going

  -- any word, where this is not the call's first step
  pub saw_any : (at : WordId) → is_idle heap.shape k ≡ false
      → kept_by_note p.note (kept_by_act p.at p.act (word_after p.act n) k (seen_before heap.shape k)) ≡ seen_before heap.shape k
      → last_seen at (known_hit heap.shape heap.start p n k).seen ≡ cond (same_name at p.at) (Some (word_after p.act n)) (last_seen at k.seen)
  saw_any at going kept =
      ap (λ (z : List StepMade). cond (same_name at p.at) (Some (word_after p.act n)) (last_seen at z)) kept
      ∙ ap (λ (b : Bool). cond (same_name at p.at) (Some (word_after p.act n)) (last_seen at (cond (b && not k.requesting) [] k.seen))) going

  -- after the call's first step it has seen that alone, unless a request stands
  pub first_any : (at : WordId) → is_idle heap.shape k ≡ true → k.requesting ≡ false
      → kept_by_note p.note (kept_by_act p.at p.act (word_after p.act n) k (seen_before heap.shape k)) ≡ seen_before heap.shape k
      → last_seen at (known_hit heap.shape heap.start p n k).seen ≡ cond (same_name at p.at) (Some (word_after p.act n)) None
  first_any at over unasks kept =
      ap (λ (z : List StepMade). cond (same_name at p.at) (Some (word_after p.act n)) (last_seen at z)) kept
      ∙ ap (λ (b : Bool). cond (same_name at p.at) (Some (word_after p.act n)) (last_seen at (cond (b && not k.requesting) [] k.seen))) over
      ∙ ap (λ (b : Bool). cond (same_name at p.at) (Some (word_after p.act n)) (last_seen at (cond (not b) [] k.seen))) unasks

  -- so its word is the only one then, or the only one more
  pub first_alone : (at : WordId) (v : ℕ) → is_idle heap.shape k ≡ true → k.requesting ≡ false
      → kept_by_note p.note (kept_by_act p.at p.act (word_after p.act n) k (seen_before heap.shape k)) ≡ seen_before heap.shape k
      → last_seen at (known_hit heap.shape heap.start p n k).seen ≡ Some v → at ≡ p.at
  first_alone at v over unasks kept saw = elim (newest_or at p.at (word_after p.act n) v None (sym (first_any at over unasks kept) ∙ saw)) [
    | inl is ↦ is
    | inr other ↦ absurd (cc other)
  ]

  pub alone_more : (at : WordId) (v : ℕ) → is_idle heap.shape k ≡ false
      → kept_by_note p.note (kept_by_act p.at p.act (word_after p.act n) k (seen_before heap.shape k)) ≡ seen_before heap.shape k
      → last_seen at (known_hit heap.shape heap.start p n k).seen ≡ Some v → (at ≡ p.at) ⊎ (last_seen at k.seen ≡ Some v)
  alone_more at v going kept saw = newest_or at p.at (word_after p.act n) v (last_seen at k.seen) (sym (saw_any at going kept) ∙ saw)

  -- and after an exchange that misses
  pub missed_any : (at : WordId) → is_idle heap.shape k ≡ false
      → last_seen at (known_miss heap.shape heap.start p n k).seen ≡ cond (same_name at p.at) (Some (word_after p.act n)) (last_seen at k.seen)
  missed_any at going = ap (λ (b : Bool). cond (same_name at p.at) (Some (word_after p.act n)) (last_seen at (cond (b && not k.requesting) [] k.seen))) going

  pub missed_newest : last_seen p.at (known_miss heap.shape heap.start p n k).seen ≡ Some (word_after p.act n)
  missed_newest = ap (λ (b : Bool). cond b (Some (word_after p.act n)) (last_seen p.at (seen_before heap.shape k))) (same_as_itself p.at)
