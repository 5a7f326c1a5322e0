-- How often biases were taken: what a step that logs an entry and one that logs nothing keep of it.
use Rattle.std.proofs.Common.{◌≡◌, ◌≢◌, ◌⊎◌, ℕ, ◌+◌, ◌≤◌, ◌<◌, Bool, true, false, List, [], ◌∷◌}
use Rattle.std.proofs.Common.{◌++◌, Option, Some, refl, sym, ap, ◌∙◌, eqb-true, arith, inl, inr}
use Rattle.plain_monitor.specs.declared.entry.Entry.{Entry}
use Rattle.plain_monitor.specs.declared.entry.Entry.TheVariants as entry
use Rattle.plain_monitor.specs.declared.entry.Logged.{Logged}
use Rattle.plain_monitor.specs.declared.entry.Path.TheVariants.{BiasTaken}
use Rattle.plain_history.specs.Tied.{bound_to, is_same_object}
use Rattle.core_world.specs.declared.stage.Stage.{Stage}
use Rattle.core_world.specs.declared.heap_call.Unfinished.{Unfinished}
use Rattle.core_world.specs.Locks.{Lock, BiasedTo}
use Rattle.core_world.specs.Threads.Stages.{one_if, path_into}
use Rattle.core_world.proofs.KnowledgeParts.{by_equal}
use Rattle.core_law.specs.BiasOwners.{BiasesTakenAtMost, IsFree}
use Rattle.core_law.specs.TakenBiases.{takes_bias, times_taken}
use Rattle.bias_law.specs.Moves.{BiasesKept, OthersStay, LogsEntry}
use Rattle.bias_law.specs.inner.FreeBiases.{TakesFreeBiases}

-- ONE ENTRY MORE
pub times_push : (o : ℕ) (es : List Entry) (e : Entry) → times_taken o (es ++ e ∷ []) ≡ times_taken o es + one_if (takes_bias o e)
times_push o [] e = omega arith
times_push o (x ∷ es) e = let a = times_push o es e in omega (arith, a)

-- an entry that takes the bias of o is an enter of it
takes_it : (o : ℕ) (e : Entry) → takes_bias o e ≡ true → e ≡ entry.Enter o BiasTaken
takes_it o (entry.Enter i BiasTaken) h = ap (λ j. entry.Enter j BiasTaken) (eqb-true i o h)
takes_it o _ h = absurd (cc h)

-- AN ENTRY, by a step that leaves the biases: with it the bias that its thread was taking is taken once more, and is valid.
module _ (class mark : ℕ → ℕ) (lock : ℕ → Lock) (entries : ℕ → List Entry) (log : ℕ → List Logged)
    (stage : ℕ → Stage) (unfinished : ℕ → Option Unfinished) (rebiased revoked mark2 : ℕ → ℕ) (lock2 : ℕ → Lock)
    (entries2 : ℕ → List Entry) (log2 : ℕ → List Logged) (stage2 : ℕ → Stage) (unfinished2 : ℕ → Option Unfinished)
    (t : ℕ) (y : Logged) (law : BiasesTakenAtMost class mark lock entries stage rebiased revoked)
    (leans : (u i : ℕ) → path_into (stage u) i ≡ Some BiasTaken → lock i ≡ BiasedTo u) (kept : BiasesKept mark lock mark2 lock2)
    (others : OthersStay t log stage unfinished log2 stage2 unfinished2)
    (a : LogsEntry t y mark entries log stage unfinished entries2 log2 stage2 unfinished2) where
  -- the entry takes the bias of i, which its thread was taking, or it is taken as often as before
  more : (i : ℕ) → ((path_into (stage t) i ≡ Some BiasTaken) × (times_taken i (entries2 i) ≡ times_taken i (entries i) + 1))
      ⊎ (times_taken i (entries2 i) ≡ times_taken i (entries i))
  more i = at (is_same_object (bound_to y.entry) (Some i)) refl
    where
      takes : (b : Bool) → takes_bias i y.entry ≡ b → times_taken i (entries2 i) ≡ times_taken i (entries i) + one_if b
          → ((path_into (stage t) i ≡ Some BiasTaken) × (times_taken i (entries2 i) ≡ times_taken i (entries i) + 1))
          ⊎ (times_taken i (entries2 i) ≡ times_taken i (entries i))
      takes true e h = inl (a.enters i BiasTaken (takes_it i y.entry e), h)
      takes false e h = inr (omega (arith, h))

      at : (b : Bool) → is_same_object (bound_to y.entry) (Some i) ≡ b
          → ((path_into (stage t) i ≡ Some BiasTaken) × (times_taken i (entries2 i) ≡ times_taken i (entries i) + 1))
          ⊎ (times_taken i (entries2 i) ≡ times_taken i (entries i))
      at true e = takes (takes_bias i y.entry) refl (ap (times_taken i) (a.here i e) ∙ times_push i (entries i) y.entry)
      at false e = inr (ap (times_taken i) (a.elsewhere i e))

  one_more : (i n m : ℕ) → times_taken i (entries i) ≤ n → m ≡ times_taken i (entries i) + 1 → m ≤ n + 1
  one_more i n m h e = omega (arith, h, e)

  as_before : (i n m : ℕ) → times_taken i (entries i) ≤ n → m ≡ times_taken i (entries i) → m ≤ n
  as_before i n m h e = omega (arith, h, e)

  -- another thread's bias that is being taken is that thread's
  theirs : (u i : ℕ) → u ≢ t → path_into (stage u) i ≡ Some BiasTaken → times_taken i (entries2 i) ≤ rebiased (class i)
  theirs u i d h = elim (more i) [
    | inl new ↦ absurd (d (let mine = leans t i new.0 in let its = leans u i h in let same : BiasedTo u ≡ BiasedTo t = sym its ∙ mine in cc same))
    | inr old ↦ as_before i _ _ (law.coming i (u, h)) old
  ]

  pub entry_keeps_takings : BiasesTakenAtMost class mark2 lock2 entries2 stage2 rebiased revoked
  entry_keeps_takings = record {
    logged = λ i. elim (more i) [
      | inl new ↦ one_more i _ _ (law.coming i (t, new.0)) new.1
      | inr old ↦ as_before i _ _ (law.logged i) old
    ];
    coming = λ i c. by_equal c.0 t
        (λ e. absurd (let l = a.left i in let h : path_into (stage2 t) i ≡ Some BiasTaken = ap (λ v. path_into (stage2 v) i) (sym e) ∙ c.1 in cc (l, h)))
        (λ d. theirs c.0 i d (ap (λ s. path_into s i) (sym (others.stages c.0 d)) ∙ c.1));
    free = λ i f. elim (more i) [
      | inl new ↦ absurd (f.2 t (kept.leans i t (leans t i new.0)))
      | inr old ↦ as_before i _ _ (law.free i (f.0, sym (kept.pattern i) ∙ f.1, λ u h. f.2 u (kept.leans i u h))) old
    ];
  }

-- NO ENTRY, and perhaps a bulk rebias
pub quiet_keeps_takings : (class mark : ℕ → ℕ) (lock : ℕ → Lock) (entries : ℕ → List Entry) (stage : ℕ → Stage)
    (rebiased revoked mark2 : ℕ → ℕ) (lock2 : ℕ → Lock) (stage2 : ℕ → Stage) (rebiased2 revoked2 : ℕ → ℕ) (t : ℕ)
    → BiasesTakenAtMost class mark lock entries stage rebiased revoked → ((u : ℕ) → u ≢ t → stage2 u ≡ stage u)
    → TakesFreeBiases t class mark lock stage rebiased revoked mark2 lock2 stage2 rebiased2 revoked2
    → BiasesTakenAtMost class mark2 lock2 entries stage2 rebiased2 revoked2
quiet_keeps_takings class mark lock entries stage rebiased revoked mark2 lock2 stage2 rebiased2 revoked2 t law others a = record {
  logged = λ i. let old = law.logged i in let rest = a.more (class i) in omega (arith, old, rest);
  coming = λ i c. by_equal c.0 t
      (λ e. mine i (a.comes i (ap (λ v. path_into (stage2 v) i) (sym e) ∙ c.1)))
      (λ d. still i (law.coming i (c.0, ap (λ s. path_into s i) (sym (others c.0 d)) ∙ c.1)));
  free = λ i f. by_rebias i (a.free i f);
}
  where
    still : (i : ℕ) → times_taken i (entries i) ≤ rebiased (class i) → times_taken i (entries i) ≤ rebiased2 (class i)
    still i h = let rest = a.more (class i) in omega (arith, h, rest)

    by_rebias : (i : ℕ) → IsFree class mark lock revoked i ⊎ (rebiased (class i) < rebiased2 (class i)) → times_taken i (entries i) ≤ rebiased2 (class i)
    by_rebias i (inl f) = still i (law.free i f)
    by_rebias i (inr h) = let old = law.logged i in omega (arith, old, h)

    mine : (i : ℕ) → (path_into (stage t) i ≡ Some BiasTaken) ⊎ (IsFree class mark lock revoked i ⊎ (rebiased (class i) < rebiased2 (class i)))
        → times_taken i (entries i) ≤ rebiased2 (class i)
    mine i (inl h) = still i (law.coming i (t, h))
    mine i (inr h) = by_rebias i h
