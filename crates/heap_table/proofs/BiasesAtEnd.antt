-- The law of biases of the last world is one of its logs, of what its passes counted, and of its words.
use Rattle.std.proofs.Common.{◌≡◌, ◌⊎◌, ℕ, zero, suc, ◌+◌, ◌-◌, ◌<◌, ◌≤◌, nat_lt, cond, Bool, true, false, List, []}
use Rattle.std.proofs.Common.{◌∷◌, length, Some, None, refl, sym, ap, ◌∙◌, subst, arith, inl, inr, All, Any}
use Rattle.std.specs.Prelude.{slice_get}
use Rattle.std.proofs.lemmas.Bool.{cases_lt}
use Rattle.std.proofs.lemmas.Bool.Decides.{nat_tests}
use Rattle.plain_monitor.specs.declared.entry.Logged.{Logged}
use Rattle.plain_monitor.specs.Objects.{PlainObject}
use Rattle.core_world.specs.declared.word_id.WordId.TheVariants.{Revocations, Class}
use Rattle.core_world.specs.declared.heap_call.Operation.TheVariants as op
use Rattle.core_world.specs.Clauses.Safepoints.{IsUnfinished}
use Rattle.core_world.specs.Opening.{first_known}
use Rattle.core_world.specs.Threads.Counts.{CountedVerdict}
use Rattle.core_world.specs.Threads.ThreadView.{ThreadView}
use Rattle.core_world.specs.Valid.{IsRevoking}
use Rattle.core_world.specs.Words.Shape.{Shape, class_in_shape}
use Rattle.core_world.specs.Words.Names.{class_by}
use Rattle.core_world.specs.World.{World, logs}
use Rattle.core_law.specs.BiasLaw.{is_logged}
use Rattle.core_law.specs.Logic.{Heap}
use Rattle.core_law.proofs.Wholes.{All as Whole, all_unless}
use Rattle.core_law.specs.OfARun.{BiasesOfRun, VerdictsAtMost}
use Rattle.core_law.proofs.RunEnds.{run_ends, run_fits, verdicts_at_most, verdicts_with_one_more}
use Rattle.heap_table.specs.BiasesAtEnd.{BiasesAtEnd, counted_by, word_in}
use Rattle.heap_table.specs.Seen.{PassSeen, LastWorld, InOrder, knowns, logs_of}
use Rattle.heap_table.proofs.Legal.{here, asks, logs_of_last, knowns_long}

-- what the passes counted is what the threads counted
counted_here : (f : ℕ → ThreadView) (t : ℕ) (ks : List ThreadView) → InOrder t ks → ((i : ℕ) (k : ThreadView) → slice_get ks i ≡ Some k → f k.thread ≡ k)
    → ((u : ℕ) → t + length ks ≤ u → (f u).counts ≡ []) → (i : ℕ) → (f (t + i)).counts ≡ counted_by ks i
counted_here f t [] order each none i = none (t + i) (omega arith)
counted_here f t (k ∷ ks) order each none zero =
    let e : t ≡ t + 0 = omega arith in
    ap (λ u. (f u).counts) (sym e ∙ sym order.0) ∙ ap (λ (x : ThreadView). x.counts) (each 0 k refl)
counted_here f t (k ∷ ks) order each none (suc i) =
    let e : t + suc i ≡ t + 1 + i = omega arith in
    ap (λ u. (f u).counts) e ∙ counted_here f (t + 1) ks order.1 (λ j x g. each (suc j) x g) (λ u h. none u (omega (arith, h))) i

module _ (b : Heap) (words : List ℕ) (ps : List PassSeen) (last : LastWorld b words (knowns ps))
    (order : InOrder 0 (knowns ps)) (all : length ps ≡ b.shape.threads)
    (quiet : All (λ (p : PassSeen). p.known.requesting ≡ false) ps ⊎ Any (λ (p : PassSeen). p.known.halted ≡ true) ps) where
  abbrev w : World
  w = last.world

  threads_are : w.shape.threads ≡ b.shape.threads
  threads_are = ap (λ (h : Heap). h.shape.threads) last.is_of

  -- nobody asks, and so no bias is being revoked
  unrevoking : (P : List PlainObject) → IsRevoking w P → ⊥
  unrevoking P s =
      let asks_now = s.safe.requester s.requester ∙ (s.safe.safepoint s.requester (ap (λ (k : ThreadView). k.reached) s.knows ∙ s.reached)).0 in
      elim (cases_lt s.requester b.shape.threads) [
        | inl within ↦ let none = asks b words ps last order all s.requester within quiet in absurd (cc (asks_now, none))
        | inr far ↦
            let absent = s.fits.absent s.requester (subst (λ n. n ≤ s.requester) (sym threads_are ∙ ap (λ (z : Shape). z.threads) s.shape) far) in
            let unreached = ap (λ (k : ThreadView). k.reached) absent in
            let reached = s.reached in
            absurd (cc (reached, unreached))
      ]

  whole : Whole w last.sound.valid.objects
  whole = all_unless w last.sound.valid.objects (unrevoking last.sound.valid.objects) last.sound.valid.is

  -- what holds of what each pass knows, and of a thread that the heap lacks, holds of what each thread knows
  each_thread : (P : ThreadView → Type 0) → All (λ (p : PassSeen). P p.known) ps → ((t : ℕ) → P (first_known t)) → (t : ℕ) → P (w.known t)
  each_thread P each none t = elim (cases_lt t b.shape.threads) [
    | inl within ↦ here b words ps last order all P each t within
    | inr far ↦ subst P (sym (whole.fits.absent t (subst (λ n. n ≤ t) (sym threads_are) far))) (none t)
  ]

  counted : (λ t. (w.known t).counts) ≡ counted_by (knowns ps)
  counted = λ i t. counted_at t i
    where
      counted_at : (t : ℕ) → (w.known t).counts ≡ counted_by (knowns ps) t
      counted_at t =
          let e : 0 + t ≡ t = omega arith in
          subst (λ u. (w.known u).counts ≡ counted_by (knowns ps) t) e
          (counted_here w.known 0 (knowns ps) order last.knows (λ u far. ap (λ (k : ThreadView). k.counts)
          (whole.fits.absent u (let many = knowns_long ps in omega (arith, far, many, all, threads_are)))) t)

  -- the class word of an object that isn't declared is among the words
  class_word : (o : ℕ) → o < length b.shape.objects → nat_lt o b.shape.declared ≡ false → w.words (Class o) ≡ word_in b words (Class o)
  class_word o h e = sym (last.words_are (Class o) (h, grind (arith, nat_tests, e)))

  class_here : (o : ℕ) → o < length b.shape.objects → (c : Bool) → nat_lt o b.shape.declared ≡ c
      → cond c (class_in_shape b.shape o) (w.words (Class o) - 1) ≡ cond c (class_in_shape b.shape o) (word_in b words (Class o) - 1)
  class_here o h true e = refl
  class_here o h false e = ap (λ n. n - 1) (class_word o h e)

  at_end : (more : ℕ) → BiasesOfRun w.biasing w.shape.threads (is_logged w.shape (logs w))
      (class_by w.shape w.words) (logs w) (λ c. w.words (Revocations c)) (λ t. (w.known t).counts)
      → VerdictsAtMost more w.shape.threads w.shape.classes (logs w) (λ t. (w.known t).counts) → BiasesAtEnd more b words (logs_of ps) (knowns ps)
  at_end more biases verdicts =
      let logs_are : logs w ≡ logs_of ps = logs_of_last b words ps last order all in
      record {
        class = class_by b.shape w.words;
        count = λ c. w.words (Revocations c);
        class_is = λ o h. class_here o h (nat_lt o b.shape.declared) refl;
        words_are = λ c h. last.words_are (Revocations c) h;
        biases = subst (λ (x : Heap × List (List Logged) × (ℕ → List CountedVerdict)). BiasesOfRun x.0.biasing x.0.shape.threads
            (is_logged x.0.shape x.1) (class_by x.0.shape w.words) x.1 (λ c. w.words (Revocations c)) x.2)
            (λ i. (last.is_of i, logs_are i, counted i)) biases;
        verdicts = subst (λ (x : Heap × List (List Logged) × (ℕ → List CountedVerdict)). VerdictsAtMost more x.0.shape.threads x.0.shape.classes x.1 x.2)
            (λ i. (last.is_of i, logs_are i, counted i)) verdicts;
      }

  -- where nothing is unfinished
  pub biases_ended : All (λ (p : PassSeen). p.known.unfinished ≡ None) ps → BiasesAtEnd 0 b words (logs_of ps) (knowns ps)
  biases_ended nothing =
      let none = each_thread (λ k. k.unfinished ≡ None) nothing (λ t. refl) in
      at_end 0 (run_ends w last.sound.valid.objects whole.fits whole.biases none) (verdicts_at_most w last.sound.valid.objects whole.fits whole.biases none)

  -- and where no Hash is
  pub biases_stuck : All (λ (p : PassSeen). (o : ℕ) → IsUnfinished p.known.unfinished op.Hash o → ⊥) ps → BiasesAtEnd 1 b words (logs_of ps) (knowns ps)
  biases_stuck nothing =
      let none = each_thread (λ k. (o : ℕ) → IsUnfinished k.unfinished op.Hash o → ⊥) nothing (λ t o h. cc h) in
      at_end 1 (run_fits w last.sound.valid.objects whole.fits whole.biases none) (verdicts_with_one_more w last.sound.valid.objects whole.fits whole.biases)
