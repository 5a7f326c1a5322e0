-- The release that ends a revocation gives the bias law again.
use Rattle.std.proofs.Common.{◌≡◌, ◌≢◌, ◌⊎◌, ℕ, ◌+◌, ◌<◌, ◌==◌, ◌&&◌, eq-eqb, ne_eqb, eqb-true, cond, Bool, true, false}
use Rattle.std.proofs.Common.{List, [], ◌∷◌, ◌++◌, Option, Some, None, refl, sym, ap, ◌∙◌, subst, arith, inl, inr}
use Rattle.std.proofs.lemmas.Option.{same_Some}
use Rattle.lock_policy.specs.declared.policy.Verdict.{Verdict}
use Rattle.lock_policy.specs.declared.policy.Verdict.TheVariants.{Single, BulkRebias, BulkRevoke}
use Rattle.lock_policy.specs.Policy.{is_reset}
use Rattle.plain_monitor.specs.declared.entry.Entry.TheVariants as entry
use Rattle.plain_monitor.specs.declared.entry.Path.{Path}
use Rattle.plain_monitor.specs.declared.entry.Path.TheVariants.{BiasTaken}
use Rattle.plain_monitor.specs.Objects.{PlainObject}
use Rattle.plain_monitor.specs.Order.{order}
use Rattle.core_world.specs.declared.word_id.WordId.{WordId}
use Rattle.core_world.specs.declared.word_id.WordId.TheVariants.{Safepoint, Mark, Prototype, Revocations, LastBulk}
use Rattle.core_world.specs.declared.stage.Stage.{Stage}
use Rattle.core_world.specs.declared.stage.Stage.TheVariants.{Settled}
use Rattle.core_world.specs.declared.heap_call.Unfinished.{Unfinished}
use Rattle.core_world.specs.Words.Shape.{Shape}
use Rattle.core_world.specs.Words.Names.{class_by}
use Rattle.core_world.specs.Words.Names.{with_word}
use Rattle.core_world.specs.Threads.Counts.{CountedVerdict, with_verdict_counted, counts_of}
use Rattle.core_world.specs.Words.Forms.{is_biased}
use Rattle.core_world.specs.Threads.ThreadView.{ThreadView}
use Rattle.core_world.specs.Locks.{BiasedTo, lock, marks, prototype_of}
use Rattle.core_world.specs.Threads.Stages.{path_into}
use Rattle.core_world.specs.Trees.BiasSteps.{stage_after}
use Rattle.core_world.specs.RevocationRules.{Write, writes_in, words_after, revocation_writes}
use Rattle.core_world.specs.declared.heap_call.Operation.{Operation}
use Rattle.core_world.specs.declared.heap_call.Operation.TheVariants as op
use Rattle.core_world.specs.Valid.{IsRevoking, RevokesWithin}
use Rattle.core_world.specs.World.{World, with_word_and_known, logs}
use Rattle.core_law.specs.BiasLaw.{BiasLaw, BiasLawHolds, is_logged}
use Rattle.core_law.specs.CountsAndVerdicts.{IsDecided, sum_below}
use Rattle.plain_history.specs.EnterPaths.{PathFits, entries_on, is_by_bias}
use Rattle.core_law.specs.BiasOwners.{IsFree, bias_owner}
use Rattle.core_law.specs.MarksAndLogs.{is_anonymous}
use Rattle.plain_history.specs.HeldByLog.{held_by, nothing_held}
use Rattle.bias_law.specs.Moves.{AddsNoBias, MayLoseBias, OthersStay, LogsNothing}
use Rattle.bias_law.specs.inner.FreeBiases.{TakesFreeBiases}
use Rattle.core_world.proofs.KnowledgeParts.{by_equal, with_known_here, with_known_else}
use Rattle.bias_law.proofs.bias.Walks.{revokes_gently, verdict_of}
use Rattle.bias_law.proofs.Whole.{revocation_law, fewer_revoked, revoked_here, rebiased_here, rebiased_more, bulk_rebiases, bulk_revokes}
use Rattle.bias_law.proofs.bias.FarWords.{IsFar, left_alone}
use Rattle.bias_law.proofs.Leaning.{leans_by_mark, still_leans, same_classes}
use Rattle.bias_law.proofs.Owners.{unbiased_unowned}
-- The world w is in the middle of a revocation, all of whose stores are made; its requester releases, and then knows l. What its object's mark
-- was before the first store, the first premise says, and what it is now the last but one.
use Rattle.core_world.proofs.NoWordChanges.{one_requester}

-- no dump revokes a bias
revokes_no_dump : (a : Operation) (rebias : Bool) → RevokesWithin a rebias → a ≢ op.Dump
revokes_no_dump op.Dump rebias allowed same = allowed
revokes_no_dump _ rebias allowed same = cc same

module _ (w : World) (P : List PlainObject) (s : IsRevoking w P) (leaner : ℕ)
    (leant : lock s.before s.revocation.object ≡ BiasedTo leaner) (law : BiasLawHolds s.before) (over : s.rest ≡ [])
    (l : ThreadView) (word : ℕ) (took : Bool) (same_log : l.log ≡ (s.before.known s.requester).log)
    (same_counts : l.counts ≡ (w.known s.requester).counts) (same_unfinished : l.unfinished ≡ (w.known s.requester).unfinished)
    (stage_now : l.stage ≡ stage_after took s.revocation.object) (within : s.requester < s.before.shape.threads)
    (class_within : class_by s.before.shape s.before.words s.revocation.object < s.before.shape.classes)
    (taken : took ≡ true → lock (with_word_and_known Safepoint word s.requester l w) s.revocation.object
    ≡ BiasedTo s.requester) (dropped : took ≡ false → is_biased (marks w s.revocation.object) ≡ false)
    (unheld : took ≡ true → held_by nothing_held (s.before.known s.requester).log s.revocation.object ≡ 0) (by_rebias : took ≡ true
    → (verdict_of s.before.shape s.revocation s.before.words).0 ≡ BulkRebias) where
  abbrev b : World
  b = s.before

  abbrev t : ℕ
  t = s.requester

  abbrev o : ℕ
  o = s.revocation.object

  abbrev c : ℕ
  c = class_by s.before.shape s.before.words s.revocation.object

  abbrev x : World
  x = with_word_and_known Safepoint word s.requester l w

  abbrev d : Verdict × ℕ
  d = verdict_of s.before.shape s.revocation s.before.words

  -- all stores are made
  all_made : w.words ≡ words_after (revocation_writes b.shape t s.revocation b.words) b.words
  all_made = s.words ∙ ap (λ ws. words_after ws b.words) (sym (append_none (writes_in (w.known t).seen_at_safepoint))
      ∙ ap (λ r. writes_in (w.known t).seen_at_safepoint ++ r) (sym over) ∙ s.writes)
    where
      append_none : (ws : List Write) → ws ++ [] ≡ ws
      append_none [] = refl
      append_none (z ∷ ws) = ap (λ r. z ∷ r) (append_none ws)

  gentle : AddsNoBias o (MayLoseBias (class_by b.shape b.words) o d.0) (with_word (Revocations c) d.1 b.words) w.words
  gentle = subst (AddsNoBias o (MayLoseBias (class_by b.shape b.words) o d.0) (with_word (Revocations c) d.1 b.words))
      (sym all_made) (revokes_gently b.shape t s.revocation b.words)

  -- nobody runs before, so all threads are in the middle of nothing
  calm : (u : ℕ) → (b.known u).stage ≡ Settled
  calm u = elim (s.fits.quiet.quiet u ((s.fits.safe.safepoint t s.reached).1 u)) [
    | inl a ↦ a
    | inr a ↦ (let same : u ≡ t = one_requester b P s.fits.safe u t (s.fits.safe.safepoint u a.0).0 (s.fits.safe.safepoint t s.reached).0 in
        ap (λ y. (b.known y).stage) same ∙ s.was_calm)
  ]

  into_none : (u i : ℕ) → path_into (b.known u).stage i ≡ None
  into_none u i = ap (λ g. path_into g i) (calm u)

  here : (A : Type 0) (part : ThreadView → A) → part (x.known t) ≡ part l
  here A part = ap part (with_known_here t l w.known)

  away : (u : ℕ) → u ≢ t → x.known u ≡ b.known u
  away u n = with_known_else t l w.known u n ∙ s.others u n

  was : is_biased (marks b o) ≡ true
  was = (leans_by_mark b o leaner leant).0

  not_anonymous : is_anonymous (marks b o) ≡ false
  not_anonymous = (leans_by_mark b o leaner leant).1

  open_before : (b.known t).unfinished ≡ Some (record { op = s.operation; object = o })
  open_before = s.unfinished

  open_now : (x.known t).unfinished ≡ (b.known t).unfinished
  open_now = here (Option Unfinished) (λ k. k.unfinished) ∙ same_unfinished ∙ ap (λ (k : ThreadView). k.unfinished) s.knows

  counts_now : (x.known t).counts ≡ with_verdict_counted (b.known t).counts c d.0 (is_reset (b.words (Revocations c)) (b.words (LastBulk c)) s.revocation.now)
  counts_now = here (List CountedVerdict) (λ k. k.counts) ∙ same_counts ∙ ap (λ (k : ThreadView). k.counts) s.knows

  counts_else : (u : ℕ) → u ≢ t → (x.known u).counts ≡ (b.known u).counts
  counts_else u n = ap (λ (k : ThreadView). k.counts) (away u n)

  count_here : x.words (Revocations c) ≡ d.1
  count_here = gentle.counts c ∙ ap (λ (q : Bool). cond q d.1 (b.words (Revocations c))) (eq-eqb c c refl)

  count_else : (e : ℕ) → e ≢ c → x.words (Revocations e) ≡ b.words (Revocations e)
  count_else e n = gentle.counts e ∙ ap (λ (q : Bool). cond q d.1 (b.words (Revocations e))) (ne_eqb e c n)

  stage_is : (x.known t).stage ≡ stage_after took o
  stage_is = here Stage (λ k. k.stage) ∙ stage_now

  -- it is about to log an enter where it took the bias
  into_took : (i : ℕ) (path : Path) → path_into (x.known t).stage i ≡ Some path → (took ≡ true) × (o ≡ i) × (BiasTaken ≡ path)
  into_took i path h = by_took took refl (sym (ap (λ g. path_into g i) stage_is) ∙ h)
    where
      by_test : (q : Bool) → (o == i) ≡ q → cond (o == i) (Some BiasTaken) None ≡ Some path → (o ≡ i) × (BiasTaken ≡ path)
      by_test true e g = (eqb-true o i e, same_Some BiasTaken path (sym (ap (λ (k : Bool). cond k (Some BiasTaken) None) e) ∙ g))
      by_test false e g = absurd (let k = ap (λ (k : Bool). cond k (Some BiasTaken) None) e in cc (k, g))

      by_took : (q : Bool) → took ≡ q → path_into (stage_after took o) i ≡ Some path → (took ≡ true) × (o ≡ i) × (BiasTaken ≡ path)
      by_took true e g = let r = by_test (o == i) refl (ap (λ (k : Bool). path_into (stage_after k o) i) (sym e) ∙ g) in (e, r.0, r.1)
      by_took false e g = absurd (let k = ap (λ (k : Bool). path_into (stage_after k o) i) e in cc (k, g))

  takes_it : took ≡ true → path_into (x.known t).stage o ≡ Some BiasTaken
  takes_it e = ap (λ g. path_into g o) stage_is ∙ ap (λ (k : Bool). path_into (stage_after k o) o) e
      ∙ ap (λ (k : Bool). cond k (Some BiasTaken) None) (eq-eqb o o refl)

  -- the object's mark is biased to nobody, or to the thread, where that took the bias
  own_owner : (u : ℕ) → bias_owner (marks x o) ≡ Some u → (q : Bool) → took ≡ q → (i : ℕ) → i ≡ o
      → (bias_owner (marks b i) ≡ Some u) ⊎ ((u ≡ t) × (path_into (x.known t).stage i ≡ Some BiasTaken))
  own_owner u h true e i same = inr (same_Some u t (sym h ∙ (leans_by_mark x o t (taken e)).2), ap (λ j. path_into (x.known t).stage j) same ∙ takes_it e)
  own_owner u h false e i same = absurd (let none = unbiased_unowned (marks w o) (dropped e) in cc (none, h))

  was_decided : IsDecided (marks x) (x.known t).stage (Some (record { op = s.operation; object = o }))
  was_decided = (revokes_no_dump s.operation s.revocation.rebias s.allowed, by_took took refl)
    where
      by_took : (q : Bool) → took ≡ q → (is_biased (marks x o) ≡ false) ⊎ (path_into (x.known t).stage o ≡ Some BiasTaken)
      by_took true e = inr (takes_it e)
      by_took false e = inl (dropped e)

  -- its verdict was counted on the class
  more : sum_below b.shape.threads (λ v. (counts_of (x.known v).counts c).revoke)
      ≡ sum_below b.shape.threads (λ v. (counts_of (b.known v).counts c).revoke) + bulk_revokes d.0
  more = revoked_here b.biasing b.shape.threads b.shape.classes (is_logged b.shape (logs b)) (class_by b.shape b.words) (marks b)
      (lock b) (λ i. entries_on i (order (logs b))) (λ u. (b.known u).log) (λ u. (b.known u).stage) (λ u. (b.known u).unfinished)
      (λ e. b.words (Revocations e)) (λ u. counts_of (b.known u).counts) (marks x) (lock x) (λ u. (x.known u).stage) (λ u. (x.known u).unfinished) t law
      c (b.words (LastBulk c)) s.revocation.now (record { op = s.operation; object = o }) (λ u. counts_of (x.known u).counts)
      (λ e. x.words (Revocations e)) within class_within (ap counts_of counts_now) (λ u n. ap counts_of (counts_else u n)) count_here count_else

  more_rebiased : sum_below b.shape.threads (λ v. (counts_of (x.known v).counts c).rebias)
      ≡ sum_below b.shape.threads (λ v. (counts_of (b.known v).counts c).rebias) + bulk_rebiases d.0
  more_rebiased = rebiased_here b.biasing b.shape.threads b.shape.classes (is_logged b.shape (logs b)) (class_by b.shape b.words)
      (marks b) (lock b) (λ i. entries_on i (order (logs b))) (λ u. (b.known u).log) (λ u. (b.known u).stage) (λ u. (b.known u).unfinished)
      (λ e. b.words (Revocations e)) (λ u. counts_of (b.known u).counts) (marks x) (lock x) (λ u. (x.known u).stage) (λ u. (x.known u).unfinished) t law
      c (b.words (LastBulk c)) s.revocation.now (record { op = s.operation; object = o }) (λ u. counts_of (x.known u).counts)
      (λ e. x.words (Revocations e)) within class_within (ap counts_of counts_now) (λ u n. ap counts_of (counts_else u n)) count_here count_else

  still_unrevoked : (e : ℕ) → sum_below b.shape.threads (λ u. (counts_of (x.known u).counts e).revoke) ≡ 0
      → sum_below b.shape.threads (λ u. (counts_of (b.known u).counts e).revoke) ≡ 0
  still_unrevoked = fewer_revoked b.biasing b.shape.threads b.shape.classes (is_logged b.shape (logs b)) (class_by b.shape b.words)
      (marks b) (lock b) (λ i. entries_on i (order (logs b))) (λ u. (b.known u).log) (λ u. (b.known u).stage) (λ u. (b.known u).unfinished)
      (λ e. b.words (Revocations e)) (λ u. counts_of (b.known u).counts) (marks x) (lock x) (λ u. (x.known u).stage) (λ u. (x.known u).unfinished) t law
      c (b.words (LastBulk c)) s.revocation.now (record { op = s.operation; object = o }) (λ u. counts_of (x.known u).counts)
      (λ e. x.words (Revocations e)) within class_within (ap counts_of counts_now) (λ u n. ap counts_of (counts_else u n)) count_here count_else

  -- a class that is revoked in bulk now is counted so
  revoked_now : d.0 ≡ BulkRevoke → (i : ℕ) → class_by b.shape b.words i ≡ c
      → sum_below b.shape.threads (λ u. (counts_of (x.known u).counts (class_by b.shape b.words i)).revoke) ≡ 0 → ⊥
  revoked_now e i q r =
      let k = ap bulk_revokes e in
      let n : sum_below b.shape.threads (λ u. (counts_of (x.known u).counts c).revoke) ≡ 0 =
      subst (λ j. sum_below b.shape.threads (λ u. (counts_of (x.known u).counts j).revoke) ≡ 0) q r in
      omega (arith, k, n, more)

  -- and one that is rebiased in bulk is counted so
  abbrev IsRebiased : ℕ → Type 0
  IsRebiased e = sum_below s.before.shape.threads (λ u. (counts_of (s.before.known u).counts e).rebias)
      < sum_below s.before.shape.threads (λ u. (counts_of ((with_word_and_known Safepoint word s.requester l w).known u).counts e).rebias)

  rebiased_now : d.0 ≡ BulkRebias → (i : ℕ) → class_by b.shape b.words i ≡ c → IsRebiased (class_by b.shape b.words i)
  rebiased_now e i q = let k = ap bulk_rebiases e in subst IsRebiased (sym q) (omega (arith, k, more_rebiased))

  -- an object of a class that isn't revoked in bulk stays biased to nobody
  untouched : (v : Verdict) → d.0 ≡ v → (i : ℕ) → sum_below b.shape.threads (λ u. (counts_of (x.known u).counts (class_by b.shape b.words i)).revoke)
      ≡ 0 → is_anonymous (marks b i) ≡ true → MayLoseBias (class_by b.shape b.words) o v i → ⊥
  untouched Single e i r h q = absurd (let k = ap (λ j. is_anonymous (marks b j)) q in cc (k, h, not_anonymous))
  untouched BulkRebias e i r h q = absurd (let k = ap (λ j. is_anonymous (marks b j)) q in cc (k, h, not_anonymous))
  untouched BulkRevoke e i r h q = absurd (revoked_now e i q r)

  rest_stays : OthersStay t (λ u. (b.known u).log) (λ u. (b.known u).stage) (λ u. (b.known u).unfinished)
      (λ u. (b.known u).log) (λ u. (x.known u).stage) (λ u. (x.known u).unfinished)
  rest_stays = record {
    logs = λ u n. refl;
    stages = λ u n. ap (λ (k : ThreadView). k.stage) (away u n);
    operations = λ u n. ap (λ (k : ThreadView). k.unfinished) (away u n);
  }

  quietly : LogsNothing b.biasing t (class_by b.shape b.words) (marks b) (lock b)
      (λ i. entries_on i (order (logs b))) (λ u. (b.known u).stage) (λ u. (b.known u).unfinished)
      (λ e. sum_below b.shape.threads (λ u. (counts_of (b.known u).counts e).revoke)) (marks x) (lock x) (λ u. (x.known u).stage)
      (λ u. (x.known u).unfinished) (λ e. sum_below b.shape.threads (λ u. (counts_of (x.known u).counts e).revoke))
  quietly = record {
    pattern = λ i h. gentle.pattern i h;
    owners = λ i u h. by_equal i o (λ e. own_owner u (ap (λ j. bias_owner (marks x j)) (sym e) ∙ h) took refl i e) (λ n. inl (gentle.owners i u n h));
    leans = λ i u path n h g. absurd (let k = into_none u i in cc (k, h));
    biased = λ i path h g. let k = into_took i path h in ap (lock x) (sym k.1) ∙ taken k.0;
    unbiased = λ i path h g. absurd (let k = into_took i path h in let j = ap is_by_bias k.2 in cc (j, g));
    taking = λ i h. absurd (let k = into_none t i in cc (k, h));
    hash = λ i h. open_now ∙ h;
    nobody = λ e i r f h. inl (gentle.nobody i (λ q. untouched d.0 refl i r h q) h);
    fewer = still_unrevoked;
  }

  -- a bias that is free afterwards was free before, or its class is rebiased in bulk
  abbrev WasFree : ℕ → Type 0
  WasFree = IsFree (class_by s.before.shape s.before.words) (marks s.before) (lock s.before)
      (λ e. sum_below s.before.shape.threads (λ u. (counts_of (s.before.known u).counts e).revoke))

  abbrev NowFree : ℕ → Type 0
  NowFree = IsFree (class_by s.before.shape s.before.words) (marks (with_word_and_known Safepoint word s.requester l w))
      (lock (with_word_and_known Safepoint word s.requester l w))
      (λ e. sum_below s.before.shape.threads (λ u. (counts_of ((with_word_and_known Safepoint word s.requester l w).known u).counts e).revoke))

  far_free : (i : ℕ) → IsFar (class_by b.shape b.words) o d.0 i → NowFree i → WasFree i
  far_free i far f =
      let alone = left_alone b.shape t s.revocation i b.words far in
      let mark : marks x i ≡ marks b i = ap (λ (g : WordId → ℕ). g (Mark i)) all_made ∙ alone.0 in
      let prototype : prototype_of x i ≡ prototype_of b i =
      ap (λ (z : Shape). w.words (Prototype (class_by z w.words i))) s.shape
      ∙ ap (λ (k : ℕ → ℕ). w.words (Prototype (k i))) (same_classes b.shape w.words b.words gentle.classes)
      ∙ ap (λ (g : WordId → ℕ). g (Prototype (class_by b.shape b.words i))) all_made ∙ alone.1 in
      (still_unrevoked (class_by b.shape b.words i) f.0, ap is_biased (sym mark) ∙ f.1, λ u h. f.2 u (still_leans b x i mark prototype u h))

  own_unfree : (i : ℕ) → i ≡ o → NowFree i → ⊥
  own_unfree i same f = by_took took refl
    where
      by_took : (q : Bool) → took ≡ q → ⊥
      by_took true e = f.2 t (ap (lock x) same ∙ taken e)
      by_took false e = let none = dropped e in let biased = ap (λ j. is_biased (marks x j)) (sym same) ∙ f.1 in cc (none, biased)

  freed : (v : Verdict) → d.0 ≡ v → (i : ℕ) → NowFree i → WasFree i ⊎ IsRebiased (class_by b.shape b.words i)
  freed Single e i f = by_equal i o (λ q. absurd (own_unfree i q f)) (λ n. inl (far_free i (subst (λ v. IsFar (class_by b.shape b.words) o v i) (sym e) n) f))
  freed BulkRebias e i f = by_equal (class_by b.shape b.words i) c (λ q. inr (rebiased_now e i q))
      (λ n. inl (far_free i (subst (λ v. IsFar (class_by b.shape b.words) o v i) (sym e) n) f))
  freed BulkRevoke e i f = by_equal (class_by b.shape b.words i) c (λ q. absurd (revoked_now e i q f.0))
      (λ n. inl (far_free i (subst (λ v. IsFar (class_by b.shape b.words) o v i) (sym e) n) f))

  takes_free : TakesFreeBiases t (class_by b.shape b.words) (marks b) (lock b) (λ u. (b.known u).stage) (λ e. sum_below b.shape.threads
      (λ u. (counts_of (b.known u).counts e).rebias)) (λ e. sum_below b.shape.threads (λ u. (counts_of (b.known u).counts e).revoke))
      (marks x) (lock x) (λ u. (x.known u).stage) (λ e. sum_below b.shape.threads (λ u. (counts_of (x.known u).counts e).rebias))
      (λ e. sum_below b.shape.threads (λ u. (counts_of (x.known u).counts e).revoke))
  takes_free = record {
    more = rebiased_more b.biasing b.shape.threads b.shape.classes (is_logged b.shape (logs b)) (class_by b.shape b.words) (marks b)
        (lock b) (λ i. entries_on i (order (logs b))) (λ u. (b.known u).log) (λ u. (b.known u).stage) (λ u. (b.known u).unfinished)
        (λ e. b.words (Revocations e)) (λ u. counts_of (b.known u).counts) (marks x) (lock x) (λ u. (x.known u).stage) (λ u. (x.known u).unfinished) t law
        c (b.words (LastBulk c)) s.revocation.now (record { op = s.operation; object = o })
        (λ u. counts_of (x.known u).counts) (λ e. x.words (Revocations e)) within class_within
        (ap counts_of counts_now) (λ u n. ap counts_of (counts_else u n)) count_here count_else;
    comes = λ i h. let k = into_took i BiasTaken h in inr (inr (rebiased_now (by_rebias k.0) i (ap (class_by b.shape b.words) (sym k.1))));
    free = freed d.0 refl;
  }

  path_fits : (i : ℕ) (path : Path) → path_into (x.known t).stage i ≡ Some path → PathFits (held_by nothing_held (b.known t).log) (entry.Enter i path)
  path_fits i path h =
      let k = into_took i path h in
      let first : PathFits (held_by nothing_held (b.known t).log) (entry.Enter o BiasTaken) = ap (λ n. (n == 0) && true) (sym (unheld k.0)) in
      subst (λ j. PathFits (held_by nothing_held (b.known t).log) (entry.Enter j path)) k.1
      (subst (λ q. PathFits (held_by nothing_held (b.known t).log) (entry.Enter o q)) k.2 first)

  biased_heap : (q : Bool) → b.biasing ≡ q → b.biasing ≡ true
  biased_heap true e = e
  biased_heap false e = absurd (let k = s.fits.classes.unbiased e o in cc (k, was))

  -- the law, of the words after the release
  pub released : BiasLaw b.biasing b.shape.threads b.shape.classes (is_logged b.shape (logs b)) (class_by b.shape b.words)
      (marks x) (lock x) (λ i. entries_on i (order (logs b))) (λ u. (b.known u).log) (λ u. (x.known u).stage)
      (λ u. (x.known u).unfinished) (λ e. x.words (Revocations e)) (λ u. counts_of (x.known u).counts)
  released = revocation_law b.biasing b.shape.threads b.shape.classes (is_logged b.shape (logs b)) (class_by b.shape b.words) (marks b)
      (lock b) (λ i. entries_on i (order (logs b))) (λ u. (b.known u).log) (λ u. (b.known u).stage) (λ u. (b.known u).unfinished)
      (λ e. b.words (Revocations e)) (λ u. counts_of (b.known u).counts) (marks x) (lock x) (λ u. (x.known u).stage) (λ u. (x.known u).unfinished) t law
      c (b.words (LastBulk c)) s.revocation.now (record { op = s.operation; object = o }) (λ u. counts_of (x.known u).counts)
      (λ e. x.words (Revocations e)) within class_within (ap counts_of counts_now) (λ u n. ap counts_of (counts_else u n)) count_here count_else
      (biased_heap b.biasing refl) open_before (open_now ∙ open_before) was (into_none t o) was_decided rest_stays quietly takes_free path_fits
