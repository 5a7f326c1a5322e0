-- The step that ends a revocation, on no word of its object: the law of biases held of the world before the first store, and holds of the world after
-- this step. It is the release, here, or a load.
use Rattle.std.proofs.Common.{◌≡◌, ℕ, zero, suc, ◌+◌, ◌<◌, eq-eqb, cond, Bool, true, List, ◌∷◌, refl, sym, ap, ◌∙◌, subst, arith, inr}
use Rattle.mark_word.specs.Mark.{read_mark}
use Rattle.plain_monitor.specs.Objects.{PlainObject}
use Rattle.plain_monitor.specs.Order.{order}
use Rattle.plain_history.specs.EnterPaths.{entries_on}
use Rattle.core_world.specs.declared.plan.StepPlan.{StepPlan}
use Rattle.core_world.specs.declared.word_id.WordId.TheVariants.{Safepoint, Revocations}
use Rattle.core_world.specs.Threads.Counts.{counts_of}
use Rattle.core_world.specs.Threads.ThreadView.{ThreadView}
use Rattle.core_world.specs.Locks.{BiasedTo, lock, marks, hold_count, prototype_of}
use Rattle.core_world.specs.Trees.Plans.{CallContext}
use Rattle.core_world.specs.Trees.SafepointSteps.{reached_word, released_word}
use Rattle.core_world.specs.declared.act.Act.TheVariants.{CompareExchange}
use Rattle.core_world.specs.Words.Acts.{word_after}
use Rattle.core_locks.proofs.safepoint.SafeEnds.{reached_finds}
use Rattle.plain_history.specs.HeldByLog.{held_by, nothing_held}
use Rattle.core_world.specs.Words.Shape.{Shape}
use Rattle.core_world.specs.Words.Names.{class_by}
use Rattle.core_world.specs.Steps.{world_after, known_hit, known_miss, known_after}
use Rattle.core_world.specs.Valid.{IsRevoking}
use Rattle.core_world.specs.World.{World, with_word_and_known, logs, logs_from}
use Rattle.core_world.proofs.Frames.{same}
use Rattle.core_world.proofs.There.{class_in_heap}
use Rattle.core_world.proofs.KnowledgeParts.{each_with_known}
use Rattle.core_law.specs.BiasLaw.{BiasLaw, BiasLawHolds, is_logged}
use Rattle.bias_law.specs.Steps.{MayEndRevocation}
use Rattle.core_world.specs.Trees.BiasSteps.{stage_after}
use Rattle.core_world.specs.Trees.SafepointSteps.{release_plan}
use Rattle.bias_law.proofs.bias.ObjectLeft.{requester_within, valid_leans, took_by_rebias, leaves_object, class_words}
use Rattle.bias_law.specs.Steps.{LeavesObject}
use Rattle.bias_law.proofs.enter_exit.Holds.{held_named}
use Rattle.bias_law.proofs.Leaning.{LeansTo, leans, still_leans, by_class_words}
use Rattle.bias_law.proofs.bias.Releases.{released}

-- the same logs, one by one and as a list
pub logs_same : (f g : ℕ → ThreadView) (u n : ℕ) → ((v : ℕ) → (f v).log ≡ (g v).log) → logs_from u n f ≡ logs_from u n g
logs_same f g u zero h = refl
logs_same f g u (suc n) h = λ i. h u i ∷ logs_same f g (u + 1) n h i

-- THE STEP, after which the thread knows l, and the safepoint word is this one
module _ (w : World) (P : List PlainObject) (s : IsRevoking w P) (e : CallContext) (took : Bool) (may : MayEndRevocation w P s e took)
    (law : BiasLawHolds s.before) (l : ThreadView) (word : ℕ) (same_log : l.log ≡ (w.known s.requester).log)
    (same_counts : l.counts ≡ (w.known s.requester).counts) (same_unfinished : l.unfinished ≡ (w.known s.requester).unfinished)
    (stage_now : l.stage ≡ stage_after took s.revocation.object) where
  abbrev b : World
  b = s.before

  abbrev t : ℕ
  t = s.requester

  abbrev o : ℕ
  o = s.revocation.object

  abbrev x : World
  x = with_word_and_known Safepoint word s.requester l w

  within : t < b.shape.threads
  within = requester_within w P s may.over

  leaner : (u : ℕ) × LeansTo (read_mark (marks b o)) (prototype_of b o) u
  leaner = valid_leans (read_mark (marks b o)) (prototype_of b o) s.biased

  -- what the stores left
  left : LeavesObject w t o took
  left = subst (LeavesObject w t o) (sym may.says) (leaves_object w P s may.over)

  log_is : l.log ≡ (b.known t).log
  log_is = same_log ∙ ap (λ (k : ThreadView). k.log) s.knows

  holds_are : (w.known t).holds ≡ (b.known t).holds
  holds_are = ap (λ (k : ThreadView). k.holds) s.knows

  -- the step is on no word of the object
  taken : took ≡ true → lock x o ≡ BiasedTo t
  taken h = still_leans w x o refl refl t (left.taken h).0

  unheld : took ≡ true → held_by nothing_held (b.known t).log o ≡ 0
  unheld h =
      let a = (left.taken h).1 in
      let c = ap (λ hs. hold_count o hs) holds_are in
      let d = held_named b P t o within s.fits in
      omega (arith, a, c, d)

  after_release : BiasLaw b.biasing b.shape.threads b.shape.classes (is_logged b.shape (logs b)) (class_by b.shape b.words)
      (marks x) (lock x) (λ i. entries_on i (order (logs b))) (λ u. (b.known u).log) (λ u. (x.known u).stage)
      (λ u. (x.known u).unfinished) (λ c. x.words (Revocations c)) (λ u. counts_of (x.known u).counts)
  after_release = released w P s leaner.0 (leans b o leaner.0 leaner.1) law may.over l word took log_is same_counts same_unfinished stage_now within
      (class_in_heap b.shape b.words o s.fits.limits (s.fits.forms.classes o) s.object) taken left.dropped unheld
      (λ h. took_by_rebias w P s may.over (sym may.says ∙ h))

  -- nobody has logged anything since the revocation began
  log_now : (u : ℕ) → (x.known u).log ≡ (b.known u).log
  log_now u = each_with_known (λ u k. k.log ≡ (b.known u).log) t l w.known u log_is (λ d. ap (λ (k : ThreadView). k.log) (s.others u d))

  logs_now : logs x ≡ logs b
  logs_now = ap (λ n. logs_from 0 n x.known) (ap (λ (h : Shape). h.threads) s.shape) ∙ logs_same x.known b.known 0 b.shape.threads log_now

  pub ended : BiasLawHolds x
  ended =
      subst (λ h. BiasLaw w.biasing h.threads h.classes (is_logged h (logs x)) (class_by h w.words) (marks x)
      (lock x) (λ i. entries_on i (order (logs x))) (λ u. (x.known u).log) (λ u. (x.known u).stage)
      (λ u. (x.known u).unfinished) (λ c. x.words (Revocations c)) (λ u. counts_of (x.known u).counts)) (sym s.shape)
      (by_class_words (λ class. BiasLaw w.biasing b.shape.threads b.shape.classes (is_logged b.shape (logs x)) class (marks x) (lock x)
      (λ i. entries_on i (order (logs x))) (λ u. (x.known u).log) (λ u. (x.known u).stage) (λ u. (x.known u).unfinished)
      (λ c. x.words (Revocations c)) (λ u. counts_of (x.known u).counts)) b.shape b.words w.words
      (λ i. sym (class_words w P s may.over i))
      (subst (λ h. BiasLaw h b.shape.threads b.shape.classes (is_logged b.shape (logs x)) (class_by b.shape b.words)
      (marks x) (lock x) (λ i. entries_on i (order (logs x))) (λ u. (x.known u).log) (λ u. (x.known u).stage)
      (λ u. (x.known u).unfinished) (λ c. x.words (Revocations c)) (λ u. counts_of (x.known u).counts)) (sym s.biasing)
      (subst (λ f. BiasLaw b.biasing b.shape.threads b.shape.classes (is_logged b.shape (logs x))
      (class_by b.shape b.words) (marks x) (lock x) (λ i. entries_on i (order (logs x))) f (λ u. (x.known u).stage)
      (λ u. (x.known u).unfinished) (λ c. x.words (Revocations c)) (λ u. counts_of (x.known u).counts)) (same (λ u. sym (log_now u)))
      (subst (λ ls. BiasLaw b.biasing b.shape.threads b.shape.classes (is_logged b.shape ls) (class_by b.shape b.words)
      (marks x) (lock x) (λ i. entries_on i (order ls)) (λ u. (b.known u).log) (λ u. (x.known u).stage)
      (λ u. (x.known u).unfinished) (λ c. x.words (Revocations c)) (λ u. counts_of (x.known u).counts)) (sym logs_now) after_release))))

-- THE RELEASE
module _ (w : World) (P : List PlainObject) (s : IsRevoking w P) (e : CallContext)
    (took : Bool) (may : MayEndRevocation w P s e took) (law : BiasLawHolds s.before) where
  abbrev plan : StepPlan
  plan = release_plan e (stage_after took s.revocation.object) s.requester

  abbrev left_knowing : ThreadView
  left_knowing = known_hit w.shape w.start plan (reached_word s.requester) (w.known s.requester)

  finds : w.words Safepoint ≡ reached_word s.requester
  finds = reached_finds w P s.requester (ap (λ (k : ThreadView). k.reached) s.knows ∙ s.reached) (inr s)

  abbrev found : ℕ → World
  found n = with_word_and_known Safepoint (word_after (CompareExchange (reached_word s.requester) (released_word s.requester)) n) s.requester
      (known_after w.shape w.start plan n (w.known s.requester)) w

  pub revocation_ended : BiasLawHolds (world_after (release_plan e (stage_after took s.revocation.object) s.requester) s.requester w)
  revocation_ended =
      let reached = reached_word s.requester in
      let released_now = released_word s.requester in
      subst (λ n. BiasLawHolds (found n)) (sym finds)
      (subst (λ (c : Bool). BiasLawHolds (with_word_and_known Safepoint (cond c released_now reached) s.requester
      (cond c left_knowing (known_miss w.shape w.start plan reached (w.known s.requester))) w))
      (sym (eq-eqb reached reached refl)) (ended w P s e took may law left_knowing released_now refl refl may.goes_on refl))
