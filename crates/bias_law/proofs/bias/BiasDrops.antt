-- The law of biases after an exchange of a mark that is validly biased to nobody for one without the bias pattern.
use Rattle.std.proofs.Common.{◌≡◌, ◌≢◌, ◌⊎◌, ℕ, zero, suc, ◌+◌, ◌*◌, ◌%◌, ◌<◌, ◌==◌, eq-eqb, ne_eqb, eqb-true, cond}
use Rattle.std.proofs.Common.{Bool, true, false, List, Some, None, refl, sym, ap, ◌∙◌, subst, arith, inl, inr}
use Rattle.std.proofs.Math.Nat.{mod-lt}
use Rattle.mark_word.specs.Mark.{read_mark}
use Rattle.plain_monitor.specs.Objects.{PlainObject}
use Rattle.core_world.specs.declared.word_id.WordId.TheVariants.{Mark, Prototype, Class}
use Rattle.core_world.specs.declared.stage.Stage.TheVariants.{Settled}
use Rattle.core_world.specs.declared.heap_call.Operation.TheVariants as op
use Rattle.core_world.specs.Clauses.Classes.{bulk_rebiases, bulk_revokes}
use Rattle.core_world.specs.Threads.Counts.{CountedVerdict, counts_of}
use Rattle.core_world.specs.Words.Forms.{is_biased, epoch_in}
use Rattle.core_world.specs.Threads.ThreadView.{ThreadView}
use Rattle.core_world.specs.Locks.{lock, is_valid_bias, marks, prototype_of}
use Rattle.core_world.specs.Trees.Plans.{CallContext}
use Rattle.core_world.specs.Clauses.Safepoints.{IsUnfinished}
use Rattle.core_world.specs.Words.Names.{class_by}
use Rattle.core_world.proofs.There.{class_seen}
use Rattle.core_world.specs.Threads.Stages.{path_into}
use Rattle.core_world.specs.Steps.{world_after, known_hit}
use Rattle.core_world.specs.Valid.{Fits}
use Rattle.core_world.specs.World.{World, with_word_and_known}
use Rattle.core_world.proofs.KnowledgeParts.{by_equal, with_known_here}
use Rattle.core_law.specs.BiasLaw.{BiasLawHolds}
use Rattle.core_law.specs.CountsAndVerdicts.{sum_below}
use Rattle.core_law.specs.BiasOwners.{bias_owner}
use Rattle.core_law.specs.MarksAndLogs.{is_anonymous}
use Rattle.bias_law.specs.Steps.{MayDropBias}
use Rattle.core_world.specs.Trees.BiasSteps.{unbias_plan}
use Rattle.bias_law.proofs.Leaning.{still_leans, unleaning}
use Rattle.bias_law.proofs.Owners.{unbiased_unowned}
use Rattle.bias_law.proofs.Beside.{quiet_world, hit_keeps}

-- Where nobody has entered the object, and its class wasn't revoked in bulk, a hash of it is open now.
module _ (w : World) (t o new : ℕ) (l : ThreadView) (law : BiasLawHolds w) (same_log : l.log ≡ (w.known t).log) (same_counts : l.counts ≡ (w.known t).counts)
    (goes : (l.unfinished ≡ (w.known t).unfinished) ⊎ ((w.known t).unfinished ≡ None)) (calm : (w.known t).stage ≡ Settled)
    (still : l.stage ≡ Settled) (biased : is_biased (marks w o) ≡ true) (neutral : is_biased new ≡ false)
    (free : is_valid_bias (read_mark (marks w o)) (prototype_of w o) ≡ false)
    (hash : w.biasing ≡ true → sum_below w.shape.threads (λ u. (counts_of (w.known u).counts (class_by w.shape w.words o)).revoke) ≡ 0
    → IsUnfinished l.unfinished op.Hash o) where
  abbrev x : World
  x = with_word_and_known (Mark o) new t l w

  here : marks x o ≡ new
  here = ap (λ (b : Bool). cond b new (marks w o)) (eq-eqb o o refl)

  away : (i : ℕ) → i ≢ o → marks x i ≡ marks w i
  away i d = ap (λ (b : Bool). cond b new (marks w i)) (ne_eqb i o d)

  no_path : (i : ℕ) → path_into (x.known t).stage i ≡ None
  no_path i = ap (λ (k : ThreadView). path_into k.stage i) (with_known_here t l w.known) ∙ ap (λ s. path_into s i) still

  open_is : (x.known t).unfinished ≡ l.unfinished
  open_is = ap (λ (k : ThreadView). k.unfinished) (with_known_here t l w.known)

  abbrev revoked : ℕ → ℕ
  revoked i = sum_below w.shape.threads (λ u. (counts_of (w.known u).counts (class_by w.shape w.words i)).revoke)

  dropped_hit : BiasLawHolds x
  dropped_hit = quiet_world w (Mark o) new t l law same_log same_counts goes (λ c. refl) (λ i. refl)
      (record {
        pattern = λ i h. by_equal i o (λ s. ap (λ j. is_biased (marks w j)) s ∙ biased) (λ d. ap is_biased (sym (away i d)) ∙ h);
        owners = λ i u h. by_equal i o
            (λ s. absurd (let g = unbiased_unowned new neutral in let k = ap (λ j. bias_owner (marks x j)) s ∙ ap bias_owner here in cc (g, k, h)))
            (λ d. inl (ap bias_owner (sym (away i d)) ∙ h));
        leans = λ i u path d h g. by_equal i o (λ s. absurd (unleaning w o u free (ap (lock w) (sym s) ∙ g))) (λ n. still_leans w x i (away i n) refl u g);
        biased = λ i path h g. absurd (let n = no_path i in cc (n, h));
        unbiased = λ i path h g. absurd (let n = no_path i in cc (n, h));
        taking = λ i h. absurd (let s = ap (λ s. path_into s i) calm in cc (s, h));
        hash = λ i h. elim goes [ inl g ↦ open_is ∙ g ∙ h | inr g ↦ absurd (cc (g, h)) ];
        nobody = λ b i r f h. by_equal i o
            (λ s. inr (inr (open_is ∙ subst (λ j. IsUnfinished l.unfinished op.Hash j) (sym s) (hash b (subst (λ j. revoked j ≡ 0) s r)))))
            (λ d. inl (ap is_anonymous (away i d) ∙ h));
        fewer = λ c h. h;
      })
      (record {
        more = λ c. omega arith;
        comes = λ i h. absurd (let n = no_path i in cc (n, h));
        free = λ i f. by_equal i o
            (λ s. absurd (let g = ap (λ j. is_biased (marks x j)) s ∙ ap is_biased here ∙ neutral in let k = f.1 in cc (g, k)))
            (λ d. inl (f.0, ap is_biased (sym (away i d)) ∙ f.1, λ u h. f.2 u (still_leans w x i (away i d) refl u h)));
      })
      (λ i path h. absurd (let s = ap (λ s. path_into s i) still in cc (s, h)))

-- the sum of the bulk revokes, in either way of writing it
pub revokes_sum : (n : ℕ) (counts : ℕ → List CountedVerdict) (c : ℕ) → bulk_revokes n counts c ≡ sum_below n (λ u. (counts_of (counts u) c).revoke)
revokes_sum zero counts c = refl
revokes_sum (suc n) counts c = ap (λ m. m + (counts_of (counts n) c).revoke) (revokes_sum n counts c)

-- a prototype has an epoch while its class wasn't revoked in bulk
epoch_in_prototype : (m : ℕ) → m < 4 → epoch_in (m * 256 + 5) ≡ Some m
unfolding read_mark
epoch_in_prototype zero h = refl
epoch_in_prototype (suc zero) h = refl
epoch_in_prototype (suc (suc zero)) h = refl
epoch_in_prototype (suc (suc (suc zero))) h = refl
epoch_in_prototype (suc (suc (suc (suc m)))) h = absurd (omega (arith, h))

pub bias_dropped : (w : World) (P : List PlainObject) (t : ℕ) (e : CallContext) (o mark prototype neutral : ℕ)
    → t < w.shape.threads → MayDropBias w.shape (w.known t) e o mark prototype neutral
    → Fits w P → BiasLawHolds w → BiasLawHolds (world_after (unbias_plan e o mark neutral) t w)
bias_dropped w P t e o mark prototype neutral within may v law =
    hit_keeps w t (unbias_plan e o mark neutral) law (λ h.
    let is : marks w o ≡ mark = eqb-true (marks w o) mark h in
    let class : class_by w.shape w.words o ≡ may.saw.class =
    class_seen w.shape w.words (w.known t).seen o may.saw.class (λ c k d. v.seen.stays t (Class o) c k (inl (may.runs, d))) may.saw.saw_class in
    let proto : prototype_of w o ≡ prototype = ap (λ c. w.words (Prototype c)) class
    ∙ v.seen.stays t (Prototype may.saw.class) prototype may.saw.seen (inl (may.runs, tt)) in
    let biased : is_biased (marks w o) ≡ true = ap is_biased is ∙ may.saw.biased in
    let free : is_valid_bias (read_mark (marks w o)) (prototype_of w o) ≡ false =
    ap (λ m. is_valid_bias (read_mark m) (prototype_of w o)) is ∙ ap (is_valid_bias (read_mark mark)) proto ∙ may.saw.free in
    let k : ThreadView = known_hit w.shape w.start (unbias_plan e o mark neutral) (marks w o) (w.known t) in
    subst (λ n. BiasLawHolds (with_word_and_known (Mark o) n t k w))
    (ap (λ (b : Bool). cond b neutral (marks w o)) (sym h))
    (dropped_hit w t o neutral k law refl refl may.goes_on may.calm refl biased may.unbiased free (λ b none. elim may.why [
      | inl plain ↦ absurd (unrevoked proto plain b none)
      | inr other ↦ elim other [
        | inl g ↦ g
        | inr held ↦ absurd (let a = v.biases.unheld o t biased (unleaning w o t free) in omega (arith, a, held))
      ]
    ])))
  where
    unrevoked : prototype_of w o ≡ prototype → epoch_in prototype ≡ None → w.biasing ≡ true
        → sum_below w.shape.threads (λ u. (counts_of (w.known u).counts (class_by w.shape w.words o)).revoke) ≡ 0 → ⊥
    unrevoked proto plain b none =
        let c = class_by w.shape w.words o in
        let r : ℕ = bulk_rebiases w.shape.threads (λ u. (w.known u).counts) c in
        let zeroed : bulk_revokes w.shape.threads (λ u. (w.known u).counts) c ≡ 0 = revokes_sum w.shape.threads (λ u. (w.known u).counts) c ∙ none in
        let is : prototype_of w o ≡ r % 4 * 256 + 5 = v.classes.prototypes b c ∙ ap (λ n. cond (n == 0) (r % 4 * 256 + 5) 1) zeroed in
        let some = epoch_in_prototype (r % 4) (mod-lt r (omega arith)) in
        let stands : epoch_in prototype ≡ Some (r % 4) = ap epoch_in (sym proto ∙ is) ∙ some in
        cc (plain, stands)
