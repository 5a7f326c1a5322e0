-- The exchanges of an anonymous or stale mark, whether they hit or miss.
use Rattle.core_locks.proofs.Prelude.{◌≡◌, ℕ, ◌+◌, ◌*◌, ◌<◌, ◌==◌, eq-eqb, eqb-true, Bool, true, false, if◌then◌else◌, List, Option, Some, None}
use Rattle.core_locks.proofs.Prelude.{refl, sym, ap, ◌∙◌, subst, arith, inl, inr, MarkForm, Anonymous, Biased, mark_of, read_mark, read_mark-mark_of}
use Rattle.core_locks.proofs.Prelude.{PlainObject, Mark, Prototype, StepPlan, hits, class_by, is_biased, is_biased_form, epoch_in, World, Open}
use Rattle.core_locks.proofs.Prelude.{BiasedTo, has_epoch, lock, lock_form, marks, owner_words, prototype_of, inflations, hold_count, CallContext}
use Rattle.core_locks.proofs.Prelude.{world_after, Fits, IsValid, IsMark, miss_valid, fits_running, KeepsValid, MayLoad, load_plan}
use Rattle.std.proofs.Common.{◌%◌}
use Rattle.core_world.specs.declared.word_id.WordId.TheVariants.{Class}
use Rattle.core_world.specs.Words.Forms.{epoch_form}
use Rattle.core_bias.specs.Biasing.{IsUnownedBias, MayExchange, MayRebias, MayUnbias}
use Rattle.core_world.specs.Trees.BiasSteps.{rebias_plan, unbias_plan}
use Rattle.core_locks.proofs.LookOn.{loads}
use Rattle.core_bias.proofs.Exchanges.{exchanged_fits, taken_fits}
use Rattle.core_bias.proofs.GoodWrites.{epoch_few}
use Rattle.core_world.proofs.There.{class_seen}
use Rattle.core_bias.proofs.Revokes.{freed}
use Rattle.core_bias.proofs.Takes.{other_bias}
use Rattle.core_bias.proofs.Unseen.{unseen}
use Rattle.core_bias.proofs.Wholes.{biasing_on}

module _ (w : World) (P : List PlainObject) (t : ℕ) (e : CallContext) (o mark prototype : ℕ)
    (within : t < w.shape.threads) (may : MayExchange w.shape (w.known t) e o mark prototype) where
  module _ (hit : (w.words (Mark o) == mark) ≡ true) (v : Fits w P) where
    was : marks w o ≡ mark
    was = eqb-true (marks w o) mark hit

    -- the prototype is as it was seen
    pub prototype_is : prototype_of w o ≡ prototype
    prototype_is =
        ap (λ c. w.words (Prototype c)) (class_seen w.shape w.words (w.known t).seen o may.class
        (λ m e d. v.seen.stays t (Class o) m e (inl (may.runs, d))) may.saw_class)
        ∙ v.seen.stays t (Prototype may.class) prototype may.saw (inl (may.runs, tt))

    loose_now : IsUnownedBias (read_mark (marks w o)) (epoch_in (prototype_of w o))
    loose_now = subst (λ z. IsUnownedBias (read_mark z) (epoch_in (prototype_of w o))) (sym was)
        (subst (λ z. IsUnownedBias (read_mark mark) (epoch_in z)) (sym prototype_is) may.loose)

    -- nobody has the lock, and the mark has the bias pattern
    pub facts : (lock w o ≡ Open) × (is_biased (marks w o) ≡ true)
    facts = by_form (read_mark (marks w o)) loose_now
      where
        by_form : (a : Option MarkForm) → IsUnownedBias a (epoch_in (prototype_of w o))
            → (lock_form a (prototype_of w o) (owner_words w) (inflations w o) ≡ Open) × (is_biased_form a ≡ true)
        by_form (Some (Anonymous i age)) h = (refl, refl)
        by_form (Some (Biased u i age)) h = (ap (λ (b : Bool). if b then BiasedTo u else Open) h, refl)
        by_form _ h = absurd h

    pub free : (u : ℕ) → hold_count o (w.known u).holds ≡ 0
    free u = v.biases.unheld o u facts.1 (λ z. let open_now = facts.0 in absurd (cc (open_now, z)))

  -- where it misses, the world stays valid
  by_hit : (p : StepPlan) → p.at ≡ Mark o → hits p.act (w.words p.at) ≡ (w.words (Mark o) == mark)
      → ((w.words (Mark o) == mark) ≡ true → Fits w P → Fits (world_after p t w) P) → IsValid w P → IsValid (world_after p t w) P
  by_hit p at same law valid = by_test (w.words (Mark o) == mark) refl
    where
      by_test : (b : Bool) → (w.words (Mark o) == mark) ≡ b → IsValid (world_after p t w) P
      by_test true hit = inl (law hit (fits_running w P t may.runs valid))
      by_test false missed =
          miss_valid w P t p within
          (record {
            missed = same ∙ missed;
            may = record { outside = λ stopped. let runs = may.runs in absurd (cc (stopped, runs)); found = λ r a h. absurd (cc (at, h)) };
          })
          valid

pub rebias_valid : (e : CallContext) (o mark epoch : ℕ) → KeepsValid (λ w t. MayRebias w.shape (w.known t) e o mark epoch) (λ w t. rebias_plan e t o mark epoch)
rebias_valid e o mark epoch w P t within may =
    by_hit w P t e o mark may.prototype within may.exchange (rebias_plan e t o mark epoch) refl refl (λ hit v.
    let q : epoch_in (prototype_of w o) ≡ Some epoch = ap epoch_in (prototype_is w P t e o mark may.prototype within may.exchange hit v) ∙ may.valid in
    let is = facts w P t e o mark may.prototype within may.exchange hit v in
    let reads = read_mark-mark_of (Biased t epoch 0) (omega (arith, within, v.limits.threads), epoch_few (prototype_of w o) epoch q, omega arith) in
    let valid : has_epoch (epoch_in (prototype_of w o)) epoch ≡ true = ap (λ z. has_epoch z epoch) q ∙ eq-eqb epoch epoch refl in
    taken_fits w P t e o mark (mark_of (Biased t epoch 0)) (BiasedTo t) within may.exchange.runs may.exchange.calm may.exchange.goes_on hit is.0
    (other_bias w o (mark_of (Biased t epoch 0)) (BiasedTo t) is.1 (free w P t e o mark may.prototype within may.exchange hit v)
    (subst (IsMark w.shape) (sym reads) (within, refl)) (ap is_biased_form reads)
    (ap (λ f. lock_form f (prototype_of w o) (owner_words w) (inflations w o)) reads
    ∙ ap (λ (b : Bool). if b then BiasedTo t else Open) valid) (inr (t, refl))) v)

-- a prototype without an epoch is the neutral mark, where there are biases
unepoched : (n p : ℕ) (b : Bool) → p ≡ (if b then n % 4 * 256 + 5 else 1) → epoch_in p ≡ None → p ≡ 1
unepoched n p false e h = e
unepoched n p true e h =
    let low : n % 4 < 4 = omega arith in
    let word : p ≡ mark_of (Anonymous (n % 4) 0) = omega (arith, e) in
    let some : epoch_in p ≡ Some (n % 4) = ap epoch_in word ∙ ap epoch_form (read_mark-mark_of (Anonymous (n % 4) 0) (low, omega arith)) in
    absurd (cc (some, h))

pub drop_valid : (e : CallContext) (o mark neutral : ℕ)
    → KeepsValid (λ w t. MayUnbias w.shape (w.known t) e o mark neutral) (λ w t. unbias_plan e o mark neutral)
drop_valid e o mark neutral w P t within may =
    by_hit w P t e o mark may.prototype within may.exchange (unbias_plan e o mark neutral) refl refl (λ hit v.
    let is = facts w P t e o mark may.prototype within may.exchange hit v in
    let now = prototype_is w P t e o mark may.prototype within may.exchange hit v in
    let one : 1 ≡ neutral = elim may.to [
      | inl a ↦ sym a
      | inr a ↦ sym (a.0 ∙ unepoched _ may.prototype _ (sym now ∙ v.classes.prototypes (biasing_on w P o is.1 (unseen w P v)) (class_by w.shape w.words o)) a.1)
    ] in
    subst (λ m. Fits (world_after (unbias_plan e o mark m) t w) P) one
    (exchanged_fits w P t e o mark 1 Open within may.exchange.runs may.exchange.calm may.exchange.goes_on hit is.0
    (freed w P o (unseen w P v) is.1 (free w P t e o mark may.prototype within may.exchange hit v)) v))

pub prototype_looks : (e : CallContext) (c : ℕ) → KeepsValid (λ w t. MayLoad (w.known t) e) (λ w t. load_plan e (w.known t).stage (Prototype c))
prototype_looks e c = loads e (Prototype c) (λ m is. absurd (cc is))
