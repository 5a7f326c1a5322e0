-- What a thread may count on that has seen a mark with the bias pattern, and its class's prototype.
use Rattle.std.proofs.Common.{◌≡◌, ◌≢◌, ◌⊎◌, ℕ, ◌<◌, ◌+◌, ◌-◌, ◌||◌, not, nat_lt, ◌*◌, ◌%◌, ◌==◌, eq-eqb, eqb-true, Bool, true}
use Rattle.std.proofs.Common.{false, cond, if◌then◌else◌, Option, Some, None, refl, sym, ap, ◌∙◌, subst, arith, inl, inr}
use Rattle.std.proofs.lemmas.Option.{same_Some}
use Rattle.mark_word.specs.declared.mark.MarkForm.{MarkForm}
use Rattle.mark_word.specs.declared.mark.MarkForm.TheVariants.{Neutral, Anonymous, Biased}
use Rattle.mark_word.specs.Mark.{mark_of, read_mark}
use Rattle.mark_word.proofs.ReadingMarks.{read_mark-mark_of, read_mark-spells}
use Rattle.core_world.specs.declared.word_id.WordId.{WordId}
use Rattle.core_world.specs.declared.word_id.WordId.TheVariants as id
use Rattle.core_world.specs.declared.plan.StepPlan.{StepPlan}
use Rattle.core_world.specs.Threads.AtRest.{SawClass, SawNoOther}
use Rattle.core_world.specs.Words.Forms.{is_biased, is_biased_form, epoch_in, epoch_form}
use Rattle.core_world.specs.Threads.ThreadView.{ThreadView, last_seen}
use Rattle.core_world.specs.Locks.{has_epoch, is_valid_bias, marks}
use Rattle.core_world.specs.Words.Names.{same_name, class_by}
use Rattle.core_world.specs.Trees.Plans.{CallContext, load}
use Rattle.core_world.specs.Clauses.SeenWords.{IsValidBias}
use Rattle.core_world.specs.Words.Shape.{Shape}
use Rattle.core_world.proofs.There.{class_seen}
use Rattle.core_world.specs.Steps.{is_idle, known_hit, seen_before, kept_by_note, kept_by_act}
use Rattle.core_world.specs.Words.Acts.{word_after}
use Rattle.core_world.proofs.Naming.{same_named}
use Rattle.core_locks.specs.Knowing.{IsBiasTo}
use Rattle.core_bias.specs.Biasing.{IsUnownedBias}
use Rattle.core_bias.proofs.Unseen.{unseen}
use Rattle.core_bias.proofs.Wholes.{biasing_on}
use Rattle.bias_law.specs.Steps.{SawFreeBias}
use Rattle.core_law.specs.Logic.{Heap, SoundWorldWith}
use Rattle.core_law.proofs.Standing.{fits_here, away, few_threads}
use Rattle.core_steps.proofs.ClassSteps.{class_from}
use Rattle.core_steps.proofs.SeenSteps.{saw_any, saw_older, first_any, first_alone, alone_more}

-- a mark, a class word or a prototype, of whatever object or class
abbrev pub is_any_header : WordId → Bool
is_any_header (id.Mark o) = true
is_any_header (id.Prototype c) = true
is_any_header (id.Class o) = true
is_any_header _ = false

-- in its call it has seen those alone, besides the safepoint word
abbrev pub SawHeaders : ThreadView → Type 0
SawHeaders k = (n : WordId) → is_any_header n ≡ false → same_name n id.Safepoint ≡ false → last_seen n k.seen ≡ None

hidden_apart : (n at : WordId) → is_any_header n ≡ false → is_any_header at ≡ true → same_name n at ≡ false
hidden_apart n at h g = cases (same_name n at) refl
  where
    cases : (b : Bool) → same_name n at ≡ b → b ≡ false
    cases true e = let same = ap is_any_header (same_named n at e) in absurd (cc (same, h, g))
    cases false e = refl

module _ (heap : Heap) (p : StepPlan) (n : ℕ) (k : ThreadView) (on_header : is_any_header p.at ≡ true) where
  -- by the first step of a call, which is on such a word, and by a further one
  pub headers_first : is_idle heap.shape k ≡ true → k.requesting ≡ false
      → kept_by_note p.note (kept_by_act p.at p.act (word_after p.act n) k (seen_before heap.shape k)) ≡ seen_before heap.shape k
      → SawHeaders (known_hit heap.shape heap.start p n k)
  headers_first over unasks kept m h other =
      first_any heap p n k m over unasks kept ∙ ap (λ (z : Bool). cond z (Some (word_after p.act n)) None) (hidden_apart m p.at h on_header)

  pub headers_more : is_idle heap.shape k ≡ false
      → kept_by_note p.note (kept_by_act p.at p.act (word_after p.act n) k (seen_before heap.shape k)) ≡ seen_before heap.shape k → SawHeaders k
      → SawHeaders (known_hit heap.shape heap.start p n k)
  headers_more going kept bare m h other =
      saw_any heap p n k m going kept
      ∙ ap (λ (z : Bool). cond z (Some (word_after p.act n)) (last_seen m k.seen)) (hidden_apart m p.at h on_header) ∙ bare m h other

-- it has seen the mark of o alone, or its class word besides, where o isn't declared
abbrev pub SawMarkAlone : Shape → ℕ → ThreadView → Type 0
SawMarkAlone s o k = (n : WordId) (v : ℕ) → last_seen n k.seen ≡ Some v → (n ≡ id.Mark o) ⊎ ((n ≡ id.Class o) × (nat_lt o s.declared ≡ false))

module _ (heap : Heap) (e : CallContext) (o : ℕ) where
  -- by the load of the mark, with which a call begins, and by one of the class word
  pub mark_alone : (mark : ℕ) (k : ThreadView) → is_idle heap.shape k ≡ true → k.requesting ≡ false
      → SawMarkAlone heap.shape o (known_hit heap.shape heap.start (load e (id.Mark o)) mark k)
  mark_alone mark k over unasks n v saw = inl (first_alone heap (load e (id.Mark o)) mark k n v over unasks refl saw)

  pub class_more : (word : ℕ) (k : ThreadView) → nat_lt o heap.shape.declared ≡ false → is_idle heap.shape k ≡ false → SawMarkAlone heap.shape o k
      → SawMarkAlone heap.shape o (known_hit heap.shape heap.start (load e (id.Class o)) word k)
  class_more word k made going alone n v saw = elim (alone_more heap (load e (id.Class o)) word k n v going refl saw) [
    | inl is ↦ inr (is, made)
    | inr g ↦ alone n v g
  ]

  -- after which it loads the prototype of the class, and has seen no other words
  pub saw_two : (class prototype : ℕ) (k : ThreadView) → SawClass heap.shape k.seen o class → is_idle heap.shape k ≡ false → SawMarkAlone heap.shape o k
      → SawNoOther heap.shape (known_hit heap.shape heap.start (load e (id.Prototype class)) prototype k) o
  saw_two class prototype k saw_class going alone n v saw =
      let p = load e (id.Prototype class) in
      elim (alone_more heap p prototype k n v going refl saw) [
        | inl is ↦ inr (inr (inr (
          class,
          class_from heap.shape k.seen (known_hit heap.shape heap.start p prototype k).seen o class
              (saw_older heap p prototype k (id.Class o) going refl refl) saw_class,
          is,
        )))
        | inr g ↦ elim (alone n v g) [
          | inl is ↦ inr (inl is)
          | inr is ↦ inr (inr (inl is))
        ]
      ]

-- a class word that was found is not 0, where the thread saw the mark of its object with the bias pattern in this call
pub class_some : (heap : Heap) (k : ThreadView) (v : SoundWorldWith heap k) → k.running ≡ true → (o mark word : ℕ) → nat_lt o heap.shape.declared ≡ false
    → last_seen (id.Mark o) k.seen ≡ Some mark → is_biased mark ≡ true
    → v.world.words (id.Class o) ≡ word → word ≡ word - 1 + 1
class_some heap k v runs o mark word made saw biased found =
    let fits = fits_here heap k v runs in
    let there = fits.seen.saw_classed k.thread o mark (away heap k v (λ s y. last_seen (id.Mark o) y.seen ≡ Some mark) saw)
    (inl (away heap k v (λ s y. y.running ≡ true) runs)) biased in
    let some : not (v.world.words (id.Class o) == 0) ≡ true =
    ap (λ b. b || not (v.world.words (id.Class o) == 0)) (sym (away heap k v (λ s y. nat_lt o s.declared ≡ false) made)) ∙ there in
    over word (ap (λ n. not (n == 0)) (sym found) ∙ some)
  where
    over : (n : ℕ) → not (n == 0) ≡ true → n ≡ n - 1 + 1
    over n e = by_test (n == 0) refl e
      where
        by_test : (b : Bool) → (n == 0) ≡ b → not b ≡ true → n ≡ n - 1 + 1
        by_test true h g = absurd (cc g)
        by_test false h g = let some : n ≢ 0 = λ z. absurd (cc (eq-eqb n 0 z, h)) in omega (arith, some)

-- the neutral mark reads so
pub neutral_reads_so : read_mark (mark_of (Neutral 0 0)) ≡ Some (Neutral 0 0)
neutral_reads_so = read_mark-mark_of (Neutral 0 0) (omega arith, omega arith)

-- the words of prototypes, where there are biases
abbrev pub IsPrototype : ℕ → Type 0
IsPrototype p = (p ≡ mark_of (Neutral 0 0)) ⊎ ((i : ℕ) × (read_mark p ≡ Some (Anonymous i 0)))

prototype_is : (n p : ℕ) (b : Bool) → p ≡ (if b then n % 4 * 256 + 5 else 1) → IsPrototype p
prototype_is n p false e = inl e
prototype_is n p true e =
    let low : n % 4 < 4 = omega arith in
    let word : p ≡ mark_of (Anonymous (n % 4) 0) = omega (arith, e) in
    inr (n % 4, ap read_mark word ∙ read_mark-mark_of (Anonymous (n % 4) 0) (low, omega arith))

-- so a prototype has one of two forms
abbrev pub IsPrototypeForm : Option MarkForm → Type 0
IsPrototypeForm (Some (Neutral hash age)) = Unit {0}
IsPrototypeForm (Some (Anonymous epoch age)) = Unit {0}
IsPrototypeForm _ = ⊥

pub prototype_form : (p : ℕ) → IsPrototype p → IsPrototypeForm (read_mark p)
prototype_form p (inl is) = subst IsPrototypeForm (sym (ap read_mark is ∙ neutral_reads_so)) tt
prototype_form p (inr is) = subst IsPrototypeForm (sym is.1) tt

pub prototype_neutral : (p : ℕ) → IsPrototype p → epoch_in p ≡ None → p ≡ mark_of (Neutral 0 0)
prototype_neutral p (inl is) none = is
prototype_neutral p (inr is) none = absurd (cc (ap epoch_form is.1, none))

-- a bias that is valid by its test
pub valid_is : (f : Option MarkForm) (prototype : ℕ) → is_valid_bias f prototype ≡ true → IsValidBias f prototype
valid_is (Some (Biased t epoch age)) p h = h
valid_is _ p h = absurd (cc h)

-- a bias to a thread in the epoch of the prototype is valid by it
bias_valid : (t : ℕ) (f : Option MarkForm) (prototype : ℕ) → IsBiasTo t f (epoch_in prototype) → IsValidBias f prototype
bias_valid t (Some (Biased u epoch age)) prototype h = h.1
bias_valid t _ prototype h = absurd h

module _ (heap : Heap) (k : ThreadView) (v : SoundWorldWith heap k) (runs : k.running ≡ true) where
  -- its safepoint is not reached
  pub unreached_here : k.reached ≡ false
  unreached_here = cases k.reached refl
    where
      cases : (b : Bool) → k.reached ≡ b → b ≡ false
      cases true e =
          let stopped = ((fits_here heap k v runs).safe.safepoint k.thread (away heap k v (λ s y. y.reached ≡ true) e)).1 k.thread in
          absurd (cc (stopped, away heap k v (λ s y. y.running ≡ true) runs))
      cases false e = refl

  -- a bias to the thread that it has seen is still there, and so is the lack of one
  pub bias_stays : (o class mark prototype : ℕ) → last_seen (id.Mark o) k.seen ≡ Some mark → SawClass heap.shape k.seen o class
      → last_seen (id.Prototype class) k.seen ≡ Some prototype → IsBiasTo k.thread (read_mark mark) (epoch_in prototype)
      → v.world.words (id.Mark o) ≡ mark
  bias_stays o class mark prototype saw_mark saw_class saw_prototype bias =
      let fits = fits_here heap k v runs in
      let runs_there = away heap k v (λ s y. y.running ≡ true) runs in
      let its : class_by v.world.shape v.world.words o ≡ class = class_seen v.world.shape v.world.words k.seen o class
      (λ m e d. fits.seen.stays k.thread (id.Class o) m (away heap k v (λ s y. last_seen (id.Class o) y.seen ≡ Some m) e) (inl (runs_there, d)))
      (away heap k v (λ s y. SawClass s k.seen o class) saw_class) in
      let now = ap (λ c. v.world.words (id.Prototype c)) its ∙ fits.seen.stays k.thread (id.Prototype class) prototype
      (away heap k v (λ s y. last_seen (id.Prototype class) y.seen ≡ Some prototype) saw_prototype) (inl (runs_there, tt)) in
      let valid : IsValidBias (read_mark mark) prototype = bias_valid k.thread (read_mark mark) prototype bias in
      fits.seen.stays k.thread (id.Mark o) mark (away heap k v (λ s y. last_seen (id.Mark o) y.seen ≡ Some mark) saw_mark)
      (inl (runs_there, inl (subst (IsValidBias (read_mark mark)) (sym now) valid)))

  -- there are biases where a mark has the pattern
  pub biasing_here : (o : ℕ) → is_biased (marks v.world o) ≡ true → heap.biasing ≡ true
  biasing_here o biased = ap (λ (z : Heap). z.biasing) (sym v.is_of)
      ∙ biasing_on v.world v.objects o biased (unseen v.world v.objects (fits_here heap k v runs))

  -- a prototype is anonymous or the neutral mark then
  pub prototype_here : (c p : ℕ) → heap.biasing ≡ true → v.world.words (id.Prototype c) ≡ p → IsPrototype p
  prototype_here c p biasing found =
      prototype_is _ p _ (sym found ∙ (fits_here heap k v runs).classes.prototypes (ap (λ (z : Heap). z.biasing) v.is_of ∙ biasing) c)

-- the epoch of a prototype fits its field
pub epoch_small : (p epoch : ℕ) → epoch_in p ≡ Some epoch → epoch < 4
epoch_small p epoch e = cases (read_mark p) refl e
  where
    cases : (f : Option MarkForm) → read_mark p ≡ f → epoch_form f ≡ Some epoch → epoch < 4
    cases (Some (Anonymous i age)) reads e = let small = read_mark-spells p (Anonymous i age) reads in subst (λ z. z < 4) (same_Some i epoch e) small.0.0
    cases _ reads e = absurd (cc e)

-- its own bias in that epoch is one to the thread
pub own_bias : (heap : Heap) (k : ThreadView) → SoundWorldWith heap k → (p epoch : ℕ)
    → epoch_in p ≡ Some epoch → IsBiasTo k.thread (read_mark (mark_of (Biased k.thread epoch 0))) (epoch_in p)
own_bias heap k v p epoch e =
    subst (λ z. IsBiasTo k.thread z (epoch_in p)) (sym (read_mark-mark_of (Biased k.thread epoch 0) (few_threads heap k v, epoch_small p epoch e, omega arith)))
    (refl, ap (λ z. has_epoch z epoch) e ∙ eq-eqb epoch epoch refl)

-- a mark that is anonymous or stale by its class's prototype, which was seen, is free
pub free_bias : (s : Shape) (k : ThreadView) (o class mark prototype : ℕ) → SawClass s k.seen o class
    → last_seen (id.Prototype class) k.seen ≡ Some prototype → IsUnownedBias (read_mark mark) (epoch_in prototype)
    → SawFreeBias s k o mark prototype
free_bias s k o class mark prototype saw_class seen loose = record {
  class = class;
  saw_class = saw_class;
  seen = seen;
  biased = pattern (read_mark mark) loose;
  free = free (read_mark mark) loose;
}
  where
    pattern : (f : Option MarkForm) → IsUnownedBias f (epoch_in prototype) → is_biased_form f ≡ true
    pattern (Some (Anonymous epoch age)) h = refl
    pattern (Some (Biased thread epoch age)) h = refl
    pattern _ h = absurd h

    free : (f : Option MarkForm) → IsUnownedBias f (epoch_in prototype) → is_valid_bias f prototype ≡ false
    free (Some (Anonymous epoch age)) h = refl
    free (Some (Biased thread epoch age)) h = h
    free _ h = absurd h

-- LOOSE MARKS: anonymous, or with a stale bias
pub loose_unepoched : (f : Option MarkForm) (x : Option ℕ) → is_biased_form f ≡ true → x ≡ None → IsUnownedBias f x
loose_unepoched (Some (Anonymous epoch age)) x h none = tt
loose_unepoched (Some (Biased t epoch age)) x h none = ap (λ z. has_epoch z epoch) none
loose_unepoched _ x h none = absurd (cc h)

-- a bias in another epoch than that of its class
pub stale_epoch : (old epoch : ℕ) (x : Option ℕ) → x ≡ Some epoch → (old == epoch) ≡ false → has_epoch x old ≡ false
stale_epoch old epoch x is other = ap (λ z. has_epoch z old) is ∙ cases (epoch == old) refl
  where
    cases : (b : Bool) → (epoch == old) ≡ b → b ≡ false
    cases true e = absurd (cc (eq-eqb old epoch (sym (eqb-true epoch old e)), other))
    cases false e = refl

pub own_epoch : (old epoch : ℕ) (x : Option ℕ) → x ≡ Some epoch → (old == epoch) ≡ true → has_epoch x old ≡ true
own_epoch old epoch x is same = ap (λ z. has_epoch z old) is ∙ eq-eqb epoch old (sym (eqb-true old epoch same))
