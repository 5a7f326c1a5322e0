-- Whether a lock is under a bias follows from the mark and the prototype alone.
use Rattle.std.proofs.Common.{◌≡◌, ◌≢◌, ℕ, ◌==◌, eq-eqb, eqb-true, ne_eqb, cond, Bool, true, false}
use Rattle.std.proofs.Common.{Option, Some, None, refl, sym, ap, ◌∙◌, inl, inr, ◌-◌, nat_lt, subst}
use Rattle.mark_word.specs.declared.mark.MarkForm.{MarkForm}
use Rattle.mark_word.specs.declared.mark.MarkForm.TheVariants.{Inflating, Neutral, Anonymous, Biased, Locked, Inflated, Marked}
use Rattle.mark_word.specs.declared.owner.OwnerForm.{OwnerForm}
use Rattle.mark_word.specs.declared.owner.OwnerForm.TheVariants.{Free, ByThread, ByRecord}
use Rattle.mark_word.specs.Mark.{read_mark}
use Rattle.mark_word.specs.Owner.{read_owner}
use Rattle.core_world.specs.declared.word_id.WordId.{WordId}
use Rattle.core_world.specs.declared.word_id.WordId.TheVariants.{Prototype, Revocations, Mark, Owner, Class}
use Rattle.core_world.specs.declared.act.Act.TheVariants.{CompareExchange}
use Rattle.core_world.specs.Words.Acts.{word_after}
use Rattle.core_world.specs.Words.Forms.{is_biased, is_biased_form, epoch_in, monitor_in, monitor_form}
use Rattle.core_world.specs.Threads.ThreadView.{ThreadView}
use Rattle.core_world.specs.Locks.{Open, BiasedTo, OnRecord, OwnedBy, lock, lock_form, owner_lock, has_epoch, inflations, is_valid_bias, marks, prototype_of}
use Rattle.core_world.specs.Words.Names.{same_name, with_word}
use Rattle.core_world.specs.Words.Names.{class_by}
use Rattle.core_world.specs.Words.Shape.{Shape, class_in_shape}
use Rattle.core_world.proofs.Naming.{same_named, with_word_same}
use Rattle.core_world.specs.Threads.Stages.{Inflation}
use Rattle.core_world.specs.World.{World, with_word_and_known}
use Rattle.core_world.proofs.KnowledgeParts.{by_equal}
use Rattle.core_law.specs.BiasOwners.{bias_owner, owner_form}
use Rattle.core_law.specs.MarksAndLogs.{is_anonymous, is_anonymous_form}
use Rattle.bias_law.specs.Moves.{LockFitsMark, BiasesKept}
use Rattle.bias_law.specs.Steps.{LeavesBiases, is_bias_word}
use Rattle.bias_law.proofs.enter_exit.Enters.{anonymous_is_biased}
use Rattle.bias_law.proofs.Owners.{unbiased_unowned}

-- the mark is validly biased to this thread
abbrev pub LeansTo : Option MarkForm → ℕ → ℕ → Type 0
LeansTo m prototype u = (epoch age : ℕ) × (m ≡ Some (Biased u epoch age)) × (is_valid_bias m prototype ≡ true)

leans_form : (m : Option MarkForm) (prototype : ℕ) (owners : ℕ → ℕ) (i : Option Inflation) (u : ℕ)
    → lock_form m prototype owners i ≡ BiasedTo u → LeansTo m prototype u
leans_form (Some Inflating) p f None u e = absurd (cc e)
leans_form (Some Inflating) p f (Some i) u e = absurd (cc e)
leans_form (Some (Biased t d a)) p f i u e = by_test (has_epoch (epoch_in p) d) refl e
  where
    by_test : (b : Bool) → has_epoch (epoch_in p) d ≡ b → cond b (BiasedTo t) Open ≡ BiasedTo u → LeansTo (Some (Biased t d a)) p u
    by_test true h g = let same : t ≡ u = cc g in (d, a, ap (λ z. Some (Biased z d a)) same, h)
    by_test false h g = absurd (cc g)
leans_form (Some (Inflated m)) p f i u e = absurd (by_owner (read_owner (f m)) e)
  where
    by_owner : (a : Option OwnerForm) → owner_lock a ≡ BiasedTo u → ⊥
    by_owner None g = absurd (cc g)
    by_owner (Some Free) g = absurd (cc g)
    by_owner (Some (ByThread t)) g = absurd (cc g)
    by_owner (Some (ByRecord t q)) g = absurd (cc g)
leans_form _ p f i u e = absurd (cc e)

pub leans_to : (w : World) (o u : ℕ) → lock w o ≡ BiasedTo u → LeansTo (read_mark (marks w o)) (prototype_of w o) u
leans_to w o u e = leans_form (read_mark (marks w o)) _ _ _ u e

-- and where it is, the lock leans to that thread
pub leans : (w : World) (o u : ℕ) → LeansTo (read_mark (marks w o)) (prototype_of w o) u → lock w o ≡ BiasedTo u
leans w o u h =
    let valid : has_epoch (epoch_in (prototype_of w o)) h.0 ≡ true = sym (ap (λ m. is_valid_bias m (prototype_of w o)) h.2) ∙ h.3 in
    ap (λ m. lock_form m (prototype_of w o) (λ n. w.words (Owner n)) (inflations w o)) h.2 ∙ ap (λ b. cond b (BiasedTo u) Open) valid

-- so it says of the mark that it has the bias pattern, isn't anonymous, and whose bias it is
pub leans_by_mark : (w : World) → LockFitsMark (marks w) (lock w)
leans_by_mark w o u e = let h = leans_to w o u e in (ap is_biased_form h.2, ap is_anonymous_form h.2, ap owner_form h.2)

-- a mark that is validly biased to nobody leans to no thread
pub unleaning : (w : World) (o u : ℕ) → is_valid_bias (read_mark (marks w o)) (prototype_of w o) ≡ false → lock w o ≡ BiasedTo u → ⊥
unleaning w o u free e = let h = leans_to w o u e in cc (free, h.3)

-- the lock of an object leans to whom it leant where mark and prototype stay
pub still_leans : (w x : World) (o : ℕ) → marks x o ≡ marks w o → prototype_of x o ≡ prototype_of w o → (u : ℕ) → lock w o ≡ BiasedTo u → lock x o ≡ BiasedTo u
still_leans w x o mark prototype u e =
    let h = leans_to w o u e in
    let m : read_mark (marks x o) ≡ read_mark (marks w o) = ap read_mark mark in
    leans x o u (h.0, h.1, m ∙ h.2, ap (λ f. is_valid_bias f (prototype_of x o)) m ∙ ap (is_valid_bias (read_mark (marks w o))) prototype ∙ h.3)

-- what isn't biased isn't anonymous
pub not_anonymous : (n : ℕ) → is_biased n ≡ false → is_anonymous n ≡ false
not_anonymous n h = by_test (is_anonymous n) refl
  where
    by_test : (b : Bool) → is_anonymous n ≡ b → is_anonymous n ≡ false
    by_test false e = e
    by_test true e = absurd (cc (anonymous_is_biased n e, h))

-- a lock that is neither open nor leaning is by a mark without the bias pattern
had_form : (m : Option MarkForm) (prototype : ℕ) (owners : ℕ → ℕ) (i : Option Inflation)
    → (lock_form m prototype owners i ≡ Open → ⊥) → ((u : ℕ) → lock_form m prototype owners i ≡ BiasedTo u → ⊥)
    → is_biased_form m ≡ false
had_form (Some (Anonymous d g)) p f i a b = absurd (a refl)
had_form (Some (Biased t d g)) p f i a b = absurd (by_test (has_epoch (epoch_in p) d) a (b t))
  where
    by_test : (c : Bool) → (cond c (BiasedTo t) Open ≡ Open → ⊥) → (cond c (BiasedTo t) Open ≡ BiasedTo t → ⊥) → ⊥
    by_test true a b = b refl
    by_test false a b = a refl
had_form _ p f i a b = refl

pub rests_unbiased : (w : World) (o t p : ℕ) → lock w o ≡ OnRecord t p → is_biased (marks w o) ≡ false
rests_unbiased w o t p h = had_form (read_mark (marks w o)) (prototype_of w o) (λ m. w.words (Owner m)) (inflations w o) (λ e. cc (h, e)) (λ u e. cc (h, e))

pub manned_unbiased : (w : World) (o t : ℕ) → lock w o ≡ OwnedBy t → is_biased (marks w o) ≡ false
manned_unbiased w o t h = had_form (read_mark (marks w o)) (prototype_of w o) (λ m. w.words (Owner m)) (inflations w o) (λ e. cc (h, e)) (λ u e. cc (h, e))

-- a mark that names a monitor has no bias pattern
pub inflated_unbiased : (n m : ℕ) → monitor_in n ≡ Some m → is_biased n ≡ false
inflated_unbiased n m h = by_form (read_mark n) h
  where
    by_form : (f : Option MarkForm) → monitor_form f ≡ Some m → is_biased_form f ≡ false
    by_form None e = refl
    by_form (Some Inflating) e = refl
    by_form (Some (Neutral x a)) e = refl
    by_form (Some (Anonymous d a)) e = absurd (cc e)
    by_form (Some (Biased u d a)) e = absurd (cc e)
    by_form (Some (Locked u q)) e = refl
    by_form (Some (Inflated k)) e = refl
    by_form (Some Marked) e = refl

-- WORDS WHOSE CLASS WORDS ARE THE SAME say the same of classes.
pub same_classes : (s : Shape) (f g : WordId → ℕ) → ((i : ℕ) → f (Class i) ≡ g (Class i)) → class_by s f ≡ class_by s g
same_classes s f g h = λ j. λ i. cond (nat_lt i s.declared) (class_in_shape s i) (h i j - 1)

pub by_class_words : (Law : (ℕ → ℕ) → Type 0) (s : Shape) (f g : WordId → ℕ) → ((i : ℕ) → f (Class i) ≡ g (Class i))
    → Law (class_by s f) → Law (class_by s g)
by_class_words Law s f g h = subst Law (same_classes s f g h)

-- A STEP THAT LEAVES THE BIASES, by its word: the words that the law reads stay.
others_stay : (at : WordId) (v : ℕ) (f : WordId → ℕ) → is_bias_word at ≡ false → (n : WordId) → is_bias_word n ≡ true → with_word at v f n ≡ f n
others_stay at v f e n b = by_test (same_name n at) refl
  where
    by_test : (c : Bool) → same_name n at ≡ c → cond c v (f n) ≡ f n
    by_test true g = absurd (let h = ap is_bias_word (same_named n at g) in cc (h, e, b))
    by_test false g = refl

module _ (w : World) (at : WordId) (v t : ℕ) (l : ThreadView) where
  abbrev x : World
  x = with_word_and_known at v t l w

  unchanged : ((n : WordId) → is_bias_word n ≡ true → x.words n ≡ w.words n) → BiasesKept (marks w) (lock w) (marks x) (lock x)
  unchanged h = record {
    pattern = λ i. ap is_biased (h (Mark i) refl);
    nobody = λ i. ap is_anonymous (h (Mark i) refl);
    owners = λ i. ap bias_owner (h (Mark i) refl);
    leans = λ i u e.
        let class = ap (λ (k : ℕ → ℕ). x.words (Prototype (k i))) (same_classes w.shape x.words w.words (λ j. h (Class j) refl)) in
        still_leans w x i (h (Mark i) refl) (class ∙ h (Prototype (class_by w.shape w.words i)) refl) u e;
  }

  -- a mark without the bias pattern becomes one without it
  marked : (o : ℕ) → at ≡ Mark o → is_biased (marks w o) ≡ false → is_biased v ≡ false → BiasesKept (marks w) (lock w) (marks x) (lock x)
  marked o is was now = record {
    pattern = λ i. by_equal i o (λ s. ap is_biased (here i s) ∙ now ∙ sym (old i s)) (λ d. ap is_biased (away i d));
    nobody = λ i. by_equal i o (λ s. ap is_anonymous (here i s) ∙ not_anonymous v now ∙ sym (not_anonymous (marks w i) (old i s)))
        (λ d. ap is_anonymous (away i d));
    owners = λ i. by_equal i o (λ s. ap bias_owner (here i s) ∙ unbiased_unowned v now ∙ sym (unbiased_unowned (marks w i) (old i s)))
        (λ d. ap bias_owner (away i d));
    leans = λ i u e. by_equal i o (λ s. absurd (let b = (leans_by_mark w i u e).0 in cc (b, old i s))) (λ d. still_leans w x i (away i d) (prototypes i) u e);
  }
    where
      here : (i : ℕ) → i ≡ o → marks x i ≡ v
      here i s = ap (λ n. with_word n v w.words (Mark i)) is ∙ ap (λ (b : Bool). cond b v (marks w i)) (eq-eqb i o s)

      away : (i : ℕ) → i ≢ o → marks x i ≡ marks w i
      away i d = ap (λ n. with_word n v w.words (Mark i)) is ∙ ap (λ (b : Bool). cond b v (marks w i)) (ne_eqb i o d)

      old : (i : ℕ) → i ≡ o → is_biased (marks w i) ≡ false
      old i s = ap (λ j. is_biased (marks w j)) s ∙ was

      prototypes : (i : ℕ) → prototype_of x i ≡ prototype_of w i
      prototypes i = ap (λ n. with_word n v w.words (Prototype (class_by w.shape (with_word n v w.words) i))) is

  -- the counts stay, and each mark is as biased as it was
  pub left_biases : LeavesBiases w at v → BiasesKept (marks w) (lock w) (marks x) (lock x)
  left_biases (inl e) = unchanged (others_stay at v w.words e)
  left_biases (inr (inl e)) = unchanged (λ n b. λ i. with_word_same at v w.words e i n)
  left_biases (inr (inr e)) = marked e.0 e.1 e.2 e.3

  pub left_counts : LeavesBiases w at v → (c : ℕ) → x.words (Revocations c) ≡ w.words (Revocations c)
  left_counts (inl e) c = others_stay at v w.words e (Revocations c) refl
  left_counts (inr (inl e)) c = λ i. with_word_same at v w.words e i (Revocations c)
  left_counts (inr (inr e)) c = ap (λ n. with_word n v w.words (Revocations c)) e.1

  -- and so do the class words
  pub left_classes : LeavesBiases w at v → (i : ℕ) → x.words (Class i) ≡ w.words (Class i)
  left_classes (inl e) i = others_stay at v w.words e (Class i) refl
  left_classes (inr (inl e)) i = λ j. with_word_same at v w.words e j (Class i)
  left_classes (inr (inr e)) i = ap (λ n. with_word n v w.words (Class i)) e.1

-- an exchange of a mark without the bias pattern for one without it leaves the biases, whether it hits or misses
pub exchange_leaves : (w : World) (o expected word : ℕ) → is_biased expected ≡ false
    → is_biased word ≡ false → LeavesBiases w (Mark o) (word_after (CompareExchange expected word) (marks w o))
exchange_leaves w o expected word was now = by_test (marks w o == expected) refl
  where
    by_test : (b : Bool) → (marks w o == expected) ≡ b → LeavesBiases w (Mark o) (cond b word (marks w o))
    by_test true e = inr (inr (o, refl, ap is_biased (eqb-true (marks w o) expected e) ∙ was, now))
    by_test false e = inr (inl refl)
