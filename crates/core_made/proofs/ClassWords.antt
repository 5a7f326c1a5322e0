-- A thread stores the class word of an object that it makes: every clause stays. Of an object whose mark has the bias pattern, or had it when a
-- thread saw it, the class word is stored already; and of all others no clause reads the class.
use Rattle.core_locks.proofs.Prelude.{◌≡◌, ◌≢◌, ◌⊎◌, ℕ, ◌+◌, ◌-◌, ◌<◌, ◌≤◌, ◌==◌, ◌||◌, not, nat_lt, ne_eqb, Bool, true, false, cond, List}
use Rattle.core_locks.proofs.Prelude.{Option, Some, refl, sym, ap, ◌∙◌, subst, arith, nat_tests, inl, inr, MarkForm, read_mark, Biased}
use Rattle.core_locks.proofs.Prelude.{PlainObject, WordId, Mark, Class, Prototype, Waiting, Object, Hold, Safepoint, StepPlan, Stage, is_biased}
use Rattle.core_locks.proofs.Prelude.{is_biased_form, Inflation, ThreadView, World, with_word_and_known, marks, lock, lock_form, owner_words}
use Rattle.core_locks.proofs.Prelude.{inflations, prototype_of, owner_at, waits_at, Fits, SeenFit, IsValidBias, Stays, StaysWhileRunning}
use Rattle.core_locks.proofs.Prelude.{StaysWhileAsking, CallContext, with_stage, world_after, known_hit, seen_before, has_class, last_seen}
use Rattle.core_locks.proofs.Prelude.{by_equal, seen_is_part, stays_back, Back, Spares, Counts, seen_moves, WordsHaveForms}
use Rattle.core_world.specs.Words.Shape.{class_in_shape}
use Rattle.core_locks.proofs.Clauses.{turned_parts, parts_turn, seen, forms, AllHold}
use Rattle.core_locks.proofs.MarkMeanings.{each_set}
use Rattle.core_locks.proofs.Steps.{none_reached, quietly, IsStep, next, step_fits, seen_next, quiet_step}
use Rattle.core_world.specs.Trees.CreateSteps.{class_plan}
use Rattle.core_made.specs.Making.{IsClassless, MayStoreClass}

-- a mark without the bias pattern means the same lock by each prototype
unbiased_lock : (f : Option MarkForm) (p q : ℕ) (owners : ℕ → ℕ) (named : Option Inflation) → is_biased_form f ≡ false
    → lock_form f p owners named ≡ lock_form f q owners named
unbiased_lock (Some (Biased thread epoch age)) p q owners named e = absurd (cc e)
unbiased_lock _ p q owners named e = refl

-- a valid bias has the bias pattern
biased_by : (f : Option MarkForm) (p : ℕ) → IsValidBias f p → is_biased_form f ≡ true
biased_by (Some (Biased thread epoch age)) p h = refl
biased_by _ p h = absurd h

-- by its words the object isn't there
pub has_no_class : (w : World) (o : ℕ) → IsClassless w o → has_class w.shape w.words o ≡ false
has_no_class w o less =
    let below : nat_lt o w.shape.declared ≡ false = (let h = less.undeclared in grind (arith, nat_tests)) in
    ap (λ b. b || not (w.words (Class o) == 0)) below ∙ ap (λ n. not (n == 0)) less.word

-- a thread that runs or has a request goes by what it saw
abbrev GoesBy : ThreadView → Type 0
GoesBy k = (k.running ≡ true) ⊎ (k.requesting ≡ true)

module _ (w : World) (P : List PlainObject) (t : ℕ) (e : CallContext) (o c : ℕ) (within : t < w.shape.threads) (may : MayStoreClass (w.known t) e)
    (less : IsClassless w o) (few : c < w.shape.classes) (v : Fits w P) where
  unclassed : has_class w.shape w.words o ≡ false
  unclassed = has_no_class w o less

  plain : is_biased (marks w o) ≡ false
  plain = by_test (is_biased (marks w o)) refl
    where
      by_test : (b : Bool) → is_biased (marks w o) ≡ b → b ≡ false
      by_test false h = refl
      by_test true h = let there = v.seen.classed o h in let no = unclassed in absurd (cc (there, no))

  -- no thread has seen its mark with the bias pattern
  saw_plain : (u s : ℕ) → last_seen (Mark o) (w.known u).seen ≡ Some s → GoesBy (w.known u) → is_biased s ≡ true → ⊥
  saw_plain u s saw asks b = let there = v.seen.saw_classed u o s saw asks b in let no = unclassed in absurd (cc (there, no))

  -- the step, at the stage at which the thread stands
  abbrev plan : StepPlan
  plan = with_stage (w.known t).stage (class_plan e o c)

  abbrev l : ThreadView
  l = known_hit w.shape w.start plan (w.words (Class o)) (w.known t)

  abbrev x : World
  x = with_word_and_known (Class o) (c + 1) t l w

  step : IsStep w t l quietly
  step = record { within = within; mine = refl; others = λ k. refl }

  abbrev z : World
  z = next w t l quietly x.words

  -- PROTOTYPES AND LOCKS
  prototype_else : (i : ℕ) → i ≢ o → prototype_of x i ≡ prototype_of w i
  prototype_else i d =
      let class : Bool → ℕ = λ b. cond (nat_lt i w.shape.declared) (class_in_shape w.shape i) (cond b (c + 1) (w.words (Class i)) - 1) in
      ap (λ b. w.words (Prototype (class b))) (ne_eqb i o d)

  lock_at : (i : ℕ) → lock z i ≡ lock w i
  lock_at i = by_equal i o
      (λ s.
      let unbiased = ap (λ j. is_biased (marks w j)) s ∙ plain in
      unbiased_lock (read_mark (marks w i)) (prototype_of x i) (prototype_of w i) (owner_words w) (inflations w i) unbiased)
      (λ d. ap (λ p. lock_form (read_mark (marks w i)) p (owner_words w) (inflations w i)) (prototype_else i d))

  locks : lock z ≡ lock w
  locks = λ j. λ i. lock_at i j

  -- WHAT WAS SEEN. What a thread may count on afterwards it could count on before
  bias_back : (i s : ℕ) → (Mark i ≡ Mark o → is_biased s ≡ true → ⊥)
      → IsValidBias (read_mark s) (prototype_of x i) → IsValidBias (read_mark s) (prototype_of w i)
  bias_back i s none h = by_equal i o
      (λ a. absurd (none (ap Mark a) (biased_by (read_mark s) (prototype_of x i) h)))
      (λ d. subst (IsValidBias (read_mark s)) (prototype_else i d) h)

  running_back : (k : ThreadView) (owner : ℕ → ℕ → Bool) (u : ℕ) (n : WordId) (s : ℕ) → (n ≡ Mark o → is_biased s ≡ true → ⊥)
      → StaysWhileRunning x k owner u n s → StaysWhileRunning w k owner u n s
  running_back k owner u (Mark i) s none (inl h) = inl (bias_back i s none h)
  running_back k owner u (Mark i) s none (inr h) = inr h
  running_back k owner u _ s none h = h

  asking_back : (n : WordId) (s : ℕ) → (n ≡ Mark o → is_biased s ≡ true → ⊥) → StaysWhileAsking x n s → StaysWhileAsking w n s
  asking_back (Mark i) s none h = bias_back i s none h
  asking_back _ s none h = h

  back : (k : ThreadView) (u : ℕ) (n : WordId) (s : ℕ) → (n ≡ Mark o → GoesBy k → is_biased s ≡ true → ⊥)
      → Stays x k (owner_at P) u n s → Stays w k (owner_at P) u n s
  back k u n s none h = elim h [
    | inl a ↦ inl (a.0, running_back k (owner_at P) u n s (λ m. none m (inl a.0)) a.1)
    | inr a ↦ inr (a.0, a.1, asking_back n s (λ m. none m (inr a.0)) a.2)
  ]

  -- what was seen at a mark of this name was seen at the object's mark
  at_mark : (u : ℕ) (n : WordId) (s : ℕ) → last_seen n (w.known u).seen ≡ Some s → n ≡ Mark o → GoesBy (w.known u) → is_biased s ≡ true → ⊥
  at_mark u n s saw is asks = saw_plain u s (ap (λ m. last_seen m (w.known u).seen) (sym is) ∙ saw) asks

  -- nobody counts on a class word that is 0
  uncounted : (u s : ℕ) → Stays w (w.known u) (owner_at P) u (Class o) s → w.words (Class o) ≡ s → ⊥
  uncounted u s h is = elim h [ inl a ↦ a.1 (sym is ∙ less.word) | inr a ↦ a.2 (sym is ∙ less.word) ]

  -- what is there stays there
  there : (i : ℕ) → has_class w.shape w.words i ≡ true → has_class w.shape x.words i ≡ true
  there i h = by_equal i o
      (λ s. let yes = ap (λ j. has_class w.shape w.words j) (sym s) ∙ h in let no = unclassed in absurd (cc (yes, no)))
      (λ d. ap (λ (b : Bool). nat_lt i w.shape.declared || not (cond b (c + 1) (w.words (Class i)) == 0)) (ne_eqb i o d) ∙ h)

  spares : Spares (Class o) (c + 1) t l w (owner_at P) (owner_at P) (waits_at P) (waits_at P)
  spares = record {
    before = λ u n s d saw g. back (w.known u) u n s (at_mark u n s saw) g;
    owned = λ u i d h. h;
    word = λ u s d h is. absurd (uncounted u s h is);
    bias = λ u i s saw asks h. h;
    there = there;
    classed = v.seen.classed;
    waits = λ u y i d h g. g;
    unwaited = λ u i d h g. g;
    unreached = none_reached w P t l v may.runs refl;
    names = λ i m h. h;
  }

  -- the thread itself stands where it stood
  same_stand : Back w w (w.known t) l (owner_at P) (owner_at P) t
  same_stand = record {
    run = λ h. h;
    ask = λ h. h;
    inflates = λ i h. h;
    not_revoking = λ h. h;
    kept = λ m h. h;
    prototype = λ i. refl;
    monitor = λ i m h. h;
    owned = λ i h. h;
    held = λ i m h g. g;
  }

  counts : Counts (Class o) (c + 1) t l w (owner_at P) (waits_at P) (seen_before w.shape (w.known t))
  counts =
      let part = seen_is_part w.shape (w.known t) in
      record {
        others = λ n s saw d g.
            let was = part n s saw in
            v.seen.stays t n s was (stays_back w w (w.known t) l (owner_at P) (owner_at P) t same_stand n s (back l t n s (at_mark t n s was) g));
        unbiased = λ i s saw b asks. v.seen.unbiased t i s (part (Mark i) s saw) asks b;
        classed = λ i s saw b asks. v.seen.saw_classed t i s (part (Mark i) s saw) asks b;
        unwaiting = λ u i s saw own b runs. v.seen.unwaiting t u i s (part (Waiting u) s saw) runs own b;
        unwaited = λ i s saw runs own b. v.seen.unwaited t i s (part (Mark i) s saw) runs own b;
        idle = λ i h. absurd (cc h);
        monitors = λ m s runs met. v.seen.monitors t m s runs (met.0, met.1, part met.0 s met.2);
        fresh = λ m runs h. absurd (cc h);
      }

  seen_law : SeenFit x P
  seen_law =
      seen_moves plan (w.words (Class o)) t l w (owner_at P) (owner_at P) (waits_at P) (waits_at P) (seen_before w.shape (w.known t)) refl
      counts spares v.seen

  -- THE CLAUSES
  forms_law : WordsHaveForms w.shape (marks w) (owner_words w) (λ u. w.words (Waiting u)) (λ m. w.words (Object m)) (λ i. x.words (Class i))
      (λ u q. w.words (Hold u q)) (w.words Safepoint)
  forms_law = record {
    marks = v.forms.marks;
    owners = v.forms.owners;
    waits = v.forms.waits;
    objects = v.forms.objects;
    holds = v.forms.holds;
    safepoint = v.forms.safepoint;
    classes = λ i. each_set (λ j n. n ≤ w.shape.classes) o (c + 1) (λ j. w.words (Class j)) i (omega (arith, few)) (λ d. v.forms.classes i);
  }

  all_after : AllHold (turned_parts w z P (lock w))
  all_after seen = seen_next step x.words P seen_law
  all_after forms = forms_law
  all_after other = quiet_step step P may.goes_on may.runs v other

  pub class_fits : Fits (world_after (class_plan e o c) t w) P
  class_fits =
      let parts = parts_turn w z P (lock w) refl (λ u. refl) (λ u. refl) locks refl refl in
      subst (λ (stage : Stage). Fits (world_after (with_stage stage (class_plan e o c)) t w) P) may.calm
      (step_fits step x.words P (turned_parts w z P (lock w)) parts all_after)

-- THE LAW
pub class_valid : (e : CallContext) (o c : ℕ) (w : World) (P : List PlainObject) (t : ℕ) → t < w.shape.threads → MayStoreClass (w.known t) e
    → IsClassless w o → c < w.shape.classes → Fits w P → Fits (world_after (class_plan e o c) t w) P
class_valid e o c w P t within may less few v = class_fits w P t e o c within may less few v
