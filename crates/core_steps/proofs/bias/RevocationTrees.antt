-- The steps of a revocation after its first store: each loads a word in its middle, or stores one of those that revocations store.
use Rattle.std.proofs.Common.{◌≡◌, ◌⊎◌, ℕ, zero, suc, ◌+◌, ◌-◌, nat_lt, ◌==◌, ◌++◌, Bool, true, false, cond, if◌then◌else◌}
use Rattle.std.proofs.Common.{List, [], ◌∷◌, Option, Some, None, refl, sym, subst, inl, inr, ◌<◌, ◌≤◌, length, ap, arith}
use Rattle.plain_monitor.specs.Limits.{most_holds}
use Rattle.mark_word.specs.declared.mark.MarkForm.{MarkForm}
use Rattle.mark_word.specs.declared.mark.MarkForm.TheVariants.{Neutral, Anonymous, Biased, Locked}
use Rattle.mark_word.specs.Mark.{mark_of, read_mark}
use Rattle.mark_word.specs.Hold.{read_hold}
use Rattle.mark_word.specs.declared.hold.HoldForm.{HoldForm}
use Rattle.mark_word.specs.declared.hold.HoldForm.TheVariants.{Empty, Holds}
use Rattle.lock_policy.specs.declared.policy.Verdict.{Verdict}
use Rattle.lock_policy.specs.declared.policy.Verdict.TheVariants.{Single, BulkRebias, BulkRevoke}
use Rattle.lock_policy.specs.Policy.{decided}
use Rattle.core_world.specs.declared.word_id.WordId.{WordId}
use Rattle.core_world.specs.declared.word_id.WordId.TheVariants.{Prototype, Revocations, LastBulk, Mark, Hold, Displaced, Class}
use Rattle.core_world.specs.declared.plan.StepPlan.{StepPlan}
use Rattle.core_world.specs.Words.Forms.{names, hold_word, is_biased, epoch_in}
use Rattle.core_world.specs.Threads.ThreadView.{StepMade}
use Rattle.core_world.specs.Locks.{hold_count, is_valid_bias}
use Rattle.core_world.specs.declared.stage.Stage.TheVariants.{Settled}
use Rattle.core_world.specs.Trees.Plans.{CallContext, with_stage, load, load_plan, store, class_steps}
use Rattle.core_world.specs.RevocationRules.{Write, write, raised_form, with_epoch, store_where, object_held}
use Rattle.core_world.specs.RevocationRules.{biased_word, record_writes, first_place, revoke_biased}
use Rattle.core_world.specs.Trees.RevocationSteps.{revocation_stage, look, store_steps, revoke_at, revoke_steps, visit_held}
use Rattle.core_world.specs.Trees.RevocationSteps.{walk_steps, take_bias_steps, next_epoch, bulk_rebias_steps, bulk_revoke_steps}
use Rattle.core_world.specs.Trees.RevocationSteps.{verdict_steps, decided_steps, RevocationOutcome, revoke_at_safepoint_steps}
use Rattle.core_world.specs.Words.Shape.{Shape, class_in_shape}
use Rattle.core_world.specs.Threads.Stages.{Revocation}
use Rattle.core_world.specs.Trees.StepTree.{StepTree, done, unreachable, step, ◌>>=◌, each_from, all_from}
use Rattle.core_world.specs.Clauses.WordForms.{IsMark, IsHold}
use Rattle.core_world.specs.There.{IsIn}
use Rattle.core_bias.specs.Revoking.{Leads}
use Rattle.core_world.proofs.There.{IsFormed}
use Rattle.core_steps.proofs.ClassSteps.{made_there}

-- the words that a revocation loads, and those that it stores
abbrev pub IsLooked : WordId → Type 0
IsLooked (Prototype c) = Unit {0}
IsLooked (Revocations c) = Unit {0}
IsLooked (LastBulk c) = Unit {0}
IsLooked (Mark o) = Unit {0}
IsLooked (Hold t p) = Unit {0}
IsLooked (Class o) = Unit {0}
IsLooked _ = ⊥

abbrev pub IsStored : WordId → Type 0
IsStored (Prototype c) = Unit {0}
IsStored (LastBulk c) = Unit {0}
IsStored (Mark o) = Unit {0}
IsStored (Displaced t p) = Unit {0}
IsStored _ = ⊥

-- the heap has the words that they store
abbrev pub AreStored : Shape → List Write → Type 0
AreStored s [] = Unit {0}
AreStored s (x ∷ xs) = IsStored x.at × IsIn s x.at × AreStored s xs

both_stored : (s : Shape) (xs ys : List Write) → AreStored s xs → AreStored s ys → AreStored s (xs ++ ys)
both_stored s [] ys h k = k
both_stored s (x ∷ xs) ys h k = (h.0, h.1, both_stored s xs ys h.2 k)

where_stored : (s : Shape) (at : WordId) (word : Option ℕ) → IsStored at → IsIn s at → AreStored s (store_where at word)
where_stored s at None h i = tt
where_stored s at (Some word) h i = (h, i, tt)

raised_stored : (s : Shape) (epoch : Option ℕ) (c : ℕ) → c < s.classes → AreStored s (raised_form epoch c)
raised_stored s None c h = tt
raised_stored s (Some epoch) c h = (tt, h, tt)

module _ (s : Shape) (o t : ℕ) (object : o < length s.objects) (thread : t < s.threads) where
  records_stored : (p : ℕ) (hs : List ℕ) → p + length hs ≤ 64 → AreStored s (record_writes o t p hs)
  records_stored p [] few = tt
  records_stored p (h ∷ hs) few = cases (names o h) (records_stored (p + 1) hs (omega (arith, few)))
    where
      cases : (b : Bool) → AreStored s (record_writes o t (p + 1) hs)
          → AreStored s ((if b then write (Displaced t p) (if h == hold_word o 1 then mark_of (Neutral 0 0) else 0) ∷ [] else [])
          ++ record_writes o t (p + 1) hs)
      cases true k = (tt, (thread, omega (arith, few)), k)
      cases false k = k

  biased_stored : (allowed : Bool) (hs : List ℕ) → length hs ≡ most_holds → AreStored s (revoke_biased o t allowed hs)
  biased_stored allowed hs many = cases (hold_count o hs == 0)
    where
      cases : (b : Bool)
          → AreStored s (if b then write (Mark o) (mark_of (if allowed then Anonymous 0 0 else Neutral 0 0)) ∷ []
          else record_writes o t 0 hs ++ write (Mark o) (mark_of (Locked t (first_place o hs))) ∷ [])
      cases true = (tt, object, tt)
      cases false =
          both_stored s (record_writes o t 0 hs) (write (Mark o) (mark_of (Locked t (first_place o hs))) ∷ [])
          (records_stored 0 hs (omega (arith, many))) (tt, object, tt)

-- OF ALL ANSWERS of a tree, whatever its steps find
abbrev pub AllAnswers : {A : Type 0} → (A → Type 0) → StepTree A → Type 0
AllAnswers P (done a) = P a
AllAnswers P unreachable = Unit {0}
AllAnswers P (step p f) = (n : ℕ) → AllAnswers P (f n)

-- after any first tree, and after one whose answers are so
answers_after : {A B : Type 0} (P : B → Type 0) (d : StepTree A) (g : A → StepTree B) → ((a : A) → AllAnswers P (g a)) → AllAnswers P (d >>= g)
answers_after P (done a) g h = h a
answers_after P unreachable g h = tt
answers_after P (step p f) g h = λ n. answers_after P (f n) g h

answers_then : {A B : Type 0} (P : A → Type 0) (R : B → Type 0) (d : StepTree A) (g : A → StepTree B) → AllAnswers P d → ((a : A) → P a → AllAnswers R (g a))
    → AllAnswers R (d >>= g)
answers_then P R (done a) g h k = k a h
answers_then P R unreachable g h k = tt
answers_then P R (step p f) g h k = λ n. answers_then P R (f n) g (h n) k

-- and of the tree that is left after some of the steps
pub answers_left : {A : Type 0} (P : A → Type 0) (T U : StepTree A) (ms : List StepMade) → Leads T ms U → AllAnswers P T → AllAnswers P U
answers_left P T U [] path h = subst (AllAnswers P) path h
answers_left P T U (m ∷ ms) path h = subst (AllAnswers P) (sym path.2) (answers_left P T (step m.plan path.0) ms path.1 h m.found)

-- so many answers as turns
each_many : {A : Type 0} (i n : ℕ) (f : ℕ → StepTree A) → AllAnswers (λ xs. length xs ≡ n) (each_from i n f)
each_many i zero f = refl
each_many i (suc n) f =
    answers_after (λ xs. length xs ≡ suc n) (f i) _ (λ first.
    answers_then (λ xs. length xs ≡ n) (λ xs. length xs ≡ suc n) (each_from (i + 1) n f) _ (each_many (i + 1) n f) (λ others many. ap suc many))

-- IN THE MIDDLE each step is a load or a store of a word that the heap has, where the words that it finds have the forms that words of the heap have.
module _ (s : Shape) (e : CallContext) (b : Revocation) where
  abbrev pub IsMiddle : StepPlan → Type 0
  IsMiddle p =
      ((at : WordId) × IsLooked at × IsIn s at × (p ≡ with_stage (revocation_stage b) (load e at)))
      ⊎ ((at : WordId) × (word : ℕ) × IsStored at × IsIn s at × (p ≡ with_stage (revocation_stage b) (store e at word)))

  -- all steps of the tree are, and it says nowhere that no valid world comes there
  abbrev pub InMiddle : {A : Type 0} → StepTree A → Type 0
  InMiddle (done a) = Unit {0}
  InMiddle unreachable = ⊥
  InMiddle (step p f) = IsMiddle p × ((n : ℕ) → IsFormed s p.at n → InMiddle (f n))

  pub middle_answers : {A B : Type 0} (P : A → Type 0) (d : StepTree A) (g : A → StepTree B) → InMiddle d → AllAnswers P d → ((a : A) → P a → InMiddle (g a))
      → InMiddle (d >>= g)
  middle_answers P (done a) g h all k = k a all
  middle_answers P unreachable g h all k = absurd h
  middle_answers P (step p f) g h all k = (h.0, λ n formed. middle_answers P (f n) g (h.1 n formed) (all n) k)

  pub middle_binds : {A B : Type 0} (d : StepTree A) (g : A → StepTree B) → InMiddle d → ((a : A) → InMiddle (g a)) → InMiddle (d >>= g)
  middle_binds (done a) g h k = k a
  middle_binds unreachable g h k = absurd h
  middle_binds (step p f) g h k = (h.0, λ n formed. middle_binds (f n) g (h.1 n formed) k)

  middle_chooses : {A : Type 0} (c : Bool) (x y : StepTree A) → InMiddle x → InMiddle y → InMiddle (cond c x y)
  middle_chooses true x y h k = h
  middle_chooses false x y h k = k

  -- the turns of a loop
  middle_all : (i n : ℕ) (f : ℕ → StepTree (Unit {0})) → ((j : ℕ) → j < i + n → InMiddle (f j)) → InMiddle (all_from i n f)
  middle_all i zero f h = tt
  middle_all i (suc n) f h =
      middle_binds (f i) (λ u. all_from (i + 1) n f) (h i (omega arith)) (λ u. middle_all (i + 1) n f (λ j less. h j (omega (arith, less))))

  middle_each : {A : Type 0} (i n : ℕ) (f : ℕ → StepTree A) → ((j : ℕ) → j < i + n → InMiddle (f j)) → InMiddle (each_from i n f)
  middle_each i zero f h = tt
  middle_each i (suc n) f h =
      middle_binds (f i) (λ first. each_from (i + 1) n f >>= (λ others. done (first ∷ others))) (h i (omega arith)) (λ first.
      middle_binds (each_from (i + 1) n f) (λ others. done (first ∷ others)) (middle_each (i + 1) n f (λ j less. h j (omega (arith, less)))) (λ others. tt))

  -- a load, and what is done by the word that it finds
  middle_look : {A : Type 0} (at : WordId) (g : ℕ → StepTree A) → IsLooked at → IsIn s at → ((n : ℕ) → IsFormed s at n → InMiddle (g n))
      → InMiddle (look e b at >>= g)
  middle_look at g h i k = (inl (at, h, i, refl), k)

  middle_stores : (xs : List Write) → AreStored s xs → InMiddle (store_steps e b xs)
  middle_stores [] h = tt
  middle_stores (x ∷ xs) h = (inr (x.at, x.word, h.0, h.1, refl), λ n formed. middle_stores xs h.2)

  -- THE PARTS of a revocation
  middle_revoke_at : (f : Option MarkForm) (o : ℕ) (allowed : Bool) → o < length s.objects → IsMark s f → InMiddle (revoke_at f e b o allowed)
  middle_revoke_at (Some (Anonymous epoch age)) o true object form = tt
  middle_revoke_at (Some (Anonymous epoch age)) o false object form = middle_stores (write (Mark o) (mark_of (Neutral 0 0)) ∷ []) (tt, object, tt)
  middle_revoke_at (Some (Biased t epoch age)) o allowed object form =
      middle_answers (λ hs. length hs ≡ most_holds) (each_from 0 most_holds (λ p. look e b (Hold t p)))
      (λ holds. store_steps e b (revoke_biased o t allowed holds))
      (middle_each 0 most_holds (λ p. look e b (Hold t p)) (λ p less. (inl (Hold t p, tt, (form.0, less), refl), λ n formed. tt)))
      (each_many 0 most_holds (λ p. look e b (Hold t p)))
      (λ holds many. middle_stores (revoke_biased o t allowed holds) (biased_stored s o t object form.0 allowed holds many))
  middle_revoke_at _ o allowed object form = tt

  middle_revoke : (o : ℕ) (allowed : Bool) → o < length s.objects → InMiddle (revoke_steps e b o allowed)
  middle_revoke o allowed object =
      middle_look (Mark o) (λ mark. revoke_at (read_mark mark) e b o allowed) tt object
      (λ mark formed. middle_revoke_at (read_mark mark) o allowed object formed)

  -- what is done with a biased object that a record names
  abbrev Visits : (ℕ → ℕ → StepTree (Unit {0})) → Type 0
  Visits visit = (o mark : ℕ) → o < length s.objects → IsMark s (read_mark mark) → InMiddle (visit o mark)

  middle_visit : (c : ℕ) (visit : ℕ → ℕ → StepTree (Unit {0})) (f : Option HoldForm) → IsHold s f → Visits visit
      → InMiddle (visit_held s c e b visit (object_held f))
  middle_visit c visit None form h = absurd form
  middle_visit c visit (Some Empty) form h = tt
  middle_visit c visit (Some (Holds o d)) form h =
      by_test (nat_lt o s.declared) refl
    where
      after_class : (k : ℕ) → InMiddle (cond (k == c) (look e b (Mark o) >>= (λ mark. cond (is_biased mark) (visit o mark) (done tt))) (done tt))
      after_class k =
          middle_chooses (k == c) (look e b (Mark o) >>= (λ mark. cond (is_biased mark) (visit o mark) (done tt))) (done tt)
          (middle_look (Mark o) (λ mark. cond (is_biased mark) (visit o mark) (done tt)) tt form
          (λ mark formed. middle_chooses (is_biased mark) (visit o mark) (done tt) (h o mark form formed) tt))
          tt

      by_test : (a : Bool) → nat_lt o s.declared ≡ a
          → InMiddle (cond a (done (class_in_shape s o)) (step (load_plan e (revocation_stage b) (Class o)) (λ word. done (word - 1)))
          >>= (λ k. cond (k == c) (look e b (Mark o) >>= (λ mark. cond (is_biased mark) (visit o mark) (done tt))) (done tt)))
      by_test true declared = after_class (class_in_shape s o)
      by_test false made = (inl (Class o, tt, made_there s o form made, refl), λ word formed. after_class (word - 1))

  middle_walk : (c : ℕ) (visit : ℕ → ℕ → StepTree (Unit {0})) → Visits visit → InMiddle (walk_steps s c e b visit)
  middle_walk c visit h =
      middle_all 0 s.threads (λ t. all_from 0 most_holds (λ p. look e b (Hold t p) >>= (λ hold. visit_held s c e b visit (object_held (read_hold hold)))))
      (λ t thread. middle_all 0 most_holds (λ p. look e b (Hold t p) >>= (λ hold. visit_held s c e b visit (object_held (read_hold hold))))
      (λ p place. middle_look (Hold t p) (λ hold. visit_held s c e b visit (object_held (read_hold hold))) tt (omega (arith, thread), place)
      (λ hold formed. middle_visit c visit (read_hold hold) formed h)))

  module _ (object : b.object < length s.objects) (c : ℕ) (class : c < s.classes) where
    middle_take : (epoch : Option ℕ) (t : ℕ) → InMiddle (take_bias_steps e b epoch t)
    middle_take epoch t = (
      inl (Mark b.object, tt, object, refl),
      λ mark formed. middle_binds (store_steps e b (store_where (Mark b.object) (biased_word (is_biased mark) epoch t))) _
          (middle_stores (store_where (Mark b.object) (biased_word (is_biased mark) epoch t))
          (where_stored s (Mark b.object) (biased_word (is_biased mark) epoch t) tt object)) (λ u. tt),
    )

    middle_rebias : (t : ℕ) (epoch : Option ℕ) → InMiddle (bulk_rebias_steps s t c e b epoch)
    middle_rebias t epoch = (
      inr (LastBulk c, b.now, tt, class, refl),
      λ n formed. middle_binds (store_steps e b (raised_form epoch c)) _ (middle_stores (raised_form epoch c) (raised_stored s epoch c class)) (λ u.
          middle_binds (walk_steps s c e b (λ o mark. store_steps e b (store_where (Mark o) (with_epoch (read_mark mark) (next_epoch epoch))))) _
          (middle_walk c _ (λ o mark visited form. middle_stores (store_where (Mark o) (with_epoch (read_mark mark) (next_epoch epoch)))
          (where_stored s (Mark o) (with_epoch (read_mark mark) (next_epoch epoch)) tt visited))) (λ u.
          middle_binds (revoke_steps e b b.object b.rebias) (λ u. cond b.rebias (take_bias_steps e b (next_epoch epoch) t) (done false))
          (middle_revoke b.object b.rebias object)
          (λ u. middle_chooses b.rebias (take_bias_steps e b (next_epoch epoch) t) (done false) (middle_take (next_epoch epoch) t) tt))),
    )

    middle_bulk : InMiddle (bulk_revoke_steps s c e b)
    middle_bulk = (
      inr (LastBulk c, b.now, tt, class, refl),
      λ n formed. (
        inr (Prototype c, mark_of (Neutral 0 0), tt, class, refl),
        λ n formed. middle_binds (walk_steps s c e b (λ o mark. revoke_at (read_mark mark) e b o false)) (λ u. revoke_steps e b b.object false)
            (middle_walk c _ (λ o mark visited form. middle_revoke_at (read_mark mark) o false visited form)) (λ u. middle_revoke b.object false object),
      ),
    )

    pub middle_verdict : (t : ℕ) (epoch : Option ℕ) (v : Verdict) → InMiddle (verdict_steps s t c e b epoch v)
    middle_verdict t epoch Single = middle_binds (revoke_steps e b b.object false) (λ u. done false) (middle_revoke b.object false object) (λ u. tt)
    middle_verdict t epoch BulkRebias = middle_rebias t epoch
    middle_verdict t epoch BulkRevoke = middle_binds (bulk_revoke_steps s c e b) (λ u. done false) middle_bulk (λ u. tt)

-- NO NEW BIAS is taken where none is allowed.
module _ (e : CallContext) (b : Revocation) (none : b.rebias ≡ false) where
  abbrev Untaken : Bool → Type 0
  Untaken took = took ≡ false

  rebias_untaken : (s : Shape) (t c : ℕ) (epoch : Option ℕ) → AllAnswers Untaken (bulk_rebias_steps s t c e b epoch)
  rebias_untaken s t c epoch = λ n.
      answers_after Untaken (store_steps e b (raised_form epoch c)) _ (λ u.
      answers_after Untaken (walk_steps s c e b (λ o mark. store_steps e b (store_where (Mark o) (with_epoch (read_mark mark) (next_epoch epoch))))) _ (λ u.
      answers_after Untaken (revoke_steps e b b.object b.rebias) (λ u. cond b.rebias (take_bias_steps e b (next_epoch epoch) t) (done false)) (λ u.
      subst (λ (z : Bool). AllAnswers Untaken (cond z (take_bias_steps e b (next_epoch epoch) t) (done false))) (sym none) refl)))

  verdict_untaken : (s : Shape) (t c : ℕ) (epoch : Option ℕ) (v : Verdict) → AllAnswers Untaken (verdict_steps s t c e b epoch v)
  verdict_untaken s t c epoch Single = answers_after Untaken (revoke_steps e b b.object false) (λ u. done false) (λ u. refl)
  verdict_untaken s t c epoch BulkRebias = rebias_untaken s t c epoch
  verdict_untaken s t c epoch BulkRevoke = answers_after Untaken (bulk_revoke_steps s c e b) (λ u. done false) (λ u. refl)

  pub revocation_untaken : (s : Shape) (t : ℕ) → AllAnswers (λ (a : RevocationOutcome). a.took ≡ false) (revoke_at_safepoint_steps s t e b)
  revocation_untaken s t = λ mark.
      answers_after (λ (a : RevocationOutcome). a.took ≡ false) (class_steps e Settled s b.object) _
      (λ c prototype count last. by_test (is_valid_bias (read_mark mark) prototype) c prototype count last)
    where
      by_test : (z : Bool) (c prototype count last : ℕ)
          → AllAnswers (λ (a : RevocationOutcome). a.took ≡ false) (cond z (decided_steps s t c e b (epoch_in prototype) count last) unreachable)
      by_test true c prototype count last = λ n.
          answers_then Untaken (λ (a : RevocationOutcome). a.took ≡ false)
          (verdict_steps s t c e b (epoch_in prototype) (decided count last b.now).0)
          (λ took. done (record { verdict = (decided count last b.now).0; took = took }))
          (verdict_untaken s t c (epoch_in prototype) (decided count last b.now).0) (λ took h. h)
      by_test false c prototype count last = tt
