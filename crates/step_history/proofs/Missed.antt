-- Lists of steps that are wrong in one way each: what they are said to show, they don't.
use Rattle.std.proofs.Common.{◌≡◌, ◌≢◌, ◌⊎◌, ℕ, ◌<◌, ◌≤◌, ◌==◌, ◌&&◌, cond, Bool, true, false, List, [], ◌∷◌, ◌++◌, length, nat_lt}
use Rattle.std.proofs.Common.{Option, Some, None, is_some, refl, sym, ap, ◌∙◌, subst, arith, eq-eqb, inl, inr, append_assoc}
use Rattle.std.specs.List.{AllByRecursion}
use Rattle.core_world.specs.declared.heap_call.HeapCall.{HeapCall}
use Rattle.core_world.specs.declared.plan.StepPlan.{StepPlan}
use Rattle.core_world.specs.Due.{IsNext, steps_due}
use Rattle.core_world.specs.Opening.{opening}
use Rattle.core_world.specs.Steps.{is_idle, rest_of_call, known_after}
use Rattle.core_world.specs.Threads.Stages.{is_calm}
use Rattle.core_world.specs.Threads.ThreadView.{ThreadView, StepMade, left_by, start_of}
use Rattle.core_world.specs.Trees.Calls.{steps_of, may_begin}
use Rattle.core_world.specs.Trees.StepTree.{unreachable, head}
use Rattle.core_world.specs.Words.Acts.{hits}
use Rattle.core_world.specs.Words.Shape.{Shape}
use Rattle.core_world.specs.World.{World}
use Rattle.core_world.proofs.KnowledgeParts.{by_equal, with_known_here, with_known_else}
use Rattle.core_calls.specs.Paths.{made}
use Rattle.core_law.specs.Logic.{Heap}
use Rattle.core_law.specs.Reached.{IsReachable}
use Rattle.step_history.specs.Leads.{Leads, stays, goes, steps_by}
use Rattle.step_history.specs.Overtaken.{WasOvertaken}
use Rattle.step_history.specs.Turns.{next_of, after_turn, after_turns, all_step}
use Rattle.step_history.proofs.Listed.{step_added, reached_listed, own_steps}

abbrev Steps : Type 0
Steps = List (ℕ × StepMade)

-- WHAT HOLDS OF ALL STEPS holds of one among them, and of those before it.
one_of : (P : ℕ × StepMade → Type 0) (newer older : Steps) (x : ℕ × StepMade) → AllByRecursion P (newer ++ x ∷ older) → P x
one_of P [] older x h = h.0
one_of P (n ∷ newer) older x h = one_of P newer older x h.1

older_of : (P : ℕ × StepMade → Type 0) (newer older : Steps) (x : ℕ × StepMade) → AllByRecursion P (newer ++ x ∷ older) → AllByRecursion P older
older_of P [] older x h = h.1
older_of P (n ∷ newer) older x h = older_of P newer older x h.1

-- a step that isn't such as the newer ones is among the older ones, and so are those before it
before_it : (P Q : ℕ × StepMade → Type 0) (newer older pre rest : Steps) (x : ℕ × StepMade) → AllByRecursion P newer → AllByRecursion Q older
    → newer ++ older ≡ pre ++ x ∷ rest → (P x → ⊥) → AllByRecursion Q rest
before_it P Q [] older pre rest x h g e differs = older_of Q pre rest x (subst (AllByRecursion Q) e g)
before_it P Q (y ∷ newer) older [] rest x h g e differs = let same : y ≡ x = cc e in absurd (differs (subst P same h.0))
before_it P Q (y ∷ newer) older (z ∷ pre) rest x h g e differs =
    let tail : newer ++ older ≡ pre ++ x ∷ rest = cc e in before_it P Q newer older pre rest x h.1 g tail differs

-- WHO WAS OVERTAKEN
module _ (t expected found : ℕ) where
  -- the steps by the change
  by_change : (xs : Steps) (o : WasOvertaken t expected found xs)
      → xs ≡ (o.after ++ (t, o.exchange) ∷ o.until) ++ (o.other, o.change) ∷ (o.between ++ (t, o.sight) ∷ o.before)
  by_change xs o =
      o.order ∙ sym (append_assoc o.after ((t, o.exchange) ∷ o.until) ((o.other, o.change) ∷ (o.between ++ (t, o.sight) ∷ o.before)))

  change_is : (P : ℕ × StepMade → Type 0) (xs : Steps) (o : WasOvertaken t expected found xs) → AllByRecursion P xs → P (o.other, o.change)
  change_is P xs o h =
      one_of P (o.after ++ (t, o.exchange) ∷ o.until) (o.between ++ (t, o.sight) ∷ o.before) (o.other, o.change)
      (subst (AllByRecursion P) (by_change xs o) h)

  exchange_is : (P : ℕ × StepMade → Type 0) (xs : Steps) (o : WasOvertaken t expected found xs) → AllByRecursion P xs → P (t, o.exchange)
  exchange_is P xs o h =
      one_of P o.after (o.until ++ (o.other, o.change) ∷ (o.between ++ (t, o.sight) ∷ o.before)) (t, o.exchange)
      (subst (AllByRecursion P) o.order h)

  pub alone_not : (xs : Steps) → AllByRecursion (λ (x : ℕ × StepMade). x.0 ≡ t) xs → WasOvertaken t expected found xs → ⊥
  alone_not xs h o = o.another (change_is (λ (x : ℕ × StepMade). x.0 ≡ t) xs o h)

  pub unchanged_not : (xs : Steps) → AllByRecursion (λ (x : ℕ × StepMade). (x.0 ≡ t) ⊎ (left_by x.1 ≡ x.1.found)) xs
      → WasOvertaken t expected found xs → ⊥
  unchanged_not xs h o = elim (change_is (λ (x : ℕ × StepMade). (x.0 ≡ t) ⊎ (left_by x.1 ≡ x.1.found)) xs o h) [
    | inl same ↦ o.another same
    | inr same ↦ o.changed same
  ]

  abbrev IsElsewhere : ℕ × StepMade → ℕ × StepMade → Type 0
  IsElsewhere x y = y.0 ≡ t → y.1.plan.at ≢ x.1.plan.at

  abbrev IsApart : Steps → ℕ × StepMade → Type 0
  IsApart xs x = (x.0 ≡ t) ⊎ AllByRecursion (IsElsewhere x) xs

  pub elsewhere_not : (xs : Steps) → AllByRecursion (IsApart xs) xs → WasOvertaken t expected found xs → ⊥
  elsewhere_not xs h o = elim (change_is (IsApart xs) xs o h) [
    | inl same ↦ o.another same
    | inr apart ↦ exchange_is (IsElsewhere (o.other, o.change)) xs o apart refl (o.exchanged_at ∙ sym o.changed_at)
  ]

  module _ (newer older : Steps) where
    pub later_not : AllByRecursion (λ (x : ℕ × StepMade). x.0 ≡ t) newer → AllByRecursion (λ (x : ℕ × StepMade). x.0 ≢ t) older
        → WasOvertaken t expected found (newer ++ older) → ⊥
    later_not h g o =
        one_of (λ (x : ℕ × StepMade). x.0 ≢ t) o.between o.before (t, o.sight)
        (before_it (λ (x : ℕ × StepMade). x.0 ≡ t) (λ (x : ℕ × StepMade). x.0 ≢ t) newer older (o.after ++ (t, o.exchange) ∷ o.until)
        (o.between ++ (t, o.sight) ∷ o.before) (o.other, o.change) h g (by_change (newer ++ older) o) o.another)
        refl

    pub earlier_not : AllByRecursion (λ (x : ℕ × StepMade). x.0 ≢ t) newer → AllByRecursion (λ (x : ℕ × StepMade). x.0 ≡ t) older
        → WasOvertaken t expected found (newer ++ older) → ⊥
    earlier_not h g o =
        o.another
        (one_of (λ (x : ℕ × StepMade). x.0 ≡ t) o.until (o.between ++ (t, o.sight) ∷ o.before) (o.other, o.change)
        (before_it (λ (x : ℕ × StepMade). x.0 ≢ t) (λ (x : ℕ × StepMade). x.0 ≡ t) newer older o.after
        (o.until ++ (o.other, o.change) ∷ (o.between ++ (t, o.sight) ∷ o.before)) (t, o.exchange) h g o.order (λ differ. differ refl)))

pub hit_not : (t word : ℕ) (xs : Steps) → WasOvertaken t word word xs → ⊥
hit_not t word xs o = o.missed refl

-- THE FIRST STEP of a list that leads on
none_made : (w v : World) (xs : Steps) → Leads w xs v → xs ≡ [] → v ≡ w
none_made w v xs stays e = refl
none_made w v xs (goes ys x t p before within next) e = absurd (cc e)

abbrev IsFirst : World → ℕ → StepMade → Type 0
IsFirst w t m = (t < w.shape.threads) × IsNext w.shape w.start w.biasing (w.known t) m.plan × (m.found ≡ w.words m.plan.at)

one_made : (w x : World) (u t : ℕ) (p : StepPlan) (m : StepMade) → x ≡ w → u ≡ t → made p (x.words p.at) ≡ m → u < x.shape.threads
    → IsNext x.shape x.start x.biasing (x.known u) p → IsFirst w t m
one_made w x u t p m same thread is within next =
    subst (IsFirst w t) is
    (subst (λ i. IsFirst w i (made p (x.words p.at))) thread
    (subst (λ (y : World). IsFirst y u (made p (x.words p.at))) same (within, next, refl)))

first_is : (w v : World) (xs zs : Steps) (t : ℕ) (m : StepMade) → Leads w zs v → zs ≡ xs ++ (t, m) ∷ [] → IsFirst w t m
first_is w v [] zs t m stays e = absurd (cc e)
first_is w v (y ∷ xs) zs t m stays e = absurd (cc e)
first_is w v [] zs t m (goes ys x u p before within next) e =
    let none : ys ≡ [] = cc e in
    let pair : (u, made p (x.words p.at)) ≡ (t, m) = cc e in
    one_made w x u t p m (none_made w x ys before none) (ap (λ (y : ℕ × StepMade). y.0) pair) (ap (λ (y : ℕ × StepMade). y.1) pair) within next
first_is w v (y ∷ xs) zs t m (goes ys x u p before within next) e = first_is w x xs ys t m before (cc e)

module _ (w v : World) (xs : Steps) (t : ℕ) (m : StepMade) where
  pub no_thread : w.shape.threads ≤ t → Leads w (xs ++ (t, m) ∷ []) v → ⊥
  no_thread out leads = let within = (first_is w v xs (xs ++ (t, m) ∷ []) t m leads refl).0 in absurd (omega (arith, out, within))

  pub not_next : (IsNext w.shape w.start w.biasing (w.known t) m.plan → ⊥) → Leads w (xs ++ (t, m) ∷ []) v → ⊥
  not_next differs leads = differs (first_is w v xs (xs ++ (t, m) ∷ []) t m leads refl).1

  pub not_found : m.found ≢ w.words m.plan.at → Leads w (xs ++ (t, m) ∷ []) v → ⊥
  not_found differ leads = differ (first_is w v xs (xs ++ (t, m) ∷ []) t m leads refl).2

-- WHAT A THREAD KNOWS without a step of its own
not_longer : {A : Type 0} (x : A) (xs : List A) → xs ≡ x ∷ xs → ⊥
not_longer x xs e = let longer = ap length e in absurd (omega (arith, longer))

stood_still : (w v : World) (xs : Steps) (t : ℕ) → Leads w xs v → steps_by t xs ≡ [] → v.known t ≡ w.known t
stood_still w v xs t stays none = refl
stood_still w v xs t (goes ys x u p before within next) none =
    by_equal t u
    (λ e. absurd (cc (none, ap (λ (b : Bool). cond b (made p (x.words p.at) ∷ steps_by t ys) (steps_by t ys)) (eq-eqb u t (sym e)))))
    (λ d. with_known_else u (known_after x.shape x.start p (x.words p.at) (x.known u)) x.known t d ∙ stood_still w x ys t before (others (u == t) none))
  where
    others : (b : Bool) → cond b (made p (x.words p.at) ∷ steps_by t ys) (steps_by t ys) ≡ [] → steps_by t ys ≡ []
    others true h = absurd (cc h)
    others false h = h

pub nothing_new : (w v : World) (xs : Steps) (t : ℕ) → steps_by t xs ≡ [] → v.known t ≢ w.known t → Leads w xs v → ⊥
nothing_new w v xs t none differ leads = differ (stood_still w v xs t leads none)

nothing_before : {A : Type 0} (xs ys : List A) → xs ++ ys ≡ [] → xs ≡ []
nothing_before [] ys e = refl
nothing_before (x ∷ xs) ys e = absurd (cc e)

pub no_log : (heap : Heap) (v : World) (t : ℕ) → (v.known t).steps ≡ [] → (v.known t).log ≢ [] → IsReachable heap v → ⊥
no_log heap v t none some c =
    let r = reached_listed heap v c in
    let first = opening heap.shape heap.start heap.biasing in
    some (ap (λ (k : ThreadView). k.log) (stood_still first v r.0 t r.1
    (nothing_before (steps_by t r.0) (first.known t).steps (sym (own_steps first v r.0 t r.1) ∙ none))))

pub no_other_step : (w v : World) (xs : Steps) (t : ℕ) (m : StepMade) → Leads w xs v
    → (v.known t).steps ≡ m ∷ (steps_by t xs ++ (w.known t).steps) → ⊥
no_other_step w v xs t m leads e = not_longer m (steps_by t xs ++ (w.known t).steps) (sym (own_steps w v xs t leads) ∙ e)

-- TURNS. A world has the threads that it had, and one that it doesn't have stands as it stood.
same_shape : (w v : World) (xs : Steps) → Leads w xs v → v.shape ≡ w.shape
same_shape w v xs stays = refl
same_shape w v xs (goes ys x t p before within next) = same_shape w x ys before

no_step_of : (w v : World) (xs : Steps) (t : ℕ) → w.shape.threads ≤ t → Leads w xs v → v.known t ≡ w.known t
no_step_of w v xs t out stays = refl
no_step_of w v xs t out (goes ys x u p before within next) =
    let few = ap (λ (s : Shape). s.threads) (same_shape w x ys before) in
    with_known_else u (known_after x.shape x.start p (x.words p.at) (x.known u)) x.known t (λ e. absurd (omega (arith, out, within, few, e)))
    ∙ no_step_of w x ys t out before

-- a turn with a step adds it
module _ (w : World) (t : ℕ) (task : HeapCall) where
  abbrev IsAdded : World → Type 0
  IsAdded v = (m : StepMade) × ((v.known t).steps ≡ m ∷ (w.known t).steps)

  turn_adds : is_some (next_of w t task) ≡ true → IsAdded (after_turns ((t, task) ∷ []) w)
  turn_adds = by_step (next_of w t task)
    where
      by_step : (q : Option StepPlan) → is_some q ≡ true → IsAdded (after_turn q t w)
      by_step None there = absurd (cc there)
      by_step (Some p) there = (
        made p (w.words p.at),
        ap (λ (k : ThreadView). k.steps) (with_known_here t (known_after w.shape w.start p (w.words p.at) (w.known t)) w.known)
            ∙ step_added w.shape w.start p (w.words p.at) (w.known t) (hits p.act (w.words p.at)),
      )

  turn_shape : (after_turns ((t, task) ∷ []) w).shape ≡ w.shape
  turn_shape = by_step (next_of w t task)
    where
      by_step : (q : Option StepPlan) → (after_turn q t w).shape ≡ w.shape
      by_step None = refl
      by_step (Some p) = refl

  pub turn_leads_not : (xs : Steps) → w.shape.threads ≤ t → is_some (next_of w t task) ≡ true → Leads w xs (after_turns ((t, task) ∷ []) w) → ⊥
  turn_leads_not xs out there leads =
      let added = turn_adds there in
      not_longer added.0 (w.known t).steps
      (sym (ap (λ (k : ThreadView). k.steps) (no_step_of w (after_turns ((t, task) ∷ []) w) xs t out leads)) ∙ added.1)

  pub turn_reaches_not : (heap : Heap) → w.shape.threads ≤ t → is_some (next_of w t task) ≡ true
      → IsReachable heap (after_turns ((t, task) ∷ []) w) → ⊥
  turn_reaches_not heap out there c =
      let v : World = after_turns ((t, task) ∷ []) w in
      let added = turn_adds there in
      let r = reached_listed heap v c in
      let first = opening heap.shape heap.start heap.biasing in
      let few = ap (λ (s : Shape). s.threads) (sym turn_shape ∙ same_shape first v r.0 r.1) in
      let none = ap (λ (k : ThreadView). k.steps) (no_step_of first v r.0 t (omega (arith, out, few)) r.1) in
      let is = added.1 in
      absurd (cc (none, is))

  pub may_not_begin : (turns : List (ℕ × HeapCall)) → is_idle w.shape (w.known t) ≡ true → may_begin w.shape w.biasing (w.known t) task ≡ false
      → all_step ((t, task) ∷ turns) w ≡ false
  unfolding steps_due
  may_not_begin turns idle not_may =
      by_step (next_of w t task) (nat_lt t w.shape.threads)
      (ap (λ (b : Bool). head (cond b (cond (is_calm k.stage && may_begin w.shape w.biasing k task) (steps_of w.shape task (start_of w.start k)) unreachable)
      (rest_of_call w.shape k))) idle
      ∙ ap (λ (b : Bool). head (cond (is_calm k.stage && b) (steps_of w.shape task (start_of w.start k)) unreachable)) not_may
      ∙ by_calm (is_calm k.stage))
    where
      k : ThreadView
      k = w.known t

      by_calm : (b : Bool) → head (cond (b && false) (steps_of w.shape task (start_of w.start k)) unreachable) ≡ None
      by_calm true = refl
      by_calm false = refl

      by_step : (q : Option StepPlan) (b : Bool) → q ≡ None → (b && is_some q && all_step turns (after_turn q t w)) ≡ false
      by_step None true e = refl
      by_step None false e = refl
      by_step (Some p) b e = absurd (cc e)
