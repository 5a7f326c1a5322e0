-- The next step of a thread keeps a sound world sound, in a call that begins well.
use Rattle.std.proofs.Common.{◌≡◌, ℕ, ◌<◌, ◌&&◌, Bool, true, false, cond, List, Some, refl, sym, ap, ◌∙◌, subst, inl, inr}
use Rattle.std.proofs.lemmas.Option.{same_Some}
use Rattle.plain_monitor.specs.Objects.{PlainObject}
use Rattle.core_world.specs.declared.plan.StepPlan.{StepPlan}
use Rattle.core_world.specs.Threads.AtRest.{AtRest}
use Rattle.core_world.specs.Threads.Stages.{is_calm}
use Rattle.core_world.specs.Threads.ThreadView.{ThreadView, start_of}
use Rattle.core_world.specs.Trees.StepTree.{StepTree, done, unreachable, step, head, after_answer, is_over}
use Rattle.core_world.specs.Trees.Calls.{steps_of, may_begin}
use Rattle.core_world.specs.Steps.{rest_of_call, is_idle, known_after, world_after}
use Rattle.core_world.specs.Due.{steps_due, IsNext}
use Rattle.core_world.specs.There.{IsThere}
use Rattle.core_world.specs.Valid.{IsValid}
use Rattle.core_world.specs.World.{World}
use Rattle.core_world.proofs.CallRests.{begun_rest, gone_rest}
use Rattle.core_world.proofs.KnowledgeParts.{by_equal, each_with_known}
use Rattle.core_world.proofs.bias.LookWhileRevoking.{forgotten}
use Rattle.core_law.specs.WholeLaw.{LawsHold, WhollyValid}
use Rattle.core_law.specs.Takings.{TakesExactly}
use Rattle.core_law.specs.Logic.{Heap, heap_of, SoundWorldWith, Keeps, Was}
use Rattle.core_law.specs.Sound.{Finishes, Sound}
use Rattle.core_law.specs.Begins.{BeginsWell}

-- a thread of a valid world knows its number
pub number_is : (w : World) (P : List PlainObject) (t : ℕ) → IsValid w P → (w.known t).thread ≡ t
number_is w P t v = elim v [
  | inl a ↦ a.numbered t
  | inr s ↦ by_equal t s.requester
      (λ e. subst (λ u. (w.known u).thread ≡ u) (sym e) (ap (λ (k : ThreadView). k.thread) s.knows ∙ s.fits.numbered s.requester))
      (λ n. ap (λ (k : ThreadView). k.thread) (s.others t n) ∙ s.fits.numbered t)
]

abbrev pub stands_here : (w : World) (t : ℕ) → t < w.shape.threads → WhollyValid w → SoundWorldWith (heap_of w) (w.known t)
stands_here w t within v =
    let same : (w.known t).thread ≡ t = number_is w v.objects t (forgotten LawsHold w v.objects v.is) in
    record { world = w; objects = v.objects; is_of = refl; knows = ap w.known same; within = subst (λ u. u < w.shape.threads) (sym same) within; valid = v.is }

-- a tree's first step
record First (heap : Heap) (p : StepPlan) (k : ThreadView) (d : StepTree (Unit {0})) : Type 0 where
  pub keeps : Keeps heap p k
  pub continuation : (n : ℕ) → Was heap p k n → Finishes heap false (after_answer d n) (known_after heap.shape heap.start p n k)

first_of_tree : (heap : Heap) (fresh : Bool) (d : StepTree (Unit {0})) (p : StepPlan) (k : ThreadView) → Finishes heap fresh d k → head d ≡ Some p
    → is_idle heap.shape k ≡ fresh → First heap p k d
first_of_tree heap fresh (done a) p k does e idle = absurd (cc e)
first_of_tree heap fresh unreachable p k does e idle = absurd (cc e)
first_of_tree heap fresh (step q f) p k does e idle =
    subst (λ (z : StepPlan). First heap z k (step q f)) (same_Some _ _ e)
    (record { keeps = does.by.0 idle; continuation = λ n was. record { by = does.by.1 n idle was } })

-- after a call that is over, its thread is at rest
over_rests : (heap : Heap) (d : StepTree (Unit {0})) (k : ThreadView) → Finishes heap false d k → is_over d ≡ true → AtRest heap.shape k
over_rests heap (done a) k does e = does.by
over_rests heap unreachable k does e = absurd (cc e)
over_rests heap (step q f) k does e = absurd (cc e)

pub idle_rests : (heap : Heap) (k : ThreadView) → Finishes heap false (rest_of_call heap.shape k) k → is_idle heap.shape k ≡ true → AtRest heap.shape k
unfolding is_idle
idle_rests heap k does e = over_rests heap (rest_of_call heap.shape k) k does e

-- what a step makes of its thread's knowledge goes on well
record Goes (w : World) (t : ℕ) (p : StepPlan) : Type 0 where
  pub keeps : Keeps (heap_of w) p (w.known t)
  pub goes_on : Finishes (heap_of w) false (rest_of_call w.shape (known_after w.shape w.start p (w.words p.at) (w.known t)))
      (known_after w.shape w.start p (w.words p.at) (w.known t))

goes : (w : World) (t : ℕ) (p : StepPlan) → t < w.shape.threads → BeginsWell (heap_of w) p.task
    → Sound w → IsNext w.shape w.start w.biasing (w.known t) p → Goes w t p
unfolding steps_due
goes w t p within begins sound next = cases (is_idle w.shape (w.known t)) refl
  where
    k : ThreadView
    k = w.known t

    was : Was (heap_of w) p (w.known t) (w.words p.at)
    was = record { stands = stands_here w t within sound.valid; found = refl }

    both : (a b : Bool) → (a && b) ≡ true → (a ≡ true) × (b ≡ true)
    both true b e = (refl, e)
    both false b e = absurd (cc e)

    by_first : (d : StepTree (Unit {0})) → First (heap_of w) p (w.known t) d
        → rest_of_call w.shape (known_after w.shape w.start p (w.words p.at) (w.known t)) ≡ after_answer d (w.words p.at) → Goes w t p
    by_first d first is = record {
      keeps = first.keeps;
      goes_on = subst (λ z. Finishes (heap_of w) false z (known_after w.shape w.start p (w.words p.at) (w.known t)))
          (sym is) (first.continuation (w.words p.at) was);
    }

    begins_call : (b : Bool) → (is_calm (w.known t).stage && may_begin w.shape w.biasing (w.known t) p.task) ≡ b → is_idle w.shape (w.known t) ≡ true
        → head (cond b (steps_of w.shape p.task (start_of w.start (w.known t))) unreachable) ≡ Some p → Goes w t p
    begins_call false e idle is = absurd (cc is)
    begins_call true e idle is =
        let a = both _ _ e in
        let d = steps_of w.shape p.task (start_of w.start (w.known t)) in
        by_first d (first_of_tree (heap_of w) true d p (w.known t) (begins.does (w.known t)
        (stands_here w t within sound.valid) (idle_rests (heap_of w) (w.known t) (sound.goes_on t within) idle) a.1) is idle)
        (begun_rest w.shape w.start (w.known t) p (w.words p.at) idle)

    cases : (b : Bool) → is_idle w.shape (w.known t) ≡ b → Goes w t p
    cases true e = begins_call (is_calm (w.known t).stage && may_begin w.shape w.biasing (w.known t) p.task) refl e
        (ap (λ (b : Bool). head (cond b (cond (is_calm (w.known t).stage && may_begin w.shape w.biasing (w.known t) p.task)
        (steps_of w.shape p.task (start_of w.start (w.known t))) unreachable) (rest_of_call w.shape (w.known t)))) (sym e) ∙ next)
    cases false e =
        let is : head (rest_of_call w.shape (w.known t)) ≡ Some p =
        ap (λ (b : Bool). head (cond b (cond (is_calm (w.known t).stage && may_begin w.shape w.biasing (w.known t) p.task)
        (steps_of w.shape p.task (start_of w.start (w.known t))) unreachable) (rest_of_call w.shape (w.known t)))) (sym e) ∙ next in
        by_first (rest_of_call w.shape (w.known t))
        (first_of_tree (heap_of w) false (rest_of_call w.shape (w.known t)) p (w.known t) (sound.goes_on t within) is e)
        (gone_rest w.shape w.start (w.known t) p (w.words p.at) e)

pub stepping_sound : (w : World) (t : ℕ) (p : StepPlan) → t < w.shape.threads → BeginsWell (heap_of w) p.task → Sound w
    → IsNext w.shape w.start w.biasing (w.known t) p → Sound (world_after p t w)
stepping_sound w t p within begins sound next =
    let here = goes w t p within begins sound next in
    let number : (w.known t).thread ≡ t = number_is w sound.valid.objects t (forgotten LawsHold w sound.valid.objects sound.valid.is) in
    record {
      valid = subst (λ u. WhollyValid (world_after p u w)) number (here.keeps.by (stands_here w t within sound.valid));
      goes_on = λ u h. each_with_known (λ u y. u < w.shape.threads → Finishes (heap_of w) false (rest_of_call w.shape y) y) t
          (known_after w.shape w.start p (w.words p.at) (w.known t)) w.known u
          (λ h. here.goes_on) (λ d h. sound.goes_on u h) h;
    }

-- and the heap has its word, and a place for the shot that it takes
pub stepping_there : (w : World) (t : ℕ) (p : StepPlan) → t < w.shape.threads → BeginsWell (heap_of w) p.task → Sound w
    → IsNext w.shape w.start w.biasing (w.known t) p → IsThere w.shape (w.known t) p
stepping_there w t p within begins sound next = (goes w t p within begins sound next).keeps.there (stands_here w t within sound.valid)

-- and it stamps a taking as the logs ask for
pub stepping_stamps : (w : World) (t : ℕ) (p : StepPlan) → t < w.shape.threads → BeginsWell (heap_of w) p.task → Sound w
    → IsNext w.shape w.start w.biasing (w.known t) p → TakesExactly w t p
stepping_stamps w t p within begins sound next =
    let number : (w.known t).thread ≡ t = number_is w sound.valid.objects t (forgotten LawsHold w sound.valid.objects sound.valid.is) in
    subst (λ u. TakesExactly w u p) number ((goes w t p within begins sound next).keeps.exact (stands_here w t within sound.valid))
