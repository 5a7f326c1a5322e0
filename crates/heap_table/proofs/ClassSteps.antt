-- How a call finds the class of an object: by steps or by none, which leave what a call begins with.
use Rattle.std.proofs.Common.{◌≡◌, ℕ, ◌-◌, nat_lt, if◌then◌else◌, Bool, true, false, List, ◌∷◌, refl, sym, ap, ◌∙◌, subst}
use Rattle.core_world.specs.declared.word_id.WordId.TheVariants.{Class}
use Rattle.core_world.specs.declared.plan.StepPlan.{StepPlan}
use Rattle.core_world.specs.declared.stage.Stage.{Stage}
use Rattle.core_world.specs.Due.{IsDue, Runs}
use Rattle.core_world.specs.Steps.{known_after}
use Rattle.core_world.specs.Threads.ThreadView.{ThreadView, StepMade}
use Rattle.core_world.specs.Trees.Plans.{CallContext, load_plan, class_steps}
use Rattle.core_world.specs.Trees.StepTree.{StepTree, done, step, ◌>>=◌}
use Rattle.core_world.specs.Words.Shape.{Shape, class_in_shape}
use Rattle.heap_table.specs.Parts.{IsDueOn, HasMadeSteps}
use Rattle.heap_table.specs.Drafts.{IsLeft}
use Rattle.heap_table.specs.Ruled.{Stepped, WereMade}
use Rattle.heap_table.specs.Seen.{HeapSeen, PassSeen, IsOf}
use Rattle.heap_table.specs.Stepping.{HasStepped}
use Rattle.heap_table.proofs.Aside.{AreAside, StartsAlike, alike, aside, runs_aside, either_aside}
use Rattle.heap_table.proofs.Knows.{same_thread, one_more, goes_on}
use Rattle.heap_table.proofs.Parts.{part_then}

-- after it what comes next is due
pub class_then : {B : Type 0} (h : HeapSeen) (p q : PassSeen) (e : CallContext) (stage : Stage) (o : ℕ) (g : ℕ → StepTree B) (c : ℕ)
    → IsDueOn h p e.task (class_steps e stage h.heap.shape o >>= g) → HasMadeSteps h (class_steps e stage h.heap.shape o) p q c
    → IsDueOn h q e.task (g c)
class_then {B = B} h p q e stage o g c = by_test (nat_lt o h.heap.shape.declared)
  where
    found : Bool → StepTree ℕ
    found b = if b then done (class_in_shape h.heap.shape o) else step (load_plan e stage (Class o)) (λ word. done (word - 1))

    by_test : (b : Bool) → IsDueOn h p e.task (found b >>= g) → HasMadeSteps h (found b) p q c → IsDueOn h q e.task (g c)
    by_test true due run =
        subst (λ (k : ThreadView). IsDue h.heap.shape h.heap.start h.heap.biasing k e.task (g c)) (sym run.ran.by.0)
        (subst (λ (n : ℕ). IsDueOn h p e.task (g n)) (sym run.ran.by.1) due)
    by_test false due run = part_then h p q e.task (load_plan e stage (Class o)) (λ word. done (word - 1)) g c due refl run

-- what a call takes of its thread's knowledge stays
pub class_aside : (e : CallContext) (stage : Stage) (s : Shape) (o : ℕ) → AreAside (class_steps e stage s o)
class_aside e stage s o =
    either_aside (nat_lt o s.declared) (done (class_in_shape s o)) (step (load_plan e stage (Class o)) (λ word. done (word - 1))) tt
    (record { quiet = refl; words = refl; keeps = refl }, λ n. tt)

pub class_alike : (h : HeapSeen) (p q : PassSeen) (e : CallContext) (stage : Stage) (o c : ℕ) → HasMadeSteps h (class_steps e stage h.heap.shape o) p q c
    → StartsAlike p.known q.known
class_alike h p q e stage o c run = aside h (class_steps e stage h.heap.shape o) p q c (class_aside e stage h.heap.shape o) run

-- a run of it, and of what its answer asks for, falls into two
pub class_splits : {B : Type 0} (s : Shape) (start : ℕ) (e : CallContext) (stage : Stage) (o : ℕ) (g : ℕ → StepTree B) (k l : ThreadView) (b : B)
    → Runs s start (class_steps e stage s o >>= g) k l b → (c : ℕ) × (m : ThreadView) × StartsAlike k m × Runs s start (g c) m l b
class_splits {B = B} s start e stage o g k l b = by_test (nat_lt o s.declared)
  where
    plan : StepPlan
    plan = load_plan e stage (Class o)

    by_test : (t : Bool) → Runs s start ((if t then done (class_in_shape s o) else step plan (λ word. done (word - 1))) >>= g) k l b
        → (c : ℕ) × (m : ThreadView) × StartsAlike k m × Runs s start (g c) m l b
    by_test true run = (class_in_shape s o, k, alike k, run)
    by_test false run =
        let m = known_after s start plan run.0 k in (
          run.0 - 1,
          m,
          runs_aside s start (step plan done) k m run.0 (record { quiet = refl; words = refl; keeps = refl }, λ n. tt) (run.0, (refl, refl)),
          run.1,
        )

-- A step that alone leads from one pass to another was made as steps are.
module _ (h : HeapSeen) (p q : PassSeen) (plan : StepPlan) (n : ℕ) (is_of : IsOf h p) (after : IsOf h q)
    (is : q.known ≡ known_after h.heap.shape h.heap.start plan n p.known) where
  made : WereMade h.heap p.known.thread (record { plan = plan; found = n } ∷ p.known.steps)
  made =
      let thread : q.known.thread ≡ p.known.thread = ap (λ (k : ThreadView). k.thread) is ∙ same_thread h.heap.shape h.heap.start plan n p.known in
      let steps : q.known.steps ≡ record { plan = plan; found = n } ∷ p.known.steps =
      ap (λ (k : ThreadView). k.steps) is ∙ one_more h.heap.shape h.heap.start plan n p.known in
      subst (λ (x : ℕ × List StepMade). WereMade h.heap x.0 x.1) (λ i. (thread i, steps i)) after.real.made

  pub step_stood : Stepped h.heap p.known plan n
  step_stood = subst (λ (k : ThreadView). Stepped h.heap k plan n) (sym is_of.real.is) made.0

  pub step_was : q.limit ≡ p.limit → IsLeft plan.own p.cut p.cells q.cut q.cells → HasStepped h p q plan n
  step_was limit draft = record {
    heap = after;
    limit = limit;
    draft = draft;
    known = is;
    stepped = step_stood;
    comes = goes_on h.heap p.known plan n q.known step_stood is_of.within is;
  }

-- How the class was found: it is a declared object's, and nothing was done; or it was loaded.
abbrev pub IsFound : Bool → HeapSeen → PassSeen → PassSeen → CallContext → Stage → ℕ → ℕ → Type 0
IsFound true h p q e stage o c = (q.known ≡ p.known) × (c ≡ class_in_shape h.heap.shape o)
IsFound false h p q e stage o c = (n : ℕ) × (c ≡ n - 1) × HasStepped h p q (load_plan e stage (Class o)) n

pub class_found : (h : HeapSeen) (p q : PassSeen) (e : CallContext) (stage : Stage) (o c : ℕ) → IsOf h p
    → HasMadeSteps h (class_steps e stage h.heap.shape o) p q c → IsFound (nat_lt o h.heap.shape.declared) h p q e stage o c
class_found h p q e stage o c is_of = by_test (nat_lt o h.heap.shape.declared)
  where
    plan : StepPlan
    plan = load_plan e stage (Class o)

    by_test : (b : Bool) → HasMadeSteps h
        (if b then done (class_in_shape h.heap.shape o) else step plan (λ word. done (word - 1))) p q c → IsFound b h p q e stage o c
    by_test true run = run.ran.by
    by_test false run = (run.ran.by.0, run.ran.by.1.1, step_was h p q plan run.ran.by.0 is_of run.heap run.ran.by.1.0 run.limit (run.cut, run.cells))
