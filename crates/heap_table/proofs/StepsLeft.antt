-- What is left of the steps of a part of a call, at a place in its code: it is due there, and who makes it has made the whole.
use Rattle.std.proofs.Common.{◌≡◌, ℕ, ◌<◌, Bool, true, false, if◌then◌else◌, length, refl, sym, ap, ◌∙◌, subst}
use Rattle.core_world.specs.declared.plan.LogEffect.TheVariants.{Quiet}
use Rattle.core_world.specs.declared.plan.StepPlan.{StepPlan}
use Rattle.core_world.specs.declared.heap_call.HeapCall.{HeapCall}
use Rattle.core_world.specs.declared.stage.Stage.{Stage}
use Rattle.core_world.specs.Steps.{known_after}
use Rattle.core_world.specs.Threads.ThreadView.{ThreadView}
use Rattle.core_world.specs.Trees.Plans.{CallContext, class_steps}
use Rattle.core_world.specs.Trees.StepTree.{StepTree, done, unreachable, step, ◌>>=◌, ask}
use Rattle.core_world.specs.Words.Shape.{Shape}
use Rattle.core_world.proofs.CallRests.{part_due}
use Rattle.heap_table.specs.Kept.{LogHasRoom}
use Rattle.heap_table.specs.inner.Parts.{is_shot}
use Rattle.heap_table.specs.Parts.{IsDueOn, HasMadeSteps}
use Rattle.heap_table.specs.Seen.{HeapSeen, PassSeen, IsOf}
use Rattle.heap_table.specs.Stepping.{CanStep, HasStepped}
pub use Rattle.heap_table.specs.StepsLeft.{AreLeft}
use Rattle.heap_table.proofs.Arms.{after_choice}
use Rattle.heap_table.proofs.ClassSteps.{class_then}
use Rattle.heap_table.proofs.Aside.{StartsAlike, keeps_aside, leaves_own_words, runs_aside, room_aside}
use Rattle.heap_table.proofs.Knows.{same_thread}
use Rattle.heap_table.proofs.Parts.{can, rest_due, part_then, stepped, in_turn, ends}
use Rattle.heap_table.proofs.Ruled.{not_due}

module _ {A : Type 0} {h : HeapSeen} {t : HeapCall} {o : PassSeen} {d : StepTree A} where
  -- at the beginning all of them are
  pub all_left : IsOf h o → IsDueOn h o t d → AreLeft h t o d o d
  all_left heap due = record { heap = heap; due = due; whole = λ q a run. run }

  -- The first of them can be made, and then the others are left. The code's words for the step are the tree's: by `refl`, unless they name what a call
  -- answered. That it is a step of this call, and takes no shot, is `refl` at each plan.
  pub can_make : {p : PassSeen} {plan said : StepPlan} {f : ℕ → StepTree A} → AreLeft h t o d p (step plan f) → said ≡ plan → plan.task ≡ t
      → is_shot plan.own ≡ false → LogHasRoom plan.note p.known.log p.limit → CanStep h p said
  can_make {p = p} {plan = plan} {f = f} left same task shotless room =
      subst (CanStep h p) (sym same) (can h p t plan f left.due task left.heap room shotless)

  pub step_made : {p q : PassSeen} {plan said : StepPlan} {f : ℕ → StepTree A} {n : ℕ} → AreLeft h t o d p (step plan f) → said ≡ plan → plan.task ≡ t
      → is_shot plan.own ≡ false → HasStepped h p q said n → AreLeft h t o d q (f n)
  step_made {p = p} {q = q} {plan = plan} {f = f} {n = n} left same task shotless did =
      let s = subst (λ (x : StepPlan). HasStepped h p q x n) same did in
      record {
        heap = s.heap;
        due = rest_due h p t plan f left.due task q n s;
        whole = λ r a run. left.whole r a (stepped h p q r plan f n a s shotless run);
      }

  module _ {p : PassSeen} where
    -- the same steps, in other words
    pub left_as : {x y : StepTree A} → AreLeft h t o d p x → x ≡ y → AreLeft h t o d p y
    left_as left same = subst (AreLeft h t o d p) same left

    -- those that a test chooses
    pub left_then : (b : Bool) (x y : StepTree A) → AreLeft h t o d p (if b then x else y) → b ≡ true → AreLeft h t o d p x
    left_then b x y left is = left_as left (ap (λ c. if c then x else y) is)

    pub left_else : (b : Bool) (x y : StepTree A) → AreLeft h t o d p (if b then x else y) → b ≡ false → AreLeft h t o d p y
    left_else b x y left is = left_as left (ap (λ c. if c then x else y) is)

    -- none is left: the whole is made
    pub all_made : {a : A} → AreLeft h t o d p (done a) → HasMadeSteps h d o p a
    all_made {a = a} left = left.whole p a (ends h p a left.heap)

    -- no valid world comes here
    pub never : {x : StepTree A} → AreLeft h t o d p x → x ≡ unreachable → ⊥
    never {x = x} left is = not_due h p t x left.heap left.due is

    -- the first part of them is due, before what its answer asks for,
    pub part_of : {B : Type 0} {x : StepTree B} (g : B → StepTree A) → AreLeft h t o d p (x >>= g) → IsDueOn h p t x
    part_of {x = x} g left = part_due h.heap.shape h.heap.start h.heap.biasing p.known t x g left.due

    -- and once it and the rest are made, the whole is,
    pub part_made : {B : Type 0} {x : StepTree B} {q r : PassSeen} {b : B} {a : A} (g : B → StepTree A) → HasMadeSteps h x p q b
        → HasMadeSteps h (g b) q r a → AreLeft h t o d p (x >>= g) → HasMadeSteps h d o r a
    part_made {x = x} {q = q} {r = r} {b = b} {a = a} g run rest left = left.whole r a (in_turn h p q r x g b a run rest)

    -- or it was the last part.
    pub last_made : {B : Type 0} {x : StepTree B} {q : PassSeen} {b : B} {a : A} (g : B → StepTree A) → HasMadeSteps h x p q b → g b ≡ done a
        → AreLeft h t o d p (x >>= g) → HasMadeSteps h d o q a
    last_made {q = q} {b = b} {a = a} g run is left =
        part_made g run (subst (λ y. HasMadeSteps h y q q a) (sym is) (ends h q a run.heap)) left

    -- After a part the rest is left, if it is due then:
    pub part_left : {B : Type 0} {x : StepTree B} {q : PassSeen} {b : B} (g : B → StepTree A) → HasMadeSteps h x p q b → IsDueOn h q t (g b)
        → AreLeft h t o d p (x >>= g) → AreLeft h t o d q (g b)
    part_left {q = q} g run due left = record { heap = run.heap; due = due; whole = λ r a rest. part_made g run rest left }

    -- after a part that makes a step,
    pub after_part : {B : Type 0} {plan : StepPlan} {f : ℕ → StepTree B} {q : PassSeen} {b : B} (g : B → StepTree A) → HasMadeSteps h (step plan f) p q b
        → plan.task ≡ t → AreLeft h t o d p (step plan f >>= g) → AreLeft h t o d q (g b)
    after_part {plan = plan} {f = f} {q = q} {b = b} g run task left = part_left g run (part_then h p q t plan f g b left.due task run) left

    -- after one that makes a step or none, as a test says,
    pub choice_left : {B : Type 0} {q : PassSeen} {b : B} (test : Bool) (plan : StepPlan) (f : ℕ → StepTree B) (other : B) (g : B → StepTree A)
        → HasMadeSteps h (if test then step plan f else done other) p q b → plan.task ≡ t
        → AreLeft h t o d p ((if test then step plan f else done other) >>= g) → AreLeft h t o d q (g b)
    choice_left {q = q} {b = b} test plan f other g run task left =
        part_left g run (after_choice h p q t plan f other g b test left.due task run) left

-- and after the part that finds the class of an object.
pub class_left : {A : Type 0} {h : HeapSeen} {o p q : PassSeen} {d : StepTree A} {class : ℕ} (e : CallContext) (stage : Stage) (object : ℕ)
    (g : ℕ → StepTree A) → HasMadeSteps h (class_steps e stage h.heap.shape object) p q class
    → AreLeft h e.task o d p (class_steps e stage h.heap.shape object >>= g) → AreLeft h e.task o d q (g class)
class_left {h = h} {p = p} {q = q} {class = class} e stage object g run left =
    part_left g run (class_then h p q e stage object g class left.due run) left

-- WHAT A STEP LEAVES of its thread's knowledge: where it logs nothing, stores none of its own words and keeps nothing, all that a call takes of
-- that at its beginning,
pub known_alike : (s : Shape) (start : ℕ) (plan : StepPlan) (n : ℕ) (k : ThreadView) → plan.note ≡ Quiet → leaves_own_words plan.at plan.act ≡ true
    → keeps_aside plan.own ≡ true → StartsAlike k (known_after s start plan n k)
known_alike s start plan n k quiet words keeps = runs_aside s start (ask plan) k (known_after s start plan n k) n
    (record { quiet = quiet; words = words; keeps = keeps }, λ _. tt) (n, (refl, refl))

module _ {h : HeapSeen} {p q : PassSeen} {plan : StepPlan} {n : ℕ} (s : HasStepped h p q plan n) where
  pub alike_after : plan.note ≡ Quiet → leaves_own_words plan.at plan.act ≡ true → keeps_aside plan.own ≡ true → StartsAlike p.known q.known
  alike_after quiet words keeps = subst (StartsAlike p.known) (sym s.known) (known_alike h.heap.shape h.heap.start plan n p.known quiet words keeps)

  -- and the room of its log;
  pub room_after : plan.note ≡ Quiet → leaves_own_words plan.at plan.act ≡ true → keeps_aside plan.own ≡ true
      → length p.known.log < p.limit → length q.known.log < q.limit
  room_after quiet words keeps room = room_aside p q (alike_after quiet words keeps) s.limit room

  -- and any step leaves which thread it is.
  pub thread_stays : q.known.thread ≡ p.known.thread
  thread_stays = ap (λ (k : ThreadView). k.thread) s.known ∙ same_thread h.heap.shape h.heap.start plan n p.known
