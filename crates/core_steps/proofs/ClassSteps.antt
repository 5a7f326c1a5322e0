-- How a call finds the class of an object: the heap's shape tells that of a declared one, and the class word of another is loaded.
use Rattle.std.proofs.Common.{◌≡◌, ℕ, ◌+◌, ◌-◌, ◌<◌, ◌≤◌, nat_lt, Bool, true, false, List, length, Some, refl, sym, ◌∙◌, arith}
use Rattle.std.proofs.lemmas.Bool.Decides.{nat_tests}
use Rattle.std.proofs.lemmas.Option.{same_Some}
use Rattle.core_world.specs.declared.word_id.WordId.TheVariants.{Class}
use Rattle.core_world.specs.declared.stage.Stage.{Stage}
use Rattle.core_world.specs.Threads.AtRest.{SawClass, SawClassIf}
use Rattle.core_world.specs.Threads.ThreadView.{ThreadView, StepMade, last_seen}
use Rattle.core_world.specs.Trees.Plans.{CallContext, load_plan, class_steps}
use Rattle.core_world.specs.Trees.StepTree.{StepTree, done, step, ◌>>=◌}
use Rattle.core_world.specs.There.{IsIn}
use Rattle.core_world.specs.Words.Shape.{Shape, IsInLimits, class_in_shape}
use Rattle.core_world.specs.Steps.{is_idle, known_hit}
use Rattle.core_world.proofs.There.{class_there}
use Rattle.core_law.specs.Logic.{Heap, Keeps, Was, Does}
use Rattle.core_steps.proofs.Trees.{chooses_then, hitting}

-- what was seen of a class word stays seen, and so does the class;
pub class_kept : (s : Shape) (before after : List StepMade) (o c : ℕ) → ((v : ℕ) → last_seen (Class o) before ≡ Some v → last_seen (Class o) after ≡ Some v)
    → SawClass s before o c → SawClass s after o c
class_kept s before after o c kept = by_test (nat_lt o s.declared)
  where
    by_test : (b : Bool) → SawClassIf b s before o c → SawClassIf b s after o c
    by_test true h = h
    by_test false h = kept (c + 1) h

-- steps that last saw the same class word saw the same class,
pub class_from : (s : Shape) (before after : List StepMade) (o c : ℕ) → last_seen (Class o) after ≡ last_seen (Class o) before → SawClass s before o c
    → SawClass s after o c
class_from s before after o c same = class_kept s before after o c (λ v h. same ∙ h)

-- and they saw one class alone
pub class_once : (s : Shape) (seen : List StepMade) (o c d : ℕ) → SawClass s seen o c → SawClass s seen o d → c ≡ d
class_once s seen o c d = by_test (nat_lt o s.declared)
  where
    by_test : (b : Bool) → SawClassIf b s seen o c → SawClassIf b s seen o d → c ≡ d
    by_test true h g = h ∙ sym g
    by_test false h g = let same = same_Some (c + 1) (d + 1) (sym h ∙ g) in omega (arith, same)

-- what tells the class: the object is declared, or its class word was loaded
pub class_declared : (s : Shape) (seen : List StepMade) (o : ℕ) → nat_lt o s.declared ≡ true → SawClass s seen o (class_in_shape s o)
class_declared s seen o e = rw e refl

pub class_made : (s : Shape) (seen : List StepMade) (o c : ℕ) → nat_lt o s.declared ≡ false → last_seen (Class o) seen ≡ Some (c + 1) → SawClass s seen o c
class_made s seen o c e saw = rw e saw

-- so a class that was seen is the shape's, or was loaded
pub declared_class : (s : Shape) (seen : List StepMade) (o c : ℕ) → nat_lt o s.declared ≡ true → SawClass s seen o c → c ≡ class_in_shape s o
declared_class s seen o c e = by_test (nat_lt o s.declared) e
  where
    by_test : (b : Bool) → b ≡ true → SawClassIf b s seen o c → c ≡ class_in_shape s o
    by_test true e h = h
    by_test false e h = absurd (cc e)

pub made_class : (s : Shape) (seen : List StepMade) (o c : ℕ) → nat_lt o s.declared ≡ false → SawClass s seen o c → last_seen (Class o) seen ≡ Some (c + 1)
made_class s seen o c e = by_test (nat_lt o s.declared) e
  where
    by_test : (b : Bool) → b ≡ false → SawClassIf b s seen o c → last_seen (Class o) seen ≡ Some (c + 1)
    by_test true e h = absurd (cc e)
    by_test false e h = h

-- a class word that the heap can have tells one of its classes
pub class_found : (s : Shape) (o word : ℕ) → IsInLimits s → o < length s.objects → word ≤ s.classes → word - 1 < s.classes
class_found s o word limits object formed = let some = class_there s o limits object in omega (arith, some, formed)

-- the heap has the class word of an object that isn't declared
pub made_there : (s : Shape) (o : ℕ) → o < length s.objects → nat_lt o s.declared ≡ false → IsIn s (Class o)
made_there s o object e = (object, grind (arith, nat_tests, e))

-- THE STEPS, where it is known which they are
pub class_does : {A : Type 0} (heap : Heap) (e : CallContext) (stage : Stage) (o : ℕ) (f : ℕ → StepTree A) (k : ThreadView) (Q : Bool → A → ThreadView → Type 0)
    → (nat_lt o heap.shape.declared ≡ true → Does heap false (f (class_in_shape heap.shape o)) k Q)
    → (nat_lt o heap.shape.declared ≡ false → is_idle heap.shape k ≡ false → Keeps heap (load_plan e stage (Class o)) k)
    → (nat_lt o heap.shape.declared ≡ false → (word : ℕ) → is_idle heap.shape k ≡ false → Was heap (load_plan e stage (Class o)) k word
    → Does heap false (f (word - 1)) (known_hit heap.shape heap.start (load_plan e stage (Class o)) word k) Q)
    → Does heap false (class_steps e stage heap.shape o >>= f) k Q
class_does heap e stage o f k Q declared keeps made =
    chooses_then heap false (nat_lt o heap.shape.declared) (done (class_in_shape heap.shape o))
    (step (load_plan e stage (Class o)) (λ word. done (word - 1))) f k Q
    declared (λ no. hitting heap false (load_plan e stage (Class o)) (λ word. f (word - 1)) k Q (λ n. refl) (keeps no) (made no))
