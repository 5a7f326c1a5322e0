-- Trees that leave the safepoint word alone: none of their steps is on it but loads. So their thread stands after them as it stood before.
use Rattle.std.proofs.Common.{◌≡◌, ◌≢◌, ℕ, ◌%◌, cond, Bool, true, false, List, ◌∷◌, refl, sym, subst}
use Rattle.core_world.specs.declared.act.Act.{Act}
use Rattle.core_world.specs.declared.act.Act.TheVariants.{Load, Store}
use Rattle.core_world.specs.declared.word_id.WordId.{WordId}
use Rattle.core_world.specs.declared.word_id.WordId.TheVariants.{Safepoint, Mark}
use Rattle.core_world.specs.declared.plan.StepPlan.{StepPlan}
use Rattle.core_world.specs.declared.answer.StackOut.{StackOut}
use Rattle.core_world.specs.declared.answer.StackOut.TheVariants.{Left, Monitor, Not}
use Rattle.core_world.specs.declared.answer.Progress.{Progress}
use Rattle.core_world.specs.declared.answer.Progress.TheVariants.{Done, Pending}
use Rattle.core_world.specs.declared.answer.PendingCause.{PendingCause}
use Rattle.core_world.specs.declared.answer.PendingCause.TheVariants.{Stopping, Requested}
use Rattle.core_world.specs.Words.Acts.{hits, word_after}
use Rattle.core_world.specs.Threads.ThreadView.{StepMade}
use Rattle.core_world.specs.Trees.StepTree.{StepTree, done, unreachable, step}
use Rattle.core_world.specs.declared.heap_call.HeapCall.{HeapCall}
use Rattle.core_calls.specs.Moments.{IsPlanOf}
use Rattle.core_calls.specs.Paths.{made, Always}
use Rattle.core_calls.specs.Stands.{Stand, IsGoing, FoundTrue, stand_by, stand_after_steps, ProgressStands}

-- TESTS OF STEPS. The step is on another word, or is a load.
abbrev pub IsApart : WordId → Act → Type 0
IsApart Safepoint Load = Unit {0}
IsApart Safepoint _ = ⊥
IsApart _ act = Unit {0}

-- A mark neither says that its object is being inflated nor names a monitor.
abbrev pub IsPlainMark : ℕ → Type 0
IsPlainMark n = (n ≢ 0) × (n % 8 ≢ 2)

-- It is apart, and puts none but such marks.
abbrev pub IsSparing : WordId → Act → Type 0
IsSparing Safepoint Load = Unit {0}
IsSparing Safepoint _ = ⊥
IsSparing (Mark o) Load = Unit {0}
IsSparing (Mark o) (Store word) = IsPlainMark word
IsSparing (Mark o) _ = ⊥
IsSparing _ act = Unit {0}

abbrev pub Passing : {A : Type 0} → (WordId → Act → Type 0) → (A → Type 0) → StepTree A → Type 0
Passing T R (done a) = R a
Passing T R unreachable = Unit {0}
Passing T R (step p f) = T p.at p.act × ((n : ℕ) → Passing T R (f n))

-- each step of the tree passes the test T, and R holds of the answer
pub record Passes {A : Type 0} (T : WordId → Act → Type 0) (R : A → Type 0) (d : StepTree A) : Type 0 where
  pub by : Passing T R d

abbrev pub Stay : {A : Type 0} → (A → Type 0) → StepTree A → Type 0
Stay R d = Passes IsApart R d

-- WHAT IS SAID OF ANSWERS: nothing; that a part is done, or pending for something else than a safepoint; and the same of an exit from a lock record.
abbrev pub Whatever : {A : Type 0} → A → Type 0
Whatever a = Unit {0}

abbrev pub IsAside : PendingCause → Type 0
IsAside (Stopping word) = ⊥
IsAside (Requested word) = ⊥
IsAside _ = Unit {0}

abbrev pub Aside : {A : Type 0} → Progress A → Type 0
Aside (Done a) = Unit {0}
Aside (Pending why) = IsAside why

abbrev pub OutAside : StackOut → Type 0
OutAside Left = Unit {0}
OutAside (Monitor number) = Unit {0}
OutAside (Not why) = IsAside why

-- a step of this call that is apart
pub record IsOwn (t : HeapCall) (p : StepPlan) : Type 0 where
  pub of : IsPlanOf t p
  pub apart : IsApart p.at p.act

-- a load is apart, and spares
pub load_spares : (at : WordId) → IsSparing at Load
load_spares Safepoint = tt
load_spares (Mark o) = tt
load_spares _ = tt

-- A STEP THAT SPARES is apart.
pub sparing_apart : (at : WordId) (act : Act) → IsSparing at act → IsApart at act
sparing_apart Safepoint Load h = tt
sparing_apart Safepoint _ h = absurd h
sparing_apart _ act h = tt

-- A STEP THAT IS APART leaves its thread standing as it stood.
stood_by : (t : ℕ) (at : WordId) (act : Act) (word : ℕ) (b : Stand) → IsApart at act → stand_by t at act word b ≡ b
stood_by t Safepoint Load word b h = refl
stood_by t Safepoint _ word b h = absurd h
stood_by t _ act word b h = refl

either_stands : (c : Bool) (x b : Stand) → x ≡ b → cond c x b ≡ b
either_stands true x b h = h
either_stands false x b h = refl

pub stands_on : (t : ℕ) (b : Stand) (p : StepPlan) (n : ℕ) (ms : List StepMade) → IsApart p.at p.act
    → stand_after_steps t (made p n ∷ ms) b ≡ stand_after_steps t ms b
stands_on t b p n ms h = either_stands (hits p.act n) _ (stand_after_steps t ms b) (stood_by t p.at p.act (word_after p.act n) (stand_after_steps t ms b) h)

module _ {A : Type 0} (t : ℕ) (b : Stand) (Q : Stand → Type 0) (R : A → Type 0) where
  -- what is known of how the thread stands, for words that were true of it
  abbrev pub Known : List StepMade → A → Type 0
  Known ms a = R a × (FoundTrue t b ms → Q (stand_after_steps t ms b))

  stays_so : (d : StepTree A) (ms : List StepMade) → Passing IsApart R d → (FoundTrue t b ms → Q (stand_after_steps t ms b)) → Always Known ms d
  stays_so (done a) ms h q = (h, q)
  stays_so unreachable ms h q = tt
  stays_so (step p f) ms h q = λ n. stays_so (f n) (made p n ∷ ms) (h.1 n) (λ found. subst Q (sym (stands_on t b p n ms h.0)) (q found.1))

  pub stay_so : (d : StepTree A) (ms : List StepMade) → Stay R d → (FoundTrue t b ms → Q (stand_after_steps t ms b)) → Always Known ms d
  stay_so d ms h q = stays_so d ms h.by q

-- so a part that is pending for nothing of a safepoint leaves its thread running
pub aside_stands : {A : Type 0} (t : ℕ) (b : Stand) (progress : Progress A) → Aside progress → IsGoing b → ProgressStands t b progress
aside_stands t b (Done a) h going = going
aside_stands t b (Pending (Stopping word)) h going = absurd h
aside_stands t b (Pending (Requested word)) h going = absurd h
aside_stands t b (Pending _) h going = (going, tt)
