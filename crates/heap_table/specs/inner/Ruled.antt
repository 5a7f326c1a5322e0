-- The rule of the table.
use Rattle.std.specs.Prelude.{◌≡◌, ℕ, ◌<◌, Bool, true, false, List, [], ◌∷◌, length, slice_index, None}
use mathlib.Core.Option.{some}
use mathlib.Core.Logic.{◌≢◌}
use lib.ListN.{get_elem?}
use Rattle.atomic_table.specs.Table.{State, Me}
use Rattle.core_world.specs.declared.word_id.WordId.{WordId}
use Rattle.core_world.specs.declared.word_id.WordId.TheVariants.{Safepoint}
use Rattle.core_world.specs.declared.act.Act.TheVariants.{Load}
use Rattle.core_world.specs.declared.plan.LogEffect.TheVariants.{Quiet}
use Rattle.core_world.specs.declared.plan.LocalEffect.TheVariants.{Unchanged}
use Rattle.core_world.specs.declared.plan.StepPlan.{StepPlan}
use Rattle.core_world.specs.declared.stage.Stage.TheVariants.{Settled}
use Rattle.core_world.specs.declared.heap_call.HeapCall.TheVariants.{Poll}
use Rattle.core_world.specs.Due.{IsNext}
use Rattle.core_world.specs.Threads.ThreadView.{ThreadView}
use Rattle.core_world.specs.Steps.{known_after}
use Rattle.core_world.specs.World.{World}
use Rattle.core_law.specs.HeapLaw.{HeapLaw}
use Rattle.core_law.specs.Logic.{Heap, heap_of}
use Rattle.core_law.specs.Reached.{IsReachable}
use Rattle.core_law.specs.Sound.{Sound}
use Rattle.heap_table.specs.declared.setting.Setting.{Setting}
use Rattle.core_world.specs.There.{IsIn}
use Rattle.heap_table.specs.Layout.{place_of, word_count}
use Rattle.heap_table.specs.Ruled.{heap_in, Stepped, only}

-- the step is the next one of the thread that knows k, and its word is one of the heap's
pub record MayStep (heap : Heap) (k : ThreadView) (p : StepPlan) : Type 0 where
  pub within : k.thread < heap.shape.threads
  pub next : IsNext heap.shape heap.start heap.biasing k p
  pub at : IsIn heap.shape p.at

abbrev pub no_heap : Heap
no_heap = record { shape = record { threads = 0; classes = 0; declared = 0; objects = [] }; start = 0; biasing = false }

abbrev pub no_plan : StepPlan
no_plan =
    record {
      at = Safepoint;
      act = Load;
      note = Quiet;
      own = Unchanged;
      task = Poll;
      after = None;
      check = false;
      stage = Settled;
    }

abbrev pub Each : (ThreadView → Type 0) → List ThreadView → Type 0
Each P [] = Unit {0}
Each P (k ∷ ks) = P k × Each P ks

-- these are what different threads know
abbrev pub Differ : List ThreadView → Type 0
Differ [] = Unit {0}
Differ (k ∷ ks) = Each (λ (o : ThreadView). o.thread ≢ k.thread) ks × Differ ks

-- the table is this world: each word lies at its name's place, and what each thread knows is in the view of one seat
pub record Shows {S : Type 0} (heap : Heap) (s : State S (List ThreadView)) (w : World) (who : ℕ → ℕ) : Type 0 where
  pub is_of : heap_of w ≡ heap
  pub wide : length s.words ≡ word_count heap.shape
  pub words_are : (n : WordId) → IsIn heap.shape n → slice_index s.words (place_of heap.shape n) ≡ w.words n
  pub knows : (id : ℕ) (v : List ThreadView) → get_elem? s.views id ≡ some v
      → Each (λ (k : ThreadView). (w.known k.thread ≡ k) × (who k.thread ≡ id)) v × Differ v

-- the heap comes to this world, and has its law
pub record IsReached (heap : Heap) (w : World) : Type 0 where
  pub comes : IsReachable heap w
  pub law : HeapLaw heap

-- THE RULE: the table is a sound world, which the heap comes to; and the heap has its law.
abbrev pub Rules : {S : Type 0} → Heap → State S (List ThreadView) → Type 0
Rules heap s = (w : World) × (who : ℕ → ℕ) × Shows heap s w who × Sound w × IsReached heap w

abbrev pub Ruled : {S : Type 0} → Setting → State S (List ThreadView) → Type 0
Ruled b s = Rules (heap_in b) s

abbrev pub others : List ThreadView → List ThreadView
others [] = []
others (k ∷ ks) = ks

-- what a step tells its seat
abbrev pub Told : {S : Type 0} → Heap → StepPlan → Me S (List ThreadView) → ℕ → Me S (List ThreadView) → Type 0
Told heap p me n after =
    (after ≡ (known_after heap.shape heap.start p n (only me.0) ∷ [], [])) × Stepped heap (only me.0) p n

-- the step was made, where the test says so, and its thread knows what it tells; and else nothing was done
abbrev pub IsStepIf : Bool → Heap → StepPlan → ThreadView → ThreadView → Type 0
IsStepIf true heap p k l = (n : ℕ) × Stepped heap k p n × (l ≡ known_after heap.shape heap.start p n k)
IsStepIf false heap p k l = l ≡ k
