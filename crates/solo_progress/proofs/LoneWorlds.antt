-- Worlds to which the heap of one thread comes by turns: its thread is left alone there, and may begin a call, by what is found by computing.
use Rattle.std.proofs.Common.{◌≡◌, ◌≢◌, ℕ, ◌<◌, ◌==◌, ◌&&◌, not, Bool, true, false, List, [], ◌∷◌}
use Rattle.std.proofs.Common.{Option, Some, None, refl, sym, ap, ◌∙◌, subst, arith, eqb-true}
use Rattle.std.specs.List.{list_all}
use Rattle.plain_monitor.specs.History.{objects_after}
use Rattle.plain_monitor.specs.Objects.{PlainObject}
use Rattle.core_world.specs.declared.plan.StepPlan.{StepPlan}
use Rattle.core_world.specs.declared.stage.Stage.TheVariants.{Settled}
use Rattle.core_world.specs.declared.heap_call.HeapCall.{HeapCall}
use Rattle.core_world.specs.Opening.{opening}
use Rattle.core_world.specs.Steps.{is_idle}
use Rattle.core_world.specs.Threads.ThreadView.{ThreadView}
use Rattle.core_world.specs.Trees.Calls.{may_begin}
use Rattle.core_world.specs.Words.Shape.{Shape, IsInLimits}
use Rattle.core_world.specs.World.{World, logs}
use Rattle.core_world.proofs.KnowledgeParts.{with_known_else}
use Rattle.step_history.specs.Examples.{lone, world_of}
use Rattle.step_history.specs.Turns.{next_of, after_turn, after_turns, all_step}
use Rattle.step_history.proofs.Exemplified.{by_turns}
use Rattle.solo_progress.specs.LeftAlone.{MayCall, MayCallAlone}

-- TURNS OF ONE THREAD leave what each other one knows,
abbrev pub of_thread : ℕ → List (ℕ × HeapCall) → Bool
of_thread t turns = list_all (λ x. x.0 == t) turns

still_after : (t u : ℕ) (w : World) (x : ℕ) (p : Option StepPlan) → u ≢ t → x ≡ t → (after_turn p x w).known u ≡ w.known u
still_after t u w x None other same = refl
still_after t u w x (Some p) other same = with_known_else x _ w.known u (λ e. other (e ∙ same))

others_still : (t u : ℕ) (turns : List (ℕ × HeapCall)) (w : World) → of_thread t turns ≡ true → u ≢ t → (after_turns turns w).known u ≡ w.known u
others_still t u [] w h other = refl
others_still t u (x ∷ turns) w h other =
    let a = both (x.0 == t) (of_thread t turns) h in
    others_still t u turns (after_turn (next_of w x.0 x.1) x.0 w) a.1 other
    ∙ still_after t u w x.0 (next_of w x.0 x.1) other (eqb-true x.0 t a.0)
  where
    both : (a b : Bool) → (a && b) ≡ true → (a ≡ true) × (b ≡ true)
    both true b h = (refl, h)
    both false b h = absurd (cc h)

-- and all turns leave the heap's shape
same_shape : (turns : List (ℕ × HeapCall)) (w : World) → (after_turns turns w).shape ≡ w.shape
same_shape [] w = refl
same_shape (x ∷ turns) w = same_shape turns (after_turn (next_of w x.0 x.1) x.0 w) ∙ one (next_of w x.0 x.1)
  where
    one : (p : Option StepPlan) → (after_turn p x.0 w).shape ≡ w.shape
    one None = refl
    one (Some p) = refl

-- THE HEAP
limits : IsInLimits lone.shape
limits =
    record { threads = omega arith; classes = omega arith; declared = omega arith; objects = omega arith; each = ((omega arith, omega arith), tt) }

abbrev pub first : World
first = opening lone.shape lone.start lone.biasing

abbrev pub knows : List (ℕ × HeapCall) → ThreadView
knows turns = (world_of lone turns).known 0

-- what has to be found by computing: that each turn has a step, how the thread stands then, and which call it may begin
abbrev pub AllStep : List (ℕ × HeapCall) → Type 0
AllStep turns = all_step turns first ≡ true

abbrev pub Idle : List (ℕ × HeapCall) → Type 0
Idle turns = is_idle (world_of lone turns).shape (knows turns) ≡ true

abbrev pub Calmly : List (ℕ × HeapCall) → Type 0
Calmly turns = (knows turns).stage ≡ Settled

abbrev pub RunsOrAsks : List (ℕ × HeapCall) → Type 0
RunsOrAsks turns = (knows turns).running ≡ not (knows turns).requesting

abbrev pub Leaves : List (ℕ × HeapCall) → PlainObject → Type 0
Leaves turns object = objects_after (world_of lone turns).shape.objects (logs (world_of lone turns)) ≡ Some (object ∷ [])

abbrev pub May : List (ℕ × HeapCall) → HeapCall → Type 0
May turns job = may_begin (world_of lone turns).shape (world_of lone turns).biasing (knows turns) job ≡ true

pub record Stands (turns : List (ℕ × HeapCall)) (object : PlainObject) : Type 0 where
  pub steps : AllStep turns
  pub idle : Idle turns
  pub calm : Calmly turns
  pub runs : RunsOrAsks turns
  pub leave : Leaves turns object

pub called : (turns : List (ℕ × HeapCall)) (job : HeapCall) {object : PlainObject} → Stands turns object → May turns job
    → MayCall lone (world_of lone turns) 0 job
called turns job stands may = record {
  limits = limits;
  reached = by_turns lone turns stands.steps;
  within = subst (λ (s : Shape). 0 < s.threads) (sym (same_shape turns first)) (omega arith);
  idle = stands.idle;
  may = may;
}

pub ready : (turns : List (ℕ × HeapCall)) (job : HeapCall) {object : PlainObject} → Stands turns object → May turns job → of_thread 0 turns ≡ true
    → MayCallAlone lone (world_of lone turns) (object ∷ []) 0 job
ready turns job stands may mine =
    let call = called turns job stands may in
    record {
      call = call;
      history = stands.leave;
      alone = record {
        within = call.within;
        calm = stands.calm;
        runs = stands.runs;
        stopped = λ u d. ap (λ (k : ThreadView). k.running) (others_still 0 u turns first mine d);
        unasked = λ u d. ap (λ (k : ThreadView). k.requesting) (others_still 0 u turns first mine d);
      };
    }
