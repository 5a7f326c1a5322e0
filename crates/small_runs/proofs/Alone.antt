-- A thread makes the steps of its calls, one after the other, and no other thread makes one.
use Rattle.std.proofs.Common.{◌≡◌, ℕ, ◌+◌, ◌<◌, ◌≤◌, true, List, [], ◌∷◌, ◌++◌, length, Option, Some, None, nat_lt, is_some, refl, sym, ap, subst, arith}
use Rattle.std.proofs.lemmas.List.{length-append}
use Rattle.core_world.specs.declared.plan.StepPlan.{StepPlan}
use Rattle.core_world.specs.declared.heap_call.HeapCall.{HeapCall}
use Rattle.core_world.specs.Steps.{known_after, world_after}
use Rattle.core_world.specs.Threads.ThreadView.{StepMade}
use Rattle.core_world.specs.Trees.StepTree.{StepTree, done, unreachable, step}
use Rattle.core_world.specs.Due.{Runs, Ran}
use Rattle.core_world.specs.World.{World}
use Rattle.core_world.proofs.KnowledgeParts.{with_known_here}
use Rattle.core_calls.specs.Paths.{made}
use Rattle.core_law.specs.Logic.{Heap, heap_of}
use Rattle.heap_table.specs.Seen.{HeapSeen}
use Rattle.solo_progress.specs.Moves.{Moves, stays as no_step, goes as one_step}
use Rattle.step_history.specs.Turns.{next_of, after_turn, after_turns, all_step}
use Rattle.step_history.proofs.Turned.{both, next_is}
use Rattle.thread_calls.specs.Advances.{HasStepped}
use Rattle.thread_interp.specs.Moves.{polls_in}
use Rattle.turn_progress.proofs.Steps.{moved_steps}
use Rattle.small_runs.specs.Runs.{pass_of}
use Rattle.small_runs.specs.Turns.{turns_of}

-- STEPS at turns of one thread are that thread's.
moved_on : (t : ℕ) (w : World) (ms : List StepMade) (v : World) (cs : List HeapCall) → Moves w t ms v → all_step (turns_of t cs) v ≡ true
    → (ns : List StepMade) × Moves w t ns (after_turns (turns_of t cs) v)
moved_on t w ms v [] before h = (ms, before)
moved_on t w ms v (c ∷ cs) before h =
    let a = both (nat_lt t v.shape.threads) (is_some (next_of v t c)) (all_step (turns_of t cs) (after_turn (next_of v t c) t v)) h in
    by_step (next_of v t c) refl a.1 a.2
    (λ p before all. moved_on t w (made p (v.words p.at) ∷ ms) (world_after p t v) cs before all)
  where
    by_step : (q : Option StepPlan) → next_of v t c ≡ q → is_some q ≡ true → all_step (turns_of t cs) (after_turn q t v) ≡ true
        → ((p : StepPlan) → Moves w t (made p (v.words p.at) ∷ ms) (world_after p t v) → all_step (turns_of t cs) (world_after p t v) ≡ true
        → (ns : List StepMade) × Moves w t ns (after_turns (turns_of t cs) (world_after p t v)))
        → (ns : List StepMade) × Moves w t ns (after_turns (turns_of t cs) (after_turn q t v))
    by_step None is there all more = absurd (cc there)
    by_step (Some p) is there all more = more p (one_step ms v p before (next_is v t c p is)) all

moves_on : (t : ℕ) (w x v : World) (ms ns : List StepMade) → Moves w t ms x → Moves x t ns v → Moves w t (ns ++ ms) v
moves_on t w x v ms ns first no_step = first
moves_on t w x v ms ns first (one_step ls y p rest next) = one_step (ls ++ ms) y p (moves_on t w x y ms ls first rest) next

polls_both : (ms ns : List StepMade) → polls_in (ms ++ ns) ≡ polls_in ms + polls_in ns
polls_both [] ns = omega arith
polls_both (m ∷ ms) ns = let h = polls_both ms ns in omega (arith, h)

-- Its steps from one world to another: they are some, and so many polls at least.
pub record Goes (t : ℕ) (w v : World) (polls : ℕ) : Type 0 where
  pub steps : List StepMade
  pub moves : Moves w t steps v
  pub some : 1 ≤ length steps
  pub polled : polls ≤ polls_in steps

-- how many steps the thread has made, and how many of them are polls
pub record HasMade (t : ℕ) (w : World) (steps polls : ℕ) : Type 0 where
  pub number : length (w.known t).steps ≡ steps
  pub polled : polls_in (w.known t).steps ≡ polls

pub goes_by : (t : ℕ) (w : World) (cs : List HeapCall) (n k a b c : ℕ) → all_step (turns_of t cs) w ≡ true → HasMade t w n k
    → HasMade t (after_turns (turns_of t cs) w) a b → n < a → k + c ≤ b → Goes t w (after_turns (turns_of t cs) w) c
goes_by t w cs n k a b c each from to later enough =
    let m = moved_on t w [] w cs no_step each in
    let added = moved_steps w t m.0 (after_turns (turns_of t cs) w) m.1 in
    let long = length-append m.0 (w.known t).steps in
    let all : length ((after_turns (turns_of t cs) w).known t).steps ≡ length (m.0 ++ (w.known t).steps) = ap length added in
    let both = polls_both m.0 (w.known t).steps in
    let every : polls_in ((after_turns (turns_of t cs) w).known t).steps ≡ polls_in (m.0 ++ (w.known t).steps) = ap polls_in added in
    let number = from.number in
    let number_to = to.number in
    let polled = from.polled in
    let polled_to = to.polled in
    record {
      steps = m.0;
      moves = m.1;
      some = omega (arith, long, all, number, number_to, later);
      polled = omega (arith, both, every, polled, polled_to, enough);
    }

pub goes_further : (t : ℕ) (w x v : World) (a b c : ℕ) → Goes t w x a → Goes t x v b → c ≤ a + b → Goes t w v c
goes_further t w x v a b c first rest few =
    let long = length-append rest.steps first.steps in
    let both = polls_both rest.steps first.steps in
    let some = first.some in
    let polled = first.polled in
    let polled_then = rest.polled in
    record {
      steps = rest.steps ++ first.steps;
      moves = moves_on t w x v first.steps rest.steps first.moves rest.moves;
      some = omega (arith, long, some);
      polled = omega (arith, both, polled, polled_then, few);
    }

abbrev pub stepped_by : (h : HeapSeen) (t : ℕ) (w v : World) (polls : ℕ) → Goes t w v polls → HasStepped (pass_of h t w) (pass_of h t v)
stepped_by h t w v polls g = record { steps = g.steps; added = moved_steps w t g.steps v g.moves; some = g.some }

-- A CALL. These calls of the thread are all steps of the tree, up to this answer.
abbrev pub Along : {A : Type 0} → ℕ → StepTree A → List HeapCall → World → A → Type 0
Along t (done b) [] w a = a ≡ b
Along t (step p f) (c ∷ cs) w a = (next_of w t c ≡ Some p) × Along t (f (w.words p.at)) cs (world_after p t w) a
Along t _ _ w a = ⊥

runs_along : {A : Type 0} (t : ℕ) (d : StepTree A) (cs : List HeapCall) (w : World) (a : A) → Along t d cs w a
    → Runs w.shape w.start d (w.known t) ((after_turns (turns_of t cs) w).known t) a
runs_along t (done b) [] w a along = (refl, along)
runs_along t (done b) (c ∷ cs) w a along = absurd along
runs_along t unreachable [] w a along = absurd along
runs_along t unreachable (c ∷ cs) w a along = absurd along
runs_along t (step p f) [] w a along = absurd along
runs_along {A} t (step p f) (c ∷ cs) w a along =
    let k = known_after w.shape w.start p (w.words p.at) (w.known t) in (
      w.words p.at,
      subst (λ q. Runs {A = A} w.shape w.start (f (w.words p.at)) k ((after_turns (turns_of t cs) (after_turn q t w)).known t) a) (sym along.0)
          (subst (λ l. Runs {A = A} w.shape w.start (f (w.words p.at)) l ((after_turns (turns_of t cs) (world_after p t w)).known t) a)
          (with_known_here t k w.known) (runs_along t (f (w.words p.at)) cs (world_after p t w) a along.1)),
    )

pub ran_along : {A : Type 0} (h : HeapSeen) (t : ℕ) (d : StepTree A) (cs : List HeapCall) (w : World) (a : A) → heap_of w ≡ h.heap → Along t d cs w a
    → Ran h.heap.shape h.heap.start d (w.known t) ((after_turns (turns_of t cs) w).known t) a
ran_along {A} h t d cs w a is_of along = record {
  by = subst (λ (z : Heap). Runs {A = A} z.shape z.start d (w.known t) ((after_turns (turns_of t cs) w).known t) a) is_of (runs_along t d cs w a along);
}
