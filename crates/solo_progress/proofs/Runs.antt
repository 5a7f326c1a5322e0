-- A thread that is left alone makes the steps of its call up to its end.
use Rattle.std.proofs.Common.{◌≡◌, ℕ, zero, suc, ◌+◌, ◌<◌, ◌≤◌, ◌&&◌, cond, Bool, true, false, List, [], ◌∷◌, length, refl, ap, ◌∙◌, subst, arith}
use Rattle.core_world.specs.declared.word_id.WordId.{WordId}
use Rattle.core_world.specs.declared.plan.StepPlan.{StepPlan}
use Rattle.core_world.specs.declared.heap_call.HeapCall.{HeapCall}
use Rattle.core_world.specs.Due.{IsNext, steps_due}
use Rattle.core_world.specs.Steps.{is_idle, rest_of_call, world_after, known_after}
use Rattle.core_world.specs.Threads.AtRest.{AtRest}
use Rattle.core_world.specs.Threads.ThreadView.{StepMade, start_of}
use Rattle.core_world.specs.Threads.Stages.{is_calm}
use Rattle.core_world.specs.Trees.StepTree.{StepTree, done, unreachable, step, ◌>>=◌, head, after_answer, is_over}
use Rattle.core_world.specs.Trees.Calls.{steps_of, may_begin, end}
use Rattle.core_world.specs.Words.Acts.{word_after}
use Rattle.core_world.specs.Words.Names.{with_word}
use Rattle.core_world.specs.Words.Shape.{IsInLimits}
use Rattle.core_world.specs.World.{World}
use Rattle.core_world.proofs.KnowledgeParts.{with_known_here}
use Rattle.core_world.proofs.CallRests.{begun_rest, gone_rest}
use Rattle.core_calls.proofs.Named.{Named}
use Rattle.core_calls.proofs.NamedCalls.{call_named}
use Rattle.core_calls.proofs.CallsSpend.{call_within}
use Rattle.core_calls.proofs.Runs.{on_path}
use Rattle.core_calls.specs.Bounds.{IsWithin, most_steps}
use Rattle.core_calls.specs.Paths.{made, IsPath}
use Rattle.core_law.specs.Logic.{Heap, heap_of}
use Rattle.core_law.specs.Reached.{IsReachable, moves, is_reachable}
use Rattle.core_law.specs.Sound.{Sound, Finishes}
use Rattle.core_law.proofs.Lawful.{sound_comes, sound_rests}
use Rattle.core_law.proofs.NextSteps.{stands_here}
use Rattle.core_steps.proofs.ReachedWorlds.{reached_worlds_sound}
use Rattle.core_steps.proofs.Table.{calls_begin}
use Rattle.solo_progress.specs.Alone.{words_left, FoundAlone, AnswersAlone}
use Rattle.solo_progress.specs.Moves.{Moves, stays, goes, GetsThrough}

-- the words after such a run are those that its steps left, and each step found what those before it left
pub record FoundSo (w : World) (ms : List StepMade) (v : World) : Type 0 where
  pub words : (n : WordId) → v.words n ≡ words_left w.words ms n
  pub found : FoundAlone w.words ms

pub moves_found : (w : World) (t : ℕ) (ms : List StepMade) (v : World) → Moves w t ms v → FoundSo w ms v
moves_found w t ms v stays = record { words = λ n. refl; found = tt }
moves_found w t ms v (goes ns x p before next) =
    let h = moves_found w t ns x before in
    record {
      words = λ n. λ i. with_word p.at (word_after p.act (x.words p.at)) (λ m. h.words m i) n;
      found = (h.words p.at, h.found);
    }

-- a path, and how long it is at most
path_short : {A B : Type 0} (n : ℕ) (d : StepTree A) (k : A → StepTree B) (sofar ms : List StepMade) (a : A) → IsWithin n (d >>= k)
    → IsPath d sofar ms a → length ms ≤ n + length sofar
path_short n (done b) k sofar ms a h path = let same = ap length path.0 in omega (arith, same)
path_short n unreachable k sofar ms a h path = absurd path
path_short zero (step p f) k sofar ms a h path = absurd h
path_short (suc n) (step p f) k sofar ms a h path =
    let more = path_short n (f path.0) k (made p path.0 ∷ sofar) ms a (h path.0) path.1 in
    omega (arith, more)

module _ (t : ℕ) where
  -- a call that goes on
  going : (v : World) (p : StepPlan) (f : ℕ → StepTree (Unit {0})) → rest_of_call v.shape (v.known t) ≡ step p f
      → is_idle v.shape (v.known t) ≡ false
  unfolding is_idle
  going v p f left = ap is_over left

  next_in : (v : World) (p : StepPlan) (f : ℕ → StepTree (Unit {0})) → rest_of_call v.shape (v.known t) ≡ step p f
      → IsNext v.shape v.start v.biasing (v.known t) p
  unfolding steps_due
  next_in v p f left =
      ap (λ (b : Bool). head (cond b
      (cond (is_calm (v.known t).stage && may_begin v.shape v.biasing (v.known t) p.task)
      (steps_of v.shape p.task (start_of v.start (v.known t))) unreachable) (rest_of_call v.shape (v.known t)))) (going v p f left)
      ∙ ap head left

  left_in : (v : World) (p : StepPlan) (f : ℕ → StepTree (Unit {0})) → rest_of_call v.shape (v.known t) ≡ step p f
      → rest_of_call v.shape ((world_after p t v).known t) ≡ f (v.words p.at)
  left_in v p f left =
      ap (rest_of_call v.shape) (with_known_here t (known_after v.shape v.start p (v.words p.at) (v.known t)) v.known)
      ∙ gone_rest v.shape v.start (v.known t) p (v.words p.at) (going v p f left)
      ∙ ap (λ z. after_answer z (v.words p.at)) left

-- A CALL BEGINS at rest in a valid world
module _ (heap : Heap) (limits : IsInLimits heap.shape) (w : World) (t : ℕ) (task : HeapCall) (c : IsReachable heap w) (within : t < w.shape.threads)
    (idle : is_idle w.shape (w.known t) ≡ true) (may : may_begin w.shape w.biasing (w.known t) task ≡ true) where
  sound : Sound w
  sound = reached_worlds_sound heap w limits c

  rest : AtRest w.shape (w.known t)
  rest = sound_rests w t sound within idle

  -- and so it begins well: its tree isn't one to which no world comes
  first_comes : is_reachable (steps_of w.shape task (start_of w.start (w.known t))) ≡ true
  first_comes =
      by_tree (steps_of w.shape task (start_of w.start (w.known t)))
      ((calls_begin (heap_of w) task).does (w.known t) (stands_here w t within sound.valid) rest may)
    where
      by_tree : (d : StepTree (Unit {0})) → Finishes (heap_of w) true d (w.known t) → is_reachable d ≡ true
      by_tree (done a) f = refl
      by_tree unreachable f = absurd f.by
      by_tree (step p g) f = refl

  due : (is_calm (w.known t).stage && may_begin w.shape w.biasing (w.known t) task) ≡ true
  due = ap (λ s. is_calm s && may_begin w.shape w.biasing (w.known t) task) rest.calm ∙ may

module _ (heap : Heap) (limits : IsInLimits heap.shape) (w : World) (t : ℕ) {A : Type 0} where
  -- a run along a path, up to the end of its call
  pub record Ends (d : StepTree A) (sofar : List StepMade) : Type 0 where
    pub steps : List StepMade
    pub last : World
    pub answer : A
    pub moved : Moves w t steps last
    pub path : IsPath d sofar steps answer
    pub reached : IsReachable heap last
    pub over : is_idle last.shape (last.known t) ≡ true

  walk : (d : StepTree A) (v : World) (sofar : List StepMade) → Moves w t sofar v → IsReachable heap v → t < v.shape.threads
      → rest_of_call v.shape (v.known t) ≡ (d >>= end) → Ends d sofar
  unfolding is_idle
  walk (done a) v sofar m c within left = record {
    steps = sofar;
    last = v;
    answer = a;
    moved = m;
    path = (refl, refl);
    reached = c;
    over = ap is_over left;
  }
  walk unreachable v sofar m c within left =
      let some = sound_comes v t (reached_worlds_sound heap v limits c) within in
      let none = ap is_reachable left in
      absurd (cc (some, none))
  walk (step p f) v sofar m c within left =
      let next = next_in t v p (λ n. f n >>= end) left in
      let n = v.words p.at in
      let r =
      walk (f n) (world_after p t v) (made p n ∷ sofar) (goes sofar v p m next) (moves v t p c within next) within
      (left_in t v p (λ n. f n >>= end) left) in
      record {
        steps = r.steps;
        last = r.last;
        answer = r.answer;
        moved = r.moved;
        path = (n, r.path);
        reached = r.reached;
        over = r.over;
      }

  -- a call that begins
  module _ (task : HeapCall) (c : IsReachable heap w) (within : t < w.shape.threads) (idle : is_idle w.shape (w.known t) ≡ true)
      (may : may_begin w.shape w.biasing (w.known t) task ≡ true) where
    begins : (d : StepTree A) → steps_of w.shape task (start_of w.start (w.known t)) ≡ (d >>= end) → Ends d []
    unfolding steps_due
    begins (done a) is = record {
      steps = [];
      last = w;
      answer = a;
      moved = stays;
      path = (refl, refl);
      reached = c;
      over = idle;
    }
    begins unreachable is =
        let none = ap is_reachable is in
        let some = first_comes heap limits w t task c within idle may in
        absurd (cc (some, none))
    begins (step p f) is =
        let named : Named task (step p f >>= end) = subst (Named task) is (call_named w.shape task (start_of w.start (w.known t))) in
        let first : p.task ≡ task = named.by.0.call in
        let next : IsNext w.shape w.start w.biasing (w.known t) p =
        ap (λ (z : Bool). head (cond z
        (cond (is_calm (w.known t).stage && may_begin w.shape w.biasing (w.known t) p.task)
        (steps_of w.shape p.task (start_of w.start (w.known t))) unreachable) (rest_of_call w.shape (w.known t)))) idle
        ∙ ap (λ (x : HeapCall). head (cond (is_calm (w.known t).stage && may_begin w.shape w.biasing (w.known t) x)
        (steps_of w.shape x (start_of w.start (w.known t))) unreachable)) first
        ∙ ap (λ (z : Bool). head (cond z (steps_of w.shape task (start_of w.start (w.known t))) unreachable))
        (due heap limits w t task c within idle may)
        ∙ ap head is in
        let n = w.words p.at in
        let left : rest_of_call w.shape ((world_after p t w).known t) ≡ (f n >>= end) =
        ap (rest_of_call w.shape) (with_known_here t (known_after w.shape w.start p n (w.known t)) w.known)
        ∙ begun_rest w.shape w.start (w.known t) p n idle
        ∙ ap (λ (x : HeapCall). after_answer (steps_of w.shape x (start_of w.start (w.known t))) n) first
        ∙ ap (λ z. after_answer z n) is in
        let r = walk (f n) (world_after p t w) (made p n ∷ []) (goes [] w p stays next) (moves w t p c within next) within left in
        record {
          steps = r.steps;
          last = r.last;
          answer = r.answer;
          moved = r.moved;
          path = (n, r.path);
          reached = r.reached;
          over = r.over;
        }

    -- SO WHAT IS SAID OF A CALL THAT IS LEFT ALONE comes about
    pub gets_through : (d : StepTree A) (P : A → Type 0) → steps_of w.shape task (start_of w.start (w.known t)) ≡ (d >>= end)
        → AnswersAlone w.words d P → GetsThrough heap w t task d P
    gets_through d P is says =
        let r = begins d is in
        let found = moves_found w t r.steps r.last r.moved in
        record {
          steps = r.steps;
          last = r.last;
          answer = r.answer;
          moves = r.moved;
          path = r.path;
          few =
              few (path_short (most_steps w.shape task) d end [] r.steps r.answer
              (subst (IsWithin (most_steps w.shape task)) is (call_within w.shape task (start_of w.start (w.known t)))) r.path);
          reached = r.reached;
          over = r.over;
          says = on_path (λ ms a. FoundAlone w.words ms → P a) d [] r.steps r.answer says.by r.path found.found;
        }
      where
        few : {m n : ℕ} → m ≤ n + 0 → m ≤ n
        few h = omega (arith, h)
