-- Runs of one thread by their steps: where they are cut, what their first step is, and that its thread's knowledge is that of its steps.
use Rattle.std.proofs.Common.{◌≡◌, ℕ, ◌≤◌, cond, Bool, true, false, List, [], ◌∷◌, ◌++◌, length}
use Rattle.std.proofs.Common.{Option, Some, None, refl, sym, ap, ◌∙◌, subst, arith, append_assoc}
use Rattle.core_world.specs.declared.word_id.WordId.{WordId}
use Rattle.core_world.specs.declared.plan.StepPlan.{StepPlan}
use Rattle.core_world.specs.Due.{IsNext}
use Rattle.core_world.specs.Steps.{known_after, known_hit, known_miss, known_along, world_after}
use Rattle.core_world.specs.Threads.ThreadView.{ThreadView, StepMade}
use Rattle.core_world.specs.Trees.StepTree.{StepTree, done, unreachable, step}
use Rattle.core_world.specs.Words.Acts.{hits}
use Rattle.core_world.specs.Words.Shape.{Shape}
use Rattle.core_world.specs.World.{World}
use Rattle.core_world.proofs.KnowledgeParts.{by_equal, with_known_here, with_known_else}
use Rattle.core_calls.specs.Paths.{made, IsPath}
use Rattle.core_law.specs.Logic.{Heap, heap_of}
use Rattle.core_law.specs.Reached.{IsReachable, opens, moves}
use Rattle.heap_table.specs.Ruled.{known_after_steps}
use Rattle.heap_table.proofs.Knows.{same_thread}
use Rattle.solo_progress.specs.Alone.{words_left, FoundAlone}
use Rattle.solo_progress.specs.Moves.{Moves, stays, goes}

-- LISTS. The oldest of some steps.
abbrev pub oldest : List StepMade → Option StepMade
oldest [] = None
oldest (m ∷ []) = Some m
oldest (m ∷ l ∷ ms) = oldest (l ∷ ms)

oldest_after : (ms : List StepMade) (m : StepMade) → oldest (ms ++ m ∷ []) ≡ Some m
oldest_after [] m = refl
oldest_after (l ∷ []) m = refl
oldest_after (l ∷ k ∷ ms) m = oldest_after (k ∷ ms) m

-- THE HEAP
pub same_heap : (heap : Heap) (w : World) → IsReachable heap w → heap_of w ≡ heap
same_heap heap w opens = refl
same_heap heap w (moves v t p before within next) = same_heap heap v before

-- KNOWLEDGE
pub along_thread : (s : Shape) (start : ℕ) (ms : List StepMade) (k : ThreadView) → (known_along s start ms k).thread ≡ k.thread
along_thread s start [] k = refl
along_thread s start (m ∷ ms) k = same_thread s start m.plan m.found (known_along s start ms k) ∙ along_thread s start ms k

one_more : (s : Shape) (start : ℕ) (p : StepPlan) (n : ℕ) (k : ThreadView) → (known_after s start p n k).steps ≡ made p n ∷ k.steps
one_more s start p n k = cases (hits p.act n)
  where
    cases : (b : Bool) → (cond b (known_hit s start p n k) (known_miss s start p n k)).steps ≡ made p n ∷ k.steps
    cases true = refl
    cases false = refl

-- what a thread knows in a world to which a heap comes is what its steps there told it
pub known_by_steps : (heap : Heap) (w : World) (t : ℕ) → IsReachable heap w → w.known t ≡ known_after_steps heap t (w.known t).steps
known_by_steps heap w t opens = refl
known_by_steps heap w t (moves v u p before within next) =
    by_equal t u
    (λ e. subst (λ (l : ThreadView). l ≡ known_after_steps heap t l.steps) (sym (ap (world_after p u v).known e ∙ with_known_here u k v.known))
    (here e (known_by_steps heap v t before)))
    (λ d. subst (λ (l : ThreadView). l ≡ known_after_steps heap t l.steps) (sym (with_known_else u k v.known t d)) (known_by_steps heap v t before))
  where
    k : ThreadView
    k = known_after v.shape v.start p (v.words p.at) (v.known u)

    is_of : heap_of v ≡ heap
    is_of = same_heap heap v before

    here : t ≡ u → v.known t ≡ known_after_steps heap t (v.known t).steps → k ≡ known_after_steps heap t k.steps
    here e known =
        let was : v.known u ≡ known_after_steps heap t (v.known u).steps =
        ap (λ i. v.known i) (sym e) ∙ known ∙ ap (λ i. known_after_steps heap t (v.known i).steps) e in
        (λ i. known_after (is_of i).shape (is_of i).start p (v.words p.at) (was i))
        ∙ ap (known_after_steps heap t) (sym (one_more v.shape v.start p (v.words p.at) (v.known u)))

pub moved_steps : (w : World) (t : ℕ) (ms : List StepMade) (v : World) → Moves w t ms v → (v.known t).steps ≡ ms ++ (w.known t).steps
moved_steps w t ms v stays = refl
moved_steps w t ms v (goes ns x p before next) =
    let k = known_after x.shape x.start p (x.words p.at) (x.known t) in
    ap (λ (l : ThreadView). l.steps) (with_known_here t k x.known)
    ∙ one_more x.shape x.start p (x.words p.at) (x.known t)
    ∙ ap (λ (l : List StepMade). made p (x.words p.at) ∷ l) (moved_steps w t ns x before)

-- A RUN IS CUT after its older steps.
pub record IsCut (w : World) (t : ℕ) (newer older : List StepMade) (v : World) : Type 0 where
  pub mid : World
  pub first : Moves w t older mid
  pub rest : Moves mid t newer v

pub cut_at : (w : World) (t : ℕ) (newer older ms : List StepMade) (v : World) → ms ≡ newer ++ older → Moves w t ms v → IsCut w t newer older v
cut_at w t [] older ms v e m = record { mid = v; first = subst (λ l. Moves w t l v) e m; rest = stays }
cut_at w t (n ∷ newer) older ms v e stays = absurd (cc e)
cut_at w t (n ∷ newer) older ms v e (goes ns x p before next) =
    let tail : ns ≡ newer ++ older = cc e in
    let head : made p (x.words p.at) ≡ n = cc e in
    let c = cut_at w t newer older ns x tail before in
    record {
      mid = c.mid;
      first = c.first;
      rest = subst (λ l. Moves c.mid t (l ∷ newer) (world_after p t x)) head (goes newer x p c.rest next);
    }

-- ITS FIRST STEP is the next one of the thread as it begins.
pub record IsFirst (w : World) (t : ℕ) (ms : List StepMade) : Type 0 where
  pub plan : StepPlan
  pub next : IsNext w.shape w.start w.biasing (w.known t) plan
  pub is : oldest ms ≡ Some (made plan (w.words plan.at))

pub first_of : (w : World) (t : ℕ) (ms : List StepMade) (v : World) → Moves w t ms v → 1 ≤ length ms → IsFirst w t ms
first_of w t ms v stays some = absurd (omega (arith, some))
first_of w t ms v (goes [] x p stays next) some = record { plan = p; next = next; is = refl }
first_of w t ms v (goes (n ∷ ns) x p before next) some =
    let f = first_of w t (n ∷ ns) x before (omega arith) in
    record { plan = f.plan; next = f.next; is = f.is }

-- A PATH adds its steps to those before it,
pub record IsLonger (sofar ms : List StepMade) : Type 0 where
  pub more : List StepMade
  pub is : ms ≡ more ++ sofar

pub path_longer : {A : Type 0} (d : StepTree A) (sofar ms : List StepMade) (a : A) → IsPath d sofar ms a → IsLonger sofar ms
path_longer (done b) sofar ms a path = record { more = []; is = path.0 }
path_longer unreachable sofar ms a path = absurd path
path_longer (step p f) sofar ms a path =
    let l = path_longer (f path.0) (made p path.0 ∷ sofar) ms a path.1 in
    record { more = l.more ++ made p path.0 ∷ []; is = l.is ∙ sym (append_assoc l.more (made p path.0 ∷ []) sofar) }

-- and its first step is the tree's
pub path_first : {A : Type 0} (p : StepPlan) (f : ℕ → StepTree A) (ms : List StepMade) (a : A) (q : StepPlan) (n : ℕ) → IsPath (step p f) [] ms a
    → oldest ms ≡ Some (made q n) → p ≡ q
path_first p f ms a q n path is =
    let l = path_longer (f path.0) (made p path.0 ∷ []) ms a path.1 in
    let both : made p path.0 ≡ made q n = cc (sym (oldest_after l.more (made p path.0)) ∙ ap oldest (sym l.is) ∙ is) in
    ap (λ (m : StepMade). m.plan) both

-- ONE ANSWER. Two paths through a tree whose steps found what the steps before them left of the same words are one.
found_before : (f : WordId → ℕ) (more ms : List StepMade) → FoundAlone f (more ++ ms) → FoundAlone f ms
found_before f [] ms found = found
found_before f (m ∷ more) ms found = found_before f more ms found.1

pub one_answer : {A : Type 0} (f : WordId → ℕ) (d : StepTree A) (sofar ms ns : List StepMade) (a b : A) → IsPath d sofar ms a → IsPath d sofar ns b
    → FoundAlone f ms → FoundAlone f ns → a ≡ b
one_answer f (done x) sofar ms ns a b path other found too = path.1 ∙ sym other.1
one_answer f unreachable sofar ms ns a b path other found too = absurd path
one_answer {A} f (step p g) sofar ms ns a b path other found too =
    one_answer f (g path.0) (made p path.0 ∷ sofar) ms ns a b path.1
    (subst (λ x. IsPath {A = A} (g x) (made p x ∷ sofar) ns b) (it_found ns b other.0 other.1 too ∙ sym (it_found ms a path.0 path.1 found)) other.1)
    found too
  where
    it_found : (ls : List StepMade) (c : A) (x : ℕ) → IsPath (g x) (made p x ∷ sofar) ls c → FoundAlone f ls → x ≡ words_left f sofar p.at
    it_found ls c x walked all =
        let l = path_longer (g x) (made p x ∷ sofar) ls c walked in
        (found_before f l.more (made p x ∷ sofar) (subst (FoundAlone f) l.is all)).0
