-- A dump whose safepoint is done has reached it: its release, which is to come, finds the word of a reached safepoint.
use Rattle.std.specs.List.{list_all}
use Rattle.std.proofs.Common.{◌≡◌, ℕ, ◌<◌, nat_lt, ◌==◌, ◌&&◌, Bool, true, false, cond, if◌then◌else◌}
use Rattle.std.proofs.Common.{Option, Some, length, inl, inr, refl, sym, ap, ◌∙◌, subst, eq-eqb, eqb-true, arith}
use Rattle.std.proofs.lemmas.Bool.{or_right}
use Rattle.mark_word.specs.declared.mark.MarkForm.{MarkForm}
use Rattle.mark_word.specs.declared.mark.MarkForm.TheVariants.{Biased, Locked, Inflated}
use Rattle.mark_word.specs.declared.owner.OwnerForm.{OwnerForm}
use Rattle.mark_word.specs.declared.owner.OwnerForm.TheVariants.{Free, ByThread, ByRecord}
use Rattle.mark_word.specs.Mark.{read_mark}
use Rattle.mark_word.specs.Owner.{owner_of, read_owner}
use Rattle.mark_word.proofs.ReadingSafepoints.{read_safe-safe_of}
use Rattle.plain_monitor.specs.Limits.{most_holds}
use Rattle.plain_monitor.specs.Monitor.{is_thread}
use Rattle.core_world.specs.declared.act.Act.{Act}
use Rattle.core_world.specs.declared.act.Act.TheVariants.{Load}
use Rattle.core_world.specs.declared.word_id.WordId.{WordId}
use Rattle.core_world.specs.declared.word_id.WordId.TheVariants as id
use Rattle.core_world.specs.declared.answer.Progress.{Progress}
use Rattle.core_world.specs.declared.answer.Progress.TheVariants.{Done}
use Rattle.core_world.specs.declared.answer.PendingCause.TheVariants as why
use Rattle.core_world.specs.declared.plan.StepPlan.{StepPlan}
use Rattle.core_world.specs.declared.stage.Stage.{Stage}
use Rattle.core_world.specs.declared.stage.Stage.TheVariants.{Settled}
use Rattle.core_world.specs.Due.{Runs}
use Rattle.core_world.specs.Locks.{has_epoch}
use Rattle.core_world.specs.Steps.{asks_after, is_idle, known_after, known_hit, known_miss, rest_of_call, world_after}
use Rattle.core_world.specs.Threads.AtRest.{AtRest}
use Rattle.core_world.specs.Threads.ThreadView.{ThreadView, Local, start_of}
use Rattle.core_world.specs.declared.heap_call.HeapCall.{HeapCall}
use Rattle.plain_monitor.specs.declared.entry.Entry.TheVariants as entry
use Rattle.core_world.specs.Trees.Calls.{steps_of}
use Rattle.core_world.specs.Trees.Operations.{and_then}
use Rattle.core_world.specs.Trees.WaitSteps.{publish_steps}
use Rattle.core_world.specs.Trees.DeflateSteps.{deflate_free, deflate_monitor, deflate_named, deflate_steps}
use Rattle.core_world.specs.Trees.DeflateSteps.{give_back_steps, is_untouched, look_at, names_monitor}
use Rattle.core_world.specs.Trees.LookSteps.{look_at_holds, look_at_owner, look_at_named, look_at_objects, take_shot_steps}
use Rattle.core_world.specs.Trees.Plans.{CallContext, load, class_steps, done_with, pending_for}
use Rattle.core_world.specs.Trees.SafepointSteps.{has_requester, reached_word, reached_steps, then_reached, request_plan}
use Rattle.core_world.specs.Trees.SafepointSteps.{request_swap_steps, release_plan, release_safepoint, safepoint_steps}
use Rattle.core_world.specs.Trees.StepTree.{StepTree, done, unreachable, step, ◌>>=◌, ask, after_answer, all_from, each_from, is_over}
use Rattle.core_world.specs.Words.Acts.{hits, word_after}
use Rattle.core_world.specs.Words.Forms.{asks_in, epoch_in, is_still, monitor_in, requester_form}
use Rattle.core_world.specs.Words.Names.{with_word}
use Rattle.core_world.specs.Words.Shape.{Shape, monitor_count}
use Rattle.core_world.specs.World.{World}
use Rattle.core_world.proofs.CallRests.{gone_rest, begun_rest}
use Rattle.core_law.specs.Logic.{Heap, heap_of, SoundWorldWith, Doing}
use Rattle.core_law.specs.Sound.{Finishes}
use Rattle.core_law.proofs.Standing.{asks_is, few_threads}
use Rattle.heap_table.specs.Seen.{HeapSeen, PassSeen, IsOf}
use Rattle.heap_table.specs.Parts.{IsDueOn, HasMadeSteps}
use Rattle.heap_table.proofs.Loops.{binds}
use Rattle.heap_table.proofs.Knows.{same_thread, told_here}
use Rattle.lock_runtime.specs.inner.LookParts.{reached_dump, numbered_dump}
use Rattle.lock_runtime.proofs.EachStep.{EachStep, each_either, each_then, each_of_all, each_of_list}
use Rattle.lock_runtime.proofs.Stands.{sound_world}

-- STEPS THAT LEAVE THE SAFEPOINT WORD: loads, and whatever is done with other words
abbrev leaves_safepoint : WordId → Act → Bool
leaves_safepoint id.Safepoint Load = true
leaves_safepoint id.Safepoint _ = false
leaves_safepoint _ act = true

abbrev Leaves : StepPlan → Type 0
Leaves p = leaves_safepoint p.at p.act ≡ true

abbrev pub LeaveSafepoint : {A : Type 0} → StepTree A → Type 0
LeaveSafepoint d = EachStep Leaves d

module _ (e : CallContext) (s : Shape) where
  holds_leave : (t : ℕ) → LeaveSafepoint (look_at_holds e t)
  holds_leave t = each_of_all Leaves 0 most_holds (λ p. ask (load e (id.Hold t p)) >>= (λ _. done tt)) (λ p. (refl, λ n. tt))

  owner_leaves : (f : Option OwnerForm) → LeaveSafepoint (look_at_owner f e)
  owner_leaves (Some (ByThread thread)) = holds_leave thread
  owner_leaves (Some (ByRecord thread place)) = holds_leave thread
  owner_leaves _ = tt

  class_leaves : (o : ℕ) → LeaveSafepoint (class_steps e Settled s o)
  class_leaves o = each_either Leaves (nat_lt o s.declared) _ _ tt (refl, λ n. tt)

  mark_leaves : (f : Option MarkForm) (o : ℕ) → LeaveSafepoint (look_at_named f e s o)
  mark_leaves (Some (Biased thread epoch age)) o = each_then Leaves (class_steps e Settled s o) _ (class_leaves o)
      (λ class. (refl, λ n. each_either Leaves (has_epoch (epoch_in n) epoch) _ _ (holds_leave thread) tt))
  mark_leaves (Some (Locked thread place)) o = holds_leave thread
  mark_leaves (Some (Inflated monitor)) o = (refl, λ n. owner_leaves (read_owner n))
  mark_leaves _ o = tt

  pub shot_leaves : LeaveSafepoint (take_shot_steps e s)
  shot_leaves = each_then Leaves (look_at_objects e s) _ (each_of_all Leaves 0 (length s.objects)
      (λ o. ask (load e (id.Mark o)) >>= (λ mark. look_at_named (read_mark mark) e s o)) (λ o. (refl, λ mark. mark_leaves (read_mark mark) o)))
      (λ _. each_then Leaves (all_from 0 s.threads (λ t. ask (load e (id.Length t)) >>= (λ _. done tt))) _
      (each_of_all Leaves 0 s.threads (λ t. ask (load e (id.Length t)) >>= (λ _. done tt)) (λ t. (refl, λ n. tt))) (λ _. (refl, λ n. tt)))

  module _ (stage : Stage) where
    gives_leave : (o m : ℕ) → LeaveSafepoint (give_back_steps s e stage o m)
    gives_leave o m = (refl, λ header. (refl, λ end. (refl, λ _. (refl, λ _. (refl, λ _. (refl, λ _. (refl, λ _. (refl, λ _. (refl, λ _. tt)))))))))

    free_leaves : (o m : ℕ) → LeaveSafepoint (deflate_free s e stage o m)
    free_leaves o m = each_then Leaves (each_from 0 s.threads (λ t. look_at e stage (id.Waiting t))) _
        (each_of_list Leaves 0 s.threads (λ t. look_at e stage (id.Waiting t)) (λ t. (refl, λ n. tt)))
        (λ words. each_either Leaves (list_all (λ w. is_untouched o w) words) (give_back_steps s e stage o m) (done tt) (gives_leave o m) tt)

    monitor_leaves : (m : ℕ) → LeaveSafepoint (deflate_monitor s e stage m)
    monitor_leaves m = (
      refl,
      λ o. (
        refl,
        λ mark. each_either Leaves (names_monitor (monitor_in mark) m) (deflate_named s e stage o m) (done tt)
            (refl, λ owner. each_either Leaves (owner == owner_of Free) (deflate_free s e stage o m) (done tt) (free_leaves o m) tt) tt,
      ),
    )

    pub deflation_leaves : LeaveSafepoint (deflate_steps s e stage)
    deflation_leaves = each_either Leaves (length s.objects == 0) (done tt) (all_from 0 (monitor_count s) (λ m. deflate_monitor s e stage m)) tt
        (each_of_all Leaves 0 (monitor_count s) (λ m. deflate_monitor s e stage m) monitor_leaves)

-- Such a step leaves the word, and the request.
word_stays : (at : WordId) (a : Act) (f : WordId → ℕ) → leaves_safepoint at a ≡ true → with_word at (word_after a (f at)) f id.Safepoint ≡ f id.Safepoint
word_stays id.Safepoint Load f leaves = refl
word_stays id.Safepoint _ f leaves = absurd (cc leaves)
word_stays _ a f leaves = refl

asks_stay : (at : WordId) (a : Act) (word : ℕ) (k : ThreadView) → leaves_safepoint at a ≡ true → asks_after at a word k ≡ k.requesting
asks_stay id.Safepoint Load word k leaves = refl
asks_stay id.Safepoint _ word k leaves = absurd (cc leaves)
asks_stay _ a word k leaves = refl

step_asks : (s : Shape) (start : ℕ) (p : StepPlan) (n : ℕ) (k : ThreadView)
    → leaves_safepoint p.at p.act ≡ true → (known_after s start p n k).requesting ≡ k.requesting
step_asks s start p n k leaves = cases (hits p.act n)
  where
    cases : (b : Bool) → (cond b (known_hit s start p n k) (known_miss s start p n k)).requesting ≡ k.requesting
    cases true = asks_stay p.at p.act (word_after p.act n) k leaves
    cases false = refl

-- WHERE A THREAD STANDS in the middle of its call: this is left of it, in a world with this safepoint word, and so its request stands or doesn't.
record At (heap : Heap) (word : ℕ) (asks : Bool) (t : ℕ) (d : StepTree (Unit {0})) (k : ThreadView) : Type 0 where
  stands : SoundWorldWith heap k
  found : stands.world.words id.Safepoint ≡ word
  requesting : k.requesting ≡ asks
  thread : k.thread ≡ t
  left : rest_of_call heap.shape k ≡ d
  does : Finishes heap false d k

module _ (heap : Heap) (word : ℕ) (asks : Bool) (t : ℕ) where
  busy : (plan : StepPlan) (f : ℕ → StepTree (Unit {0})) (k : ThreadView) → rest_of_call heap.shape k ≡ step plan f → is_idle heap.shape k ≡ false
  unfolding is_idle
  busy plan f k left = ap is_over left

  stands_after : (plan : StepPlan) (f : ℕ → StepTree (Unit {0})) (k : ThreadView) (at : At heap word asks t (step plan f) k)
      → SoundWorldWith heap (known_after heap.shape heap.start plan (at.stands.world.words plan.at) k)
  stands_after plan f k at =
      let v = at.stands in
      let w : World = v.world in
      let n = w.words plan.at in
      let whole = (at.does.by.0 (busy plan f k at.left)).by v in
      let now : (world_after plan k.thread w).known k.thread ≡ known_after heap.shape heap.start plan n k =
      told_here k.thread (known_after w.shape w.start plan n (w.known k.thread)) w.known
      ∙ (λ i. known_after (v.is_of i).shape (v.is_of i).start plan n (v.knows i)) in
      let same = same_thread heap.shape heap.start plan n k in
      record {
        world = world_after plan k.thread w;
        objects = whole.objects;
        is_of = v.is_of;
        knows = subst (λ u. (world_after plan k.thread w).known u ≡ known_after heap.shape heap.start plan n k) (sym same) now;
        within = subst (λ u. u < heap.shape.threads) (sym same) v.within;
        valid = whole.is;
      }

  step_on : (plan : StepPlan) (f : ℕ → StepTree (Unit {0})) (k : ThreadView) → leaves_safepoint plan.at plan.act ≡ true → At heap word asks t (step plan f) k
      → (n : ℕ) × At heap word asks t (f n) (known_after heap.shape heap.start plan n k)
  unfolding stands_after
  step_on plan f k leaves at =
      let v = at.stands in
      let w : World = v.world in
      let n = w.words plan.at in
      let not_over = busy plan f k at.left in (
        n,
        record {
          stands = stands_after plan f k at;
          found = word_stays plan.at plan.act w.words leaves ∙ at.found;
          requesting = step_asks heap.shape heap.start plan n k leaves ∙ at.requesting;
          thread = same_thread heap.shape heap.start plan n k ∙ at.thread;
          left = gone_rest heap.shape heap.start k plan n not_over ∙ ap (λ z. after_answer z n) at.left;
          does = record { by = at.does.by.1 n not_over (record { stands = v; found = refl }) };
        },
      )

  steps_on : {A : Type 0} (d : StepTree A) (g : A → StepTree (Unit {0})) (k : ThreadView) → LeaveSafepoint d
      → At heap word asks t (d >>= g) k → (a : A) × (l : ThreadView) × At heap word asks t (g a) l
  steps_on (done a) g k leave at = (a, k, at)
  steps_on unreachable g k leave at = absurd at.does.by
  steps_on (step p f) g k leave at =
      let x = step_on p (λ n. f n >>= g) k leave.0 at in
      steps_on (f x.0) g (known_after heap.shape heap.start p x.0 k) (leave.1 x.0) x.1

  -- a release that is to come finds the word of a reached safepoint
  release_finds : (e : CallContext) (g : Unit {0} → StepTree (Unit {0})) (k : ThreadView)
      → At heap word asks t (release_safepoint e t >>= g) k → word ≡ reached_word t
  release_finds e g k at =
      sym at.found ∙ cases (n == reached_word t) refl (at.does.by.1 n (busy plan _ k at.left) (record { stands = at.stands; found = refl }))
    where
      n : ℕ
      n = at.stands.world.words id.Safepoint

      plan : StepPlan
      plan = release_plan (record e { check = false }) Settled t

      after : Bool → StepTree (Unit {0})
      after b = (if b then done tt else unreachable) >>= g

      cases : (b : Bool) → (n == reached_word t) ≡ b
          → Doing heap false (after b) (known_after heap.shape heap.start plan n k) (λ fresh a l. AtRest heap.shape l) → n ≡ reached_word t
      cases true is does = eqb-true n (reached_word t) is
      cases false other does = absurd does

reached_asks : (t : ℕ) → t < 32 → asks_in (reached_word t) t ≡ true
reached_asks t low = ap (λ z. is_thread (requester_form z) t)
    (read_safe-safe_of (record { running = 0; requester = Some t; halted = false }) (omega arith, low)) ∙ eq-eqb t t refl

-- so its request stands
asks_at : (heap : Heap) (word : ℕ) (asks : Bool) (t : ℕ) (e : CallContext) (g : Unit {0} → StepTree (Unit {0})) (k : ThreadView)
    → At heap word asks t (release_safepoint e t >>= g) k → asks ≡ true
asks_at heap word asks t e g k at =
    let low = subst (λ u. u < 32) at.thread (few_threads heap k at.stands) in
    let is : asks_in word t ≡ asks = ap (asks_in word) (sym at.thread) ∙ asks_is heap k word at.stands at.found ∙ at.requesting in
    sym is ∙ ap (λ n. asks_in n t) (release_finds heap word asks t e g k at) ∙ reached_asks t low

-- a pass whose next steps are these, and then the release of its safepoint
pub still_asks : {A : Type 0} (h : HeapSeen) (q : PassSeen) (t : ℕ) (d : StepTree A) (e : CallContext) (g : Unit {0} → StepTree (Unit {0}))
    → IsOf h q → q.known.thread ≡ t → LeaveSafepoint d
    → rest_of_call h.heap.shape q.known ≡ (d >>= (λ _. release_safepoint e t >>= g)) → q.known.requesting ≡ true
still_asks h q t d e g is_of thread loads left =
    let r = is_of.real in
    let k = q.known in
    let within : k.thread < r.world.shape.threads = subst (λ (z : Heap). k.thread < z.shape.threads) (sym r.is_of) is_of.within in
    let goes : Finishes h.heap false (rest_of_call h.heap.shape k) k = subst (λ (z : Heap). Finishes z false (rest_of_call z.shape k) k) r.is_of
    (subst (λ (x : ThreadView). Finishes (heap_of r.world) false (rest_of_call r.world.shape x) x) r.knew (r.sound.goes_on k.thread within)) in
    let stands = sound_world h q is_of in
    let word = stands.world.words id.Safepoint in
    let here : At h.heap word k.requesting t (d >>= (λ _. release_safepoint e t >>= g)) k = record {
      stands = stands;
      found = refl;
      requesting = refl;
      thread = thread;
      left = left;
      does = subst (λ (x : StepTree (Unit {0})). Finishes h.heap false x k) left goes;
    } in
    let there = steps_on h.heap word k.requesting t d (λ _. release_safepoint e t >>= g) k loads here in
    asks_at h.heap word k.requesting t e g there.1 there.2

-- A SAFEPOINT THAT IS DONE: its last step saw that no thread runs.
module _ (s : Shape) (start : ℕ) (e : CallContext) (l : ThreadView) where
  by_look : (k : ThreadView) → Runs s start (reached_steps e) k l (Done tt) → l.requesting ≡ true → l.reached ≡ true
  by_look k run asks = cases (is_still run.0) refl run.1
    where
      m : ThreadView
      m = known_after s start (load e id.Safepoint) run.0 k

      cases : (b : Bool) → is_still run.0 ≡ b
          → Runs s start (if b then done_with (tt {0}) else pending_for (why.Stopping run.0)) m l (Done tt) → l.reached ≡ true
      cases true still ran =
          let asked : k.requesting ≡ true = sym (ap (λ (x : ThreadView). x.requesting) ran.0) ∙ asks in
          ap (λ (x : ThreadView). x.reached) ran.0 ∙ or_right k.reached (k.requesting && is_still run.0) (λ i. asked i && still i)
      cases false goes ran = let is = ran.1 in absurd (cc is)

  by_swap : (t word : ℕ) (k : ThreadView) → Runs s start (request_swap_steps e t word >>= then_reached e) k l (Done tt) → l.requesting ≡ true → l.reached ≡ true
  by_swap t word k run asks = cases (run.0 == word) run.1
    where
      m : ThreadView
      m = known_after s start (request_plan e t word) run.0 k

      missed : (b : Bool) → Runs s start
          ((if b then pending_for (why.Requested run.0) else pending_for (why.Raced word run.0)) >>= then_reached e) m l (Done tt) → ⊥
      missed true ran = let is = ran.1 in absurd (cc is)
      missed false ran = let is = ran.1 in absurd (cc is)

      cases : (b : Bool)
          → Runs s start ((if b then done_with (tt {0}) else if has_requester run.0 then pending_for (why.Requested run.0)
          else pending_for (why.Raced word run.0)) >>= then_reached e) m l (Done tt)
          → l.reached ≡ true
      cases true ran = by_look m ran asks
      cases false ran = absurd (missed (has_requester run.0) ran)

  pub done_reached : (t : ℕ) (requesting : Bool) (k : ThreadView)
      → Runs s start (safepoint_steps e t requesting) k l (Done tt) → l.requesting ≡ true → l.reached ≡ true
  done_reached t true k run asks = by_look k run asks
  done_reached t false k run asks = cases (has_requester run.0) run.1
    where
      m : ThreadView
      m = known_after s start (load (record e { check = false }) id.Safepoint) run.0 k

      cases : (b : Bool) → Runs s start
          ((if b then pending_for (why.Requested run.0) else request_swap_steps e t run.0) >>= then_reached e) m l (Done tt) → l.reached ≡ true
      cases true ran = let is = ran.1 in absurd (cc is)
      cases false ran = by_swap t run.0 m ran asks

-- WHAT IS LEFT of a call after a part of it that makes a step
rest_along : {A : Type 0} (s : Shape) (start : ℕ) (d : StepTree A) (after : A → StepTree (Unit {0})) (k l : ThreadView) (a : A)
    → rest_of_call s k ≡ (d >>= after) → Runs s start d k l a → rest_of_call s l ≡ after a
unfolding is_idle
rest_along s start (done b) after k l a left run = ap (rest_of_call s) run.0 ∙ left ∙ ap after (sym run.1)
rest_along s start unreachable after k l a left run = absurd run
rest_along s start (step p f) after k l a left run =
    rest_along s start (f run.0) after (known_after s start p run.0 k) l a
    (gone_rest s start k p run.0 (ap is_over left) ∙ ap (λ z. after_answer z run.0) left) run.1

abbrev BeginsBy : {A : Type 0} → StepTree A → HeapCall → Type 0
BeginsBy (step p f) t = p.task ≡ t
BeginsBy _ t = ⊥

left_after : {A B : Type 0} (h : HeapSeen) (p q : PassSeen) (t : HeapCall) (d : StepTree A) (g : A → StepTree B) (a : A)
    → BeginsBy d t → IsDueOn h p t (d >>= g) → HasMadeSteps h d p q a
    → (after : B → StepTree (Unit {0})) × (rest_of_call h.heap.shape q.known ≡ (g a >>= after))
left_after h p q t (done b) g a first due run = absurd first
left_after h p q t unreachable g a first due run = absurd first
left_after {A = A} {B = B} h p q t (step plan f) g a first due run =
    let s = h.heap.shape in
    let start = h.heap.start in
    let n = run.ran.by.0 in
    let after : A → StepTree (Unit {0}) = λ x. g x >>= due.after in
    elim due.is [
      | inl left ↦ (due.after, rest_along s start (step plan f) after p.known q.known a (left ∙ binds (step plan f) g due.after) run.ran.by)
      | inr b ↦ (
        due.after,
        rest_along s start (f n) after (known_after s start plan n p.known) q.known a
            (begun_rest s start p.known plan n b.over
            ∙ ap (λ (x : HeapCall). after_answer (steps_of s x (start_of start p.known)) n) first
            ∙ ap (λ z. after_answer z n) (b.is ∙ binds (step plan f) g due.after)) run.ran.by.1,
      )
    ]

begins_safepoint : (e : CallContext) (t : ℕ) (requesting : Bool) → BeginsBy (safepoint_steps e t requesting) e.task
begins_safepoint e t true = refl
begins_safepoint e t false = refl

-- so it is with a dump
pub dump_is_reached : (h : HeapSeen) (p q : PassSeen) (e : CallContext) (k : Local) (number : ℕ) (requesting : Bool)
    → IsDueOn h p e.task (numbered_dump h.heap.shape requesting e k number)
    → HasMadeSteps h (safepoint_steps e k.thread requesting) p q (Done tt) → q.known.thread ≡ k.thread → q.known.reached ≡ true
dump_is_reached h p q e k number requesting due run thread =
    let s = h.heap.shape in
    let next : Progress (Unit {0}) → StepTree (Progress ℕ) = λ progress. and_then progress (λ _. reached_dump s e k number) in
    let told : Unit {0} → StepTree (Progress ℕ) = λ _. publish_steps (entry.Dump number) e k >>= (λ _. done_with number) in
    let shot = take_shot_steps e s in
    let deflation = deflate_steps s e Settled in
    let release = release_safepoint e k.thread in
    let left = left_after h p q e.task (safepoint_steps e k.thread requesting) next (Done tt) (begins_safepoint e k.thread requesting) due run in
    let rest = left.1 ∙ binds shot (λ _. deflation >>= (λ _. release >>= told)) left.0
    ∙ (λ i. shot >>= (λ _. binds deflation (λ _. release >>= told) left.0 i))
    ∙ (λ i. shot >>= (λ _. deflation >>= (λ _. binds release told left.0 i)))
    ∙ sym (binds shot (λ _. deflation) (λ _. release >>= (λ u. told u >>= left.0))) in
    done_reached s h.heap.start e q.known k.thread requesting p.known run.ran.by
    (still_asks h q k.thread (shot >>= (λ _. deflation)) e (λ u. told u >>= left.0) run.heap thread
    (each_then Leaves shot (λ _. deflation) (shot_leaves e s) (λ _. deflation_leaves e s Settled)) rest)
