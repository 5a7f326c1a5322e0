-- A call that a thread made alone, from a world to which a heap comes: it might begin there, and its answer is the one that such a call has.
use Rattle.std.proofs.Common.{◌≡◌, ℕ, ◌<◌, ◌≤◌, ◌&&◌, ◌||◌, cond, not, nat_lt, Bool, true, false, List, [], length}
use Rattle.std.proofs.Common.{Option, Some, None, refl, sym, ap, ◌∙◌, subst, arith, inl, inr, eq-eqb, is_some}
use Rattle.plain_monitor.specs.Monitor.{is_thread}
use Rattle.plain_monitor.specs.Objects.{PlainObject}
use Rattle.core_world.specs.declared.word_id.WordId.TheVariants.{Safepoint}
use Rattle.core_world.specs.declared.plan.StepPlan.{StepPlan}
use Rattle.core_world.specs.declared.heap_call.HeapCall.{HeapCall}
use Rattle.core_world.specs.Due.{IsNext, steps_due}
use Rattle.core_world.specs.Clauses.Lengths.{log_limit}
use Rattle.core_world.specs.Clauses.Safepoints.{ends}
use Rattle.core_world.specs.Steps.{is_idle, rest_of_call}
use Rattle.core_world.specs.Threads.AtRest.{AtRest}
use Rattle.core_world.specs.Threads.ThreadView.{ThreadView, StepMade}
use Rattle.core_world.specs.Threads.Stages.{is_calm}
use Rattle.core_world.specs.Trees.Calls.{steps_of, may_begin, may_operate, is_free_for, end}
use Rattle.core_world.specs.Trees.SafepointSteps.{has_requester}
use Rattle.core_world.specs.Trees.StepTree.{StepTree, done, unreachable, step, ◌>>=◌, head}
use Rattle.core_world.specs.Valid.{Fits, IsValid}
use Rattle.core_world.specs.Words.Forms.{requester_in}
use Rattle.core_world.specs.Words.Shape.{Shape}
use Rattle.core_world.specs.World.{World}
use Rattle.core_world.proofs.KnowledgeParts.{by_equal}
use Rattle.core_world.proofs.bias.LookWhileRevoking.{forgotten}
use Rattle.core_calls.specs.Paths.{IsPath}
use Rattle.core_calls.proofs.Named.{Named}
use Rattle.core_calls.proofs.NamedCalls.{call_named}
use Rattle.core_law.specs.Logic.{Heap}
use Rattle.core_law.specs.WholeLaw.{LawsHold}
use Rattle.core_steps.proofs.ReachedWorlds.{reached_worlds_valid}
use Rattle.solo_progress.specs.LeftAlone.{IsLeftAlone, MayCallAlone, MayCall, start_in}
use Rattle.solo_progress.specs.Moves.{Moves, GetsThrough}
use Rattle.solo_progress.proofs.Mids.{went}
use Rattle.solo_progress.proofs.Runs.{moves_found}
use Rattle.solo_progress.proofs.Worlds.{alone_fits}
use Rattle.turn_progress.specs.Turns.{OthersStand}
use Rattle.turn_progress.proofs.Steps.{IsFirst, first_of, path_first, one_answer}

pub second : (a b : Bool) → (a && b) ≡ true → b ≡ true
second true b h = h
second false b h = absurd (cc h)

pub first_of_two : (a b : Bool) → (a && b) ≡ true → a ≡ true
first_of_two true b h = refl
first_of_two false b h = absurd (cc h)

-- WHAT MAY BEGIN. A thread in the middle of nothing that makes the steps of a call might begin it.
module _ (w : World) (t : ℕ) (job : HeapCall) {A : Type 0} (d : StepTree A) (made : List StepMade) (last : World) (a : A)
    (idle : is_idle w.shape (w.known t) ≡ true) (is : steps_of w.shape job (start_in w t) ≡ (d >>= end)) (path : IsPath d [] made a)
    (moved : Moves w t made last) (some : 1 ≤ length made) where
  first : IsFirst w t made
  first = first_of w t made last moved some

  its_task : first.plan.task ≡ job
  its_task = by_tree d is path
    where
      by_tree : (x : StepTree A) → steps_of w.shape job (start_in w t) ≡ (x >>= end) → IsPath x [] made a → first.plan.task ≡ job
      by_tree (done b) same walked = let none = ap length walked.0 in absurd (omega (arith, none, some))
      by_tree unreachable same walked = absurd walked
      by_tree (step p f) same walked =
          let named : Named job (step p f >>= end) = subst (Named job) same (call_named w.shape job (start_in w t)) in
          ap (λ (x : StepPlan). x.task) (sym (path_first p f made a first.plan (w.words first.plan.at) walked first.is)) ∙ named.by.0.call

  due_may : (b : Bool) (x : StepTree (Unit {0})) (p : StepPlan) → head (cond b x unreachable) ≡ Some p → b ≡ true
  due_may true x p h = refl
  due_may false x p h = absurd (cc h)

  pub might_begin : may_begin w.shape w.biasing (w.known t) job ≡ true
  unfolding steps_due
  might_begin =
      let k : ThreadView = w.known t in
      let next : IsNext w.shape w.start w.biasing k first.plan = first.next in
      let begun : head (cond (is_calm k.stage && may_begin w.shape w.biasing k first.plan.task) (steps_of w.shape first.plan.task (start_in w t)) unreachable)
      ≡ Some first.plan =
      ap (λ (z : Bool). head (cond z (cond (is_calm k.stage && may_begin w.shape w.biasing k first.plan.task)
      (steps_of w.shape first.plan.task (start_in w t)) unreachable) (rest_of_call w.shape k))) (sym idle) ∙ next in
      subst (λ (x : HeapCall). may_begin w.shape w.biasing k x ≡ true) its_task
      (second (is_calm k.stage) (may_begin w.shape w.biasing k first.plan.task)
      (due_may (is_calm k.stage && may_begin w.shape w.biasing k first.plan.task) (steps_of w.shape first.plan.task (start_in w t)) first.plan begun))

-- THE OTHERS stand where they stood.
pub others_on : (w : World) (t : ℕ) (ms : List StepMade) (v : World) → Moves w t ms v → OthersStand w t → OthersStand v t
others_on w t ms v m o =
    let g = went w t ms v m in
    record {
      within = subst (λ (s : Shape). t < s.threads) (sym g.shape) o.within;
      stopped = λ u d. ap (λ (k : ThreadView). k.running) (g.others u d) ∙ o.stopped u d;
      unasked = λ u d. ap (λ (k : ThreadView). k.requesting) (g.others u d) ∙ o.unasked u d;
    }

-- A thread at rest that runs or asks is left alone there.
runs_or_asks : (runs asks : Bool) → (asks ≡ true → runs ≡ false) → (runs || asks) ≡ true → runs ≡ not asks
runs_or_asks true true h g = absurd (cc (h refl))
runs_or_asks true false h g = refl
runs_or_asks false true h g = refl
runs_or_asks false false h g = absurd (cc g)

pub left_alone : (w : World) (t : ℕ) → OthersStand w t → AtRest w.shape (w.known t) → ((w.known t).running || (w.known t).requesting) ≡ true
    → IsLeftAlone w t
left_alone w t o rest goes =
    record {
      within = o.within;
      calm = rest.calm;
      runs = runs_or_asks (w.known t).running (w.known t).requesting rest.stopped goes;
      stopped = o.stopped;
      unasked = o.unasked;
    }

-- an operation begins where its thread runs or asks
pub operates : (k : ThreadView) (going : Bool) → may_operate k going ≡ true → (k.running || k.requesting) ≡ true
operates k going h =
    by_tests k.checking k.running k.requesting going (is_free_for k going) (not (ends k.log)) (nat_lt (length k.log) log_limit) h
  where
    by_tests : (checking runs asks going free goes_on few : Bool) → (not checking && (runs || (asks && going)) && free && goes_on && few) ≡ true
        → (runs || asks) ≡ true
    by_tests false true asks going free goes_on few h = refl
    by_tests false false true going free goes_on few h = refl
    by_tests false false false going free goes_on few h = absurd (cc h)
    by_tests true runs asks going free goes_on few h = absurd (cc h)

-- NOBODY ASKS: every clause holds, and the safepoint word has no requester.
module _ (w : World) (P : List PlainObject) (t : ℕ) (o : OthersStand w t) (free : (w.known t).requesting ≡ false) where
  nobody_asks : (u : ℕ) → (w.known u).requesting ≡ false
  nobody_asks u = by_equal u t (λ e. ap (λ i. (w.known i).requesting) e ∙ free) (o.unasked u)

  pub unasked_fits : IsValid w P → Fits w P
  unasked_fits valid = elim valid [
    | inl fits ↦ fits
    | inr s ↦
        let reached : (w.known s.requester).reached ≡ true = ap (λ (k : ThreadView). k.reached) s.knows ∙ s.reached in
        let asks = (s.safe.safepoint s.requester reached).0 in
        let none = nobody_asks s.requester in
        absurd (cc (none, asks))
  ]

  pub no_requester : Fits w P → has_requester (w.words Safepoint) ≡ false
  no_requester fits = by_requester (requester_in (w.words Safepoint)) refl
    where
      by_requester : (r : Option ℕ) → requester_in (w.words Safepoint) ≡ r → has_requester (w.words Safepoint) ≡ false
      by_requester None is = ap is_some is
      by_requester (Some u) is =
          let asks = fits.safe.requester u ∙ nobody_asks u in
          let told = ap (λ a. is_thread a u) is ∙ eq-eqb u u refl in
          absurd (cc (asks, told))

-- A CALL MADE ALONE, begun in this world.
pub record CallAlone {A : Type 0} (heap : Heap) (w : World) (t : ℕ) (job : HeapCall) (d : StepTree A) (a : A) : Type 0 where
  pub call : MayCall heap w t job
  pub others : OthersStand w t
  pub rest : AtRest w.shape (w.known t)
  pub made : List StepMade
  pub last : World
  pub moved : Moves w t made last
  pub path : IsPath d [] made a

-- what is shown of such calls is so of this one, since there is but one run
pub says_so : {A : Type 0} (heap : Heap) (w : World) (t : ℕ) (job : HeapCall) (d : StepTree A) (a : A) (P : A → Type 0) → CallAlone heap w t job d a
    → GetsThrough heap w t job d P → P a
says_so heap w t job d a P c g =
    subst P
    (one_answer w.words d [] g.steps c.made g.answer a g.path c.path (moves_found w t g.steps g.last g.moves).found
    (moves_found w t c.made c.last c.moved).found) g.says

-- its plain objects, where its thread runs or asks
pub record ReadyAlone (heap : Heap) (w : World) (t : ℕ) (job : HeapCall) : Type 0 where
  pub objects : List PlainObject
  pub ready : MayCallAlone heap w objects t job

pub ready_alone : (heap : Heap) (w : World) (t : ℕ) (job : HeapCall) → MayCall heap w t job → IsLeftAlone w t → ReadyAlone heap w t job
ready_alone heap w t job call alone =
    let v = reached_worlds_valid heap w call.limits call.reached in
    let fits = alone_fits w v.objects t alone (forgotten LawsHold w v.objects v.is) in
    record { objects = v.objects; ready = record { call = call; history = fits.taken; alone = alone } }
