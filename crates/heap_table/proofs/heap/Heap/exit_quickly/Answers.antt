-- An exit up to its mark, which says which way the hold is left, and what that way answers.
use Rattle.std.proofs.Common.{◌≡◌, ℕ, ◌+◌, ◌<◌, ◌≤◌, ◌==◌, Bool, false, true, if◌then◌else◌, Option, Err, length, refl, sym, ap, ◌∙◌, subst}
use Rattle.std.proofs.Common.{eq-eqb, ne_eqb, arith}
use Rattle.std.specs.Prelude.{not}
use Rattle.atomic_table.specs.Seated.{TableId}
use Rattle.plain_monitor.specs.declared.entry.Entry.TheVariants as entry
use Rattle.plain_monitor.specs.History.{last_stamp}
use Rattle.core_world.specs.declared.act.Act.TheVariants.{Load}
use Rattle.core_world.specs.declared.answer.StackOut.{StackOut}
use Rattle.core_world.specs.declared.heap_call.HeapCall.TheVariants.{Exit}
use Rattle.core_world.specs.declared.heap_call.Unfinished.{Unfinished}
use Rattle.core_world.specs.declared.plan.LogEffect.TheVariants.{Log}
use Rattle.core_world.specs.declared.stage.Stage.TheVariants.{Settled}
use Rattle.core_world.specs.declared.word_id.WordId.TheVariants.{Mark}
use Rattle.core_world.specs.Locks.{hold_count}
use Rattle.core_world.specs.Threads.ThreadView.{Local, ThreadView, Start, local_of}
use Rattle.core_world.specs.Trees.BiasSteps.{bias_exit_steps}
use Rattle.core_world.specs.Trees.Calls.{steps_of}
use Rattle.core_world.specs.Trees.LockSteps.{leave_steps, raise_stamp_plan, raise_steps, stack_exit_steps}
use Rattle.core_world.specs.Trees.Operations.{answer, exit_at, exit_going, exit_steps}
use Rattle.core_world.specs.Trees.Plans.{CallContext, done_with, load, next_stamp, quiet_plan, with_stage}
use Rattle.core_world.specs.Trees.StepTree.{done, step, ◌>>=◌, ask}
use Rattle.core_world.specs.Words.Forms.{is_biased}
use Rattle.heap_table.specs.Cells.{cells_shown}
use Rattle.heap_table.specs.Kept.{Mirrors, limit_by}
use Rattle.heap_table.specs.Quick.{leaving}
use Rattle.heap_table.specs.Resting.{MayOperate, start_now}
use Rattle.heap_table.specs.Ruled.{heap_in, only}
use Rattle.heap_table.specs.Seen.{HeapSeen, PassSeen}
use Rattle.heap_table.specs.declared.mirror.Mirror.{Mirror}
use Rattle.heap_table.specs.inner.Amid.{ExitTree, IsAmid, IsSameFrame, IsStartOf, Late, Leads, MayLeave, exit_found, exit_left, lagging}
use Rattle.heap_table.proofs.Follow.{room_in_page}
use Rattle.heap_table.proofs.Late.{exit_keeps, follow_quiet, late_as, late_first, made_step, may_step, only_knows, raise_if}
use Rattle.heap_table.proofs.Late.{raise_keeps, raised, start_after}
use Rattle.heap_table.proofs.Loops.{binds}
use Rattle.heap_table.proofs.LowBits.{found_mark}
use Rattle.heap_table.proofs.QuickAnswers.{exit_answered, is_idle, leaves_free}
use Rattle.heap_table.proofs.Resting.{whole_due}
use Rattle.heap_table.proofs.Stamps.{low}
use Rattle.heap_table.proofs.heap.Heap.exit_quickly.Goals as goal
use Rattle.heap_table.proofs.heap.Heap.exit_quickly.Goals.{After-leaving-call, After-raise_at, After-quiet-first, After-step_at-mark}
use Rattle.heap_table.proofs.heap.Heap.exit_quickly.Goals.{After-leave_marked}

-- what is left once the mark was found, where the test says whether it has the bias pattern
abbrev told : Start → ℕ → Bool → ExitTree
told k o biased = (if biased then done_with tt else (do
  out ← stack_exit_steps (leaving o) k.local o
  exit_at out (leaving o) k.local o)) >>= answer

abbrev marked : Start → ℕ → Bool → ExitTree
marked k o biased = (if biased then (do
  _ ← leave_steps (leaving o) k.local o
  done true) else done false) >>= told k o

abbrev to_load : Start → ℕ → ExitTree
to_load k o = step (load (leaving o) (Mark o)) (λ mark. marked k o (is_biased mark))

abbrev to_raise : Start → ℕ → Bool → ExitTree
to_raise k o b = raise_if (leaving o) o (next_stamp k.local) b >>= (λ _. to_load k o)

going : (k : Start) (o : ℕ) → (hold_count o k.local.holds == 0) ≡ false → exit_steps k o ≡ to_raise k o (hold_count o k.local.holds == 1)
going k o held =
    ap (λ b. if b then done (Err record {}) else exit_going (leaving o) k.local o >>= answer) held
    ∙ binds (bias_exit_steps (leaving o) k.local o) (λ biased. if biased then done_with tt else (do
      out ← stack_exit_steps (leaving o) k.local o
      exit_at out (leaving o) k.local o)) answer
    ∙ binds (raise_steps (leaving o) k.local o) (λ _. do
      mark ← ask (load (leaving o) (Mark o))
      if is_biased mark then (do
        _ ← leave_steps (leaving o) k.local o
        done true) else done false) (told k o)

-- THE NEWEST HOLD of the object was found.
knew : (c : After-leaving-call) → only c.pass.inside.seat.me.0 ≡ c.args.pass.now.known
knew c = ap (λ (x : PassSeen). x.known) c.pass.view_is

depth_is : (c : After-leaving-call) → c.in-Some.depth ≡ hold_count c.args.object c.args.pass.now.known.holds
depth_is c =
    c.in-Some.ensures.newest.0 ∙ ap (hold_count c.args.object) (sym c.pass.invariant.1.holds ∙ ap (λ (k : ThreadView). k.holds) (knew c))

held : (c : After-leaving-call) → 1 ≤ hold_count c.args.object c.args.pass.now.known.holds
held c = let some : 0 < c.in-Some.depth = c.in-Some.ensures.newest.2 in let is = depth_is c in omega (arith, some, is)

may : (c : After-leaving-call) → MayOperate c.args.self.now c.args.pass.now (Exit c.args.object)
may c = c.requires.may (held c)

begun : (c : After-leaving-call) → let a = c.args in let h = a.self.now in let p = a.pass.now in let k = start_now h p in
    Late h (Exit a.object) p (exit_steps k a.object) (only c.pass.inside.seat.me.0) (to_raise k a.object (c.in-Some.depth == 1)) c.pass.inside.mirror
unfolding steps_of
begun c =
    let a = c.args in
    let h = a.self.now in
    let p = a.pass.now in
    let k = start_now h p in
    let some = held c in
    let none : hold_count a.object p.known.holds ≡ 0 → ⊥ = λ zero. omega (arith, some, zero) in
    late_as (late_first (knew c) c.requires.rests.is_of (whole_due h p (Exit a.object) (may c).call _ refl)
    (ap (λ (x : PassSeen). x.home) c.pass.view_is) c.pass.invariant.1)
    (going k a.object (ne_eqb _ _ none) ∙ ap (λ (n : ℕ). to_raise k a.object (n == 1)) (sym (depth_is c)))

its_last : (c : After-leaving-call) → last_stamp c.args.pass.now.known.log ≡ c.pass.inside.mirror.last
its_last c = ap (λ (k : ThreadView). last_stamp k.log) (sym (knew c)) ∙ c.pass.invariant.1.last

pub overflow_add-next : goal.overflow_add-next
overflow_add-next c =
    let few = low c.args.self.now c.args.pass.now c.requires.rests.is_of in
    let last = its_last (goal.at.overflow_add-next c).After-leaving-call in
    omega (arith, few, last)

its_heap : (c : After-leaving-call) → heap_in c.self.inside.setting ≡ c.args.self.now.heap
its_heap c = ap (λ (x : HeapSeen). x.heap) c.self.view_is

-- THE STAMP is raised, where this is the last hold.
raise_plan : (c : After-leaving-call) → raise_stamp_plan c.leaving-call.result c.args.object (c.pass.inside.mirror.last + 1)
    ≡ raise_stamp_plan (leaving c.args.object) c.args.object (next_stamp (local_of c.args.pass.now.known))
raise_plan c = λ i. raise_stamp_plan (c.leaving-call.ensures i) c.args.object (sym (its_last c) i + 1)

pub raise_at-requires-clause-may : goal.raise_at-requires-clause-may
raise_at-requires-clause-may c =
    let z = (goal.at.raise_at-requires-clause-may c).After-leaving-call in
    let a = c.args in
    λ one. may_step (late_as (begun z) (ap (to_raise (start_now a.self.now a.pass.now) a.object) (eq-eqb _ _ one))) (its_heap z) (raise_plan z) refl

abbrev after_call : After-raise_at → After-leaving-call
after_call c = c.before.before.before.before

before_mark : (c : After-raise_at) → let a = c.args in let h = a.self.now in let p = a.pass.now in let k = start_now h p in
    (u : Option Unfinished) × (b : Bool) × Late h (Exit a.object) p (exit_steps k a.object) (only c.raise_at.new.seat.me.0) (to_load k a.object)
    (record c.pass.inside.mirror { unfinished = u; checking = b })
before_mark c =
    let a = c.args in
    let k = start_now a.self.now a.pass.now in
    let z = after_call c in
    raised (leaving a.object) a.object (next_stamp k.local) (λ _. to_load k a.object) _ (its_heap z) (raise_plan z) refl (begun z) c.raise_at.ensures.raised

since_raise : (c : After-raise_at) → IsStartOf c.args.pass.now.known (only c.raise_at.new.seat.me.0)
since_raise c =
    let a = c.args in
    let z = after_call c in
    let kept = raise_keeps _ _ _ _ (leaving a.object) a.object (next_stamp (local_of a.pass.now.known)) _ (raise_plan z) c.raise_at.ensures.raised in
    record { local = kept.0 ∙ ap local_of (knew z); kept = kept.1 ∙ ap (λ (x : ThreadView). x.kept) (knew z) }

-- THE MARK is loaded.
first_plan : (c : After-quiet-first) → c.quiet-first.result ≡ load (leaving c.args.object) (Mark c.args.object)
first_plan c = c.quiet-first.ensures ∙ ap (λ (e : CallContext). with_stage Settled (quiet_plan e (Mark c.args.object) Load)) c.leaving-call.ensures

abbrev after_raise : After-quiet-first → After-raise_at
after_raise c = c.before.before

pub step_at-mark-requires-clause-may : goal.step_at-mark-requires-clause-may
step_at-mark-requires-clause-may c =
    let z = (goal.at.step_at-mark-requires-clause-may c).After-quiet-first in
    may_step (before_mark (after_raise z)).2 (its_heap (after_call (after_raise z))) (first_plan z) refl

pub leave_marked-requires-clause-found : goal.leave_marked-requires-clause-found
leave_marked-requires-clause-found c =
    let z = (goal.at.leave_marked-requires-clause-found c).After-step_at-mark in
    found_mark _ _ _ _ c.args.object _ (first_plan z.before.before.before) refl c.step_at-mark.ensures.stepped

-- The call with these steps left, by what it took at its beginning.
abbrev IsLeft : After-step_at-mark → ThreadView → ExitTree → Mirror → Type 0
IsLeft c k x m = let a = c.args in Late a.self.now (Exit a.object) a.pass.now (exit_steps (start_now a.self.now a.pass.now) a.object) k x m

by_mark : (biased : Bool) (c : After-step_at-mark) → is_biased c.step_at-mark.result ≡ biased → let a = c.args in
    IsLeft c (only c.step_at-mark.new.seat.me.0) (marked (start_now a.self.now a.pass.now) a.object biased) (lagging (leaving a.object) c.pass.inside.mirror)
by_mark biased c is =
    let a = c.args in
    let h = a.self.now.heap in
    let z = c.before.before.before in
    let late = (before_mark (after_raise z)).2 in
    late_as (made_step late (its_heap (after_call (after_raise z))) (first_plan z) refl refl refl c.step_at-mark.ensures.stepped
    c.step_at-mark.ensures.seat.1 (follow_quiet h.shape h.start (leaving a.object) Settled (Mark a.object) Load c.step_at-mark.result _ _ refl refl
    (λ l. refl) (λ l. refl) (λ l. refl) late.mirrors)) (ap (marked (start_now a.self.now a.pass.now) a.object) is)

since_mark : (c : After-step_at-mark) → IsStartOf c.args.pass.now.known (only c.step_at-mark.new.seat.me.0)
since_mark c =
    let z = c.before.before.before in
    start_after (heap_in c.self.inside.setting) c.step_at-mark.result (since_raise (after_raise z)) (first_plan z) c.step_at-mark.ensures.seat.1
    (record { local = refl; kept = refl })

abbrev call_of : After-step_at-mark → After-leaving-call
call_of c = after_call (after_raise c.before.before.before)

-- THE WAY that leaves the hold begins with these steps,
module _ (c : After-step_at-mark) (x : CallContext → Local → ExitTree) (late : let o = c.args.object in
    IsLeft c (only c.step_at-mark.new.seat.me.0) (x (leaving o) (local_of c.args.pass.now.known)) (lagging (leaving o) c.pass.inside.mirror)) where
  amid : let j = only c.step_at-mark.new.seat.me.0 in let e = c.leaving-call.result in
      IsAmid (heap_in c.self.inside.setting) e.task j (x e (local_of j)) (lagging e c.pass.inside.mirror)
  amid =
      let j = only c.step_at-mark.new.seat.me.0 in
      let here : IsAmid (heap_in c.self.inside.setting) (Exit c.args.object) j (x (leaving c.args.object) (local_of j))
      (lagging (leaving c.args.object) c.pass.inside.mirror) = record {
        heap = c.args.self.now;
        begun = c.args.pass.now;
        due = _;
        its = its_heap (call_of c);
        late = late_as late (ap (x (leaving c.args.object)) (sym (since_mark c).local));
      } in
      subst (λ (e : CallContext). IsAmid (heap_in c.self.inside.setting) e.task j (x e (local_of j)) (lagging e c.pass.inside.mirror))
      (sym c.leaving-call.ensures) here

  -- and leads to these others.
  led : (y : CallContext → Local → ExitTree) (i : ThreadView) (n : Mirror) → let j = only c.step_at-mark.new.seat.me.0 in let e = c.leaving-call.result in
      Leads (heap_in c.self.inside.setting) e.task j (x e (local_of j)) (lagging e c.pass.inside.mirror) i (y e (local_of j)) n
      → IsLeft c i (y (leaving c.args.object) (local_of c.args.pass.now.known)) n
  led y i n leads =
      let j = only c.step_at-mark.new.seat.me.0 in
      let here = subst (λ (e : CallContext). Leads (heap_in c.self.inside.setting) e.task j (x e (local_of j)) (lagging e c.pass.inside.mirror)
      i (y e (local_of j)) n) c.leaving-call.ensures leads in
      late_as (here c.args.self.now c.args.pass.now _ (its_heap (call_of c)) (late_as late (ap (x (leaving c.args.object)) (sym (since_mark c).local))))
      (ap (y (leaving c.args.object)) (since_mark c).local)

knew_all : (c : After-step_at-mark) → Mirrors c.pass.inside.mirror c.args.pass.now.known
knew_all c = subst (Mirrors c.pass.inside.mirror) (knew (call_of c)) c.pass.invariant.1

may_leave : (c : After-step_at-mark) → MayLeave c.leaving-call.result c.pass.inside.mirror c.args.object c.in-Some.place (not c.args.search)
may_leave c =
    let few : length c.args.pass.now.known.log + 1 ≤ c.args.pass.now.limit = (may (call_of c)).room in
    let here : length c.args.pass.now.known.log < c.args.pass.now.limit = omega (arith, few) in
    record {
      clears = record {
        place = c.in-Some.ensures.newest.1;
        ends = λ last. c.in-Some.ensures.last (unlike c.args.search last);
        idle = is_idle _ _ _ c.requires.free (knew_all c) (ap (λ (e : CallContext). e.check) c.leaving-call.ensures);
      };
      room = room_in_page _ (Log (entry.Exit c.args.object)) _ _ _ _ c.pass.invariant.1.log
          (subst (λ (p : PassSeen). length p.known.log < p.limit) (sym c.pass.view_is) here);
    }
  where
    unlike : (b : Bool) → not b ≡ true → b ≡ false
    unlike false is = refl
    unlike true is = sym is

-- Of the pass only what its thread knows is another then.
abbrev pass_by : TableId → ThreadView → Mirror → PassSeen
pass_by t k m = record {
  table = t;
  known = k;
  limit = limit_by m.keeps m.given m.room;
  room = m.room;
  home = m.home;
  classes = m.classes;
  first = m.first;
  threads = m.shots.threads;
  objects = m.shots.objects;
  cut = m.shots.draft.cut.items;
  cells = cells_shown m.shots.draft.cells.items;
}

seen : (c : After-step_at-mark) (t : TableId) (k : ThreadView) (m : Mirror) → t ≡ c.step_at-mark.new.seat.table_id → IsSameFrame c.pass.inside.mirror m
    → pass_by t k m ≡ record c.args.pass.now { known = k }
seen c t k m table same =
    let view = c.pass.view_is in
    only_knows c.args.pass.now (pass_by t k m)
    (table ∙ c.step_at-mark.ensures.seat.0 ∙ c.raise_at.ensures.seat.0 ∙ ap (λ (x : PassSeen). x.table) view)
    (same.limit ∙ ap (λ (x : PassSeen). x.limit) view) (same.room ∙ ap (λ (x : PassSeen). x.room) view)
    (same.home ∙ ap (λ (x : PassSeen). x.home) view) (same.classes ∙ ap (λ (x : PassSeen). x.classes) view) (same.first ∙ ap (λ (x : PassSeen). x.first) view)
    (same.threads ∙ ap (λ (x : PassSeen). x.threads) view) (same.objects ∙ ap (λ (x : PassSeen). x.objects) view)
    (same.cut ∙ ap (λ (x : PassSeen). x.cut) view) (same.cells ∙ ap (λ (x : PassSeen). x.cells) view)

-- THE WAYS go on by the mark.
found : (c : After-step_at-mark) → let o = c.args.object in
    IsLeft c (only c.step_at-mark.new.seat.me.0) (exit_found (is_biased c.step_at-mark.result) (leaving o) (local_of c.args.pass.now.known) o)
    (lagging (leaving o) c.pass.inside.mirror)
found c = cases (is_biased c.step_at-mark.result) refl
  where
    cases : (b : Bool) → is_biased c.step_at-mark.result ≡ b → let o = c.args.object in
        IsLeft c (only c.step_at-mark.new.seat.me.0) (exit_found b (leaving o) (local_of c.args.pass.now.known) o) (lagging (leaving o) c.pass.inside.mirror)
    cases true is = by_mark true c is
    cases false is =
        let o = c.args.object in
        let k = local_of c.args.pass.now.known in
        late_as (by_mark false c is) (binds (stack_exit_steps (leaving o) k o) (λ (out : StackOut). exit_at out (leaving o) k o) answer)

pub leave_marked-requires-clause-may : goal.leave_marked-requires-clause-may
leave_marked-requires-clause-may c = may_leave (goal.at.leave_marked-requires-clause-may c).After-step_at-mark

pub leave_marked-requires-clause-next : goal.leave_marked-requires-clause-next
leave_marked-requires-clause-next c =
    let few = low c.args.self.now c.args.pass.now c.requires.rests.is_of in
    let last = its_last (call_of (goal.at.leave_marked-requires-clause-next c).After-step_at-mark) in
    omega (arith, few, last)

pub leave_marked-requires-clause-amid : goal.leave_marked-requires-clause-amid
leave_marked-requires-clause-amid c =
    let z = (goal.at.leave_marked-requires-clause-amid c).After-step_at-mark in
    amid z (λ e k. exit_found (is_biased c.step_at-mark.result) e k c.args.object) (found z)

abbrev mark_of_rest : After-leave_marked → After-step_at-mark
mark_of_rest c = c.before.before.before.before

-- What is left then is told by what the call took at its beginning.
rest : (c : After-leave_marked) → let o = c.args.object in
    IsLeft (mark_of_rest c) (only c.leave_marked.new.seat.me.0) (exit_left (leaving o) (local_of c.args.pass.now.known) o c.leave_marked.result)
    c.leave_marked.new.mirror
rest c =
    let z = mark_of_rest c in
    led z (λ e k. exit_found (is_biased c.step_at-mark.result) e k c.args.object) (found z)
    (λ e k. exit_left e k c.args.object c.leave_marked.result) _ _ c.leave_marked.ensures.leads

pub invariant_of-pass : goal.invariant_of-pass
invariant_of-pass c = (c.leave_marked.ensures.seat.1, (rest (goal.at.invariant_of-pass c).After-leave_marked).mirrors)

pub returns-clause-held : goal.returns-clause-held
returns-clause-held c = λ other. held (call_of (mark_of_rest (goal.at.returns-clause-held c).After-leave_marked))

pub returns-clause-left : goal.returns-clause-left
returns-clause-left c =
    let y = (goal.at.returns-clause-left c).After-leave_marked in
    let z = mark_of_rest y in
    exit_answered _ _ _ _ _ _ c.leave_marked.result (rest y)
    (exit_keeps c.args.object c.leave_marked.result _ _ _ (since_mark z) c.leave_marked.ensures.start)
    (seen z _ _ _ c.leave_marked.ensures.seat.0 c.leave_marked.ensures.frame)

pub returns-clause-free : goal.returns-clause-free
returns-clause-free c =
    let y = (goal.at.returns-clause-free c).After-leave_marked in
    leaves_free c.leaving-call.result _ _ _ _ c.leave_marked.result c.requires.free (knew_all (mark_of_rest y)) (rest y).mirrors
    c.leave_marked.ensures.frame (ap (λ (e : CallContext). e.check) c.leaving-call.ensures) c.leave_marked.ensures.idle
