-- The stamp is raised, where this is the last hold, and the displaced word is loaded: where it is a header, the mark is.
use Rattle.std.proofs.Common.{refl, sym, ap, ◌∙◌, ◌≡◌, ◌+◌, Bool, false, true, if◌then◌else◌, eq-eqb, ne_eqb, ◌==◌, ℕ, Option}
use Rattle.mark_word.specs.Mark.{read_mark}
use Rattle.core_world.specs.declared.act.Act.TheVariants.{Load}
use Rattle.core_world.specs.declared.answer.StackOut.{StackOut}
use Rattle.core_world.specs.declared.answer.StackOut.TheVariants.{Left}
use Rattle.core_world.specs.declared.heap_call.Unfinished.{Unfinished}
use Rattle.core_world.specs.declared.stage.Stage.TheVariants.{Settled}
use Rattle.core_world.specs.declared.word_id.WordId.TheVariants.{Displaced, Mark}
use Rattle.core_world.specs.Locks.{hold_count}
use Rattle.core_world.specs.Threads.ThreadView.{ThreadView, Local, local_of}
use Rattle.core_world.specs.Trees.LockSteps.{leave_steps, raise_stamp_plan, raise_steps, stack_exit_at, stack_exit_record}
use Rattle.core_world.specs.Trees.Operations.{answer, exit_at}
use Rattle.core_world.specs.Trees.Plans.{CallContext, load, next_stamp, quiet_plan, top_place, with_stage}
use Rattle.core_world.specs.Trees.StepTree.{ask, done, step, ◌>>=◌}
use Rattle.core_world.specs.declared.plan.StepPlan.{StepPlan}
use Rattle.heap_table.specs.Layout.{place_of}
use Rattle.heap_table.specs.Kept.{Mirrors}
use Rattle.heap_table.specs.Ruled.{heap_in, only}
use Rattle.heap_table.specs.Seen.{HeapSeen, PassSeen}
use Rattle.heap_table.specs.declared.mirror.Mirror.{Mirror}
use Rattle.heap_table.specs.declared.quick_exits.ExitPart.TheVariants as parts
use Rattle.heap_table.specs.inner.Amid.{ExitTree, Goes, IsStartOf, Late, lagging, marked_exit, unbiased_exit}
use Rattle.heap_table.proofs.Late.{amid_by, follow_quiet, late_as, made_step, may_step, raise_if, record_late, raise_keeps, raised, start_after}
use Rattle.heap_table.proofs.ExitEnds.{held_part, part_by, part_keeps}
use Rattle.heap_table.proofs.Loops.{binds}
use Rattle.heap_table.proofs.LowBits.{found_mark}
use Rattle.heap_table.proofs.quick_exits.part_unbiased.Goals as goal
use Rattle.heap_table.proofs.quick_exits.part_unbiased.Goals.{After-raise_at, After-quiet-first, After-step_at-header, After-quiet-second}
use Rattle.heap_table.proofs.quick_exits.part_unbiased.Goals.{After-step_at-mark}

abbrev gone : CallContext → Local → ℕ → StackOut → ExitTree
gone e k o out = exit_at out e k o >>= answer

-- what is left once the displaced word was found, where the test says whether the record is recursive
abbrev headed : CallContext → Local → ℕ → ℕ → Bool → ExitTree
headed e k o header none = (if none then (do
  _ ← leave_steps e k o
  done Left) else (do
    mark ← ask (load e (Mark o))
    stack_exit_at (read_mark mark) e k o header mark)) >>= gone e k o

-- and before it was
abbrev to_load : CallContext → Local → ℕ → ExitTree
to_load e k o = step (load e (Displaced k.thread (top_place o k.holds))) (λ header. headed e k o header (header == 0))

abbrev to_raise : CallContext → Local → ℕ → Bool → ExitTree
to_raise e k o b = raise_if e o (next_stamp k) b >>= (λ _. to_load e k o)

-- The code says the test and the stamp in its own words.
module _ (e : CallContext) (o : ℕ) (m : Mirror) (k : ThreadView) (shows : Mirrors (lagging e m) k) where
  as_said : (depth : ℕ) → depth ≡ hold_count o m.holds.words → unbiased_exit e (local_of k) o ≡ to_raise e (local_of k) o (depth == 1)
  as_said depth is =
      binds (raise_steps e (local_of k) o) (λ _. stack_exit_record e (local_of k) o) (gone e (local_of k) o)
      ∙ ap (λ (n : ℕ). to_raise e (local_of k) o (n == 1)) (sym (is ∙ ap (hold_count o) (sym shows.holds)))

  stamp_said : raise_stamp_plan e o (m.last + 1) ≡ raise_stamp_plan e o (next_stamp (local_of k))
  stamp_said = ap (λ (n : ℕ). raise_stamp_plan e o (n + 1)) (sym shows.last)

pub raise_at-requires-clause-may : goal.raise_at-requires-clause-may
raise_at-requires-clause-may c =
    let e = c.args.call.now in
    let k = only c.args.seat.now.me.0 in
    let a = c.requires.amid in
    λ one. may_step (late_as a.late (as_said e c.args.object c.args.mirror.now k a.late.mirrors c.args.depth c.requires.depth
    ∙ ap (to_raise e (local_of k) c.args.object) (eq-eqb _ _ one))) a.its (stamp_said e c.args.object c.args.mirror.now k a.late.mirrors) refl

raising : (c : After-raise_at) (h : HeapSeen) (o : PassSeen) (d : ExitTree) → let e = c.args.call.now in let k = only c.args.seat.now.me.0 in
    heap_in c.args.setting.now ≡ h.heap → Late h e.task o d k (unbiased_exit e (local_of k) c.args.object) (lagging e c.args.mirror.now)
    → (u : Option Unfinished) × (b : Bool) × Late h e.task o d (only c.raise_at.new.seat.me.0) (to_load e (local_of k) c.args.object)
    (record (lagging e c.args.mirror.now) { unfinished = u; checking = b })
raising c h o d its late =
    let e = c.args.call.now in
    let k = only c.args.seat.now.me.0 in
    raised e c.args.object (next_stamp (local_of k)) (λ _. to_load e (local_of k) c.args.object) _ its
    (stamp_said e c.args.object c.args.mirror.now k late.mirrors) refl
    (late_as late (as_said e c.args.object c.args.mirror.now k late.mirrors c.args.depth c.requires.depth)) c.raise_at.ensures.raised

since_raise : (c : After-raise_at) → IsStartOf (only c.args.seat.now.me.0) (only c.raise_at.new.seat.me.0)
since_raise c =
    let e = c.args.call.now in
    let k = only c.args.seat.now.me.0 in
    let kept = raise_keeps k _ _ _ e c.args.object (next_stamp (local_of k)) _
    (stamp_said e c.args.object c.args.mirror.now k c.requires.amid.late.mirrors) c.raise_at.ensures.raised in
    record { local = kept.0; kept = kept.1 }

-- THE DISPLACED WORD is loaded.
first_plan : (c : After-quiet-first) → let k = only c.args.seat.now.me.0 in
    c.quiet-first.result ≡ load c.args.call.now (Displaced k.thread (top_place c.args.object k.holds))
first_plan c =
    let shows = c.requires.amid.late.mirrors in
    let thread = sym shows.thread in
    let place = c.requires.place ∙ ap (top_place c.args.object) (sym shows.holds) in
    c.quiet-first.ensures ∙ λ i. with_stage Settled (quiet_plan c.args.call.now (Displaced (thread i) (place i)) Load)

abbrev after_raise : After-quiet-first → After-raise_at
after_raise c = c.before

pub step_at-header-requires-clause-place : goal.step_at-header-requires-clause-place
step_at-header-requires-clause-place c =
    let a = c.requires.amid in
    c.displaced_at-record_at.ensures ∙ record_late a.late a.its c.args.place
    ∙ ap (λ (p : StepPlan). place_of c.args.setting.now.shape p.at) (sym c.quiet-first.ensures)

pub step_at-header-requires-clause-may : goal.step_at-header-requires-clause-may
step_at-header-requires-clause-may c =
    let z = (goal.at.step_at-header-requires-clause-may c).After-quiet-first in
    let a = c.requires.amid in may_step (raising (after_raise z) a.heap a.begun a.due a.its a.late).2 a.its (first_plan z) refl

by_header : (b : Bool) (c : After-step_at-header) → let e = c.args.call.now in let k = only c.args.seat.now.me.0 in
    let n = c.step_at-header.result in (n == 0) ≡ b
    → Goes c.args.setting.now e c.args.mirror.now k (unbiased_exit e (local_of k) c.args.object)
    (only c.step_at-header.new.seat.me.0) (headed e (local_of k) c.args.object n b)
by_header b c is = λ h o d its late.
    let e = c.args.call.now in
    let k = local_of (only c.args.seat.now.me.0) in
    let n = c.step_at-header.result in
    let z = c.before.before.before.before in
    let here = (raising (after_raise z) h o d its late).2 in
    late_as (made_step here its (first_plan z) refl refl refl c.step_at-header.ensures.stepped c.step_at-header.ensures.seat.1
    (follow_quiet h.heap.shape h.heap.start e Settled (Displaced k.thread (top_place c.args.object k.holds)) Load n _ _ refl refl
    (λ l. refl) (λ l. refl) (λ l. refl) here.mirrors)) (ap (headed e k c.args.object n) is)

since_header : (c : After-step_at-header) → IsStartOf (only c.args.seat.now.me.0) (only c.step_at-header.new.seat.me.0)
since_header c =
    let z = c.before.before.before.before in
    start_after (heap_in c.args.setting.now) c.step_at-header.result (since_raise (after_raise z)) (first_plan z)
    c.step_at-header.ensures.seat.1 (record { local = refl; kept = refl })

-- It is 0: the record is recursive.
pub returns-then-header-eq0-clause-leads : goal.returns-then-header-eq0-clause-leads
returns-then-header-eq0-clause-leads c = λ h p d its late.
    held_part (local_of (only c.args.seat.now.me.0)) parts.Held late.mirrors.thread late.mirrors.holds (λ j g shows. shows) refl
    (by_header true (goal.at.returns-then-header-eq0-clause-leads c).After-step_at-header (eq-eqb _ _ c.if-header-eq0.true) h p d its late)

-- It is a header: THE MARK is loaded.
second_plan : (c : After-quiet-second) → c.quiet-second.result ≡ load c.args.call.now (Mark c.args.object)
second_plan c = c.quiet-second.ensures

abbrev after_header : After-quiet-second → After-step_at-header
after_header c = c.before.before

pub step_at-mark-requires-clause-may : goal.step_at-mark-requires-clause-may
step_at-mark-requires-clause-may c =
    let z = (goal.at.step_at-mark-requires-clause-may c).After-quiet-second in
    let a = amid_by c.requires.amid (by_header false (after_header z) (ne_eqb _ _ c.if-header-eq0.false)) in may_step a.late a.its (second_plan z) refl

since_mark : (c : After-step_at-mark) → IsStartOf (only c.args.seat.now.me.0) (only c.step_at-mark.new.seat.me.0)
since_mark c =
    let z = c.before.before.before in
    start_after (heap_in c.args.setting.now) c.step_at-mark.result (since_header (after_header z)) (second_plan z)
    c.step_at-mark.ensures.seat.1 (record { local = refl; kept = refl })

marked : (c : After-step_at-mark) → let e = c.args.call.now in let k = only c.args.seat.now.me.0 in let j = only c.step_at-mark.new.seat.me.0 in
    Goes c.args.setting.now e c.args.mirror.now k (unbiased_exit e (local_of k) c.args.object)
    j (marked_exit e (local_of j) c.args.object c.step_at-header.result c.step_at-mark.result)
marked c = λ h o d its late.
    let e = c.args.call.now in
    let n = c.step_at-mark.result in
    let z = c.before.before.before in
    let here = by_header false (after_header z) (ne_eqb _ _ c.if-header-eq0.false) h o d its late in
    late_as (made_step here its (second_plan z) refl refl refl c.step_at-mark.ensures.stepped c.step_at-mark.ensures.seat.1
    (follow_quiet h.heap.shape h.heap.start e Settled (Mark c.args.object) Load n _ _ refl refl (λ l. refl) (λ l. refl) (λ l. refl) here.mirrors))
    (ap (λ (k : Local). marked_exit e k c.args.object c.step_at-header.result n) (sym (since_mark c).local))

pub part_marked-requires-clause-found : goal.part_marked-requires-clause-found
part_marked-requires-clause-found c =
    let z = (goal.at.part_marked-requires-clause-found c).After-step_at-mark in
    found_mark _ _ _ _ c.args.object _ (second_plan z.before.before.before) refl c.step_at-mark.ensures.stepped

pub part_marked-requires-clause-amid : goal.part_marked-requires-clause-amid
part_marked-requires-clause-amid c = amid_by c.requires.amid (marked (goal.at.part_marked-requires-clause-amid c).After-step_at-mark)

pub returns-clause-start : goal.returns-clause-start
returns-clause-start c =
    part_keeps c.part_marked.result _ _ _ (since_mark (goal.at.returns-clause-start c).After-step_at-mark) c.part_marked.ensures.start

pub returns-clause-leads : goal.returns-clause-leads
returns-clause-leads c = λ h p d its late.
    let z = (goal.at.returns-clause-leads c).After-step_at-mark in
    part_by (since_mark z).local (c.part_marked.ensures.leads h p d its (marked z h p d its late))
