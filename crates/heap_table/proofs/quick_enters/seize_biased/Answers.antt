-- The prototype is loaded: it tells whether the bias is the thread's own.
use Rattle.std.proofs.Common.{◌≡◌, ℕ, false, if◌then◌else◌, Option, Some, refl, sym, ap, ◌∙◌, eq-eqb}
use Rattle.mark_word.specs.declared.mark.MarkForm.{MarkForm}
use Rattle.mark_word.specs.declared.mark.MarkForm.TheVariants.{Anonymous, Neutral}
use Rattle.plain_monitor.specs.declared.entry.Path.TheVariants.{BiasOwn}
use Rattle.core_world.specs.declared.act.Act.TheVariants.{Load}
use Rattle.core_world.specs.declared.answer.BiasTry.TheVariants.{Took, Valid}
use Rattle.core_world.specs.declared.heap_call.HeapCall.{HeapCall}
use Rattle.core_world.specs.declared.stage.Stage.TheVariants.{Settled}
use Rattle.core_world.specs.declared.word_id.WordId.TheVariants.{Prototype}
use Rattle.core_world.specs.Threads.Stages.{Revocation}
use Rattle.core_world.specs.Threads.ThreadView.{Local, Start}
use Rattle.core_world.specs.Trees.BiasSteps.{bias_enter_at, bias_enter_by, bias_valid_steps, rebias_steps, took_steps}
use Rattle.core_world.specs.Trees.Operations.{answer, enter_tried}
use Rattle.core_world.specs.Trees.Plans.{CallContext, load, quiet_plan, with_stage}
use Rattle.core_world.specs.Trees.StepTree.{done, ◌>>=◌}
use Rattle.core_world.specs.Words.Forms.{is_entering}
use Rattle.core_world.specs.Words.Shape.{Shape, class_in_shape}
use Rattle.heap_table.specs.Own.{IsOwn}
use Rattle.heap_table.specs.Quick.{entered}
use Rattle.heap_table.specs.Resting.{start_now}
use Rattle.heap_table.specs.Ruled.{heap_in, only}
use Rattle.heap_table.specs.Seen.{HeapSeen, PassSeen}
use Rattle.heap_table.specs.StepsLeft.{AreLeft}
use Rattle.heap_table.specs.inner.Amid.{EnterTree, GoesSince, IsStartOf, biased_left, hold_end, prototype_left}
use Rattle.heap_table.proofs.HoldEnds.{hold_ended, not_entering}
use Rattle.heap_table.proofs.Late.{keeps_start, late_as, may_step, made_step, follow_quiet}
use Rattle.heap_table.specs.inner.Prototypes.{IsPrototypeForm}
use Rattle.heap_table.proofs.StepsLeft.{never}
use Rattle.heap_table.proofs.quick_enters.seize_biased.Goals as goal
use Rattle.heap_table.proofs.quick_enters.seize_biased.Goals.{After-quiet-first, After-step_at-prototype}

first_plan : (c : After-quiet-first) → c.quiet-first.result ≡ load c.args.call.now (Prototype (class_in_shape c.args.setting.now.shape c.args.object))
first_plan c = c.quiet-first.ensures
    ∙ ap (λ class. with_stage Settled (quiet_plan c.args.call.now (Prototype class) Load)) c.class_of-class.ensures.class

pub step_at-prototype-requires-clause-may : goal.step_at-prototype-requires-clause-may
step_at-prototype-requires-clause-may c =
    let z = (goal.at.step_at-prototype-requires-clause-may c).After-quiet-first in
    let a = c.requires.amid in
    may_step a.late a.its (first_plan z) refl

-- THE PROTOTYPE is loaded.
abbrev first_of : After-step_at-prototype → After-quiet-first
first_of c = c.before.before.before

keeps : (c : After-step_at-prototype) → IsStartOf (only c.args.seat.now.me.0) (only c.step_at-prototype.new.seat.me.0)
keeps c = keeps_start (heap_in c.args.setting.now) c.step_at-prototype.result (first_plan (first_of c)) c.step_at-prototype.ensures.seat.1
    (record { local = refl; kept = refl })

loaded : (c : After-step_at-prototype) → let e = c.args.call.now in let s = c.args.setting.now.shape in let b = entered c.args.object c.args.now in
    GoesSince c.args.setting.now e c.args.mirror.now (only c.args.seat.now.me.0) (λ k. biased_left s e k b c.args.mark)
    (only c.step_at-prototype.new.seat.me.0) (λ k. prototype_left s e k b c.args.mark c.step_at-prototype.result)
loaded c = λ h o d its local late.
    made_step late its (first_plan (first_of c)) refl refl refl c.step_at-prototype.ensures.stepped c.step_at-prototype.ensures.seat.1
    (follow_quiet h.heap.shape h.heap.start c.args.call.now Settled (Prototype (class_in_shape c.args.setting.now.shape c.args.object)) Load
    c.step_at-prototype.result _ _ refl refl (λ l. refl) (λ l. refl) (λ l. refl) late.mirrors)

-- It is neutral or biased to no thread: of another form, nothing would be left.
form_told : (h : HeapSeen) (t : HeapCall) (o p : PassSeen) (d : EnterTree) (s : Shape) (e : CallContext) (k : Start) (b : Revocation) (mark prototype : ℕ)
    (f : Option MarkForm)
    → AreLeft h t o d p (bias_enter_by f e k.local b.object mark prototype >>= (λ tried. enter_tried tried s e k b >>= answer)) → IsPrototypeForm f
form_told h t o p d s e k b mark prototype (Some (Neutral hash age)) left = tt
form_told h t o p d s e k b mark prototype (Some (Anonymous epoch age)) left = tt
form_told h t o p d s e k b mark prototype _ left = absurd (never left refl)

pub is_own_by_sum-requires-clause-prototype : goal.is_own_by_sum-requires-clause-prototype
is_own_by_sum-requires-clause-prototype c =
    let z = (goal.at.is_own_by_sum-requires-clause-prototype c).After-step_at-prototype in
    let a = c.requires.amid in
    form_told _ _ _ _ _ _ _ _ _ _ _ _ (loaded z a.heap a.begun a.due a.its a.local a.late).left

pub returns-then-not-is_own_by_sum-clause-start : goal.returns-then-not-is_own_by_sum-clause-start
returns-then-not-is_own_by_sum-clause-start c = keeps (goal.at.returns-then-not-is_own_by_sum-clause-start c).After-step_at-prototype

pub returns-clause-start : goal.returns-clause-start
returns-clause-start c = keeps (goal.at.returns-clause-start c).After-step_at-prototype

-- The bias isn't the thread's own.
pub returns-then-not-is_own_by_sum-clause-leads : goal.returns-then-not-is_own_by_sum-clause-leads
returns-then-not-is_own_by_sum-clause-leads c = loaded (goal.at.returns-then-not-is_own_by_sum-clause-leads c).After-step_at-prototype

-- It is: the hold is left to take.
own_left : (s : Shape) (e : CallContext) (k : Start) (b : Revocation) (mark prototype thread : ℕ) → IsOwn mark prototype thread → thread ≡ k.local.thread
    → is_entering k.local.wait ≡ false → prototype_left s e k b mark prototype ≡ hold_end e k.local b.object BiasOwn
own_left s e k b mark prototype thread its same wait =
    ap (λ (f : Option MarkForm). bias_enter_by f e k.local b.object mark prototype >>= (λ t. enter_tried t s e k b >>= answer)) its.prototype_is
    ∙ ap (λ (f : Option MarkForm). bias_enter_at f its.epoch e k.local b.object mark >>= (λ t. enter_tried t s e k b >>= answer)) its.mark_is
    ∙ ap (λ c. (if c then bias_valid_steps e k.local b.object mark thread else rebias_steps e k.local b.object mark its.epoch)
    >>= (λ t. enter_tried t s e k b >>= answer)) (eq-eqb its.epoch its.epoch refl)
    ∙ ap (λ c. (if c then took_steps e k.local b.object BiasOwn else done (Valid mark)) >>= (λ t. enter_tried t s e k b >>= answer)) (eq-eqb _ _ same)
    ∙ hold_ended e k.local b.object BiasOwn wait (λ path. done (Took path)) (λ t. enter_tried t s e k b >>= answer)

pub returns-clause-leads : goal.returns-clause-leads
returns-clause-leads c = λ h o d its local late.
    let z = (goal.at.returns-clause-leads c).After-step_at-prototype in
    let own = c.is_own_by_sum.ensures c.if-not-is_own_by_sum.false _ c.args.mirror.now.owns in
    let thread = sym late.mirrors.thread ∙ ap (λ (l : Local). l.thread) local in
    let wait = ap (λ (l : Local). is_entering l.wait) (sym local) ∙ not_entering _ _ late.mirrors c.requires.may.waits in
    late_as (loaded z h o d its local late) (own_left c.args.setting.now.shape c.args.call.now (start_now h o) (entered c.args.object c.args.now) c.args.mark
    c.step_at-prototype.result c.args.mirror.now.thread own thread wait)
