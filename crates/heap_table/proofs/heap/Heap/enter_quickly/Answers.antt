-- The mark is loaded, and then the parts go on by it.
use Rattle.std.proofs.Common.{◌≡◌, ℕ, ◌-◌, ◌<◌, ◌==◌, nat_lt, Bool, false, true, if◌then◌else◌, refl, sym, ap, ◌∙◌, subst, ne_eqb, arith}
use Rattle.std.proofs.lemmas.Bool.Decides.{nat_tests}
use Rattle.mark_word.specs.Mark.{read_mark}
use Rattle.plain_monitor.specs.Limits.{most_holds}
use Rattle.core_world.specs.declared.answer.BiasTry.{BiasTry}
use Rattle.core_world.specs.declared.answer.BiasTry.TheVariants.{Unbiased}
use Rattle.core_world.specs.declared.heap_call.HeapCall.TheVariants.{Enter}
use Rattle.core_world.specs.declared.word_id.WordId.TheVariants.{Class, Mark, Prototype}
use Rattle.core_world.specs.declared.act.Act.TheVariants.{Load}
use Rattle.core_world.specs.declared.stage.Stage.TheVariants.{Settled}
use Rattle.core_world.specs.Threads.ThreadView.{ThreadView, Start, local_of}
use Rattle.core_world.specs.Steps.{known_after}
use Rattle.core_world.specs.Trees.BiasSteps.{bias_enter_steps, bias_enter_by}
use Rattle.core_world.specs.Trees.Calls.{steps_of}
use Rattle.core_world.specs.Trees.Operations.{answer, enter_going, enter_revoked, enter_steps, enter_tried, full_steps}
use Rattle.core_world.specs.Trees.Plans.{CallContext, free_place, load, with_stage, quiet_plan, class_steps}
use Rattle.core_world.specs.Trees.StepTree.{StepTree, done, step, ◌>>=◌, ask}
use Rattle.core_world.specs.Words.Forms.{is_biased}
use Rattle.core_world.specs.Words.Shape.{Shape, class_in_shape}
use Rattle.heap_table.specs.Quick.{entering, entered}
use Rattle.heap_table.specs.Resting.{start_now}
use Rattle.heap_table.specs.Ruled.{heap_in, only}
use Rattle.heap_table.specs.Seen.{HeapSeen, PassSeen}
use Rattle.heap_table.specs.Kept.{Mirrors}
use Rattle.heap_table.specs.inner.Amid.{EnterTree, IsStartOf, Late, enter_left, lagging, mark_left}
use Rattle.heap_table.proofs.Late.{late_first, late_as, knows_step, may_step, made_step, follow_quiet, only_knows}
use Rattle.heap_table.proofs.Loops.{binds}
use Rattle.heap_table.proofs.LowBits.{found_mark}
use Rattle.heap_table.proofs.Resting.{whole_due}
use Rattle.heap_table.proofs.QuickAnswers.{enter_answered, enters_free}
use Rattle.heap_table.proofs.heap.Heap.enter_quickly.Goals as goal
use Rattle.heap_table.proofs.heap.Heap.enter_quickly.Goals.{After-quiet-first, After-step_at-mark, After-enter_marked}

-- an enter by a thread that has a place for the hold, and of which no request stands
abbrev tried : Shape → Start → ℕ → ℕ → BiasTry → EnterTree
tried s k o now t = enter_tried t s (entering o now) k (entered o now) >>= answer

abbrev mark_biased : Shape → Start → ℕ → ℕ → ℕ → StepTree BiasTry
mark_biased s k o now mark = do
  class ← class_steps (entering o now) Settled s o
  prototype ← ask (load (entering o now) (Prototype class))
  bias_enter_by (read_mark prototype) (entering o now) k.local o mark prototype

abbrev marked : Shape → Start → ℕ → ℕ → ℕ → EnterTree
marked s k o now mark = (if is_biased mark then mark_biased s k o now mark else done (Unbiased mark)) >>= tried s k o now

going : (s : Shape) (k : Start) (o now : ℕ) → (free_place k.local.holds == most_holds) ≡ false → k.requesting ≡ false
    → enter_steps s k o now ≡ step (load (entering o now) (Mark o)) (marked s k o now)
going s k o now place calm =
    ap (λ b. if b then full_steps k o else enter_going s (entering o now) k (entered o now) >>= answer) place
    ∙ ap (λ b. (if b then enter_revoked s true (entering o now) k (entered o now) else (do
      t ← bias_enter_steps s (entering o now) k.local o
      enter_tried t s (entering o now) k (entered o now))) >>= answer) calm
    ∙ binds (bias_enter_steps s (entering o now) k.local o) (λ t. enter_tried t s (entering o now) k (entered o now)) answer

begun : (c : After-quiet-first) → let a = c.args in let h = a.self.now in let p = a.pass.now in let k = start_now h p in
    Late h (Enter a.object a.now) p (enter_steps h.heap.shape k a.object a.now) (only c.pass.inside.seat.me.0)
    (step (load (entering a.object a.now) (Mark a.object)) (marked h.heap.shape k a.object a.now)) c.pass.inside.mirror
unfolding steps_of
begun c =
    let a = c.args in
    let h = a.self.now in
    let p = a.pass.now in
    let knew = ap (λ (x : PassSeen). x.known) c.pass.view_is in
    let holds = ap (λ (k : ThreadView). k.holds) (sym knew) ∙ c.pass.invariant.1.holds in
    let free : free_place p.known.holds ≡ c.pass.inside.mirror.holds.used = ap free_place holds ∙ c.if-not-is_packed.ensures.free refl in
    let place : (free_place p.known.holds == most_holds) ≡ false =
    ne_eqb _ _ (λ full. let few = c.if-not-is_packed.ensures.few refl in omega (arith, free, full, few)) in
    late_as (late_first knew c.requires.may.call.rests.is_of (whole_due h p (Enter a.object a.now) c.requires.may.call _ refl)
    (ap (λ (x : PassSeen). x.home) c.pass.view_is) c.pass.invariant.1)
    (going h.heap.shape (start_now h p) a.object a.now place c.requires.free.asks)

-- the code's words for the heap, and for the first plan
its_heap : (c : After-quiet-first) → heap_in c.self.inside.setting ≡ c.args.self.now.heap
its_heap c = ap (λ (x : HeapSeen). x.heap) c.self.view_is

first_plan : (c : After-quiet-first) → c.quiet-first.result ≡ load (entering c.args.object c.args.now) (Mark c.args.object)
first_plan c =
    c.quiet-first.ensures ∙ ap (λ (e : CallContext). with_stage Settled (quiet_plan e (Mark c.args.object) Load)) c.entering-call.ensures

pub step_at-mark-requires-clause-may : goal.step_at-mark-requires-clause-may
step_at-mark-requires-clause-may c =
    let z = (goal.at.step_at-mark-requires-clause-may c).After-quiet-first in may_step (begun z) (its_heap z) (first_plan z) refl

-- THE MARK is loaded.
marking : (c : After-step_at-mark) → let a = c.args in let h = a.self.now in let p = a.pass.now in let k = start_now h p in
    Late h (Enter a.object a.now) p (enter_steps h.heap.shape k a.object a.now) (only c.step_at-mark.new.seat.me.0)
    (marked h.heap.shape k a.object a.now c.step_at-mark.result)
    (record c.pass.inside.mirror { unfinished = (entering a.object a.now).unfinished; checking = false })
marking c =
    let a = c.args in
    let z = c.before.before.before in
    let late = begun z in
    made_step late (its_heap z) (first_plan z) refl refl refl c.step_at-mark.ensures.stepped c.step_at-mark.ensures.seat.1
    (follow_quiet a.self.now.heap.shape a.self.now.heap.start (entering a.object a.now) Settled (Mark a.object) Load c.step_at-mark.result _ _ refl
    refl (λ l. refl) (λ l. refl) (λ l. refl) late.mirrors)

-- the thread knows the mark, too
knows_mark : (c : After-step_at-mark) → let h = c.args.self.now.heap in only c.step_at-mark.new.seat.me.0
    ≡ known_after h.shape h.start (load (entering c.args.object c.args.now) (Mark c.args.object)) c.step_at-mark.result c.args.pass.now.known
knows_mark c =
    let z = c.before.before.before in
    let h = c.args.self.now.heap in
    knows_step (begun z) (its_heap z) (first_plan z) refl c.step_at-mark.result c.step_at-mark.ensures.seat.1
    ∙ ap (λ (k : ThreadView). known_after h.shape h.start (load (entering c.args.object c.args.now) (Mark c.args.object)) c.step_at-mark.result k)
    (ap (λ (x : PassSeen). x.known) c.pass.view_is)

in_shape : (o found declared : ℕ) → found ≡ declared → o < found → nat_lt o declared ≡ true
in_shape o found declared same below = grind (arith, nat_tests, same, below)

-- what the call took at its beginning is as it was
keeps : (c : After-step_at-mark) → IsStartOf c.args.pass.now.known (only c.step_at-mark.new.seat.me.0)
keeps c = record { local = ap local_of (knows_mark c); kept = ap (λ (k : ThreadView). k.kept) (knows_mark c) }

-- the code's words for the call and the shape
abbrev its_words : (c : After-step_at-mark) →
    ◌≡◌ {A = CallContext × Shape} (c.entering-call.result, c.self.inside.setting.shape) (entering c.args.object c.args.now, c.args.self.now.heap.shape)
its_words c = λ i. (c.entering-call.ensures i, (its_heap c.before.before.before i).shape)

-- what is left by it
left_by : (s : Shape) (k : Start) (o now mark : ℕ) (b : Bool) → is_biased mark ≡ b → nat_lt o s.declared ≡ true
    → marked s k o now mark ≡ mark_left b s (entering o now) k (entered o now) mark
left_by s k o now mark true pattern below =
    ap (λ b. (if b then mark_biased s k o now mark else done (Unbiased mark)) >>= tried s k o now) pattern
    ∙ ap (λ b. ((if b then done (class_in_shape s o) else step (load (entering o now) (Class o)) (λ word. done (word - 1)))
    >>= (λ class. ask (load (entering o now) (Prototype class))
    >>= (λ prototype. bias_enter_by (read_mark prototype) (entering o now) k.local o mark prototype)))
    >>= tried s k o now) below
left_by s k o now mark false pattern below =
    ap (λ b. (if b then mark_biased s k o now mark else done (Unbiased mark)) >>= tried s k o now) pattern

abbrev Left : (c : After-step_at-mark) → CallContext × Shape → Type 0
Left c x = let a = c.args in let h = a.self.now in let k = start_now h a.pass.now in let mark = c.step_at-mark.result in
    Late h x.0.task a.pass.now (enter_steps h.heap.shape k a.object a.now) (only c.step_at-mark.new.seat.me.0)
    (mark_left (is_biased mark) x.1 x.0 k (entered a.object a.now) mark) (lagging x.0 c.pass.inside.mirror)

left : (c : After-step_at-mark) → Left c (c.entering-call.result, c.self.inside.setting.shape)
left c =
    let a = c.args in
    let h = a.self.now in
    let declared : c.declared.result ≡ h.heap.shape.declared = c.declared.ensures.same ∙ ap (λ (x : HeapSeen). x.heap.shape.declared) c.self.view_is in
    let below = in_shape a.object _ _ declared c.if-object-declared.false in
    subst (Left c) (sym (its_words c)) (late_as (marking c) (left_by h.heap.shape (start_now h a.pass.now) a.object a.now c.step_at-mark.result _ refl below))

pub enter_marked-requires-clause-found : goal.enter_marked-requires-clause-found
enter_marked-requires-clause-found c =
    let z = (goal.at.enter_marked-requires-clause-found c).After-step_at-mark in
    found_mark _ _ _ _ c.args.object _ (first_plan z.before.before.before) refl c.step_at-mark.ensures.stepped

pub enter_marked-requires-clause-amid : goal.enter_marked-requires-clause-amid
enter_marked-requires-clause-amid c =
    let z = (goal.at.enter_marked-requires-clause-amid c).After-step_at-mark in
    record { heap = c.args.self.now; begun = c.args.pass.now; due = _; its = its_heap z.before.before.before; local = (keeps z).local; late = left z }

unchecked : (c : After-step_at-mark) → c.entering-call.result.check ≡ false
unchecked c = ap (λ (e : CallContext). e.check) c.entering-call.ensures

-- AFTER ALL its steps
abbrev marked_of : After-enter_marked → After-step_at-mark
marked_of c = c.before.before.before.before

ended : (c : After-enter_marked) → let a = c.args in let h = a.self.now in let k = start_now h a.pass.now in
    Late h (Enter a.object a.now) a.pass.now (enter_steps h.heap.shape k a.object a.now) (only c.enter_marked.new.seat.me.0)
    (enter_left h.heap.shape (entering a.object a.now) k (entered a.object a.now) c.enter_marked.result) c.enter_marked.new.mirror
ended c =
    let z = marked_of c in
    let a = c.args in
    let h = a.self.now in
    let d = enter_steps h.heap.shape (start_now h a.pass.now) a.object a.now in
    subst (λ (x : CallContext × Shape). Late h x.0.task a.pass.now d (only c.enter_marked.new.seat.me.0)
    (enter_left x.1 x.0 (start_now h a.pass.now) (entered a.object a.now) c.enter_marked.result) c.enter_marked.new.mirror) (its_words z)
    (c.enter_marked.ensures.leads h a.pass.now d (its_heap z.before.before.before) (keeps z).local (left z))

pub invariant_of-pass : goal.invariant_of-pass
invariant_of-pass c = (c.enter_marked.ensures.seat.1, (ended (goal.at.invariant_of-pass c).After-enter_marked).mirrors)

pub returns-clause-entered : goal.returns-clause-entered
returns-clause-entered c =
    let z = (goal.at.returns-clause-entered c).After-enter_marked in
    let view = c.pass.view_is in
    let frame = c.enter_marked.ensures.frame in
    let table = c.enter_marked.ensures.seat.0 ∙ c.step_at-mark.ensures.seat.0 ∙ ap (λ (x : PassSeen). x.table) view in
    enter_answered c.args.self.now c.args.pass.now _ c.args.object c.args.now (only c.step_at-mark.new.seat.me.0) (only c.enter_marked.new.seat.me.0)
    c.enter_marked.new.mirror c.enter_marked.result (only_knows c.args.pass.now _ table (frame.limit ∙ ap (λ (x : PassSeen). x.limit) view)
    (frame.room ∙ ap (λ (x : PassSeen). x.room) view) (frame.home ∙ ap (λ (x : PassSeen). x.home) view) (frame.classes ∙ ap (λ (x : PassSeen). x.classes) view) (frame.first ∙ ap (λ (x : PassSeen). x.first) view)
    (frame.threads ∙ ap (λ (x : PassSeen). x.threads) view) (frame.objects ∙ ap (λ (x : PassSeen). x.objects) view)
    (frame.cut ∙ ap (λ (x : PassSeen). x.cut) view) (frame.cells ∙ ap (λ (x : PassSeen). x.cells) view))
    (keeps (marked_of z)) c.enter_marked.ensures.start (ended z)

pub returns-clause-free : goal.returns-clause-free
returns-clause-free c =
    let z = (goal.at.returns-clause-free c).After-enter_marked in
    enters_free c.entering-call.result c.args.pass.now.known _ c.pass.inside.mirror c.enter_marked.new.mirror c.enter_marked.result c.requires.free
    (subst (Mirrors c.pass.inside.mirror) (ap (λ (x : PassSeen). x.known) c.pass.view_is) c.pass.invariant.1) (ended z).mirrors
    c.enter_marked.ensures.frame (unchecked (marked_of z)) c.enter_marked.ensures.idle
