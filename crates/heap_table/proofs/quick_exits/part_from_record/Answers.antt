-- The mark is exchanged for the header, which logs Exit.
use Rattle.std.proofs.Common.{refl, sym, ap, ◌∙◌, ◌≡◌, Bool, false, true, if◌then◌else◌, cond, subst, eq-eqb, ne_eqb, ◌==◌, ℕ}
use Rattle.plain_monitor.specs.declared.entry.Entry.TheVariants as entry
use Rattle.core_world.specs.declared.act.Act.TheVariants.{CompareExchange}
use Rattle.core_world.specs.declared.answer.PendingCause.TheVariants as why
use Rattle.core_world.specs.declared.answer.StackOut.{StackOut}
use Rattle.core_world.specs.declared.answer.StackOut.TheVariants.{Left, Not}
use Rattle.core_world.specs.declared.stage.Stage.TheVariants.{Exits}
use Rattle.core_world.specs.declared.word_id.WordId.TheVariants.{Mark}
use Rattle.core_world.specs.Steps.{known_hit, known_miss}
use Rattle.core_world.specs.Threads.ThreadView.{Local, ThreadView, local_of}
use Rattle.core_world.specs.Trees.LockSteps.{clear_steps, let_go_plan}
use Rattle.core_world.specs.Trees.Operations.{answer, exit_at}
use Rattle.core_world.specs.Trees.Plans.{CallContext, logging_plan, top_place, with_stage}
use Rattle.core_world.specs.Trees.StepTree.{done, ◌>>=◌}
use Rattle.heap_table.specs.Ruled.{only}
use Rattle.heap_table.specs.declared.quick_exits.ExitPart.TheVariants as parts
use Rattle.heap_table.specs.inner.Amid.{ExitTree}
use Rattle.heap_table.specs.inner.Leaving.{IsUnnoted}
use Rattle.heap_table.proofs.Late.{follow_missed, gone, knows_gone, made_step, may_step}
use Rattle.heap_table.proofs.ExitEnds.{held_part}
use Rattle.heap_table.proofs.Mirrored.{mirrors_by}
use Rattle.heap_table.proofs.StepsLeft.{left_as}
use Rattle.heap_table.proofs.quick_exits.part_from_record.Goals as goal
use Rattle.heap_table.proofs.quick_exits.part_from_record.Goals.{After-logging-first}

-- what is left, where the test says whether the exchange hit
abbrev exchanged : CallContext → Local → ℕ → ℕ → ℕ → Bool → ExitTree
exchanged e k o mark found hit = (if hit then (do
  _ ← clear_steps e k o
  done Left) else done (Not (why.Raced mark found))) >>= (λ (out : StackOut). exit_at out e k o >>= answer)

first_plan : (c : After-logging-first) → c.logging-first.result
    ≡ let_go_plan c.args.call.now c.args.object c.args.mark c.args.header (top_place c.args.object (only c.args.seat.now.me.0).holds)
first_plan c =
    let place = c.requires.place ∙ ap (top_place c.args.object) (sym c.requires.amid.late.mirrors.holds) in
    c.logging-first.ensures ∙ λ i. with_stage (Exits c.args.object (place i))
    (logging_plan (entry.Exit c.args.object) c.args.call.now (Mark c.args.object) (CompareExchange c.args.mark c.args.header))

pub step_at-found-requires-clause-may : goal.step_at-found-requires-clause-may
step_at-found-requires-clause-may c =
    let a = c.requires.amid in may_step a.late a.its (first_plan (goal.at.step_at-found-requires-clause-may c).After-logging-first) refl

-- It missed.
pub returns-then-found-mark-clause-leads : goal.returns-then-found-mark-clause-leads
returns-then-found-mark-clause-leads c = λ h p d its late.
    let e = c.args.call.now in
    let o = c.args.object in
    let k = only c.args.seat.now.me.0 in
    let n = c.step_at-found.result in
    let other : (n == c.args.mark) ≡ false = ne_eqb _ _ c.if-found-mark.true in
    let plan = first_plan (goal.at.returns-then-found-mark-clause-leads c).After-logging-first in
    held_part (local_of k) (parts.Raced c.args.mark n) late.mirrors.thread late.mirrors.holds (λ j g shows. shows)
    (ap (exchanged e (local_of k) o c.args.mark n) other)
    (made_step late its plan refl refl refl c.step_at-found.ensures.stepped c.step_at-found.ensures.seat.1
    (follow_missed h.heap.shape h.heap.start (let_go_plan e o c.args.mark c.args.header (top_place o k.holds)) n _ _ other refl late.mirrors))

-- It hit, and logged the exit.
pub returns-clause-leads : goal.returns-clause-leads
returns-clause-leads c = λ h p d its late.
    let e = c.args.call.now in
    let o = c.args.object in
    let k = only c.args.seat.now.me.0 in
    let plan = let_go_plan e o c.args.mark c.args.header (top_place o k.holds) in
    let n = c.step_at-found.result in
    let told = c.step_at-found.ensures.seat.1 in
    let same : (n == c.args.mark) ≡ true = eq-eqb _ _ c.if-found-mark.false in
    let its_plan = first_plan (goal.at.returns-clause-leads c).After-logging-first in
    let s = h.heap.shape in
    let start = h.heap.start in
    let knows = knows_gone late.left its its_plan refl n told ∙ ap (λ (b : Bool). cond b (known_hit s start plan n k) (known_miss s start plan n k)) same in
    record {
      left = left_as (gone late.left its its_plan refl refl c.step_at-found.ensures.stepped told) (ap (exchanged e (local_of k) o c.args.mark n) same);
      home = late.home;
      own = ap (λ (j : ThreadView). j.thread) knows ∙ late.mirrors.thread;
      thread = late.mirrors.thread;
      holds = late.mirrors.holds;
      shown = subst (IsUnnoted h.heap e o c.args.mirror.now) (sym knows)
          (record { before = k; shown = late.mirrors; log = refl; told = λ n noted f. mirrors_by refl f });
    }
