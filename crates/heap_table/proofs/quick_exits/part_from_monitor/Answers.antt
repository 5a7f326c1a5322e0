-- The owner word is loaded, and where it is the thread's own, the recursions are: they say which way the hold is left.
use Rattle.std.proofs.Common.{refl, sym, ap, ◌∙◌, ◌≡◌, arith, Bool, false, true, if◌then◌else◌, eq-eqb, ne_eqb, ◌==◌, ℕ, Option, List}
use Rattle.atomic_table.specs.Table.{Me}
use Rattle.mark_word.specs.declared.owner.OwnerForm.{OwnerForm}
use Rattle.mark_word.specs.declared.owner.OwnerForm.TheVariants.{ByThread}
use Rattle.mark_word.specs.Owner.{read_owner}
use Rattle.mark_word.proofs.ReadingOwners.{read_owner-owner_of}
use Rattle.core_world.specs.declared.act.Act.TheVariants.{Load}
use Rattle.core_world.specs.declared.plan.StepPlan.{StepPlan}
use Rattle.core_world.specs.declared.stage.Stage.TheVariants.{Settled}
use Rattle.core_world.specs.declared.word_id.WordId.TheVariants.{Owner, Recursions}
use Rattle.core_world.specs.Steps.{known_after}
use Rattle.core_world.specs.Threads.ThreadView.{Local, ThreadView, local_of}
use Rattle.core_world.specs.Trees.MonitorSteps.{release_steps}
use Rattle.core_world.specs.Trees.Plans.{CallContext, load}
use Rattle.core_world.specs.Trees.StepTree.{step, ◌>>=◌}
use Rattle.heap_table.specs.ExitParts.{lowered_exit, owned_exit}
use Rattle.heap_table.specs.declared.quick_exits.ExitPart.TheVariants as parts
use Rattle.heap_table.specs.Ruled.{heap_in, only}
use Rattle.heap_table.specs.inner.Amid.{ExitTree, Goes, exit_over, monitor_exit, owner_left}
use Rattle.heap_table.proofs.Late.{amid_by, follow_quiet, keeps_start, late_as, made_step, may_step}
use Rattle.heap_table.proofs.ExitEnds.{held_part, part_by}
use Rattle.heap_table.proofs.quick_exits.part_from_monitor.Goals as goal
use Rattle.heap_table.proofs.quick_exits.part_from_monitor.Goals.{After-quiet-first, After-step_in_monitor-owner, After-quiet-second}
use Rattle.heap_table.proofs.quick_exits.part_from_monitor.Goals.{After-step_in_monitor-recursions}

-- what is left, where the test says whether there are no recursions
abbrev counted : CallContext → Local → ℕ → ℕ → ℕ → Bool → ExitTree
counted e k o m n none = (if none then release_steps e k o m else lowered_exit e k o m n) >>= (λ _. exit_over)

first_plan : (c : After-quiet-first) → c.quiet-first.result ≡ load c.args.call.now (Owner c.args.monitor)
first_plan c = c.quiet-first.ensures

pub step_in_monitor-owner-requires-clause-may : goal.step_in_monitor-owner-requires-clause-may
step_in_monitor-owner-requires-clause-may c =
    let a = c.requires.amid in may_step a.late a.its (first_plan (goal.at.step_in_monitor-owner-requires-clause-may c).After-quiet-first) refl

-- THE OWNER WORD is loaded.
found : (c : After-step_in_monitor-owner) → let e = c.args.call.now in let k = only c.args.seat.now.me.0 in
    Goes c.args.setting.now e c.args.mirror.now k (monitor_exit e (local_of k) c.args.object c.args.monitor)
    (only c.step_in_monitor-owner.new.seat.me.0) (owner_left e (local_of k) c.args.object c.args.monitor c.step_in_monitor-owner.result)
found c = λ h o d its late.
    made_step late its (first_plan c.before.before.before) refl refl refl c.step_in_monitor-owner.ensures.stepped c.step_in_monitor-owner.ensures.seat.1
    (follow_quiet h.heap.shape h.heap.start c.args.call.now Settled (Owner c.args.monitor) Load c.step_in_monitor-owner.result _ _ refl refl
    (λ l. refl) (λ l. refl) (λ l. refl) late.mirrors)

-- It isn't the thread's own.
pub returns-then-owner-encode_owner-clause-start : goal.returns-then-owner-encode_owner-clause-start
returns-then-owner-encode_owner-clause-start c =
    let z = (goal.at.returns-then-owner-encode_owner-clause-start c).After-step_in_monitor-owner in
    keeps_start (heap_in c.args.setting.now) c.step_in_monitor-owner.result (first_plan z.before.before.before) c.step_in_monitor-owner.ensures.seat.1
    (record { local = refl; kept = refl })

pub returns-then-owner-encode_owner-clause-leads : goal.returns-then-owner-encode_owner-clause-leads
returns-then-owner-encode_owner-clause-leads c = λ h p d its late.
    held_part (local_of (only c.args.seat.now.me.0)) (parts.Owned c.args.monitor c.step_in_monitor-owner.result) late.mirrors.thread late.mirrors.holds
    (λ j g shows. shows) refl (found (goal.at.returns-then-owner-encode_owner-clause-leads c).After-step_in_monitor-owner h p d its late)

-- It is: THE RECURSIONS are loaded.
abbrev owner_of_second : After-quiet-second → After-step_in_monitor-owner
owner_of_second c = c.before.before.before.before

owned : (c : After-quiet-second) → let e = c.args.call.now in let k = only c.args.seat.now.me.0 in
    Goes c.args.setting.now e c.args.mirror.now k (monitor_exit e (local_of k) c.args.object c.args.monitor)
    (only c.step_in_monitor-owner.new.seat.me.0)
    (step (load e (Recursions c.args.monitor)) (λ n. counted e (local_of k) c.args.object c.args.monitor n (n == 0)))
owned c = λ h o d its late.
    let k = local_of (only c.args.seat.now.me.0) in
    let own = read_owner-owner_of (ByThread c.args.mirror.now.thread) (omega (arith, c.args.mirror.now.low)) in
    late_as (found (owner_of_second c) h o d its late)
    (ap (λ (f : Option OwnerForm). owned_exit f c.args.call.now k c.args.object c.args.monitor >>= (λ _. exit_over))
    (ap read_owner (c.if-owner-encode_owner.false ∙ c.encode_owner.ensures) ∙ own))

second_plan : (c : After-quiet-second) → c.quiet-second.result ≡ load c.args.call.now (Recursions c.args.monitor)
second_plan c = c.quiet-second.ensures

pub step_in_monitor-recursions-requires-clause-may : goal.step_in_monitor-recursions-requires-clause-may
step_in_monitor-recursions-requires-clause-may c =
    let z = (goal.at.step_in_monitor-recursions-requires-clause-may c).After-quiet-second in
    let a = amid_by c.requires.amid (owned z) in may_step a.late a.its (second_plan z) refl

-- What the call took at its beginning is still so.
stays : (c : After-step_in_monitor-recursions) → local_of (only c.step_in_monitor-recursions.new.seat.me.0) ≡ local_of (only c.args.seat.now.me.0)
stays c =
    let s = c.args.setting.now in
    let z = c.before.before.before in
    ap (λ (x : Me (Unit {0}) (List ThreadView)). local_of (only x.0)) c.step_in_monitor-recursions.ensures.seat.1
    ∙ ap (λ (p : StepPlan). local_of (known_after s.shape s.start p c.step_in_monitor-recursions.result (only c.step_in_monitor-owner.new.seat.me.0)))
    (second_plan z)
    ∙ ap (λ (x : Me (Unit {0}) (List ThreadView)). local_of (only x.0)) c.step_in_monitor-owner.ensures.seat.1
    ∙ ap (λ (p : StepPlan). local_of (known_after s.shape s.start p c.step_in_monitor-owner.result (only c.args.seat.now.me.0)))
    (first_plan (owner_of_second z).before.before.before)

by_number : (b : Bool) (c : After-step_in_monitor-recursions) → let e = c.args.call.now in let k = only c.args.seat.now.me.0 in
    let j = only c.step_in_monitor-recursions.new.seat.me.0 in let n = c.step_in_monitor-recursions.result in (n == 0) ≡ b →
    Goes c.args.setting.now e c.args.mirror.now k (monitor_exit e (local_of k) c.args.object c.args.monitor)
    j (counted e (local_of j) c.args.object c.args.monitor n b)
by_number b c is = λ h o d its late.
    let e = c.args.call.now in
    let z = c.before.before.before in
    let here = owned z h o d its late in
    let n = c.step_in_monitor-recursions.result in
    late_as (made_step here its (second_plan z) refl refl refl c.step_in_monitor-recursions.ensures.stepped c.step_in_monitor-recursions.ensures.seat.1
    (follow_quiet h.heap.shape h.heap.start e Settled (Recursions c.args.monitor) Load n _ _ refl refl (λ l. refl) (λ l. refl) (λ l. refl) here.mirrors))
    (λ i. counted e (sym (stays c) i) c.args.object c.args.monitor n (is i))

-- There are none,
pub release-requires-clause-amid : goal.release-requires-clause-amid
release-requires-clause-amid c = amid_by c.requires.amid
    (by_number true (goal.at.release-requires-clause-amid c).After-step_in_monitor-recursions (eq-eqb _ _ c.if-recursions-eq0.true))

pub returns-then-recursions-eq0-clause-leads : goal.returns-then-recursions-eq0-clause-leads
returns-then-recursions-eq0-clause-leads c = λ h p d its late.
    let z = (goal.at.returns-then-recursions-eq0-clause-leads c).After-step_in_monitor-recursions in
    part_by (stays z) (c.release.ensures.leads h p d its (by_number true z (eq-eqb _ _ c.if-recursions-eq0.true) h p d its late))

-- or there are some.
pub lower-requires-clause-amid : goal.lower-requires-clause-amid
lower-requires-clause-amid c = amid_by c.requires.amid
    (by_number false (goal.at.lower-requires-clause-amid c).After-step_in_monitor-recursions (ne_eqb _ _ c.if-recursions-eq0.false))

pub returns-clause-leads : goal.returns-clause-leads
returns-clause-leads c = λ h p d its late.
    let z = (goal.at.returns-clause-leads c).After-step_in_monitor-recursions in
    part_by (stays z) (c.lower.ensures.leads h p d its (by_number false z (ne_eqb _ _ c.if-recursions-eq0.false) h p d its late))
