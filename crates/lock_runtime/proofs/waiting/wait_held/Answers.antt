use Rattle.std.proofs.Common.{◌≡◌, ℕ, ◌+◌, ◌≤◌, Bool, false, cond, length, sym, ap, ◌∙◌, subst, arith}
use Rattle.core_world.specs.Trees.Operations.{wait_going}
use Rattle.core_world.specs.Trees.WaitSteps.{monitor_resume_steps}
use Rattle.core_world.specs.Words.Forms.{waits_on}
use Rattle.heap_table.specs.Resting.{start_now}
use Rattle.heap_table.proofs.StepsLeft.{AreLeft, all_left, left_as, left_then, left_else}
use Rattle.lock_runtime.proofs.waiting.wait_held.Goals as goal
use Rattle.lock_runtime.proofs.waiting.wait_held.Goals.{After-saved-saved}

-- the thread's own waiting word was read, and says whether it has let go
seen : {read word : ℕ} {gone so : Bool} (o : ℕ) → read ≡ word → gone ≡ waits_on read o → gone ≡ so → waits_on word o ≡ so
seen o is says so = ap (λ w. waits_on w o) (sym is) ∙ sym says ∙ so

-- it has, and resumes with the recursions that it saved
resuming : (c : After-saved-saved) → let a = c.args in let h = a.heap.now in
    AreLeft h a.context.now.task a.pass.now (wait_going h.heap.shape a.context.now (start_now h a.pass.now) a.object a.now) a.pass.now
    (monitor_resume_steps a.context.now a.pass.now.known.thread c.saved-saved.result a.object)
resuming c =
    let a = c.args in
    let gone = seen c.args.object c.wait_word.ensures c.waits_on.ensures c.if-waits_on.true in
    left_as (left_then _ _ _ (all_left c.requires.heap c.requires.due) gone)
    (λ i. monitor_resume_steps a.context.now a.pass.now.known.thread (sym c.saved-saved.ensures i) a.object)

pub monitor_resume-requires-clause-due : goal.monitor_resume-requires-clause-due
monitor_resume-requires-clause-due c = (resuming (goal.at.monitor_resume-requires-clause-due c).After-saved-saved).due

-- a wait that has let go logs its Resume alone
pub monitor_resume-requires-clause-room : goal.monitor_resume-requires-clause-room
monitor_resume-requires-clause-room c =
    let p = c.args.pass.now in
    let gone = seen c.args.object c.wait_word.ensures c.waits_on.ensures c.if-waits_on.true in
    let one : length p.known.log + 1 ≤ p.limit = subst (λ (b : Bool). length p.known.log + cond b 1 2 ≤ p.limit) gone c.requires.room in
    omega (arith, one)

-- And one that begins a Wait too. The proof doesn't cite the test by its name: one of the edits changes the test, and would be refused for the name alone.
pub wait_anew-requires-clause-room : goal.wait_anew-requires-clause-room
wait_anew-requires-clause-room c =
    let p = c.args.pass.now in
    let out : c.waits_on.result ≡ false = assumption in
    subst (λ (b : Bool). length p.known.log + cond b 1 2 ≤ p.limit) (seen c.args.object c.wait_word.ensures c.waits_on.ensures out) c.requires.room

pub wait_anew-requires-clause-due : goal.wait_anew-requires-clause-due
wait_anew-requires-clause-due c =
    (left_else _ _ _ (all_left c.requires.heap c.requires.due) (seen c.args.object c.wait_word.ensures c.waits_on.ensures c.if-waits_on.false)).due

pub returns-then-waits_on : goal.returns-then-waits_on
returns-then-waits_on c = (resuming (goal.at.returns-then-waits_on c).After-saved-saved).whole _ _ c.monitor_resume.ensures

pub returns : goal.returns
returns c =
    (left_else _ _ _ (all_left c.requires.heap c.requires.due) (seen c.args.object c.wait_word.ensures c.waits_on.ensures c.if-waits_on.false)).whole _ _
    c.wait_anew.ensures
