use Rattle.std.proofs.Common.{◌≡◌, ℕ, false, refl, sym, ap, ◌∙◌, subst}
use Rattle.mark_word.specs.Mark.{read_mark}
use Rattle.core_world.specs.declared.heap_call.HeapCall.TheVariants.{Enter}
use Rattle.core_world.specs.Threads.ThreadView.{local_of}
use Rattle.core_world.specs.Trees.BiasSteps.{bias_enter_by}
use Rattle.core_world.specs.Trees.Operations.{enter_at, enter_revoked, enter_tried}
use Rattle.core_world.specs.Trees.Plans.{CallContext}
use Rattle.heap_table.specs.Parts.{IsDueOn, HasMadeSteps}
use Rattle.heap_table.specs.Quick.{entering, entered}
use Rattle.heap_table.specs.Resting.{start_now}
use Rattle.lock_runtime.proofs.Entered.{enters_alike}
use Rattle.lock_runtime.proofs.KeptAmid.{keeps, by_prototype}
use Rattle.lock_runtime.proofs.PartMade.{PartMade, first_due, next_due, next_made, last_made, room_after}
use Rattle.lock_runtime.proofs.Quickly.{due_in, first_by}
use Rattle.lock_runtime.proofs.Revoked.{revoked_alike}
use Rattle.lock_runtime.proofs.entering.enter_by_prototype.Goals as goal
use Rattle.lock_runtime.proofs.entering.enter_by_prototype.Goals.{After-bias_enter_loaded}

pub bias_enter_loaded-requires-clause-due : goal.bias_enter_loaded-requires-clause-due
bias_enter_loaded-requires-clause-due c =
    let a = c.args in
    let h = a.heap.now in
    let k = start_now h a.pass.now in
    subst (λ (e : CallContext). IsDueOn h a.pass.now e.task (bias_enter_by (read_mark a.prototype) e k.local a.object a.mark a.prototype))
    (sym c.unfinished-context.ensures)
    (first_due (λ t. enter_tried t h.heap.shape (entering a.object a.now) k (entered a.object a.now)) c.requires.due)

-- the bias was tried, and its answer tells what comes next
tried : (c : After-bias_enter_loaded) → let a = c.args in let h = a.heap.now in let k = start_now h a.pass.now in
    PartMade h a.pass.now c.bias_enter_loaded.new.pass (Enter a.object a.now)
    (bias_enter_by (read_mark a.prototype) (entering a.object a.now) k.local a.object a.mark a.prototype)
    (λ t. enter_tried t h.heap.shape (entering a.object a.now) k (entered a.object a.now)) c.bias_enter_loaded.result
tried c =
    let a = c.args in
    let h = a.heap.now in
    record {
      due = c.requires.due;
      first = first_by (read_mark a.prototype) (entering a.object a.now) (local_of a.pass.now.known) a.object a.mark a.prototype;
      made = subst (λ (e : CallContext). HasMadeSteps h (bias_enter_by (read_mark a.prototype) e (local_of a.pass.now.known) a.object a.mark a.prototype)
          a.pass.now c.bias_enter_loaded.new.pass c.bias_enter_loaded.result) c.unfinished-context.ensures c.bias_enter_loaded.ensures.run;
    }

kept : (c : After-bias_enter_loaded) → c.bias_enter_loaded.new.pass.known.kept ≡ c.args.pass.now.known.kept
kept c =
    let a = c.args in
    keeps _ _ _ _ _ (by_prototype (read_mark a.prototype) (entering a.object a.now) (local_of a.pass.now.known) a.object a.mark a.prototype) (tried c).made

-- where no bias was taken, an enter by the mark is the same from what the thread knows now
marked : (c : After-bias_enter_loaded) (m : ℕ) → local_of c.bias_enter_loaded.new.pass.known ≡ local_of c.args.pass.now.known
    → let a = c.args in let s = a.heap.now.heap.shape in
    enter_at (read_mark m) s (entering a.object a.now) (start_now a.heap.now a.pass.now) a.object m
    ≡ enter_at (read_mark m) s c.unfinished-context.result (start_now a.heap.now c.bias_enter_loaded.new.pass) a.object m
marked c m local =
    let a = c.args in
    let h = a.heap.now in
    let q = start_now h c.bias_enter_loaded.new.pass in
    enters_alike h.heap.shape (entering a.object a.now) (start_now h a.pass.now) q a.object (sym local) (sym (kept c)) (read_mark m) m
    ∙ λ i. enter_at (read_mark m) h.heap.shape (sym c.unfinished-context.ensures i) q a.object m

revoked : (c : After-bias_enter_loaded) → local_of c.bias_enter_loaded.new.pass.known ≡ local_of c.args.pass.now.known
    → let a = c.args in let s = a.heap.now.heap.shape in
    enter_revoked s false (entering a.object a.now) (start_now a.heap.now a.pass.now) (entered a.object a.now)
    ≡ enter_revoked s false c.unfinished-context.result (start_now a.heap.now c.bias_enter_loaded.new.pass) (entered a.object a.now)
revoked c local =
    let a = c.args in
    let h = a.heap.now in
    let q = start_now h c.bias_enter_loaded.new.pass in
    revoked_alike h.heap.shape false (entering a.object a.now) (start_now h a.pass.now) q (entered a.object a.now) (sym local) (sym (kept c))
    ∙ λ i. enter_revoked h.heap.shape false (sym c.unfinished-context.ensures i) q (entered a.object a.now)

task : (c : After-bias_enter_loaded) → Enter c.args.object c.args.now ≡ c.unfinished-context.result.task
task c = ap (λ (e : CallContext). e.task) (sym c.unfinished-context.ensures)

pub enter_marked-requires-clause-due : goal.enter_marked-requires-clause-due
enter_marked-requires-clause-due c =
    let z = (goal.at.enter_marked-requires-clause-due c).After-bias_enter_loaded in
    due_in c.args.heap.now c.bias_enter_loaded.new.pass (task z)
    (next_due (tried z) c.in-Unbiased.is (marked z c.in-Unbiased.mark c.in-Unbiased.ensures.kept))

pub enter_marked-requires-clause-room : goal.enter_marked-requires-clause-room
enter_marked-requires-clause-room c =
    room_after (tried (goal.at.enter_marked-requires-clause-room c).After-bias_enter_loaded) c.in-Unbiased.ensures.kept c.requires.room

pub enter_revoked-requires-clause-due : goal.enter_revoked-requires-clause-due
enter_revoked-requires-clause-due c =
    let z = (goal.at.enter_revoked-requires-clause-due c).After-bias_enter_loaded in
    due_in c.args.heap.now c.bias_enter_loaded.new.pass (task z) (next_due (tried z) c.in-Valid.is (revoked z c.in-Valid.ensures.kept))

pub enter_revoked-requires-clause-room : goal.enter_revoked-requires-clause-room
enter_revoked-requires-clause-room c =
    room_after (tried (goal.at.enter_revoked-requires-clause-room c).After-bias_enter_loaded) c.in-Valid.ensures.kept c.requires.room

pub returns-in-Took : goal.returns-in-Took
returns-in-Took c = last_made (tried (goal.at.returns-in-Took c).After-bias_enter_loaded) c.in-Took.is refl

pub returns-in-Raced : goal.returns-in-Raced
returns-in-Raced c = last_made (tried (goal.at.returns-in-Raced c).After-bias_enter_loaded) c.in-Raced.is refl

pub returns-in-Unbiased : goal.returns-in-Unbiased
returns-in-Unbiased c =
    let z = (goal.at.returns-in-Unbiased c).After-bias_enter_loaded in
    next_made (tried z) c.in-Unbiased.is (marked z c.in-Unbiased.mark c.in-Unbiased.ensures.kept) c.enter_marked.ensures

pub returns-in-Valid : goal.returns-in-Valid
returns-in-Valid c =
    let z = (goal.at.returns-in-Valid c).After-bias_enter_loaded in
    next_made (tried z) c.in-Valid.is (revoked z c.in-Valid.ensures.kept) c.enter_revoked.ensures
