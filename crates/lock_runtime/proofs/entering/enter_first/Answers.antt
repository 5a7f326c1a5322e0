use Rattle.std.proofs.Common.{◌≡◌, ℕ, false, refl, sym, ap, ◌∙◌, subst}
use Rattle.mark_word.specs.Mark.{read_mark}
use Rattle.core_world.specs.Threads.ThreadView.{local_of}
use Rattle.core_world.specs.Threads.Stages.{Revocation}
use Rattle.core_world.specs.Trees.BiasSteps.{bias_enter_steps}
use Rattle.core_world.specs.Trees.Operations.{enter_at, enter_revoked, enter_tried}
use Rattle.heap_table.specs.Parts.{IsDueOn, HasMadeSteps}
use Rattle.heap_table.specs.Resting.{start_now}
use Rattle.lock_runtime.proofs.Entered.{enters_alike}
use Rattle.lock_runtime.proofs.KeptAmid.{keeps, enter_keeps}
use Rattle.lock_runtime.proofs.PartMade.{PartMade, first_due, next_due, next_made, last_made, room_after}
use Rattle.lock_runtime.proofs.Revoked.{revoked_alike}
use Rattle.lock_runtime.proofs.entering.enter_first.Goals as goal
use Rattle.lock_runtime.proofs.entering.enter_first.Goals.{After-bias_enter}

pub bias_enter-requires-clause-due : goal.bias_enter-requires-clause-due
bias_enter-requires-clause-due c =
    let a = c.args in
    let h = a.heap.now in
    let k = start_now h a.pass.now in
    let object = ap (λ (r : Revocation). r.object) c.bias.view_is in
    subst (λ o. IsDueOn h a.pass.now a.context.now.task (bias_enter_steps h.heap.shape a.context.now k.local o)) (sym object)
    (first_due (λ tried. enter_tried tried h.heap.shape a.context.now k a.bias.now) c.requires.due)

-- the bias was tried, and its answer tells what comes next
tried : (c : After-bias_enter) → let a = c.args in let h = a.heap.now in let k = start_now h a.pass.now in
    PartMade h a.pass.now c.bias_enter.new.pass a.context.now.task (bias_enter_steps h.heap.shape a.context.now k.local a.bias.now.object)
    (λ tried. enter_tried tried h.heap.shape a.context.now k a.bias.now) c.bias_enter.result
tried c =
    let a = c.args in
    let h = a.heap.now in
    let object = ap (λ (r : Revocation). r.object) c.bias.view_is in
    record {
      due = c.requires.due;
      first = refl;
      made = subst (λ o. HasMadeSteps h (bias_enter_steps h.heap.shape a.context.now (local_of a.pass.now.known) o)
          a.pass.now c.bias_enter.new.pass c.bias_enter.result) object c.bias_enter.ensures.run;
    }

-- which leaves the monitor that the thread keeps
kept : (c : After-bias_enter) → c.bias_enter.new.pass.known.kept ≡ c.args.pass.now.known.kept
kept c =
    let a = c.args in
    keeps _ _ _ _ _ (enter_keeps a.heap.now.heap.shape a.context.now (local_of a.pass.now.known) a.bias.now.object) (tried c).made

-- where no bias was taken, an enter by the mark is the same from what the thread knows now
marked : (c : After-bias_enter) (m : ℕ) → local_of c.bias_enter.new.pass.known ≡ local_of c.args.pass.now.known
    → let a = c.args in let s = a.heap.now.heap.shape in
    enter_at (read_mark m) s a.context.now (start_now a.heap.now a.pass.now) a.bias.now.object m
    ≡ enter_at (read_mark m) s a.context.now (start_now a.heap.now c.bias_enter.new.pass) c.bias.inside.object m
marked c m local =
    let a = c.args in
    let h = a.heap.now in
    let q = start_now h c.bias_enter.new.pass in
    let object = ap (λ (r : Revocation). r.object) c.bias.view_is in
    enters_alike h.heap.shape a.context.now (start_now h a.pass.now) q a.bias.now.object (sym local) (sym (kept c)) (read_mark m) m
    ∙ λ i. enter_at (read_mark m) h.heap.shape a.context.now q (sym object i) m

-- and so is one that revokes a valid bias
revoked : (c : After-bias_enter) → local_of c.bias_enter.new.pass.known ≡ local_of c.args.pass.now.known
    → let a = c.args in let s = a.heap.now.heap.shape in
    enter_revoked s false a.context.now (start_now a.heap.now a.pass.now) a.bias.now
    ≡ enter_revoked s false a.context.now (start_now a.heap.now c.bias_enter.new.pass) a.bias.now
revoked c local =
    let a = c.args in
    let h = a.heap.now in
    revoked_alike h.heap.shape false a.context.now (start_now h a.pass.now) (start_now h c.bias_enter.new.pass) a.bias.now (sym local) (sym (kept c))

pub enter_marked-requires-clause-due : goal.enter_marked-requires-clause-due
enter_marked-requires-clause-due c =
    let z = (goal.at.enter_marked-requires-clause-due c).After-bias_enter in
    next_due (tried z) c.in-Unbiased.is (marked z c.in-Unbiased.mark c.in-Unbiased.ensures.kept)

pub enter_marked-requires-clause-room : goal.enter_marked-requires-clause-room
enter_marked-requires-clause-room c =
    room_after (tried (goal.at.enter_marked-requires-clause-room c).After-bias_enter) c.in-Unbiased.ensures.kept c.requires.room

pub enter_revoked-requires-clause-due : goal.enter_revoked-requires-clause-due
enter_revoked-requires-clause-due c =
    let z = (goal.at.enter_revoked-requires-clause-due c).After-bias_enter in next_due (tried z) c.in-Valid.is (revoked z c.in-Valid.ensures.kept)

pub enter_revoked-requires-clause-room : goal.enter_revoked-requires-clause-room
enter_revoked-requires-clause-room c =
    room_after (tried (goal.at.enter_revoked-requires-clause-room c).After-bias_enter) c.in-Valid.ensures.kept c.requires.room

pub returns-in-Took : goal.returns-in-Took
returns-in-Took c = last_made (tried (goal.at.returns-in-Took c).After-bias_enter) c.in-Took.is refl

pub returns-in-Raced : goal.returns-in-Raced
returns-in-Raced c = last_made (tried (goal.at.returns-in-Raced c).After-bias_enter) c.in-Raced.is refl

pub returns-in-Unbiased : goal.returns-in-Unbiased
returns-in-Unbiased c =
    let z = (goal.at.returns-in-Unbiased c).After-bias_enter in
    next_made (tried z) c.in-Unbiased.is (marked z c.in-Unbiased.mark c.in-Unbiased.ensures.kept) c.enter_marked.ensures

pub returns-in-Valid : goal.returns-in-Valid
returns-in-Valid c =
    let z = (goal.at.returns-in-Valid c).After-bias_enter in
    next_made (tried z) c.in-Valid.is (revoked z c.in-Valid.ensures.kept) c.enter_revoked.ensures
