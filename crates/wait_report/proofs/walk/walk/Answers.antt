use Rattle.std.proofs.Common.{◌≡◌, ℕ, ◌-◌, ◌+◌, ◌++◌, [], ◌∷◌, Option, Some, None, option_map, sym, ap, ◌∙◌, arith}
use Rattle.std.proofs.lemmas.Grind.{common_steps}
use Rattle.plain_machine.specs.Offering.{offered}
use Rattle.wait_report.specs.inner.Walk.{blocker, link, cycle_of}
use Rattle.wait_report.proofs.Walked.{found_after, found_none, found_less, found_end, found_on}
use Rattle.wait_report.proofs.walk.walk.Goals as goal

pub returns-in_default : goal.returns-in_default
returns-in_default c =
    let at : blocker (offered c.args.machine.now c.loop-step.thread) ≡ None = sym c.blocker.ensures ∙ c.in_default.is in
    let none = found_none c.args.machine.now c.args.first (c.args.threads - c.loop-step._step) c.loop-step.thread c.loop-step.links.items (omega arith) at in
    sym (ap (option_map cycle_of) (c.loop-step.invariant ∙ none))

pub returns-then-owner-first : goal.returns-then-owner-first
returns-then-owner-first c =
    let at : ◌≡◌ {A = Option (ℕ × ℕ)} (blocker (offered c.args.machine.now c.loop-step.thread)) (Some (c.in-Some.object, c.in-Some.owner)) = cc in
    let more : c.push.new.self.items ≡ c.loop-step.links.items ++ link c.loop-step.thread c.in-Some.object ∷ [] = grind (arith, common_steps) in
    let end = found_end c.args.machine.now c.args.first (c.args.threads - c.loop-step._step) c.loop-step.thread
    c.in-Some.object c.in-Some.owner c.loop-step.links.items (omega arith) at c.if-owner-first.true in
    ap (λ links. Some (cycle_of links)) (c.of.ensures ∙ more) ∙ sym (ap (option_map cycle_of) (c.loop-step.invariant ∙ end))

pub returns-then-owner-first-2 : goal.returns-then-owner-first-2
returns-then-owner-first-2 c =
    let at : ◌≡◌ {A = Option (ℕ × ℕ)} (blocker (offered c.args.machine.now c.loop-step.thread)) (Some (c.in-Some.object, c.in-Some.owner)) = cc in
    let none = found_less c.args.machine.now c.args.first (c.args.threads - c.loop-step._step) c.loop-step.thread
    c.in-Some.object c.in-Some.owner c.loop-step.links.items (omega arith) at c.if-owner-first.false c.if-owner-first-2.true in
    sym (ap (option_map cycle_of) (c.loop-step.invariant ∙ none))

pub loop-step-preserved : goal.loop-step-preserved
loop-step-preserved c =
    let at : ◌≡◌ {A = Option (ℕ × ℕ)} (blocker (offered c.args.machine.now c.loop-step.thread)) (Some (c.in-Some.object, c.in-Some.owner)) = cc in
    let more : c.push.new.self.items ≡ c.loop-step.links.items ++ link c.loop-step.thread c.in-Some.object ∷ [] = grind (arith, common_steps) in
    let on = found_on c.args.machine.now c.args.first (c.args.threads - c.loop-step._step)
    (c.args.threads - (c.loop-step._step + 1)) c.loop-step.thread c.in-Some.object c.in-Some.owner c.loop-step.links.items
    (omega arith) (omega arith) at c.if-owner-first.false c.if-owner-first-2.false in
    c.loop-step.invariant ∙ on
    ∙ sym (ap (λ links. found_after c.args.machine.now c.args.first links (c.args.threads - (c.loop-step._step + 1)) c.in-Some.owner) more)

pub returns : goal.returns
returns c =
    let none : c.args.threads - c.loop-step._step ≡ 0 = omega arith in
    sym (ap (option_map cycle_of) (c.loop-step.invariant
    ∙ ap (λ n. found_after c.args.machine.now c.args.first c.loop-step.links.items n c.loop-step.thread) none))
