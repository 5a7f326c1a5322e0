use Rattle.std.proofs.Common.{◌≡◌, sym, ap, ◌∙◌, subst}
use Rattle.plain_machine.specs.Machine.{PlainMachine, new_machine}
use Rattle.every_outcome.specs.Fuel.{refuelled}
use Rattle.outcome_search.specs.Keys.{IsFound}
use Rattle.outcome_search.specs.Settled.{settled}
use Rattle.outcome_search.proofs.Found.{found_first, found_settled}
use Rattle.outcome_search.proofs.moves.settle_first.Goals as goal

pub returns : goal.returns
returns c =
    let p = c.args.machine.now.program in
    let fuel = c.args.fuel in
    let first = refuelled fuel (new_machine p fuel) in
    let is : c.settle.new.machine ≡ settled fuel c.args.steps (refuelled fuel c.args.machine.now) =
    c.in_ok-settle.ensures.machine ∙ ap (settled fuel c.args.steps) c.refuel.ensures in
    let same : settled fuel c.args.steps first ≡ c.settle.new.machine =
    sym (is ∙ ap (λ (m : PlainMachine). settled fuel c.args.steps (refuelled fuel m)) c.requires.first) in
    let found : IsFound p fuel (settled fuel c.args.steps first) =
    found_settled p fuel c.args.steps first c.requires.some (found_first p fuel c.is_sound.ensures.program c.requires.some) in
    record { settled = is; kept = (subst (IsFound p fuel) same found, c.is_sound-2.ensures) }
