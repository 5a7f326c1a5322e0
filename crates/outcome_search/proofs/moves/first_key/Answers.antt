use Rattle.std.proofs.Common.{◌≡◌, sym, ap, ◌∙◌, subst}
use Rattle.std.proofs.lemmas.Option.{same_Some}
use Rattle.object_program.specs.Program.{ProgramText}
use Rattle.plain_machine.specs.Machine.{PlainMachine, new_machine}
use Rattle.every_outcome.specs.Fuel.{refuelled}
use Rattle.machine_words.specs.MachineWords.{words_of}
use Rattle.outcome_search.specs.Keys.{IsKept}
use Rattle.outcome_search.specs.Settled.{settled}
use Rattle.outcome_search.proofs.moves.first_key.Goals as goal

pub settle_first-requires-clause-first : goal.settle_first-requires-clause-first
settle_first-requires-clause-first c =
    let p = c.args.scratch.now.program in
    let is : c.in-Some.machine ≡ new_machine p c.args.fuel =
    same_Some c.in-Some.machine (new_machine p c.args.fuel) (sym c.in-Some.is ∙ c.in_ok-make_machine.ensures.machine) in
    is ∙ ap (λ (q : ProgramText). new_machine q c.args.fuel) (sym (ap (λ (m : PlainMachine). m.program) is))

pub words_of-requires : goal.words_of-requires
words_of-requires c = record { reached = c.in_ok-settle_first.ensures.kept.0.reached; untouched = c.in_ok-settle_first.ensures.kept.0.untouched }

pub returns : goal.returns
returns c =
    let p = c.args.scratch.now.program in
    let fuel = c.args.fuel in
    let is : c.in-Some.machine ≡ new_machine p fuel =
    same_Some c.in-Some.machine (new_machine p fuel) (sym c.in-Some.is ∙ c.in_ok-make_machine.ensures.machine) in
    let kept : IsKept p fuel c.settle_first.new.machine =
    subst (λ (q : ProgramText). IsKept q fuel c.settle_first.new.machine) (ap (λ (m : PlainMachine). m.program) is) c.in_ok-settle_first.ensures.kept in
    record {
      program = c.make_machine.ensures.program;
      kept = kept;
      first =
          c.in_ok-words.ensures.words
          ∙ ap words_of (c.in_ok-settle_first.ensures.settled ∙ ap (λ (m : PlainMachine). settled fuel c.args.steps (refuelled fuel m)) is);
      key = record { machine = c.settle_first.new.machine; kept = kept; numbers = c.in_ok-words.ensures.numbers; words = sym c.in_ok-words.ensures.words };
    }
