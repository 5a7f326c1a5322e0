use Rattle.std.proofs.Common.{sym, ap, ◌∙◌, subst}
use Rattle.object_program.specs.Program.{ProgramText}
use Rattle.outcome_search.specs.declared.moves.Scratch.{Scratch}
use Rattle.outcome_search.specs.Keys.{IsKey, IsScratch}
use Rattle.outcome_search.specs.NextWords.{first_key}
use Rattle.outcome_search.proofs.moves.MachineMoves.new.Goals as goal

pub invariant_of-moves : goal.invariant_of-moves
invariant_of-moves c =
    record {
      scratch =
          subst (λ (p : ProgramText). IsScratch p c.args.fuel c.first_key.new.scratch.machine) (sym c.first_key.ensures.program)
          c.in_ok-words.ensures.kept;
      some = c.requires;
    }

pub returns-clause-ways : goal.returns-clause-ways
returns-clause-ways c =
    let is = ap (λ (z : Scratch). z.program) (c.deref_mut.ensures.value ∙ c.in_ok-scratch.ensures) in
    ap (λ (p : ProgramText). record { program = p; fuel = c.args.fuel; steps = c.args.steps }) (c.first_key.ensures.program ∙ is)

pub returns-clause-first : goal.returns-clause-first
returns-clause-first c =
    let is = ap (λ (z : Scratch). z.program) (c.deref_mut.ensures.value ∙ c.in_ok-scratch.ensures) in
    c.in_ok-words.ensures.first ∙ ap (λ (p : ProgramText). first_key p c.args.fuel c.args.steps) is

pub returns-clause-key : goal.returns-clause-key
returns-clause-key c =
    let is = ap (λ (z : Scratch). z.program) (c.deref_mut.ensures.value ∙ c.in_ok-scratch.ensures) in
    subst (λ (p : ProgramText). IsKey p c.args.fuel c.in_ok-words.words.items) is c.in_ok-words.ensures.key
