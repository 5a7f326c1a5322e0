use Rattle.std.proofs.Common.{◌≡◌, Some, sym, ap, ◌∙◌, subst}
use Rattle.object_program.specs.Program.{ProgramText}
use Rattle.plain_machine.specs.Sound.{IsSound}
use Rattle.machine_words.specs.MachineWords.{machine_of}
use Rattle.outcome_search.specs.Keys.{IsKept, IsScratch}
use Rattle.outcome_search.proofs.Found.{kept_read}
use Rattle.outcome_search.proofs.moves.load_key.Goals as goal

pub load-requires-clause-sound : goal.load-requires-clause-sound
load-requires-clause-sound c =
    let p = c.args.scratch.now.program in
    let k = c.requires.key in
    let kept : IsKept p c.args.fuel c.in-Some.machine = subst (IsScratch p c.args.fuel) (sym c.in-Some.ensures.value) c.requires.kept in
    let is = ap (λ (q : ProgramText). machine_of q c.args.fuel c.args.key.now) kept.0.program ∙ kept_read p c.args.fuel c.args.key.now k in
    subst IsSound (sym is) k.kept.1

pub returns-in-Ok-clause-kept : goal.returns-in-Ok-clause-kept
returns-in-Ok-clause-kept c =
    let p = c.args.scratch.now.program in
    let k = c.requires.key in
    let kept : IsKept p c.args.fuel c.in-Some.machine = subst (IsScratch p c.args.fuel) (sym c.in-Some.ensures.value) c.requires.kept in
    let is : c.in-Ok.found ≡ machine_of p c.args.fuel c.args.key.now =
    c.in-Ok.ensures.machine ∙ ap (λ (q : ProgramText). machine_of q c.args.fuel c.args.key.now) kept.0.program in
    subst (IsKept p c.args.fuel) (sym (is ∙ kept_read p c.args.fuel c.args.key.now k)) k.kept

pub returns-in-Ok-clause-found : goal.returns-in-Ok-clause-found
returns-in-Ok-clause-found c =
    let p = c.args.scratch.now.program in
    let kept : IsKept p c.args.fuel c.in-Some.machine = subst (IsScratch p c.args.fuel) (sym c.in-Some.ensures.value) c.requires.kept in
    let is : c.in-Ok.found ≡ machine_of p c.args.fuel c.args.key.now =
    c.in-Ok.ensures.machine ∙ ap (λ (q : ProgramText). machine_of q c.args.fuel c.args.key.now) kept.0.program in
    ap Some is
