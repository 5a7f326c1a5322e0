use Rattle.std.proofs.Common.{◌≡◌, ◌<◌, length, IfSome, sym, ap, ◌∙◌, subst}
use Rattle.std.proofs.lemmas.Option.{same_Some}
use Rattle.object_program.specs.Program.{ProgramText}
use Rattle.machine_words.specs.MachineWords.{machine_of}
use Rattle.outcome_search.specs.Keys.{IsFound, IsKept, IsKey, IsScratch}
use Rattle.outcome_search.specs.NextWords.{next_of}
use Rattle.outcome_search.proofs.Found.{found_own}
use Rattle.outcome_search.proofs.moves.next_key.Goals as goal

pub step-requires-clause-t : goal.step-requires-clause-t
step-requires-clause-t c =
    let p = c.args.scratch.now.program in
    let kept : IsKept p c.args.fuel c.in-Some.machine = subst (IsScratch p c.args.fuel) c.in-Some.is c.load_key.ensures.kept in
    let there : length c.in-Some.machine.threads ≡ length p.threads =
    kept.0.reached.thread_count ∙ ap (λ (q : ProgramText). length q.threads) kept.0.program in
    subst (λ n. c.args.t < n) (sym there) c.requires.t

pub step-requires-clause-found : goal.step-requires-clause-found
step-requires-clause-found c =
    let p = c.args.scratch.now.program in
    let kept : IsKept p c.args.fuel c.in-Some.machine = subst (IsScratch p c.args.fuel) c.in-Some.is c.load_key.ensures.kept in
    found_own p c.args.fuel c.in-Some.machine kept.0

pub returns-in-Ok : goal.returns-in-Ok
returns-in-Ok c =
    let p = c.args.scratch.now.program in
    let kept : IsKept p c.args.fuel c.in-Some.machine = subst (IsScratch p c.args.fuel) c.in-Some.is c.load_key.ensures.kept in
    let is : c.in-Some.machine ≡ machine_of p c.args.fuel c.args.key.now =
    same_Some c.in-Some.machine (machine_of p c.args.fuel c.args.key.now) (sym c.in-Some.is ∙ c.in_ok-load_key.ensures.found) in
    record {
      program = c.load_key.ensures.program;
      kept = (subst (λ (q : ProgramText). IsFound q c.args.fuel c.step.new.machine) kept.0.program c.in-Ok.ensures.found, c.is_sound.ensures);
      next = c.in-Ok.ensures.next ∙ ap (next_of c.args.fuel c.args.steps c.args.t) is;
      again = subst (λ (q : ProgramText). IfSome c.in-Ok.to (λ v. IsKey q c.args.fuel v.items)) kept.0.program c.in-Ok.ensures.again;
    }
