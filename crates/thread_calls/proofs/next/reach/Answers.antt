use Rattle.std.proofs.Common.{Some, ap, ◌∙◌, sym, subst}
use Rattle.thread_frame.specs.Frames.{IsAtInstruction}
use Rattle.thread_calls.specs.Advances.{HasAdvanced, MayAdvance}
use Rattle.thread_calls.proofs.Advanced.{stands_before}
use Rattle.thread_calls.proofs.next.reach.Goals as goal

pub returns-in-Calling : goal.returns-in-Calling
returns-in-Calling g c =
    let a = c.args in
    let run = a.run.now in
    let mode = sym c.mode.ensures.is ∙ c.in-Some.is ∙ ap (λ m. Some m) c.in-Calling.is in
    let at = stands_before a.frame.now c.in-Calling.call mode in
    record {
      may = subst (MayAdvance run.heap.now run.program.now run.fuel a.pass.now) at c.requires.may;
      placed = subst (IsAtInstruction a.frame.now.place a.frame.now.made) (c.mode.ensures.is ∙ mode) c.mode.ensures.placed;
      from = λ q e progress. subst (λ f. HasAdvanced run.heap.now run.program.now run.fuel a.pass.now q f e progress) (sym at);
    }
