use Rattle.std.proofs.Common.{◌≡◌, ◌<◌, ap, arith, ◌∙◌}
use Rattle.plain_machine.specs.Machine.{code_of}
use Rattle.thread_frame.specs.Frames.{FrameSeen, locals_of, next_state}
use Rattle.thread_frame.specs.Sights.{counts_from}
use Rattle.thread_frame.proofs.Walks.{walks, spends}
use Rattle.thread_frame.proofs.frame.Frame.walk.Goals as goal

pub returns-then-fuel-eq0-clause-leads : goal.returns-then-fuel-eq0-clause-leads
returns-then-fuel-eq0-clause-leads c =
    let p = c.args.program.now in
    let t = c.args.pass.now.known.thread in
    let holds = counts_from 0 c.args.objects c.args.pass.now.known.holds in
    let f = c.args.self.now in
    let none : f.fuel ≡ 0 = omega (arith, c.fuel.ensures, c.if-fuel-eq0.true) in
    ap (λ (g : FrameSeen). next_state p t holds g) c.stand.ensures
    ∙ spends p (code_of p t) (locals_of p t) holds f f.mode _ c.requires.local none c.place-place.ensures

pub returns-clause-leads : goal.returns-clause-leads
returns-clause-leads c =
    let p = c.args.program.now in
    let t = c.args.pass.now.known.thread in
    let holds = counts_from 0 c.args.objects c.args.pass.now.known.holds in
    let f = c.args.self.now in
    let some : 0 < f.fuel = omega (arith, c.fuel.ensures, c.if-fuel-eq0.false) in
    ap (λ (g : FrameSeen). next_state p t holds g) c.apply.ensures.moved
    ∙ walks p (code_of p t) (locals_of p t) holds f f.mode _ c.requires.local some c.decode_next-next.ensures.next
