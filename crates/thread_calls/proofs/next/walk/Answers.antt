use Rattle.std.proofs.Common.{◌≡◌, length, refl, sym, ap, ◌∙◌, subst}
use Rattle.core_world.specs.Words.Shape.{Shape}
use Rattle.thread_frame.specs.Frames.{FrameSeen, before_call, next_state}
use Rattle.thread_frame.specs.Sights.{AreOf, counts_from}
use Rattle.thread_calls.proofs.Walked.{are_of, is_within, ran, spent, arrived, from_there}
use Rattle.thread_calls.proofs.next.walk.Goals as goal

pub walk-requires : goal.walk-requires
walk-requires g c =
    let a = c.args in
    let run = a.run.now in
    let r = c.requires in
    let many = c.objects.ensures ∙ ap (λ (s : Shape). length s.objects) c.shape.ensures in
    record {
      thread = is_within run.heap.now run.program.now run.fuel a.pass.now a.frame.now r.heap r.may;
      local = r.local;
      holds = subst (λ n. AreOf n a.pass.now.known.holds) (sym many) (are_of run.heap.now run.program.now run.fuel a.pass.now a.frame.now r.heap r.may);
    }

pub returns-in-Ran : goal.returns-in-Ran
returns-in-Ran g c =
    let a = c.args in
    let run = a.run.now in
    let r = c.requires in
    let many = c.objects.ensures ∙ ap (λ (s : Shape). length s.objects) c.shape.ensures in
    let f = c.walk.new.self in
    let leads = subst (λ n. next_state run.program.now a.pass.now.known.thread (counts_from 0 n a.pass.now.known.holds) (f)
    ≡ next_state run.program.now a.pass.now.known.thread (counts_from 0 n a.pass.now.known.holds) a.frame.now) many c.in-Ran.ensures.leads in
    ran run.heap.now run.program.now run.fuel a.pass.now a.frame.now r.heap r.may r.local f leads c.in-Ran.ensures.walked

pub returns-in-Spent : goal.returns-in-Spent
returns-in-Spent g c =
    let a = c.args in
    let run = a.run.now in
    let r = c.requires in
    let many = c.objects.ensures ∙ ap (λ (s : Shape). length s.objects) c.shape.ensures in
    let f = c.walk.new.self in
    let leads = subst (λ n. next_state run.program.now a.pass.now.known.thread (counts_from 0 n a.pass.now.known.holds) (f)
    ≡ next_state run.program.now a.pass.now.known.thread (counts_from 0 n a.pass.now.known.holds) a.frame.now) many c.in-Spent.ensures.leads in
    spent run.heap.now run.program.now run.fuel a.pass.now a.frame.now r.heap r.may r.local f leads c.in-Spent.ensures.walked

pub returns-in-Arrived : goal.returns-in-Arrived
returns-in-Arrived g c =
    let a = c.args in
    let run = a.run.now in
    let r = c.requires in
    let many = c.objects.ensures ∙ ap (λ (s : Shape). length s.objects) c.shape.ensures in
    let f = before_call c.walk.new.self c.in-Arrived.call in
    let same = ap (λ (x : FrameSeen). x.fuel) c.in-Arrived.ensures.walked.0 in
    let leads = subst (λ n. next_state run.program.now a.pass.now.known.thread (counts_from 0 n a.pass.now.known.holds) f
    ≡ next_state run.program.now a.pass.now.known.thread (counts_from 0 n a.pass.now.known.holds) a.frame.now) many c.in-Arrived.ensures.leads in
    record {
      may = arrived run.heap.now run.program.now run.fuel a.pass.now a.frame.now r.heap r.may r.local f leads c.in-Arrived.call refl same;
      placed = c.in-Arrived.ensures.walked.1;
      from = λ q e progress. from_there run.heap.now run.program.now run.fuel a.pass.now
          a.frame.now r.heap r.may r.local f leads q e progress c.in-Arrived.call refl same;
    }
