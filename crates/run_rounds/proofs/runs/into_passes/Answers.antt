use Rattle.std.proofs.Common.{◌≡◌, length, map, vec_len, vec_capacity, sym, ap, ◌∙◌, arith}
use Rattle.std.proofs.lemmas.List.{length_push}
use Rattle.thread_interp.specs.Runners.{RunnerSeen}
use Rattle.run_rounds.proofs.Pushed.{has_room, whole_on, all_before, pushed_on}
use Rattle.run_rounds.proofs.runs.into_passes.Goals as goal

pub loop-runner-init : goal.loop-runner-init
loop-runner-init c =
    let counted : vec_len c.args.passes ≡ length c.args.passes.items = c.args.passes.ok.0 in
    let empty = ap length c.requires.empty in
    let runners : vec_len c.args.runners ≡ length c.args.runners.items = c.args.runners.ok.0 in
    let room = c.requires.room in
    record {
      whole = c.into_iter-runner-iterator.ensures.into_iter_gives.0;
      items = c.requires.empty;
      len = omega (arith, counted, empty);
      room = omega (arith, runners, room);
    }

pub push_reserved-requires : goal.push_reserved-requires
push_reserved-requires c =
    let inv = c.loop-runner.invariant in
    has_room c.args.runners.items c.loop-runner.yielded c.loop-runner.runner-iterator.rest.items inv.whole c.in-Some.runner c.next.new.self.rest.items
    (vec_len c.loop-runner.passes) (vec_capacity c.loop-runner.passes) c.in-Some.ensures.steps.0 inv.len inv.room

pub loop-runner-preserved : goal.loop-runner-preserved
loop-runner-preserved c =
    let inv = c.loop-runner.invariant in
    let before = c.loop-runner.yielded in
    let pushed = c.push_reserved.ensures in
    let len = inv.len in
    let room = inv.room in
    let more = length_push before c.in-Some.runner in
    record {
      whole =
          whole_on c.args.runners.items before c.loop-runner.runner-iterator.rest.items inv.whole c.in-Some.runner c.next.new.self.rest.items
          c.in-Some.ensures.steps.0;
      items =
          pushed_on (λ (r : RunnerSeen). r.pass) before c.in-Some.runner c.into_pass.result c.loop-runner.passes.items c.push_reserved.new.self.items
          inv.items pushed.items c.into_pass.ensures;
      len = omega (arith, pushed.len, len, more);
      room = omega (arith, room, pushed.capacity);
    }

pub returns : goal.returns
returns c =
    let inv = c.loop-runner.invariant in
    let rest = c.loop-runner.runner-iterator.rest in
    inv.items
    ∙ ap (map (λ (r : RunnerSeen). r.pass))
    (all_before c.args.runners.items c.loop-runner.yielded rest.items inv.whole (sym rest.ok.0 ∙ c.in-None.ensures.steps.0))
