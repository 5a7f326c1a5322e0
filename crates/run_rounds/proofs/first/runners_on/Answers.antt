use Rattle.std.proofs.Common.{map, vec_len, vec_capacity, sym, ap, ◌∙◌, arith}
use Rattle.std.proofs.lemmas.List.{length_push}
use Rattle.run_rounds.specs.inner.First.{runner_on}
use Rattle.run_rounds.proofs.Pushed.{has_room, whole_on, all_before, pushed_on}
use Rattle.run_rounds.proofs.first.runners_on.Goals as goal

pub push_reserved-requires : goal.push_reserved-requires
push_reserved-requires c =
    let inv = c.loop-pass.invariant in
    has_room c.args.passes c.loop-pass.yielded c.loop-pass.pass-iterator.rest.items inv.whole c.in-Some.pass c.next.new.self.rest.items
    (vec_len c.loop-pass.runners) (vec_capacity c.loop-pass.runners) c.in-Some.ensures.steps.0 inv.len inv.room

pub loop-pass-preserved : goal.loop-pass-preserved
loop-pass-preserved c =
    let inv = c.loop-pass.invariant in
    let before = c.loop-pass.yielded in
    let pushed = c.push_reserved.ensures in
    let len = inv.len in
    let room = inv.room in
    let more = length_push before c.in-Some.pass in
    record {
      whole =
          whole_on c.args.passes before c.loop-pass.pass-iterator.rest.items inv.whole c.in-Some.pass c.next.new.self.rest.items c.in-Some.ensures.steps.0;
      items =
          pushed_on (runner_on c.args.fuel) before c.in-Some.pass c.new.result c.loop-pass.runners.items c.push_reserved.new.self.items
          inv.items pushed.items c.new.ensures;
      len = omega (arith, pushed.len, len, more);
      room = omega (arith, room, pushed.capacity);
    }

pub returns : goal.returns
returns c =
    let inv = c.loop-pass.invariant in
    let rest = c.loop-pass.pass-iterator.rest in
    inv.items
    ∙ ap (map (runner_on c.args.fuel)) (all_before c.args.passes c.loop-pass.yielded rest.items inv.whole (sym rest.ok.0 ∙ c.in-None.ensures.steps.0))
