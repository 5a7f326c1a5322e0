use Rattle.std.proofs.Common.{◌<◌, ℕ, ◌∙◌, sym, ap, subst}
use Rattle.plain_monitor.specs.Limits.{entries_for}
use Rattle.core_world.specs.Words.Shape.{Shape}
use Rattle.core_law.specs.Logic.{Heap}
use Rattle.heap_table.specs.Fresh.{IsFresh}
use Rattle.heap_table.specs.Seen.{first_pass, first_passes}
use Rattle.program_run.proofs.opening.open.Goals as goal

pub returns-clause-program : goal.returns-clause-program
returns-clause-program c =
    let heap = c.in_ok-heap.ensures.heap in
    let shape = c.in_ok-shape.ensures.shape in
    record {
      program = c.in_ok-shape.ensures.program;
      threads = ap (λ (b : Heap). b.shape.threads) heap ∙ ap (λ (s : Shape). s.threads) shape;
      classes = ap (λ (b : Heap). b.shape.classes) heap ∙ ap (λ (s : Shape). s.classes) shape;
      objects = ap (λ (b : Heap). b.shape.objects) heap ∙ ap (λ (s : Shape). s.objects) shape;
      declared = ap (λ (b : Heap). b.shape.declared) heap ∙ ap (λ (s : Shape). s.declared) shape;
    }

pub returns-clause-runners : goal.returns-clause-runners
returns-clause-runners c =
    let h = c.in_ok-heap.heap in
    let fuel = c.args.settings.now.fuel in
    let heap = c.in_ok-heap.ensures.heap in
    c.in_ok-runners.ensures h c.args.program.now c.args.settings.now.tick (returns-clause-program c) (record {
      room = c.in_ok-heap.ensures.room;
      are = c.in_ok-heap.ensures.passes ∙ ap (λ (b : Heap). first_passes h (entries_for fuel) 0 b.shape.threads) (sym heap);
      fresh = subst (λ (b : Heap). (t : ℕ) → t < b.shape.threads → IsFresh h t (first_pass h (entries_for fuel) t)) (sym heap) c.in_ok-heap.ensures.fresh;
    })
