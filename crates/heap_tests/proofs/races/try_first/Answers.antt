use Rattle.std.proofs.Common.{◌^◌, refl, ap, ◌∙◌}
use Rattle.core_world.specs.Threads.ThreadView.{ThreadView}
use Rattle.core_law.specs.Logic.{Heap}
use Rattle.heap_table.proofs.Knows.{same_thread}
use Rattle.heap_tests.proofs.Resuming.{first_is, second_is, resuming}
use Rattle.core_world.specs.declared.act.Act.TheVariants.{Load}
use Rattle.heap_tests.proofs.races.try_first.Goals as goal

pub look-found-requires : goal.look-found-requires
look-found-requires c = record {
  heap = c.requires.is_of;
  next = first_is _ _ _ _ _ _ c.requires.knows refl;
  room = tt;
  drafted = tt;
}

pub exchange-requires : goal.exchange-requires
exchange-requires c =
    let h : Heap = c.args.heap.now.heap in
    let known = c.look-found.ensures.stepped.known in
    let thread = c.thread.ensures.same ∙ ap (λ (k : ThreadView). k.thread) known
    ∙ same_thread h.shape h.start (resuming Load) c.look-found.result.0 c.args.pass.now.known in record {
      heap = c.look-found.ensures.stepped.heap;
      next = second_is _ _ _ _ _ c.args.pass.now.known.thread _ _ _ _ c.requires.knows refl c.if-found-eq0.true known refl
          (c.bit-word.ensures ∙ ap (λ n. 2 ^ n) thread);
      room = tt;
      drafted = tt;
    }
