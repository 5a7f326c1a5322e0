use Rattle.std.proofs.Common.{ℕ, ◌++◌, List, sym, ap, ◌∙◌, subst}
use Rattle.std.specs.List.{AllByRecursion}
use Rattle.plain_monitor.specs.ValueWords.{IsSpellable}
use Rattle.plain_machine.specs.Thread.{ThreadState}
use Rattle.machine_words.specs.Numbers.{HasSmall}
use Rattle.machine_words.specs.ThreadWords.{threads_words}
use Rattle.machine_words.specs.MadeWords.{made_words}
use Rattle.machine_words.specs.ObjectWords.{objects_words}
use Rattle.machine_words.proofs.ReadBack.{threads_spelled}
use Rattle.machine_words.proofs.Writing.{three_written}
use Rattle.machine_words.proofs.words.add_words.Goals as goal

pub add_threads-requires : goal.add_threads-requires
add_threads-requires c =
    let m = c.args.machine.now in
    subst (AllByRecursion (λ (s : ThreadState). AllByRecursion IsSpellable s.locals)) (sym c.threads.ensures)
    (threads_spelled m.program m.threads c.requires.reached.program c.requires.reached.threads)

pub returns : goal.returns
returns c =
    let m = c.args.machine.now in
    let o = c.args.out.now.items in
    let o1 = c.add_threads.new.out.items in
    let o2 = c.add_made.new.out.items in
    record {
      words =
          three_written o o1 o2 c.add_objects.new.out.items (threads_words m.threads) (made_words m.made) (objects_words 0 m.objects)
          (c.in_ok-add_threads.ensures.words ∙ ap (λ (ss : List ThreadState). o ++ threads_words ss) c.threads.ensures)
          (c.in_ok-add_made.ensures ∙ ap (λ (rows : List (List ℕ)). o1 ++ made_words rows) c.register.ensures.made)
          c.in_ok-add_objects.ensures;
      numbers = subst (AllByRecursion HasSmall) c.threads.ensures c.in_ok-add_threads.ensures.numbers;
    }
