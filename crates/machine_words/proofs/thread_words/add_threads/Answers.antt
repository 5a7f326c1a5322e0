use Rattle.std.proofs.Common.{◌≡◌, ◌+◌, ◌++◌, ◌∷◌, [], take, refl, sym, ap, ◌∙◌, subst}
use Rattle.std.specs.List.{AllByRecursion}
use Rattle.std.proofs.lemmas.List.{take_more, take_all}
use Rattle.plain_monitor.proofs.Lists.{all_push}
use Rattle.plain_machine.specs.Thread.{ThreadState}
use Rattle.machine_words.specs.Numbers.{HasSmall}
use Rattle.machine_words.specs.ThreadWords.{thread_words, threads_words}
use Rattle.machine_words.proofs.Loops.{written_more, written_all}
use Rattle.machine_words.proofs.thread_words.add_threads.Goals as goal

pub loop-thread-init : goal.loop-thread-init
loop-thread-init c = record { words = refl; numbers = tt }

pub loop-thread-preserved : goal.loop-thread-preserved
loop-thread-preserved c =
    let inv = c.loop-thread.invariant in
    let threads = c.args.threads.now in
    let i = c.loop-thread.thread-index in
    let x = c.thread-item.result in
    record {
      words = written_more threads_words threads i x (thread_words x) c.loop-thread.out.items c.add_thread.new.out.items _ c.loop-thread-test.true
          c.thread-item.is refl inv.words c.in_ok-add_thread.ensures.words;
      numbers =
          let more : take i threads ++ x ∷ [] ≡ take (i + 1) threads =
          sym (take_more threads i x c.loop-thread-test.true ∙ ap (λ (y : ThreadState). take i threads ++ y ∷ []) (sym c.thread-item.is)) in
          subst (AllByRecursion HasSmall) more (all_push HasSmall (take i threads) x inv.numbers c.in_ok-add_thread.ensures.numbers);
    }

pub returns-clause-words : goal.returns-clause-words
returns-clause-words c =
    written_all threads_words c.args.threads.now c.loop-thread.thread-index c.loop-thread.out.items _ c.loop-thread-test.false refl
    c.loop-thread.invariant.words

pub returns-clause-numbers : goal.returns-clause-numbers
returns-clause-numbers c =
    subst (AllByRecursion HasSmall) (take_all c.loop-thread.thread-index c.args.threads.now c.loop-thread-test.false) c.loop-thread.invariant.numbers
