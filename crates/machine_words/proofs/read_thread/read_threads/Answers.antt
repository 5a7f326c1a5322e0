use Rattle.std.proofs.Common.{rules, ◌<◌, ◌≤◌, length, drop, sym, arith, ◌≡◌, ℕ, suc, ◌+◌, ◌-◌, List, subst}
use Rattle.machine_words.specs.inner.Reading.{thread_step}
use Rattle.machine_words.proofs.Walking.{walks_none, walks_more, walks_all}
use Rattle.machine_words.specs.inner.Telling.{IsLost, TellsThreads}
use Rattle.machine_words.proofs.Lost.{lost_by, thread_next}
use Rattle.machine_words.proofs.read_thread.read_threads.Goals as goal

pub loop-thread-init : goal.loop-thread-init
loop-thread-init c =
    let first = c.args.threads.now in
    let whole : length first - 0 ≡ length first = omega arith in
    record {
      walks = walks_none (thread_step c.args.fuel) first (drop c.args.at.now c.args.words.now);
      told = λ h. subst (λ (n : ℕ). TellsThreads n (drop c.args.at.now c.args.words.now)) (sym whole) h;
    }

pub loop-thread-preserved : goal.loop-thread-preserved
loop-thread-preserved c =
    let inv = c.loop-thread.invariant.walks in
    let within : c.loop-thread.thread-index < length c.loop-thread.threads = omega (arith, c.loop-thread-test.true, inv.count) in
    let first = c.args.threads.now in
    let here : List ℕ = drop c.loop-thread.at c.args.words.now in
    let less : ℕ = length first - (c.loop-thread.thread-index + 1) in
    let left : length first - c.loop-thread.thread-index ≡ suc less = omega (arith, within, inv.count) in
    record {
      walks =
          walks_more c.read_thread.new.thread c.thread-item.result
          (drop c.read_thread.new.at c.args.words.now) inv within c.in_ok-read_thread.ensures.thread c.in_ok-read_thread.ensures.rest;
      told = λ h. subst (TellsThreads less) (sym c.in_ok-read_thread.ensures.rest)
          (thread_next (length first - c.loop-thread.thread-index) less here left (c.loop-thread.invariant.told h)).1;
    }

pub returns-in_err-read_thread-clause-lost : goal.returns-in_err-read_thread-clause-lost
returns-in_err-read_thread-clause-lost c =
    let inv = c.loop-thread.invariant in
    let first = c.args.threads.now in
    let here : List ℕ = drop c.loop-thread.at c.args.words.now in
    let less : ℕ = length first - (c.loop-thread.thread-index + 1) in
    let left : length first - c.loop-thread.thread-index ≡ suc less = omega (arith, c.loop-thread-test.true, inv.walks.count) in
    let lost : IsLost (TellsThreads (length first) (drop c.args.at.now c.args.words.now)) c.in_err-read_thread.field-0.0 =
    lost_by c.in_err-read_thread.field-0.0 (λ h. (thread_next (length first - c.loop-thread.thread-index) less here left (inv.told h)).0)
    c.in_err-read_thread.ensures.lost in
    search rules

pub returns-clause-threads : goal.returns-clause-threads
returns-clause-threads c =
    let inv = c.loop-thread.invariant.walks in
    let past : length c.loop-thread.threads ≤ c.loop-thread.thread-index = omega (arith, c.loop-thread-test.false, inv.count) in
    sym (walks_all inv past).0

pub returns-clause-rest : goal.returns-clause-rest
returns-clause-rest c =
    let inv = c.loop-thread.invariant.walks in
    let past : length c.loop-thread.threads ≤ c.loop-thread.thread-index = omega (arith, c.loop-thread-test.false, inv.count) in
    sym (walks_all inv past).1
