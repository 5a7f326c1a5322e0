use Rattle.std.proofs.Common.{rules, ◌≡◌, ℕ, suc, List, ◌∷◌, drop, refl, ap, ◌∙◌, arith, subst}
use Rattle.machine_words.specs.Readers.{read_pairs}
use Rattle.machine_words.specs.inner.Telling.{TellsPairs}
use Rattle.machine_words.proofs.Loops.{fills_none, fills_more, fills_lost, fills_all}
use Rattle.machine_words.proofs.Lost.{then_on, has_number}
use Rattle.machine_words.proofs.read_object.read_called.Goals as goal

pub loop-init : goal.loop-init
loop-init c = fills_none c.args.object.now c.args.count (drop c.args.at.now c.args.words.now) refl

pub loop-preserved : goal.loop-preserved
loop-preserved c =
    let thread : ℕ = c.in_ok-thread.thread in
    let holds : ℕ = c.in_ok-holds.holds in
    let beyond : List ℕ = drop c.take_number-in-loop.new.at c.args.words.now in
    let here : drop c.loop.at c.args.words.now ≡ thread ∷ holds ∷ beyond =
    c.in_ok-thread.ensures.read ∙ ap (λ xs. thread ∷ xs) c.in_ok-holds.ensures.read in
    fills_more c.add_called.new.self (thread, holds) beyond (omega arith) c.loop.invariant (λ s xs. refl) (λ s xs ys. refl) c.in_ok-add_called.ensures
    (λ n. ap (read_pairs (suc n)) here) (λ n h. (subst (TellsPairs (suc n)) here h).1.1)

pub returns-in_err-thread-clause-lost : goal.returns-in_err-thread-clause-lost
returns-in_err-thread-clause-lost c =
    let lost =
    fills_lost c.in_err-thread.field-0.0 (omega arith) c.loop.invariant (λ n h. has_number _ (drop c.loop.at c.args.words.now) h)
    c.in_err-thread.ensures.lost in
    search rules

pub returns-in_err-holds-clause-lost : goal.returns-in_err-holds-clause-lost
returns-in_err-holds-clause-lost c =
    let next : List ℕ = drop c.take_number.new.at c.args.words.now in
    let lost =
    fills_lost c.in_err-holds.field-0.0 (omega arith) c.loop.invariant
    (λ n h. has_number _ next (then_on _ (drop c.loop.at c.args.words.now) c.in_ok-thread.thread next c.in_ok-thread.ensures.read h).1)
    c.in_err-holds.ensures.lost in
    search rules

pub returns-clause-object : goal.returns-clause-object
returns-clause-object c = (fills_all (omega arith) refl c.loop.invariant).0

pub returns-clause-rest : goal.returns-clause-rest
returns-clause-rest c = (fills_all (omega arith) refl c.loop.invariant).1
