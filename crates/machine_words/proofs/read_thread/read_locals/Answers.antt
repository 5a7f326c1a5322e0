use Rattle.std.proofs.Common.{rules, ℕ, suc, List, ◌∷◌, drop, refl, sym, ap, ◌∙◌, arith, subst}
use Rattle.plain_monitor.specs.declared.entry.Value.{Value}
use Rattle.machine_words.specs.Readers.{read_values}
use Rattle.machine_words.specs.inner.Telling.{TellsValues}
use Rattle.machine_words.proofs.Loops.{fills_none, fills_more, fills_lost, fills_all}
use Rattle.machine_words.proofs.Lost.{has_word}
use Rattle.machine_words.proofs.read_thread.read_locals.Goals as goal

pub loop-init : goal.loop-init
loop-init c = fills_none c.args.thread.now c.args.count (drop c.args.at.now c.args.words.now) refl

pub loop-preserved : goal.loop-preserved
loop-preserved c =
    let beyond : List ℕ = drop c.take_word.new.at c.args.words.now in
    let here = c.in_ok-word.ensures.read in
    fills_more c.add_local.new.self c.in_ok-value.value beyond (omega arith) c.loop.invariant (λ s xs. refl) (λ s xs ys. refl) c.in_ok-add_local.ensures
    (λ n. ap (read_values (suc n)) here ∙ ap (λ (v : Value). (v ∷ (read_values n beyond).0, (read_values n beyond).1)) (sym c.in_ok-value.ensures.read))
    (λ n h. (subst (TellsValues (suc n)) here h).1)

pub returns-in_err-word-clause-lost : goal.returns-in_err-word-clause-lost
returns-in_err-word-clause-lost c =
    let lost =
    fills_lost c.in_err-word.field-0.0 (omega arith) c.loop.invariant (λ n h. has_word _ (drop c.loop.at c.args.words.now) h)
    c.in_err-word.ensures.lost in
    search rules

pub returns-in_err-value-clause-lost : goal.returns-in_err-value-clause-lost
returns-in_err-value-clause-lost c =
    let lost =
    fills_lost c.in_err-value.field-0.0 (omega arith) c.loop.invariant (λ n h. (subst (TellsValues (suc n)) c.in_ok-word.ensures.read h).0)
    c.in_err-value.ensures.lost in
    search rules

pub returns-clause-thread : goal.returns-clause-thread
returns-clause-thread c = (fills_all (omega arith) refl c.loop.invariant).0

pub returns-clause-rest : goal.returns-clause-rest
returns-clause-rest c = (fills_all (omega arith) refl c.loop.invariant).1
