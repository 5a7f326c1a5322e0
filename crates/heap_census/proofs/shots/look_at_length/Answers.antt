use Rattle.std.proofs.Common.{◌≡◌, ◌==◌, true, false, cond, length, refl, sym, ap, ◌∙◌, eq-eqb, ne_eqb}
use Rattle.core_world.specs.declared.word_id.WordId.TheVariants.{Length}
use Rattle.core_world.specs.Steps.{seen_words}
use Rattle.core_world.specs.Threads.ThreadView.{Local}
use Rattle.heap_table.proofs.StepsLeft.{all_left, can_make, step_made, all_made}
use Rattle.heap_census.proofs.Later.{load_later, load_settled}
use Rattle.heap_census.proofs.shots.look_at_length.Goals as goal

pub load-published-requires : goal.load-published-requires
load-published-requires c = can_make (all_left c.requires.heap c.requires.due) refl refl refl tt

pub returns-then-thread-clause-run : goal.returns-then-thread-clause-run
returns-then-thread-clause-run c = all_made (step_made (all_left c.requires.heap c.requires.due) refl refl refl c.load-published.ensures)

pub returns-then-thread-clause-later : goal.returns-then-thread-clause-later
returns-then-thread-clause-later c = load_later c.args.call.now (Length c.args.thread) c.requires.heap c.requires.reached c.load-published.ensures

pub returns-then-thread-clause-length : goal.returns-then-thread-clause-length
returns-then-thread-clause-length c = λ l later.
    let t = c.args.thread in
    let same : (t == l.thread) ≡ true =
    eq-eqb t l.thread (c.if-thread.true ∙ c.thread.ensures.same ∙ sym (ap (λ (x : Local). x.thread) later.local)) in
    ap (λ b. cond b (length l.log) (seen_words l (Length t))) same
    ∙ ap (λ (x : Local). length x.log) later.local ∙ sym c.length.ensures.same

pub returns-else-thread-clause-run : goal.returns-else-thread-clause-run
returns-else-thread-clause-run c = all_made (step_made (all_left c.requires.heap c.requires.due) refl refl refl c.load-published.ensures)

pub returns-else-thread-clause-later : goal.returns-else-thread-clause-later
returns-else-thread-clause-later c = load_later c.args.call.now (Length c.args.thread) c.requires.heap c.requires.reached c.load-published.ensures

pub returns-else-thread-clause-length : goal.returns-else-thread-clause-length
returns-else-thread-clause-length c = λ l later.
    let t = c.args.thread in
    let other : (t == l.thread) ≡ false =
    ne_eqb t l.thread (λ same. c.if-thread.false (same ∙ ap (λ (x : Local). x.thread) later.local ∙ sym c.thread.ensures.same)) in
    ap (λ b. cond b (length l.log) (seen_words l (Length t))) other
    ∙ load_settled c.args.call.now (Length t) c.requires.heap c.requires.reached c.load-published.ensures l later
