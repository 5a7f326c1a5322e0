use Rattle.std.proofs.Common.{[], ◌∷◌, ◌++◌, ◌∙◌, arith}
use Rattle.heap_table.proofs.Opens.{fresh, opens, passes_more}
use Rattle.heap_table.specs.Kept.{limit_by}
use Rattle.heap_table.specs.Ruled.{heap_in}
use Rattle.heap_table.proofs.opening_conditions.begin.Goals as goal

pub of_words-requires : goal.of_words-requires
of_words-requires c =
    let limits = c.threads-threads.ensures.limits in
    opens c.args.setting _ limits.declared (c.requires.law limits) (c.as_slice.ensures.value ∙ c.in_ok-start.ensures.words)

pub loop-thread-preserved : goal.loop-thread-preserved
loop-thread-preserved c =
    let inv = c.loop-thread.invariant in
    let s = c.in_ok-pass.ensures.seat in
    let p = c.push_reserved.ensures in
    record {
      seat = (s.0 ∙ inv.seat.0, s.1);
      made = p.items ∙ (λ i. inv.made i ++ c.in_ok-pass.ensures.pass i ∷ []) ∙ passes_more (record {
        table = c.in_ok-words.words.shared.table_id;
        heap = heap_in c.args.setting;
        room = c.args.room;
      }) _ c.loop-thread.thread;
      len = omega (arith, p.len, inv.len);
      room = omega (arith, p.capacity, inv.room);
    }

pub returns-clause-law : goal.returns-clause-law
returns-clause-law c = c.requires.law c.threads-threads.ensures.limits

pub returns-clause-fresh : goal.returns-clause-fresh
returns-clause-fresh c = λ t within. fresh _ (limit_by c.args.keeps 0 c.args.room) t (returns-clause-law c) within
