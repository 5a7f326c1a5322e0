-- Each test of its bits tells the form of a mark that spells one.
use Rattle.std.proofs.Common.{arith}
use Rattle.heap_table.proofs.LowBits.{anonymous_low, biased_to_low, inflated_low, inflating_low, locked_low, marked_low, neutral_low}
use Rattle.heap_table.proofs.reads.form_of.Goals as goal

pub overflow_sub-result : goal.overflow_sub-result
overflow_sub-result c = let is = inflated_low c.args.word c.requires c.if-word-eq2.true in omega (arith, is.0)

pub overflow_cast-result : goal.overflow_cast-result
overflow_cast-result c = let is = inflated_low c.args.word c.requires c.if-word-eq2.true in omega (arith, is.1)

pub returns-then-word-eq2 : goal.returns-then-word-eq2
returns-then-word-eq2 c = (inflated_low c.args.word c.requires c.if-word-eq2.true).2

pub returns-then-word-eq0-2 : goal.returns-then-word-eq0-2
returns-then-word-eq0-2 c = inflating_low c.args.word c.requires c.if-word-eq0-2.true

pub overflow_sub-result-then-word-eq0 : goal.overflow_sub-result-then-word-eq0
overflow_sub-result-then-word-eq0 c = let is = locked_low c.args.word c.requires c.if-word-eq0.true c.if-word-eq0-2.false in omega (arith, is.0)

pub overflow_cast-result-then-word-eq0 : goal.overflow_cast-result-then-word-eq0
overflow_cast-result-then-word-eq0 c = let is = locked_low c.args.word c.requires c.if-word-eq0.true c.if-word-eq0-2.false in omega (arith, is.1)

pub returns-then-word-eq0 : goal.returns-then-word-eq0
returns-then-word-eq0 c = (locked_low c.args.word c.requires c.if-word-eq0.true c.if-word-eq0-2.false).2

pub overflow_cast-result-then-word-eq1 : goal.overflow_cast-result-then-word-eq1
overflow_cast-result-then-word-eq1 c = let is = neutral_low c.args.word c.requires c.if-word-eq1.true in omega (arith, is.0)

pub returns-then-word-eq1 : goal.returns-then-word-eq1
returns-then-word-eq1 c = (neutral_low c.args.word c.requires c.if-word-eq1.true).1

pub returns-then-word-eq3 : goal.returns-then-word-eq3
returns-then-word-eq3 c = marked_low c.args.word c.requires c.if-word-eq3.true

pub returns-then-word-eq0-3 : goal.returns-then-word-eq0-3
returns-then-word-eq0-3 c = anonymous_low c.args.word c.requires (omega arith) c.if-word-eq0-3.true

pub overflow_cast-result-2 : goal.overflow_cast-result-2
overflow_cast-result-2 c = let is = biased_to_low c.args.word c.requires (omega arith) c.if-word-eq0-3.false in omega (arith, is.1)

pub returns : goal.returns
returns c = (biased_to_low c.args.word c.requires (omega arith) c.if-word-eq0-3.false).2
