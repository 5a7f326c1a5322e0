use Rattle.std.proofs.Common.{◌≡◌, [], length, drop, ap, ◌∙◌, arith}
use Rattle.std.proofs.lemmas.List.{length-set}
use Rattle.machine_words.proofs.ReadParts.{row_is}
use Rattle.machine_words.proofs.read_thread.read_row.Goals as goal

pub read_classes-requires : goal.read_classes-requires
read_classes-requires c =
    let made = c.args.register.now.made in
    let count : length c.clear.new.self.made ≡ length made = ap length c.clear.ensures.made ∙ length-set made c.args.t [] in
    omega (arith, count, c.requires)

pub returns-clause-made : goal.returns-clause-made
returns-clause-made c =
    let ws = c.args.words.now in
    (row_is c.args.t c.in_ok-count.count c.args.register.now.made c.clear.new.self.made c.read_classes.new.register.made (drop c.args.at.now ws)
    (drop c.take_word.new.at ws) (drop c.read_classes.new.at ws) c.requires c.in_ok-count.ensures.read c.clear.ensures.made
    c.in_ok-read_classes.ensures.made c.in_ok-read_classes.ensures.rest).0

pub returns-clause-rest : goal.returns-clause-rest
returns-clause-rest c =
    let ws = c.args.words.now in
    (row_is c.args.t c.in_ok-count.count c.args.register.now.made c.clear.new.self.made c.read_classes.new.register.made (drop c.args.at.now ws)
    (drop c.take_word.new.at ws) (drop c.read_classes.new.at ws) c.requires c.in_ok-count.ensures.read c.clear.ensures.made
    c.in_ok-read_classes.ensures.made c.in_ok-read_classes.ensures.rest).1
