use Rattle.std.proofs.Common.{sym, ◌∙◌}
use Rattle.outcome_search.proofs.Stepping.{none_where_spent, none_where_none, next_is, found_next}
use Rattle.outcome_search.proofs.moves.step.Goals as goal

pub returns-then-is_any_spent-clause-next : goal.returns-then-is_any_spent-clause-next
returns-then-is_any_spent-clause-next c =
    none_where_spent c.args.fuel c.args.steps c.args.t c.args.machine.now (sym c.is_any_spent.ensures ∙ c.if-is_any_spent.true)

pub returns-then-not-branch-clause-next : goal.returns-then-not-branch-clause-next
returns-then-not-branch-clause-next c =
    none_where_none c.args.fuel c.args.steps c.args.t c.args.machine.now (sym c.is_any_spent.ensures ∙ c.if-is_any_spent.false)
    (sym c.in_ok-go.ensures.made ∙ c.if-not-branch.true)

pub returns-then-not-branch-clause-found : goal.returns-then-not-branch-clause-found
returns-then-not-branch-clause-found c =
    let m = c.args.machine.now in
    found_next m.program c.args.fuel c.args.steps c.args.t m c.go.new.machine c.requires.some c.requires.found c.in_ok-go.ensures.machine

pub words_of-requires : goal.words_of-requires
words_of-requires c =
    let m = c.args.machine.now in
    let found =
    found_next m.program c.args.fuel c.args.steps c.args.t m c.go.new.machine c.requires.some c.requires.found c.in_ok-go.ensures.machine in
    record { reached = found.reached; untouched = found.untouched }

pub returns : goal.returns
returns c =
    let m = c.args.machine.now in
    let found =
    found_next m.program c.args.fuel c.args.steps c.args.t m c.go.new.machine c.requires.some c.requires.found c.in_ok-go.ensures.machine in
    record {
      next = (next_is c.args.fuel c.args.steps c.args.t m c.go.new.machine c.in_ok-words.words.items
          (sym c.is_any_spent.ensures ∙ c.if-is_any_spent.false) (sym c.in_ok-go.ensures.made ∙ c.if-not-branch.false) c.in_ok-go.ensures.machine
          c.in_ok-words.ensures.words);
      again = record {
        machine = c.go.new.machine;
        kept = (found, c.is_sound.ensures);
        numbers = c.in_ok-words.ensures.numbers;
        words = sym c.in_ok-words.ensures.words;
      };
      found = found;
    }
