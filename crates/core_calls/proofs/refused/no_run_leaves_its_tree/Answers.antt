use Rattle.std.proofs.Common.{◌≡◌, true, List, [], ◌∷◌, map, sym, ap, ◌∙◌}
use Rattle.std.proofs.lemmas.List.{append_cancel_left}
use Rattle.plain_monitor.specs.declared.entry.Entry.{Entry}
use Rattle.plain_monitor.specs.declared.entry.Logged.{Logged}
use Rattle.core_world.specs.Steps.{known_along}
use Rattle.core_world.specs.Threads.ThreadView.{ThreadView, StepMade}
use Rattle.core_calls.proofs.Runs.{knows, did_none, did_one}
use Rattle.core_calls.proofs.Untold.{none_behind, none_before}
use Rattle.core_calls.specs.Stands.{stopped}
use Rattle.core_calls.proofs.refused.no_run_leaves_its_tree.Goals as goal

abbrev first_entry : Entry → List Logged → Entry
first_entry e [] = e
first_entry e (x ∷ xs) = x.entry

pub returns-clause-unstepped : goal.returns-clause-unstepped
returns-clause-unstepped z s start n p k so =
    let none = none_before k.steps so.steps so.added in let one = so.path.1.0 in absurd (cc (none, one))

pub returns-clause-answer : goal.returns-clause-answer
returns-clause-answer z s start a b k l differ so = differ so.path.1

pub returns-clause-run : goal.returns-clause-run
returns-clause-run z s start a b k l differ ran = differ (knows ran).path.1

pub returns-clause-known : goal.returns-clause-known
returns-clause-known z s start a k stopped so =
    let stays : true ≡ k.running = ap (λ (x : ThreadView). x.running) (so.known ∙ ap (λ (ms : List StepMade). known_along s start ms k) so.path.0) in
    absurd (cc (stays, stopped))

pub returns-clause-path : goal.returns-clause-path
returns-clause-path z n p k t = let none = none_before k.steps t.steps t.added in let one = t.says.1.0 in absurd (cc (none, one))

pub returns-clause-did : goal.returns-clause-did
returns-clause-did z e u check k l same so =
    let none = none_behind k.log so.new (sym same ∙ so.log) in
    let one = so.entries in
    let empty : [] ≡ e ∷ [] = ap (λ (xs : List Logged). map (λ (x : Logged). x.entry) xs) none ∙ one in
    absurd (cc empty)

pub returns-clause-none : goal.returns-clause-none
returns-clause-none z u check k l differ so = differ (did_none u check k l so)

pub returns-clause-one : goal.returns-clause-one
returns-clause-one z e u check k l x differ logs so =
    let one = did_one e u check k l so in differ (ap (first_entry e) (append_cancel_left k.log _ _ (sym logs ∙ one.1)))
