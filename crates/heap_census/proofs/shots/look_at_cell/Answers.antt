use Rattle.std.proofs.Common.{◌≡◌, Option, Some, refl, sym, ap, ◌∙◌, subst}
use Rattle.mark_word.specs.declared.mark.MarkForm.{MarkForm}
use Rattle.mark_word.specs.Mark.{read_mark}
use Rattle.core_world.specs.declared.word_id.WordId.TheVariants.{Mark}
use Rattle.core_world.specs.Clauses.WordForms.{IsMark}
use Rattle.core_world.specs.Trees.LookSteps.{look_at_named}
use Rattle.heap_table.proofs.Forms.{found_formed}
use Rattle.heap_table.proofs.StepsLeft.{AreLeft, all_left, can_make, step_made, left_as}
use Rattle.heap_census.specs.inner.ShotParts.{IsLater, cell_at, look_at_cell}
use Rattle.heap_census.proofs.Later.{load_later, load_settled, later_than}
use Rattle.heap_census.proofs.shots.look_at_cell.Goals as goal
use Rattle.heap_census.proofs.shots.look_at_cell.Goals.{In-Some}

pub load-mark-requires : goal.load-mark-requires
load-mark-requires c = can_make (all_left c.requires.heap c.requires.due) refl refl refl tt

-- the word that is loaded has a form
form : (c : In-Some) → read_mark c.load-mark.result ≡ Some c.in-Some.form
form c = sym c.mark_of_word.ensures ∙ c.in-Some.is

-- and by it the rest is left
loaded : (c : In-Some) → AreLeft c.args.heap.now c.args.call.now.task c.args.pass.now
    (look_at_cell c.args.call.now c.args.heap.now.heap.shape c.args.object) c.load-mark.new.pass
    (look_at_named (Some c.in-Some.form) c.args.call.now c.args.heap.now.heap.shape c.args.object)
loaded c = left_as (step_made (all_left c.requires.heap c.requires.due) refl refl refl c.load-mark.ensures)
    (ap (λ (f : Option MarkForm). look_at_named f c.args.call.now c.args.heap.now.heap.shape c.args.object) (form c))

pub look_at_named-requires-clause-due : goal.look_at_named-requires-clause-due
look_at_named-requires-clause-due c = (loaded (goal.at.look_at_named-requires-clause-due c).In-Some).due

later : (c : In-Some) → IsLater c.args.pass.now.known c.load-mark.new.pass.known
later c = load_later c.args.call.now (Mark c.args.object) c.requires.heap c.requires.reached c.load-mark.ensures

pub look_at_named-requires-clause-reached : goal.look_at_named-requires-clause-reached
look_at_named-requires-clause-reached c = (later (goal.at.look_at_named-requires-clause-reached c).In-Some).reached ∙ c.requires.reached

pub unreachable-requires : goal.unreachable-requires
unreachable-requires c =
    subst (IsMark c.args.heap.now.heap.shape) (sym c.mark_of_word.ensures ∙ c.in-None.is) (found_formed _ _ _ _ _ c.load-mark.ensures)

pub returns-clause-run : goal.returns-clause-run
returns-clause-run c = (loaded (goal.at.returns-clause-run c).In-Some).whole _ _ c.look_at_named.ensures.run

pub returns-clause-later : goal.returns-clause-later
returns-clause-later c = later_than (later (goal.at.returns-clause-later c).In-Some) c.look_at_named.ensures.later

pub returns-clause-cell : goal.returns-clause-cell
returns-clause-cell c = λ l since.
    let a = c.args in
    let now = later_than c.look_at_named.ensures.later since in
    let word = load_settled a.call.now (Mark a.object) c.requires.heap c.requires.reached c.load-mark.ensures l now in
    ap (λ (f : Option MarkForm). cell_at f a.heap.now.heap.shape a.object l) (ap read_mark word ∙ form (goal.at.returns-clause-cell c).In-Some)
    ∙ c.look_at_named.ensures.cell l since
