use Rattle.std.proofs.Common.{◌≡◌, Option, Some, refl, sym, ap, ◌∙◌, subst}
use Rattle.mark_word.specs.declared.owner.OwnerForm.{OwnerForm}
use Rattle.mark_word.specs.Owner.{read_owner}
use Rattle.core_world.specs.declared.word_id.WordId.TheVariants.{Owner}
use Rattle.core_world.specs.Clauses.WordForms.{IsOwner}
use Rattle.core_world.specs.Locks.{owner_lock}
use Rattle.core_world.specs.Trees.LookSteps.{look_at_owner}
use Rattle.heap_table.proofs.Forms.{found_formed}
use Rattle.heap_table.proofs.StepsLeft.{AreLeft, all_left, can_make, step_made, left_as}
use Rattle.heap_census.specs.inner.ShotParts.{IsLater, cell_by, look_at_monitor}
use Rattle.heap_census.proofs.Later.{load_later, load_settled, later_than}
use Rattle.heap_census.proofs.shots.look_at_monitor.Goals as goal
use Rattle.heap_census.proofs.shots.look_at_monitor.Goals.{In-Some}

pub load-owner-requires : goal.load-owner-requires
load-owner-requires c = can_make (all_left c.requires.heap c.requires.due) refl refl refl tt

-- the word that is loaded has a form
form : (c : In-Some) → read_owner c.load-owner.result ≡ Some c.in-Some.form
form c = sym c.owner_of_word.ensures ∙ c.in-Some.is

-- and by it the rest is left
loaded : (c : In-Some) → AreLeft c.args.heap.now c.args.call.now.task c.args.pass.now (look_at_monitor c.args.call.now c.args.monitor)
    c.load-owner.new.pass (look_at_owner (Some c.in-Some.form) c.args.call.now)
loaded c = left_as (step_made (all_left c.requires.heap c.requires.due) refl refl refl c.load-owner.ensures)
    (ap (λ (f : Option OwnerForm). look_at_owner f c.args.call.now) (form c))

pub look_at_owner-requires-clause-due : goal.look_at_owner-requires-clause-due
look_at_owner-requires-clause-due c = (loaded (goal.at.look_at_owner-requires-clause-due c).In-Some).due

later : (c : In-Some) → IsLater c.args.pass.now.known c.load-owner.new.pass.known
later c = load_later c.args.call.now (Owner c.args.monitor) c.requires.heap c.requires.reached c.load-owner.ensures

pub look_at_owner-requires-clause-reached : goal.look_at_owner-requires-clause-reached
look_at_owner-requires-clause-reached c = (later (goal.at.look_at_owner-requires-clause-reached c).In-Some).reached ∙ c.requires.reached

pub unreachable-requires : goal.unreachable-requires
unreachable-requires c =
    subst (IsOwner c.args.heap.now.heap.shape) (sym c.owner_of_word.ensures ∙ c.in-None.is) (found_formed _ _ _ _ _ c.load-owner.ensures)

pub returns-clause-run : goal.returns-clause-run
returns-clause-run c = (loaded (goal.at.returns-clause-run c).In-Some).whole _ _ c.look_at_owner.ensures.run

pub returns-clause-later : goal.returns-clause-later
returns-clause-later c = later_than (later (goal.at.returns-clause-later c).In-Some) c.look_at_owner.ensures.later

pub returns-clause-cell : goal.returns-clause-cell
returns-clause-cell c = λ l since.
    let a = c.args in
    let now = later_than c.look_at_owner.ensures.later since in
    let word = load_settled a.call.now (Owner a.monitor) c.requires.heap c.requires.reached c.load-owner.ensures l now in
    ap (λ (f : Option OwnerForm). cell_by (owner_lock f) a.object l) (ap read_owner word ∙ form (goal.at.returns-clause-cell c).In-Some)
    ∙ c.look_at_owner.ensures.cell l since
