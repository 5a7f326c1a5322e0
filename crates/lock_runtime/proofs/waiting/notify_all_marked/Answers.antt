use Rattle.std.proofs.Common.{◌≡◌, Option, refl, sym, ◌∙◌}
use Rattle.mark_word.specs.declared.mark.MarkForm.{MarkForm}
use Rattle.mark_word.specs.Mark.{read_mark}
use Rattle.core_world.specs.Threads.ThreadView.{local_of}
use Rattle.core_world.specs.Trees.Operations.{notify_all_at}
use Rattle.heap_table.proofs.StepsLeft.{AreLeft, all_left, can_make, never, room_after}
use Rattle.lock_runtime.specs.inner.WaitParts.{marked_notify_all}
use Rattle.lock_runtime.proofs.Waits.{by_mark}
use Rattle.lock_runtime.proofs.waiting.notify_all_marked.Goals as goal
use Rattle.lock_runtime.proofs.waiting.notify_all_marked.Goals.{After-load-mark}

pub load-mark-requires : goal.load-mark-requires
load-mark-requires c = can_make (all_left c.requires.heap c.requires.due) refl refl refl tt

-- what is left once the mark is loaded, by its form
by_form : (c : After-load-mark) (f : Option MarkForm) → read_mark c.load-mark.result ≡ f → let a = c.args in let s = a.heap.now.heap.shape in
    AreLeft a.heap.now a.context.now.task a.pass.now (marked_notify_all s a.context.now (local_of a.pass.now.known) a.object) c.load-mark.new.pass
    (notify_all_at f s a.context.now (local_of c.load-mark.new.pass.known) a.object)
by_form c =
    let a = c.args in
    by_mark a.context.now a.object (λ f k. notify_all_at f a.heap.now.heap.shape a.context.now k a.object) c.requires.heap c.requires.due c.load-mark.ensures

pub notify_all_by-requires-clause-due : goal.notify_all_by-requires-clause-due
notify_all_by-requires-clause-due c =
    (by_form (goal.at.notify_all_by-requires-clause-due c).After-load-mark _ (sym c.mark_of_word.ensures ∙ c.in-Some.is)).due

pub notify_all_by-requires-clause-room : goal.notify_all_by-requires-clause-room
notify_all_by-requires-clause-room c = room_after c.load-mark.ensures refl refl refl c.requires.room

pub unreachable-requires : goal.unreachable-requires
unreachable-requires c = never (by_form (goal.at.unreachable-requires c).After-load-mark _ (sym c.mark_of_word.ensures ∙ c.in-None.is)) refl

pub returns : goal.returns
returns c = (by_form (goal.at.returns c).After-load-mark _ (sym c.mark_of_word.ensures ∙ c.in-Some.is)).whole _ _ c.notify_all_by.ensures
