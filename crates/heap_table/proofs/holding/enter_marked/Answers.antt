-- The ways go as far as they can, and then the enter ends.
use Rattle.std.proofs.Common.{◌∙◌}
use Rattle.heap_table.proofs.Late.{enter_keeps}
use Rattle.heap_table.proofs.holding.enter_marked.Goals as goal

pub end_enter-requires-clause-amid : goal.end_enter-requires-clause-amid
end_enter-requires-clause-amid c =
    let a = c.requires.amid in
    record {
      heap = a.heap;
      begun = a.begun;
      due = a.due;
      its = a.its;
      local = c.seize-how.ensures.start.local ∙ a.local;
      late = c.seize-how.ensures.leads a.heap a.begun a.due a.its a.local a.late;
    }

pub returns-clause-start : goal.returns-clause-start
returns-clause-start c = enter_keeps c.seize-how.result _ _ _ c.seize-how.ensures.start c.end_enter.ensures.start

pub returns-clause-leads : goal.returns-clause-leads
returns-clause-leads c = λ h o d its local late.
    c.end_enter.ensures.leads h o d its (c.seize-how.ensures.start.local ∙ local) (c.seize-how.ensures.leads h o d its local late)
