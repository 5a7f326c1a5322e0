use Rattle.std.proofs.Common.{sym, ◌∙◌}
use Rattle.std.proofs.lemmas.Bool.{false≢true}
use Rattle.plain_monitor.specs.declared.entry.Entry.TheVariants.{Done, Spent}
use Rattle.sync_tests.proofs.Counted.{rises, done, spent, not_done, not_spent}
use Rattle.sync_tests.proofs.units.nineteen_units_are_just_enough.Goals as goal

pub returns : goal.returns
returns c =
    record {
      done = record { rises = rises Done; taken = done };
      spent = record { rises = rises Spent; taken = spent };
      not_done = λ h. false≢true (sym not_done ∙ h.taken);
      not_spent = λ h. false≢true (sym not_spent ∙ h.taken);
    }
