-- What a step has to log so that the stamps stay exact.
use Rattle.std.specs.Prelude.{◌≡◌, ℕ, ◌+◌, max, List}
use Rattle.plain_monitor.specs.declared.entry.Entry.{Entry}
use Rattle.plain_monitor.specs.declared.entry.Entry.TheVariants.{Enter, Resume}
use Rattle.plain_monitor.specs.declared.entry.Logged.{Logged}
use Rattle.plain_monitor.specs.History.{last_stamp}
use Rattle.plain_history.specs.HeldByLog.{IsLastLetGo}
use Rattle.core_world.specs.declared.plan.LogEffect.{LogEffect}
use Rattle.core_world.specs.declared.plan.LogEffect.TheVariants.{Log}
use Rattle.core_world.specs.declared.plan.StepPlan.{StepPlan}
use Rattle.core_world.specs.Steps.{stamp_by}
use Rattle.core_world.specs.World.{World, logs}

-- Where the entry takes o, its stamp, by the word that the step finds, is one more than the greater of its own log's last stamp and the last
-- one with which a thread let go of o.
abbrev pub StampsTaking : List (List Logged) → ℕ → ℕ → Entry → Type 0
StampsTaking logs found last (Enter o path) =
    (let_go : ℕ) → IsLastLetGo logs o let_go → stamp_by (Enter o path) found last ≡ max let_go last + 1
StampsTaking logs found last (Resume o) =
    (let_go : ℕ) → IsLastLetGo logs o let_go → stamp_by (Resume o) found last ≡ max let_go last + 1
StampsTaking logs found last _ = Unit {0}

abbrev pub StampsNote : List (List Logged) → ℕ → ℕ → LogEffect → Type 0
StampsNote logs found last (Log e) = StampsTaking logs found last e
StampsNote logs found last _ = Unit {0}

-- where the step that t makes by this plan logs that it takes an object, it does so with that stamp
abbrev pub TakesExactly : World → ℕ → StepPlan → Type 0
TakesExactly w t p = StampsNote (logs w) (w.words p.at) (last_stamp (w.known t).log) p.note
