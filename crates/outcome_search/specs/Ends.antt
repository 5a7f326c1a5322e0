-- How the machines end that a search finds.
use Rattle.std.specs.Prelude.{Bool, true, false, not, if◌then◌else◌, Option, Some, None}
use Rattle.std.specs.List.{list_all, list_any}
use Rattle.plain_monitor.specs.declared.entry.Ending.TheVariants.{Trap}
use Rattle.plain_machine.specs.declared.monitor_call.Mode.{Mode}
use Rattle.plain_machine.specs.declared.monitor_call.Mode.TheVariants as mode
use Rattle.plain_machine.specs.Machine.{PlainMachine, is_live, is_stuck}
use Rattle.outcome_search.specs.declared.ends.End.{End}
use Rattle.outcome_search.specs.declared.ends.End.TheVariants.{Spent, Stuck, Faulted, Ended}
use Rattle.outcome_search.specs.NextWords.{is_any_spent}

-- the thread has ended by a fault
abbrev pub has_trapped : Mode → Bool
has_trapped (mode.Ended (Trap fault index)) = true
has_trapped m = false

abbrev pub have_ended : PlainMachine → Bool
have_ended m = list_all (λ s. not (is_live s)) m.threads

abbrev pub has_any_trapped : PlainMachine → Bool
has_any_trapped m = list_any (λ s. has_trapped s.mode) m.threads

-- how it ends; none where it goes on. Where a thread is spent the machine isn't gone into, and where it is stuck no fault counts
abbrev pub end_of : PlainMachine → Option End
end_of m =
    if is_any_spent m then Some Spent
    else if is_stuck m then Some Stuck
    else if not (have_ended m) then None
    else if has_any_trapped m then Some Faulted
    else Some Ended
