-- Each step of the walk is the next one.
use Rattle.std.proofs.Common.{◌≡◌, ℕ, Bool, false, List, ◌∷◌, refl, sym, ap, None, subst}
use Rattle.mark_word.specs.Safe.{read_safe}
use Rattle.mark_word.specs.Mark.{read_mark}
use Rattle.mark_word.specs.Hold.{read_hold}
use Rattle.mark_word.specs.Wait.{read_wait}
use Rattle.plain_monitor.specs.declared.entry.Path.TheVariants.{StackFirst}
use Rattle.core_world.specs.declared.word_id.WordId.TheVariants.{Mark, Displaced}
use Rattle.core_world.specs.declared.stage.Stage.TheVariants.{Settled}
use Rattle.core_world.specs.Due.{steps_due, IsNext}
use Rattle.core_world.specs.Steps.{is_idle}
use Rattle.core_world.specs.Trees.Calls.{steps_of}
use Rattle.core_world.specs.Trees.LockSteps.{displace_plan, seize_plan, hold_plan, log_enter_plan, raise_stamp_plan, let_go_plan, clear_plan}
use Rattle.core_world.specs.Trees.SafepointSteps.{publish_log_plan, stop_plan}
use Rattle.core_world.specs.Trees.Plans.{load}
use Rattle.core_world.specs.declared.plan.LocalEffect.TheVariants.{Unchanged}
use Rattle.core_world.specs.declared.plan.StepPlan.{StepPlan}
use Rattle.core_world.specs.Threads.ThreadView.{ThreadView}
use Rattle.heap_table.specs.Kept.{LogHasRoom}
use Rattle.heap_table.specs.Seen.{HeapSeen, PassSeen}
use Rattle.heap_table.specs.Stepping.{CanStep, HasStepped}
use Rattle.heap_tests.specs.Known.{two}
use Rattle.heap_tests.specs.Walk.{after, resumed, entering, entered, leaving, read, left, stopping, stopped, IsAt}
use Rattle.heap_tests.proofs.Known as known
use Rattle.heap_table.specs.Fresh.{IsStoppedPass}

pub enter_one : IsNext two 7 false (after resumed) (displace_plan entering Settled 0 0 1)
unfolding steps_due is_idle steps_of read_safe read_mark
enter_one = refl

pub enter_two : IsNext two 7 false (after ((displace_plan entering Settled 0 0 1, 0) ∷ resumed)) (seize_plan entering 0 1 1 0)
unfolding steps_due is_idle steps_of read_safe read_mark
enter_two = refl

pub enter_three : IsNext two 7 false (after ((seize_plan entering 0 1 1 0, 1) ∷ (displace_plan entering Settled 0 0 1, 0) ∷ resumed))
    (hold_plan entering 0 1 1 0 StackFirst)
unfolding steps_due is_idle steps_of read_safe read_mark read_hold
enter_three = refl

pub enter_four : IsNext two 7 false (after ((hold_plan entering 0 1 1 0 StackFirst, 0) ∷ (seize_plan entering 0 1 1 0, 1)
    ∷ (displace_plan entering Settled 0 0 1, 0) ∷ resumed)) (log_enter_plan entering 1 StackFirst)
unfolding steps_due is_idle steps_of read_safe read_mark read_hold read_wait
enter_four = refl

pub leave_one : IsNext two 7 false (after entered) (raise_stamp_plan leaving 1 2)
unfolding steps_due is_idle steps_of read_safe read_mark read_hold read_wait
leave_one = refl

pub leave_two : IsNext two 7 false (after ((raise_stamp_plan leaving 1 2, 0) ∷ entered)) (load leaving (Displaced 0 0))
unfolding steps_due is_idle steps_of read_safe read_mark read_hold read_wait
leave_two = refl

pub leave_three : IsNext two 7 false (after ((load leaving (Displaced 0 0), 1) ∷ (raise_stamp_plan leaving 1 2, 0) ∷ entered)) (load leaving (Mark 1))
unfolding steps_due is_idle steps_of read_safe read_mark read_hold read_wait
leave_three = refl

pub leave_four : IsNext two 7 false (after read) (let_go_plan leaving 1 4096 1 0)
unfolding steps_due is_idle steps_of read_safe read_mark read_hold read_wait
leave_four = refl

pub leave_five : IsNext two 7 false (after ((let_go_plan leaving 1 4096 1 0, 4096) ∷ read)) (clear_plan (record leaving { unfinished = None }) 0 0)
unfolding steps_due is_idle steps_of read_safe read_mark read_hold read_wait
leave_five = refl

pub stop_one : IsNext two 7 false (after left) (publish_log_plan stopping 0 2)
unfolding steps_due is_idle steps_of read_safe read_mark read_hold read_wait
stop_one = refl

pub stop_two : IsNext two 7 false (after ((publish_log_plan stopping 0 2, 0) ∷ left)) (stop_plan stopping 0)
unfolding steps_due is_idle steps_of read_safe read_mark read_hold read_wait
stop_two = refl

pub is_still : (h : HeapSeen) (p : PassSeen) → IsAt h stopped p → IsStoppedPass h 0 p
unfolding steps_due is_idle steps_of read_safe read_mark read_hold read_wait
is_still h p a =
    record {
      is_of = a.knows.is_of;
      thread = ap (λ (k : ThreadView). k.thread) a.knows.known;
      stopped = ap (λ (k : ThreadView). k.running) a.knows.known;
      quiet = ap (λ (k : ThreadView). k.requesting) a.knows.known;
    }

-- the pass after one step more
pub goes : (h : HeapSeen) (p q : PassSeen) (steps : List (StepPlan × ℕ)) (plan : StepPlan) (n m : ℕ)
    → IsAt h steps p → HasStepped h p q plan n → n ≡ m → IsAt h ((plan, m) ∷ steps) q
goes h p q steps plan n m a s e = record { knows = known.goes h (after steps) p q plan n m a.knows s e; plain = a.plain }

-- it can make the step that is the next one, which takes no shot
pub can : (h : HeapSeen) (p : PassSeen) (steps : List (StepPlan × ℕ)) (plan : StepPlan) → IsAt h steps p → IsNext two 7 false (after steps) plan
    → LogHasRoom plan.note (after steps).log 86 → plan.own ≡ Unchanged → CanStep h p plan
can h p steps plan a next room own =
    known.can h (after steps) p plan a.knows (subst (λ (b : Bool). IsNext two 7 b (after steps) plan) (sym a.plain) next) room own
