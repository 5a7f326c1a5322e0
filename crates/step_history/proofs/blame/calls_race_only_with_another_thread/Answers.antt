use Rattle.std.proofs.Common.{ℕ, Bool, [], Option, Ok}
use Rattle.plain_monitor.specs.declared.entry.Path.{Path}
use Rattle.core_world.specs.declared.answer.IllegalMonitorState.{IllegalMonitorState}
use Rattle.core_world.specs.declared.answer.StackOut.TheVariants.{Not}
use Rattle.core_world.specs.declared.answer.TooDeep.{TooDeep}
use Rattle.core_world.specs.declared.answer.TooManyDumps.{TooManyDumps}
use Rattle.core_world.specs.declared.answer.Progress.TheVariants.{Pending}
use Rattle.core_world.specs.declared.answer.PendingCause.TheVariants.{Raced}
use Rattle.core_world.specs.Trees.LockSteps.{stack_exit_steps}
use Rattle.core_world.specs.Trees.Operations.{enter_steps, exit_steps, wait_steps, notify_steps, notify_all_steps, hash_steps, dump_steps, check_steps}
use Rattle.core_world.specs.Trees.SafepointSteps.{resume_steps, request_steps}
use Rattle.core_calls.proofs.Paths.{missed_seen}
use Rattle.core_calls.proofs.Reasons.{Sees, ProgressSees, ResultSees}
use Rattle.core_calls.proofs.OtherCallsSay.{dump_sees, check_sees}
use Rattle.core_calls.proofs.enter_exit.EntersSay.{nothing_yet, enter_sees, exit_sees}
use Rattle.core_calls.proofs.enter_exit.LocksSay.{OutTells, stack_exit_says}
use Rattle.core_calls.proofs.safepoint.SafepointsSay.{Asked, ResumeTells, resume_tells, request_says}
use Rattle.core_calls.proofs.wait.WaitCallsSay.{wait_sees, notify_sees, notify_all_sees, hash_sees}
use Rattle.step_history.proofs.Blamed.{call_blamed}
use Rattle.step_history.proofs.blame.calls_race_only_with_another_thread.Goals as goal

pub returns-clause-enter : goal.returns-clause-enter
returns-clause-enter c s k o now t e f xs =
    call_blamed (ResultSees {A = Path} {E = TooDeep}) t (enter_steps s k o now) xs (Ok (Pending (Raced e f))) e f
    (λ ms sees. sees) (enter_sees s k o now)

pub returns-clause-exit : goal.returns-clause-exit
returns-clause-exit c k o t e f xs =
    call_blamed (ResultSees {A = Unit {0}} {E = IllegalMonitorState}) t (exit_steps k o) xs (Ok (Pending (Raced e f))) e f
    (λ ms sees. sees) (exit_sees k o)

pub returns-clause-wait : goal.returns-clause-wait
returns-clause-wait c s k o now t e f xs =
    call_blamed (ResultSees {A = Unit {0}} {E = IllegalMonitorState}) t (wait_steps s k o now) xs (Ok (Pending (Raced e f))) e f
    (λ ms sees. sees) (wait_sees s k o now)

pub returns-clause-notify : goal.returns-clause-notify
returns-clause-notify c s k o now t e f xs =
    call_blamed (ResultSees {A = Option ℕ} {E = IllegalMonitorState}) t (notify_steps s k o now) xs (Ok (Pending (Raced e f))) e f
    (λ ms sees. sees) (notify_sees s k o now)

pub returns-clause-notify_all : goal.returns-clause-notify_all
returns-clause-notify_all c s k o now t e f xs =
    call_blamed (ResultSees {A = ℕ} {E = IllegalMonitorState}) t (notify_all_steps s k o now) xs (Ok (Pending (Raced e f))) e f
    (λ ms sees. sees) (notify_all_sees s k o now)

pub returns-clause-hash : goal.returns-clause-hash
returns-clause-hash c s k o now t e f xs =
    call_blamed (ProgressSees {A = ℕ}) t (hash_steps s k o now) xs (Pending (Raced e f)) e f
    (λ ms sees. sees) (hash_sees s k o now)

pub returns-clause-dump : goal.returns-clause-dump
returns-clause-dump c s k t e f xs =
    call_blamed (ResultSees {A = ℕ} {E = TooManyDumps}) t (dump_steps s k) xs (Ok (Pending (Raced e f))) e f
    (λ ms sees. sees) (dump_sees s k)

pub returns-clause-check : goal.returns-clause-check
returns-clause-check c s k t e f xs =
    call_blamed (ProgressSees {A = Bool}) t (check_steps s k) xs (Pending (Raced e f)) e f
    (λ ms sees. sees) (check_sees s k)

pub returns-clause-resume : goal.returns-clause-resume
returns-clause-resume c p k t e f xs =
    call_blamed (ResumeTells p k) t (resume_steps p k) xs (Pending (Raced e f)) e f (λ ms tells. tells.1) (resume_tells p k [] nothing_yet)

pub returns-clause-request : goal.returns-clause-request
returns-clause-request c p u t e f xs =
    call_blamed (Asked p u Sees) t (request_steps p u) xs (Pending (Raced e f)) e f (λ ms tells. tells.1)
    (request_says p u Sees (λ expected found ms missed. missed_seen ms missed) (λ word ms asks there. tt) [] nothing_yet)

pub returns-clause-stack_exit : goal.returns-clause-stack_exit
returns-clause-stack_exit c p k o t e f xs =
    call_blamed (OutTells p k o) t (stack_exit_steps p k o) xs (Not (Raced e f)) e f (λ ms tells. tells.1) (stack_exit_says p k o [] nothing_yet)
