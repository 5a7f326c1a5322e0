use Rattle.std.proofs.Common.{false, [], ◌∷◌, refl}
use Rattle.mark_word.specs.Safe.{read_safe}
use Rattle.lock_policy.specs.declared.policy.Verdict.TheVariants.{Single}
use Rattle.core_world.specs.Steps.{known_along}
use Rattle.core_world.specs.Threads.ThreadView.{start_of}
use Rattle.core_world.specs.Trees.Operations.{lone_context, print_steps}
use Rattle.core_world.specs.Trees.Plans.{load, with_own}
use Rattle.core_world.specs.Trees.SafepointSteps.{reached_steps}
use Rattle.core_world.specs.Trees.StepTree.{ask}
use Rattle.core_world.specs.declared.answer.Progress.TheVariants.{Done}
use Rattle.core_world.specs.declared.plan.LocalEffect.TheVariants.{CountVerdict}
use Rattle.core_world.specs.declared.word_id.WordId.TheVariants.{Safepoint}
use Rattle.core_calls.proofs.Followed.{leads_ran, path_ran}
use Rattle.core_calls.proofs.OtherCallsSay.{print_says}
use Rattle.core_calls.proofs.Runs.{tells, did}
use Rattle.core_calls.proofs.Walkers.{small, running, asking, reached, counted, quiet}
use Rattle.core_calls.specs.Paths.{made}
use Rattle.core_world.specs.declared.heap_call.HeapCall.TheVariants as task
use Rattle.core_calls.proofs.witnesses.runs_leave_entries_and_counts.Goals as goal

pub returns-clause-one : goal.returns-clause-one
returns-clause-one z value =
    let ran = leads_ran small 0 (print_steps (start_of 0 running) value) (0 ∷ []) running tt refl in
    let told = tells (print_says (start_of 0 running) value) ran.1 in
    (running, ran.0, told, did _ _ _ running ran.0 told)

pub returns-clause-none : goal.returns-clause-none
unfolding read_safe
returns-clause-none z =
    let ran = leads_ran small 0 (reached_steps (lone_context task.Reached)) (reached ∷ []) asking (Done tt) refl in
    let told = tells quiet ran.1 in
    (asking, ran.0, told, did _ _ _ asking ran.0 told)

pub returns-clause-counts : goal.returns-clause-counts
returns-clause-counts z s start o now class =
    let p = with_own (CountVerdict class Single false) (load (lone_context (task.Enter o now)) Safepoint) in
    let ms = made p 0 ∷ [] in
    (ask p, running, known_along s start ms running, counted o now class, path_ran s start running (ask p) ms 0 (0, (refl, refl)), refl)
