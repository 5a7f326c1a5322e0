use Rattle.core_calls.proofs.Runs.{tells}
use Rattle.core_calls.proofs.OtherCallsSay.{resume_call_says}
use Rattle.core_calls.proofs.safepoint.Leaving.{resume_runs}
use Rattle.core_world.specs.Trees.Calls.{side_context}
use Rattle.core_world.specs.declared.heap_call.HeapCall.TheVariants as task
use Rattle.core_calls.proofs.safepoint.resume_logs_nothing.Goals as goal

pub returns-clause-steps : goal.returns-clause-steps
returns-clause-steps c = resume_call_says

pub returns-clause-run : goal.returns-clause-run
returns-clause-run c k shape start before after answer ran = tells (resume_call_says k) ran

pub returns-clause-leaves : goal.returns-clause-leaves
returns-clause-leaves c k shape start before after ran = resume_runs shape start (side_context task.Resume k) k.local before after ran
