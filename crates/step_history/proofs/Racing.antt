-- Calls of small heaps that miss an exchange, by turns: each has its steps up to one before the exchange, another thread makes steps, and the exchange
-- misses. All is found by computing.
use Rattle.std.proofs.Common.{◌≡◌, ℕ, ◌<◌, true, List, [], ◌∷◌, ◌++◌, map, replicate, reverse, Option, Some, None, is_some, Ok}
use Rattle.std.proofs.Common.{refl, sym, ap, arith, nat_lt}
use Rattle.std.proofs.lemmas.Bool.Decides.{nat_tests}
use Rattle.std.proofs.lemmas.Option.{same_Some}
use Rattle.mark_word.specs.declared.mark.MarkForm.TheVariants.{Neutral, Locked, Inflated}
use Rattle.mark_word.specs.Mark.{mark_of, read_mark}
use Rattle.mark_word.specs.Safe.{read_safe}
use Rattle.mark_word.specs.Owner.{read_owner}
use Rattle.mark_word.specs.Wait.{read_wait}
use Rattle.mark_word.specs.Hold.{read_hold}
use Rattle.core_world.specs.declared.answer.StackOut.TheVariants.{Not}
use Rattle.core_world.specs.declared.answer.Progress.TheVariants.{Pending}
use Rattle.core_world.specs.declared.answer.PendingCause.TheVariants.{Raced}
use Rattle.core_world.specs.declared.heap_call.HeapCall.{HeapCall}
use Rattle.core_world.specs.declared.heap_call.HeapCall.TheVariants.{Enter, Exit, Wait, Notify, NotifyAll, Hash, Dump, Check, Resume, Request, StackExit}
use Rattle.core_world.specs.declared.heap_call.Operation.TheVariants as op
use Rattle.core_world.specs.declared.plan.StepPlan.{StepPlan}
use Rattle.core_world.specs.Due.{steps_due}
use Rattle.core_world.specs.Opening.{opening}
use Rattle.core_world.specs.Steps.{is_idle, world_after}
use Rattle.core_world.specs.Threads.ThreadView.{Local, Start, StepMade, local_of, start_of}
use Rattle.core_world.specs.Trees.Calls.{steps_of}
use Rattle.core_world.specs.Trees.LockSteps.{stack_exit_steps}
use Rattle.core_world.specs.Trees.Operations.{enter_steps, exit_steps, wait_steps, notify_steps, notify_all_steps, hash_steps, dump_steps, check_steps}
use Rattle.core_world.specs.Trees.Operations.{lone_context}
use Rattle.core_world.specs.Trees.Plans.{call_context}
use Rattle.core_world.specs.Trees.SafepointSteps.{request_steps, released_word, running_too}
use Rattle.core_world.specs.Trees.StepTree.{StepTree, done, unreachable, step}
use Rattle.core_world.specs.Words.Shape.{ring_bits}
use Rattle.core_world.specs.World.{World}
use Rattle.core_calls.specs.Paths.{made, IsPath}
use Rattle.core_law.specs.Logic.{Heap}
use Rattle.core_law.specs.Reached.{IsReachable}
use Rattle.step_history.specs.Examples.{biased, world_of, enters}
use Rattle.step_history.specs.Leads.{Leads, stays, goes, steps_by}
use Rattle.step_history.specs.Overtaken.{IsCallOf}
use Rattle.step_history.specs.Race.{rivals}
use Rattle.step_history.specs.Turns.{next_of, after_turn, after_turns, all_step}
use Rattle.step_history.proofs.Exemplified.{by_turns}
use Rattle.step_history.proofs.Turned.{next_is, both}

abbrev Steps : Type 0
Steps = List (ℕ × StepMade)

-- THE STEPS OF TURNS, the newest first, after these
abbrev with_step : Option StepPlan → ℕ → World → Steps → Steps
with_step None t w ys = ys
with_step (Some p) t w ys = (t, made p (w.words p.at)) ∷ ys

abbrev steps_from : Steps → List (ℕ × HeapCall) → World → Steps
steps_from ys [] w = ys
steps_from ys (x ∷ xs) w = steps_from (with_step (next_of w x.0 x.1) x.0 w ys) xs (after_turn (next_of w x.0 x.1) x.0 w)

turns_listed : (w : World) (ys : Steps) (v : World) (turns : List (ℕ × HeapCall)) → Leads w ys v → all_step turns v ≡ true
    → Leads w (steps_from ys turns v) (after_turns turns v)
turns_listed w ys v [] before h = before
turns_listed w ys v (x ∷ turns) before h =
    let a = both (nat_lt x.0 v.shape.threads) (is_some (next_of v x.0 x.1)) (all_step turns (after_turn (next_of v x.0 x.1) x.0 v)) h in
    by_step (next_of v x.0 x.1) refl a.1 a.2 (λ p zs leads all. turns_listed w zs (world_after p x.0 v) turns leads all) (grind (arith, nat_tests, a.0))
  where
    by_step : (q : Option StepPlan) → next_of v x.0 x.1 ≡ q → is_some q ≡ true → all_step turns (after_turn q x.0 v) ≡ true
        → ((p : StepPlan) (zs : Steps) → Leads w zs (world_after p x.0 v) → all_step turns (world_after p x.0 v) ≡ true
        → Leads w (steps_from zs turns (world_after p x.0 v)) (after_turns turns (world_after p x.0 v)))
        → x.0 < v.shape.threads
        → Leads w (steps_from (with_step q x.0 v ys) turns (after_turn q x.0 v)) (after_turns turns (after_turn q x.0 v))
    by_step None is there all more within = absurd (cc there)
    by_step (Some p) is there all more within =
        more p ((x.0, made p (v.words p.at)) ∷ ys) (goes ys v x.0 p before within (next_is v x.0 x.1 p is)) all

-- THE PATH of these found words, the oldest first
abbrev walk : {A : Type 0} → StepTree A → List ℕ → List StepMade → Option (List StepMade × A)
walk (done a) ns sofar = Some (sofar, a)
walk unreachable ns sofar = None
walk (step p f) [] sofar = None
walk (step p f) (n ∷ ns) sofar = walk (f n) ns (made p n ∷ sofar)

walked : {A : Type 0} (d : StepTree A) (ns : List ℕ) (sofar ms : List StepMade) (a : A) → walk d ns sofar ≡ Some (ms, a) → IsPath d sofar ms a
walked {A} (done b) ns sofar ms a e =
    let same : (sofar, b) ≡ (ms, a) = same_Some (sofar, b) (ms, a) e in
    (ap (λ (x : List StepMade × A). x.0) (sym same), ap (λ (x : List StepMade × A). x.1) (sym same))
walked unreachable ns sofar ms a e = absurd (cc e)
walked (step p f) [] sofar ms a e = absurd (cc e)
walked (step p f) (n ∷ ns) sofar ms a e = (n, walked (f n) ns (made p n ∷ sofar) ms a e)

-- A CALL of thread 0, by these turns
abbrev found_by : Steps → List ℕ
found_by xs = reverse (map (λ (m : StepMade). m.found) (steps_by 0 xs))

abbrev call_made : {A : Type 0} (w : World) (turns : List (ℕ × HeapCall)) (d : StepTree A) (a : A) → all_step turns w ≡ true
    → walk d (found_by (steps_from [] turns w)) [] ≡ Some (steps_by 0 (steps_from [] turns w), a) → IsCallOf 0 d (steps_from [] turns w) a
call_made w turns d a all path =
    record {
      first = w;
      last = after_turns turns w;
      leads = turns_listed w [] w turns stays all;
      path = walked d (found_by (steps_from [] turns w)) [] (steps_by 0 (steps_from [] turns w)) a path;
    }

-- Where both threads are stopped, thread 1 resumes; so it does between the load of the safepoint word and its exchange.
abbrev resumes : ℕ → List (ℕ × HeapCall)
resumes t = replicate 2 (t, Resume)

abbrev between : ℕ → HeapCall → List (ℕ × HeapCall)
between n task = replicate n (0, task) ++ resumes 1 ++ (0, task) ∷ []

-- the safepoint word where thread 0 runs, and where both do
abbrev one_runs : ℕ
one_runs = released_word 0

abbrev both_run : ℕ
both_run = running_too (read_safe one_runs) 1

abbrev start_at : Heap → List (ℕ × HeapCall) → Start
start_at heap before = start_of heap.start ((world_of heap before).known 0)

-- it can miss so where it begins with what its thread then knows
abbrev CanMiss : {A : Type 0} → Heap → (Start → StepTree A) → (ℕ → ℕ → A) → Type 0
CanMiss heap d answers =
    (expected : ℕ) × (found : ℕ) × (k : Start) × (xs : Steps) × (c : IsCallOf 0 (d k) xs (answers expected found)) × IsReachable heap c.first

misses : {A : Type 0} (heap : Heap) (before turns : List (ℕ × HeapCall)) (d : Start → StepTree A) (answers : ℕ → ℕ → A) (expected found : ℕ)
    → all_step before (opening heap.shape heap.start heap.biasing) ≡ true → all_step turns (world_of heap before) ≡ true
    → walk (d (start_at heap before)) (found_by (steps_from [] turns (world_of heap before))) []
    ≡ Some (steps_by 0 (steps_from [] turns (world_of heap before)), answers expected found)
    → CanMiss heap d answers
misses heap before turns d answers expected found begun all path = (
  expected,
  found,
  start_at heap before,
  steps_from [] turns (world_of heap before),
  call_made (world_of heap before) turns (d (start_at heap before)) (answers expected found) all path,
  by_turns heap before begun,
)

-- A REQUEST, by itself, and in a dump and a check
pub request_raced : (expected : ℕ) × (found : ℕ) × (xs : Steps) × (c : IsCallOf 0 (request_steps (lone_context Request) 0) xs (Pending (Raced expected found)))
    × IsReachable rivals c.first
unfolding steps_due is_idle steps_of read_safe
request_raced = (
  one_runs,
  both_run,
  steps_from [] (between 1 Request) (world_of rivals (resumes 0)),
  call_made (world_of rivals (resumes 0)) (between 1 Request) (request_steps (lone_context Request) 0) (Pending (Raced one_runs both_run)) refl refl,
  by_turns rivals (resumes 0) refl,
)

pub dump_raced : CanMiss rivals (λ k. dump_steps rivals.shape k) (λ e f. Ok (Pending (Raced e f)))
unfolding steps_due is_idle steps_of read_safe read_mark read_hold read_wait read_owner ring_bits
dump_raced =
    misses rivals (resumes 0) (between 1 Dump) (λ k. dump_steps rivals.shape k) (λ e f. Ok (Pending (Raced e f))) one_runs both_run refl refl refl

pub check_raced : CanMiss rivals (λ k. check_steps rivals.shape k) (λ e f. Pending (Raced e f))
unfolding steps_due is_idle steps_of read_safe read_mark read_hold read_wait read_owner ring_bits
check_raced =
    misses rivals (resumes 0) (between 1 Check) (λ k. check_steps rivals.shape k) (λ e f. Pending (Raced e f)) one_runs both_run refl refl refl

-- and in a revocation, where the thread has the object by its bias: the mark and the prototype are loaded first
pub wait_raced : CanMiss biased (λ k. wait_steps biased.shape k 0 0) (λ e f. Ok (Pending (Raced e f)))
unfolding steps_due is_idle steps_of read_safe read_mark read_hold read_wait read_owner ring_bits
wait_raced =
    misses biased (enters 0) (between 3 (Wait 0 0)) (λ k. wait_steps biased.shape k 0 0) (λ e f. Ok (Pending (Raced e f))) one_runs both_run refl refl refl

pub notify_raced : CanMiss biased (λ k. notify_steps biased.shape k 0 0) (λ e f. Ok (Pending (Raced e f)))
unfolding steps_due is_idle steps_of read_safe read_mark read_hold read_wait read_owner ring_bits
notify_raced =
    misses biased (enters 0) (between 3 (Notify 0 0)) (λ k. notify_steps biased.shape k 0 0) (λ e f. Ok (Pending (Raced e f))) one_runs both_run refl refl refl

pub notify_all_raced : CanMiss biased (λ k. notify_all_steps biased.shape k 0 0) (λ e f. Ok (Pending (Raced e f)))
unfolding steps_due is_idle steps_of read_safe read_mark read_hold read_wait read_owner ring_bits
notify_all_raced =
    misses biased (enters 0) (between 3 (NotifyAll 0 0)) (λ k. notify_all_steps biased.shape k 0 0) (λ e f. Ok (Pending (Raced e f)))
    one_runs both_run refl refl refl

-- A NEUTRAL MARK, which thread 1 exchanges as it enters
abbrev both_resume : List (ℕ × HeapCall)
both_resume = resumes 0 ++ resumes 1

pub enter_raced : CanMiss rivals (λ k. enter_steps rivals.shape k 0 0) (λ e f. Ok (Pending (Raced e f)))
unfolding steps_due is_idle steps_of read_safe read_mark read_hold read_wait read_owner ring_bits
enter_raced =
    misses rivals both_resume ((0, Enter 0 0) ∷ replicate 5 (1, Enter 0 0) ++ replicate 2 (0, Enter 0 0)) (λ k. enter_steps rivals.shape k 0 0)
    (λ e f. Ok (Pending (Raced e f))) (mark_of (Neutral 0 0)) (mark_of (Locked 1 0)) refl refl refl

pub hash_raced : CanMiss rivals (λ k. hash_steps rivals.shape k 0 0) (λ e f. Pending (Raced e f))
unfolding steps_due is_idle steps_of read_safe read_mark read_hold read_wait read_owner ring_bits
hash_raced =
    misses rivals both_resume (replicate 2 (0, Hash 0 0) ++ replicate 5 (1, Enter 0 0) ++ (0, Hash 0 0) ∷ []) (λ k. hash_steps rivals.shape k 0 0)
    (λ e f. Pending (Raced e f)) (mark_of (Neutral 0 0)) (mark_of (Locked 1 0)) refl refl refl

-- THE MARK OF A LOCK RECORD, which thread 1 exchanges to inflate the lock
abbrev owned : List (ℕ × HeapCall)
owned = enters 0 ++ resumes 1

abbrev inflates : ℕ → HeapCall → List (ℕ × HeapCall)
inflates n task = replicate n (0, task) ++ replicate 13 (1, Enter 0 0) ++ (0, task) ∷ []

pub exit_raced : CanMiss rivals (λ k. exit_steps k 0) (λ e f. Ok (Pending (Raced e f)))
unfolding steps_due is_idle steps_of read_safe read_mark read_hold read_wait read_owner ring_bits
exit_raced =
    misses rivals owned (inflates 5 (Exit 0)) (λ k. exit_steps k 0) (λ e f. Ok (Pending (Raced e f)))
    (mark_of (Locked 0 0)) (mark_of (Inflated 0)) refl refl refl

pub stack_exit_raced : (expected : ℕ) × (found : ℕ) × (k : Local) × (xs : Steps)
    × (c : IsCallOf 0 (stack_exit_steps (call_context (StackExit 0) op.Exit 0) k 0) xs (Not (Raced expected found)))
    × IsReachable rivals c.first
unfolding steps_due is_idle steps_of read_safe read_mark read_hold read_wait read_owner ring_bits
stack_exit_raced =
    let k : Local = local_of ((world_of rivals owned).known 0) in (
      mark_of (Locked 0 0),
      mark_of (Inflated 0),
      k,
      steps_from [] (inflates 3 (StackExit 0)) (world_of rivals owned),
      call_made (world_of rivals owned) (inflates 3 (StackExit 0)) (stack_exit_steps (call_context (StackExit 0) op.Exit 0) k 0)
          (Not (Raced (mark_of (Locked 0 0)) (mark_of (Inflated 0)))) refl refl,
      by_turns rivals owned refl,
    )
