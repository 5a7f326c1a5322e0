-- Dumps: runs whatever became of the pass's draft of a shot.
use Rattle.std.proofs.Common.{ℕ, zero, suc, ◌+◌, ◌==◌, Bool, true, false, List, [], length, Option, Result, Ok, Err, refl}
use Rattle.mark_word.specs.Mark.{read_mark}
use Rattle.core_world.specs.declared.answer.TooManyDumps.{TooManyDumps}
use Rattle.core_world.specs.declared.answer.Progress.{Progress}
use Rattle.core_world.specs.declared.answer.Progress.TheVariants.{Done, Pending}
use Rattle.core_world.specs.declared.word_id.WordId.TheVariants as id
use Rattle.core_world.specs.declared.stage.Stage.{Stage}
use Rattle.core_world.specs.declared.heap_call.HeapCall.{HeapCall}
use Rattle.core_world.specs.Trees.DeflateSteps.{deflate_monitor, deflate_steps}
use Rattle.core_world.specs.Trees.LookSteps.{look_at_named, look_at_objects, take_shot_steps}
use Rattle.core_world.specs.Trees.Operations.{dump_steps}
use Rattle.core_world.specs.Trees.Plans.{CallContext, load}
use Rattle.core_world.specs.Trees.StepTree.{StepTree, done, ◌>>=◌, ask, all_from}
use Rattle.core_world.specs.Threads.ThreadView.{ThreadView, Local, start_of}
use Rattle.core_world.specs.Words.Shape.{Shape, monitor_count}
use Rattle.heap_census.specs.ShotParts.{HasShot}
use Rattle.heap_table.specs.Parts.{HasMadeSteps}
use Rattle.heap_table.specs.Seen.{HeapSeen, PassSeen, IsOf}
use Rattle.heap_table.specs.Resting.{MayCall, Rests}
use Rattle.heap_table.proofs.Resting.{IsCallOf}
use Rattle.core_world.specs.Due.{Ran}
use Rattle.core_calls.proofs.shot.ShotsKept.{dump_shoots, dump_pends, dump_refuses}
use Rattle.lock_runtime.specs.LookParts.{HasDumped}
use Rattle.lock_runtime.specs.inner.LookParts.{numbered_dump}
use Rattle.lock_runtime.specs.Shots.{HasShots}
use Rattle.lock_runtime.proofs.After.{first_then, arm_first}

-- the pass without its draft
abbrev pub bare : PassSeen → PassSeen
bare p = record p { cut = []; cells = [] }

-- a pass is of its heap whatever its draft is
redrafted : (h : HeapSeen) (p : PassSeen) (cut : List ℕ) (cells : List (Option ℕ × ℕ)) → IsOf h p → IsOf h (record p { cut = cut; cells = cells })
redrafted h p cut cells i = record {
  table = i.table;
  room = i.room;
  within = i.within;
  home = i.home;
  classes = i.classes;
  first = i.first;
  threads = i.threads;
  objects = i.objects;
  real = i.real;
}

bare_of : (h : HeapSeen) (p : PassSeen) → IsOf h p → IsOf h (bare p)
bare_of h p i = redrafted h p [] [] i

of_bare : (h : HeapSeen) (p : PassSeen) → IsOf h (bare p) → IsOf h p
of_bare h p i = redrafted h (bare p) p.cut p.cells i

pub bare_call : (h : HeapSeen) (p : PassSeen) (t : HeapCall) → MayCall h p t → MayCall h (bare p) t
bare_call h p t c = record { rests = record { is_of = bare_of h p c.rests.is_of; over = c.rests.over }; may = c.may }

pub of_bare_rests : (h : HeapSeen) (p : PassSeen) → Rests h (bare p) → Rests h p
of_bare_rests h p rests = record { is_of = of_bare h p rests.is_of; over = rests.over }

module _ {A : Type 0} {h : HeapSeen} {d : StepTree A} {p q : PassSeen} {a : A} where
  pub dumped_of : HasMadeSteps h d (bare p) (bare q) a → HasDumped h d p q a
  dumped_of run = record { heap = of_bare h q run.heap; limit = run.limit; ran = run.ran }

  pub run_of : HasDumped h d p q a → HasMadeSteps h d (bare p) (bare q) a
  run_of run = record { heap = bare_of h q run.heap; limit = run.limit; cut = refl; cells = refl; ran = run.ran }

  pub bare_run : HasMadeSteps h d p q a → HasMadeSteps h d (bare p) (bare q) a
  bare_run run = run_of (record { heap = run.heap; limit = run.limit; ran = run.ran })

pub of_shot : {h : HeapSeen} {d : StepTree (Unit {0})} {p q : PassSeen} → HasShot h d p q → HasMadeSteps h d (bare p) (bare q) tt
of_shot {p = p} {q = q} run = run_of {p = p} {q = q} (record { heap = run.heap; limit = run.limit; ran = run.ran })

-- FIRST STEPS
all_first : (t : HeapCall) (i n : ℕ) (f : ℕ → StepTree (Unit {0})) → ((j : ℕ) → IsCallOf t (f j)) → IsCallOf t (all_from i n f)
all_first t i zero f each = tt
all_first t i (suc n) f each = first_then t (f i) _ (each i) (λ _. all_first t (i + 1) n f each)

pub first_shot : (e : CallContext) (s : Shape) → IsCallOf e.task (take_shot_steps e s)
first_shot e s = first_then e.task (look_at_objects e s) _
    (all_first e.task 0 (length s.objects) (λ o. ask (load e (id.Mark o)) >>= (λ mark. look_at_named (read_mark mark) e s o)) (λ o. refl))
    (λ _. first_then e.task (all_from 0 s.threads (λ t. ask (load e (id.Length t)) >>= (λ _. done tt))) _
    (all_first e.task 0 s.threads (λ t. ask (load e (id.Length t)) >>= (λ _. done tt)) (λ t. refl)) (λ _. refl))

pub first_deflation : (s : Shape) (e : CallContext) (stage : Stage) → IsCallOf e.task (deflate_steps s e stage)
first_deflation s e stage =
    arm_first e.task (length s.objects == 0) (done tt) (all_from 0 (monitor_count s) (λ m. deflate_monitor s e stage m)) tt
    (all_first e.task 0 (monitor_count s) (λ m. deflate_monitor s e stage m) (λ m. refl))

pub first_dump : (s : Shape) (requesting : Bool) (e : CallContext) (k : Local) (number : ℕ) → IsCallOf e.task (numbered_dump s requesting e k number)
first_dump s true e k number = refl
first_dump s false e k number = refl

-- THE SHOTS after a dump: one more, with the number that it answers, or the same
pub dump_has_shots : (h : HeapSeen) (k l : ThreadView) (r : Result (Progress ℕ) TooManyDumps)
    → Ran h.heap.shape h.heap.start (dump_steps h.heap.shape (start_of h.heap.start k)) k l r → HasShots k.shots l.shots r
dump_has_shots h k l (Ok (Done number)) ran = dump_shoots h.heap.shape h.heap.start h.heap.shape (start_of h.heap.start k) k l number refl ran
dump_has_shots h k l (Ok (Pending why)) ran = dump_pends h.heap.shape h.heap.start h.heap.shape (start_of h.heap.start k) k l why ran
dump_has_shots h k l (Err e) ran = dump_refuses h.heap.shape h.heap.start h.heap.shape (start_of h.heap.start k) k l e ran
