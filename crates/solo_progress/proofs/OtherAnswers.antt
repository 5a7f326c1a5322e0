-- Why no call of a thread that is left alone answers otherwise than is due: it makes one run, and that answers so.
use Rattle.std.proofs.Common.{◌≡◌, ◌≢◌, ℕ, ◌+◌, ◌||◌, not, Bool, true, false, List, [], ◌∷◌, Some, None, Result, Ok, sym, ap, ◌∙◌, subst}
use Rattle.mark_word.specs.Mark.{read_mark}
use Rattle.plain_monitor.specs.Objects.{PlainObject}
use Rattle.plain_monitor.specs.ValueWords.{read_value}
use Rattle.plain_monitor.specs.declared.entry.Path.{Path}
use Rattle.plain_monitor.specs.declared.entry.Value.{Value}
use Rattle.plain_monitor.specs.Monitor.{is_listed}
use Rattle.core_world.specs.declared.answer.PendingCause.{PendingCause}
use Rattle.core_world.specs.declared.answer.PendingCause.TheVariants.{Owned, Raced}
use Rattle.core_world.specs.declared.answer.Progress.TheVariants.{Done, Pending}
use Rattle.core_world.specs.declared.answer.StackOut.{StackOut}
use Rattle.core_world.specs.declared.answer.TooMany.{TooMany}
use Rattle.core_world.specs.declared.answer.Unguarded.{Unguarded}
use Rattle.core_world.specs.declared.act.Act.TheVariants.{Load}
use Rattle.core_world.specs.declared.heap_call.HeapCall.{HeapCall}
use Rattle.core_world.specs.declared.heap_call.HeapCall.TheVariants as task
use Rattle.core_world.specs.declared.heap_call.Operation.TheVariants as op
use Rattle.core_world.specs.declared.word_id.WordId.{WordId}
use Rattle.core_world.specs.declared.word_id.WordId.TheVariants.{Safepoint, Mark, Prototype, Slot, Waiting}
use Rattle.core_world.specs.Locks.{monitor_of, notified_at}
use Rattle.core_world.specs.Threads.ThreadView.{StepMade, local_of}
use Rattle.core_world.specs.Trees.Calls.{side_context}
use Rattle.core_world.specs.Trees.LockSteps.{stack_enter_steps, stack_exit_steps}
use Rattle.core_world.specs.Trees.Operations.{exit_steps, get_steps, put_steps, enter_steps, hash_steps, value_found, lone_context}
use Rattle.core_world.specs.Trees.Operations.{notify_steps, notify_all_steps, wait_steps, dump_steps, create_steps, check_steps}
use Rattle.core_world.specs.Trees.Plans.{call_context}
use Rattle.core_world.specs.Trees.SafepointSteps.{poll_steps, resume_steps, has_requester, request_steps, reached_steps}
use Rattle.core_world.specs.Trees.StepTree.{StepTree, done, unreachable, step}
use Rattle.core_world.specs.Words.Acts.{word_after}
use Rattle.core_world.specs.Valid.{Fits}
use Rattle.core_world.specs.Words.Forms.{waits_on, is_halted}
use Rattle.core_world.specs.Words.Names.{with_word}
use Rattle.core_world.specs.World.{World}
use Rattle.core_calls.specs.Paths.{made, IsPath}
use Rattle.core_calls.proofs.Runs.{on_path}
use Rattle.core_law.specs.Logic.{Heap}
use Rattle.solo_progress.specs.Alone.{AnswersAlone, FoundAlone}
use Rattle.solo_progress.specs.Answers.{is_other, is_told, who_in, guarded, created, hash_due, out_due, path_by, PendsWhere}
use Rattle.solo_progress.specs.LeftAlone.{IsLeftAlone, MayCallAlone, MayCall, start_in}
use Rattle.solo_progress.specs.Moves.{Moves, GetsThrough}
use Rattle.solo_progress.specs.StandsStill.{stands_still}
use Rattle.solo_progress.proofs.Exact.{enters_exactly}
use Rattle.solo_progress.proofs.Laws.{exits, gets, puts, hashes, notifies, notify_alls, dumps, checks, waits_first, waits_again, waits_told}
use Rattle.solo_progress.proofs.Laws.{stack_enters, stack_exits, requests, reaches, creates_itself, polls_itself, resumes_itself}
use Rattle.solo_progress.proofs.OneRun.{load_leaves}
use Rattle.solo_progress.proofs.Runs.{moves_found}
use Rattle.solo_progress.proofs.Worlds.{no_mark_0, prototype_some, who_is_owner}

-- ONE RUN. Two paths whose steps found what those before them left of the same words are one, so that they have one answer.
module _ {A : Type 0} (f : WordId → ℕ) where
  -- the steps up to here found it, too
  found_before : (d : StepTree A) (sofar ms : List StepMade) (a : A) → IsPath d sofar ms a → FoundAlone f ms → FoundAlone f sofar
  found_before (done b) sofar ms a path found = subst (FoundAlone f) path.0 found
  found_before unreachable sofar ms a path found = absurd path
  found_before (step p g) sofar ms a path found = (found_before (g path.0) (made p path.0 ∷ sofar) ms a path.1 found).1

  one_answer : (d : StepTree A) (sofar ms ns : List StepMade) (a b : A) → IsPath d sofar ms a → FoundAlone f ms
      → IsPath d sofar ns b → FoundAlone f ns → a ≡ b
  one_answer (done c) sofar ms ns a b path found other too = path.1 ∙ sym other.1
  one_answer unreachable sofar ms ns a b path found other too = absurd path
  one_answer (step p g) sofar ms ns a b path found other too =
      let here = (found_before (g path.0) (made p path.0 ∷ sofar) ms a path.1 found).0 in
      let there = (found_before (g other.0) (made p other.0 ∷ sofar) ns b other.1 too).0 in
      let same : other.0 ≡ path.0 = there ∙ sym here in
      one_answer (g path.0) (made p path.0 ∷ sofar) ms ns a b path.1 found
      (subst (λ n. IsPath (g n) (made p n ∷ sofar) ns b) same other.1) too

-- so where P holds of the answer of a thread's run, this answer isn't one of which P doesn't hold: of another run, or of all paths
module _ {A : Type 0} {heap : Heap} {w : World} {t : ℕ} {call : HeapCall} {d : StepTree A} {P : A → Type 0} where
  not_so : GetsThrough heap w t call d P → (x : A) → (P x → ⊥) → GetsThrough heap w t call d (λ a. a ≡ x) → ⊥
  not_so g x wrong h =
      let found = (moves_found w t g.steps g.last g.moves).found in
      let too = (moves_found w t h.steps h.last h.moves).found in
      wrong (subst P (one_answer w.words d [] g.steps h.steps g.answer h.answer g.path found h.path too ∙ h.says) g.says)

  never_so : GetsThrough heap w t call d P → (x : A) → (P x → ⊥) → AnswersAlone w.words d (λ a. a ≡ x) → ⊥
  never_so g x wrong says =
      let found = (moves_found w t g.steps g.last g.moves).found in
      let is = on_path (λ ms a. FoundAlone w.words ms → a ≡ x) d [] g.steps g.answer says.by g.path found in
      wrong (subst P is g.says)

not_itself : (b : Bool) → not b ≡ b → ⊥
not_itself true h = absurd (cc h)
not_itself false h = absurd (cc h)

opposed : (b : Bool) → b ≡ true → b ≡ false → ⊥
opposed b h g = absurd (cc (h, g))

pends_for : (b : Bool) (why : PendingCause) → PendsWhere {A = Path} b (Pending why) → b ≡ true
pends_for b (Owned word) h = h
pends_for b _ h = absurd h

-- ANSWERS
pub no_exit : (heap : Heap) (w : World) (objects : List PlainObject) (t o : ℕ) (why : PendingCause)
    → MayCallAlone heap w objects t (task.Exit o)
    → GetsThrough heap w t (task.Exit o) (exit_steps (start_in w t) o) (λ a. a ≡ Ok (Pending why)) → ⊥
no_exit heap w objects t o why ready =
    not_so (exits heap w objects t o ready) (Ok (Pending why)) (λ p. p.1)

pub no_get : (heap : Heap) (w : World) (objects : List PlainObject) (t o slot : ℕ) (answer : Result Value Unguarded)
    → MayCallAlone heap w objects t (task.Get o slot)
    → answer ≢ guarded (start_in w t) o (value_found (read_value (w.words (Slot o slot))))
    → GetsThrough heap w t (task.Get o slot) (get_steps (start_in w t) o slot) (λ a. a ≡ answer) → ⊥
no_get heap w objects t o slot answer ready differs =
    not_so (gets heap w objects t o slot ready) answer differs

pub no_put : (heap : Heap) (w : World) (objects : List PlainObject) (t o slot : ℕ) (value : Value)
    (answer : Result (Unit {0}) Unguarded)
    → MayCallAlone heap w objects t (task.Put o slot value) → answer ≢ guarded (start_in w t) o tt
    → GetsThrough heap w t (task.Put o slot value) (put_steps (start_in w t) o slot value) (λ a. a ≡ answer) → ⊥
no_put heap w objects t o slot value answer ready differs =
    not_so (puts heap w objects t o slot value ready) answer differs

pub no_hash : (heap : Heap) (w : World) (objects : List PlainObject) (t o now hash : ℕ)
    → MayCallAlone heap w objects t (task.Hash o now) → hash ≢ hash_due objects o (start_in w t)
    → GetsThrough heap w t (task.Hash o now) (hash_steps w.shape (start_in w t) o now) (λ a. a ≡ Done hash) → ⊥
no_hash heap w objects t o now hash ready differs =
    not_so (hashes heap w objects t o now ready) (Done hash) (λ p. differs (cc p))

pub no_notify : (heap : Heap) (w : World) (objects : List PlainObject) (t o now : ℕ) (why : PendingCause)
    → MayCallAlone heap w objects t (task.Notify o now)
    → GetsThrough heap w t (task.Notify o now) (notify_steps w.shape (start_in w t) o now)
    (λ a. a ≡ Ok (Pending why)) → ⊥
no_notify heap w objects t o now why ready =
    not_so (notifies heap w objects t o now ready) (Ok (Pending why)) (λ p. p.1)

pub no_notify_all : (heap : Heap) (w : World) (objects : List PlainObject) (t o now : ℕ) (why : PendingCause)
    → MayCallAlone heap w objects t (task.NotifyAll o now)
    → GetsThrough heap w t (task.NotifyAll o now) (notify_all_steps w.shape (start_in w t) o now)
    (λ a. a ≡ Ok (Pending why)) → ⊥
no_notify_all heap w objects t o now why ready =
    not_so (notify_alls heap w objects t o now ready) (Ok (Pending why)) (λ p. p.1)

pub no_dump : (heap : Heap) (w : World) (objects : List PlainObject) (t number : ℕ)
    → MayCallAlone heap w objects t task.Dump → number ≢ (start_in w t).shots + 1
    → GetsThrough heap w t task.Dump (dump_steps w.shape (start_in w t)) (λ a. a ≡ Ok (Done number)) → ⊥
no_dump heap w objects t number ready differs =
    not_so (dumps heap w objects t ready) (Ok (Done number)) (λ p. differs (cc p.1))

pub no_check : (heap : Heap) (w : World) (objects : List PlainObject) (t : ℕ)
    → MayCallAlone heap w objects t task.Check
    → GetsThrough heap w t task.Check (check_steps w.shape (start_in w t))
    (λ a. a ≡ Done (not (stands_still w.shape w.words))) → ⊥
no_check heap w objects t ready =
    not_so (checks heap w objects t ready) (Done (not (stands_still w.shape w.words))) (λ p. not_itself (stands_still w.shape w.words) (cc p))

-- pending though they are done
pub no_hash_pends : (heap : Heap) (w : World) (objects : List PlainObject) (t o now : ℕ) (why : PendingCause)
    → MayCallAlone heap w objects t (task.Hash o now)
    → GetsThrough heap w t (task.Hash o now) (hash_steps w.shape (start_in w t) o now) (λ a. a ≡ Pending why) → ⊥
no_hash_pends heap w objects t o now why ready =
    not_so (hashes heap w objects t o now ready) (Pending why) (λ p. absurd (cc p))

pub no_dump_pends : (heap : Heap) (w : World) (objects : List PlainObject) (t : ℕ) (why : PendingCause)
    → MayCallAlone heap w objects t task.Dump
    → GetsThrough heap w t task.Dump (dump_steps w.shape (start_in w t)) (λ a. a ≡ Ok (Pending why)) → ⊥
no_dump_pends heap w objects t why ready =
    not_so (dumps heap w objects t ready) (Ok (Pending why)) (λ p. absurd (cc (p.1)))

pub no_check_pends : (heap : Heap) (w : World) (objects : List PlainObject) (t : ℕ) (why : PendingCause)
    → MayCallAlone heap w objects t task.Check
    → GetsThrough heap w t task.Check (check_steps w.shape (start_in w t)) (λ a. a ≡ Pending why) → ⊥
no_check_pends heap w objects t why ready =
    not_so (checks heap w objects t ready) (Pending why) (λ p. absurd (cc p))

pub no_owned : (heap : Heap) (w : World) (objects : List PlainObject) (t o now : ℕ) (path : Path)
    → MayCallAlone heap w objects t (task.Enter o now) → is_other (monitor_of objects o).owner t ≡ true
    → GetsThrough heap w t (task.Enter o now) (enter_steps w.shape (start_in w t) o now) (λ a. a ≡ Ok (Done path)) → ⊥
no_owned heap w objects t o now path ready differs =
    not_so (enters_exactly heap w objects t o now ready) (Ok (Done path)) (λ p. opposed (is_other (monitor_of objects o).owner t) differs p.1)

pub no_free : (heap : Heap) (w : World) (objects : List PlainObject) (t o now : ℕ) (why : PendingCause)
    → MayCallAlone heap w objects t (task.Enter o now) → is_other (monitor_of objects o).owner t ≡ false
    → GetsThrough heap w t (task.Enter o now) (enter_steps w.shape (start_in w t) o now)
    (λ a. a ≡ Ok (Pending why)) → ⊥
no_free heap w objects t o now why ready differs =
    not_so (enters_exactly heap w objects t o now ready) (Ok (Pending why))
    (λ p. opposed (is_other (monitor_of objects o).owner t) (pends_for (is_other (monitor_of objects o).owner t) why p.1) differs)

pub no_begins : (heap : Heap) (w : World) (objects : List PlainObject) (t o now : ℕ)
    → MayCallAlone heap w objects t (task.Wait o now) → waits_on (w.known t).wait o ≡ false
    → GetsThrough heap w t (task.Wait o now) (wait_steps w.shape (start_in w t) o now) (λ a. a ≡ Ok (Done tt)) → ⊥
no_begins heap w objects t o now ready before =
    not_so (waits_first heap w objects t o now ready before) (Ok (Done tt)) (λ p. p.1)

pub no_goes_on : (heap : Heap) (w : World) (objects : List PlainObject) (t o now : ℕ)
    → MayCallAlone heap w objects t (task.Wait o now) → waits_on (w.known t).wait o ≡ true
    → is_told (w.words (Waiting t)) ≡ false
    → GetsThrough heap w t (task.Wait o now) (wait_steps w.shape (start_in w t) o now) (λ a. a ≡ Ok (Done tt)) → ⊥
no_goes_on heap w objects t o now ready before differs =
    not_so (waits_again heap w objects t o now ready before) (Ok (Done tt)) (λ p. opposed (is_told (w.words (Waiting t))) p.1.0 differs)

pub no_told : (heap : Heap) (w : World) (objects : List PlainObject) (t o now : ℕ) (why : PendingCause)
    → MayCallAlone heap w objects t (task.Wait o now) → is_listed (notified_at objects o) t ≡ true
    → (monitor_of objects o).owner ≡ None
    → GetsThrough heap w t (task.Wait o now) (wait_steps w.shape (start_in w t) o now) (λ a. a ≡ Ok (Pending why)) → ⊥
no_told heap w objects t o now why ready before differs =
    not_so (waits_told heap w objects t o now ready before differs) (Ok (Pending why)) (λ p. absurd (cc p))

pub no_create : (heap : Heap) (w : World) (t c : ℕ) (answer : Result ℕ TooMany)
    → MayCall heap w t (task.Create c) → answer ≢ created w.shape (start_in w t)
    → GetsThrough heap w t (task.Create c) (create_steps w.shape (start_in w t) c) (λ a. a ≡ answer) → ⊥
no_create heap w t c answer ready differs =
    not_so (creates_itself heap w t c ready) answer differs

pub no_poll : (heap : Heap) (w : World) (t : ℕ) → MayCall heap w t task.Poll
    → has_requester (w.words Safepoint) ≡ true
    → GetsThrough heap w t task.Poll (poll_steps (side_context task.Poll (start_in w t))) (λ a. a ≡ Done tt) → ⊥
no_poll heap w t ready differs =
    not_so (polls_itself heap w t ready) (Done tt) (λ p. opposed (has_requester (w.words Safepoint)) differs (sym p))

pub no_resume : (heap : Heap) (w : World) (t : ℕ) → MayCall heap w t task.Resume
    → is_halted (w.words Safepoint) ≡ true
    → GetsThrough heap w t task.Resume (resume_steps (side_context task.Resume (start_in w t)) (local_of (w.known t)))
    (λ a. a ≡ Done tt) → ⊥
no_resume heap w t ready differs =
    not_so (resumes_itself heap w t ready) (Done tt)
    (λ p. opposed (is_halted (w.words Safepoint) || has_requester (w.words Safepoint)) (ap (λ b. b || has_requester (w.words Safepoint)) differs) (sym p))

pub no_stack_enter : (heap : Heap) (w : World) (objects : List PlainObject) (t o mark : ℕ) (path : Path)
    → MayCallAlone heap w objects t (task.StackEnter o mark) → w.words (Mark o) ≡ mark
    → path ≢ path_by (read_mark mark)
    → GetsThrough heap w t (task.StackEnter o mark)
    (stack_enter_steps (lone_context (task.StackEnter o mark)) (local_of (w.known t)) o mark)
    (λ a. a ≡ Done path) → ⊥
no_stack_enter heap w objects t o mark path ready before differs =
    not_so (stack_enters heap w objects t o mark ready before) (Done path) (λ p. differs (cc p))

pub no_stack_exit : (heap : Heap) (w : World) (objects : List PlainObject) (t o : ℕ) (out : StackOut)
    → MayCallAlone heap w objects t (task.StackExit o) → out ≢ out_due (local_of (w.known t)) o w.words
    → GetsThrough heap w t (task.StackExit o)
    (stack_exit_steps (call_context (task.StackExit o) op.Exit o) (local_of (w.known t)) o)
    (λ a. a ≡ out) → ⊥
no_stack_exit heap w objects t o out ready differs =
    not_so (stack_exits heap w objects t o ready) out differs

pub no_request : (heap : Heap) (w : World) (objects : List PlainObject) (t : ℕ) (why : PendingCause)
    → MayCallAlone heap w objects t task.Request
    → GetsThrough heap w t task.Request (request_steps (lone_context task.Request) (w.known t).thread)
    (λ a. a ≡ Pending why) → ⊥
no_request heap w objects t why ready =
    not_so (requests heap w objects t ready) (Pending why) (λ p. p)

pub no_reached : (heap : Heap) (w : World) (objects : List PlainObject) (t : ℕ) (why : PendingCause)
    → MayCallAlone heap w objects t task.Reached
    → GetsThrough heap w t task.Reached (reached_steps (lone_context task.Reached)) (λ a. a ≡ Pending why) → ⊥
no_reached heap w objects t why ready =
    not_so (reaches heap w objects t ready) (Pending why) (λ p. p)

pub never_exit : (heap : Heap) (w : World) (objects : List PlainObject) (t o : ℕ) (why : PendingCause)
    → MayCallAlone heap w objects t (task.Exit o)
    → AnswersAlone w.words (exit_steps (start_in w t) o) (λ a. a ≡ Ok (Pending why)) → ⊥
never_exit heap w objects t o why ready =
    never_so (exits heap w objects t o ready) (Ok (Pending why)) (λ p. p.1)

pub never_get : (heap : Heap) (w : World) (objects : List PlainObject) (t o slot : ℕ)
    (answer : Result Value Unguarded)
    → MayCallAlone heap w objects t (task.Get o slot)
    → answer ≢ guarded (start_in w t) o (value_found (read_value (w.words (Slot o slot))))
    → AnswersAlone w.words (get_steps (start_in w t) o slot) (λ a. a ≡ answer) → ⊥
never_get heap w objects t o slot answer ready differs =
    never_so (gets heap w objects t o slot ready) answer differs

pub never_put : (heap : Heap) (w : World) (objects : List PlainObject) (t o slot : ℕ) (value : Value)
    (answer : Result (Unit {0}) Unguarded)
    → MayCallAlone heap w objects t (task.Put o slot value) → answer ≢ guarded (start_in w t) o tt
    → AnswersAlone w.words (put_steps (start_in w t) o slot value) (λ a. a ≡ answer) → ⊥
never_put heap w objects t o slot value answer ready differs =
    never_so (puts heap w objects t o slot value ready) answer differs

pub never_create : (heap : Heap) (w : World) (t c : ℕ) (answer : Result ℕ TooMany)
    → MayCall heap w t (task.Create c) → answer ≢ created w.shape (start_in w t)
    → AnswersAlone w.words (create_steps w.shape (start_in w t) c) (λ a. a ≡ answer) → ⊥
never_create heap w t c answer ready differs =
    never_so (creates_itself heap w t c ready) answer differs

pub never_owned : (heap : Heap) (w : World) (objects : List PlainObject) (t o now : ℕ) (path : Path)
    → MayCallAlone heap w objects t (task.Enter o now) → is_other (monitor_of objects o).owner t ≡ true
    → AnswersAlone w.words (enter_steps w.shape (start_in w t) o now) (λ a. a ≡ Ok (Done path)) → ⊥
never_owned heap w objects t o now path ready differs =
    never_so (enters_exactly heap w objects t o now ready) (Ok (Done path)) (λ p. opposed (is_other (monitor_of objects o).owner t) differs p.1)

pub never_undone : (heap : Heap) (w : World) (objects : List PlainObject) (t o now : ℕ) (why : PendingCause)
    → MayCallAlone heap w objects t (task.Hash o now)
    → AnswersAlone w.words (hash_steps w.shape (start_in w t) o now) (λ a. a ≡ Pending why) → ⊥
never_undone heap w objects t o now why ready =
    never_so (hashes heap w objects t o now ready) (Pending why) (λ p. absurd (cc p))

pub never_notify : (heap : Heap) (w : World) (objects : List PlainObject) (t o now : ℕ) (why : PendingCause)
    → MayCallAlone heap w objects t (task.Notify o now)
    → AnswersAlone w.words (notify_steps w.shape (start_in w t) o now) (λ a. a ≡ Ok (Pending why)) → ⊥
never_notify heap w objects t o now why ready =
    never_so (notifies heap w objects t o now ready) (Ok (Pending why)) (λ p. p.1)

pub never_notify_all : (heap : Heap) (w : World) (objects : List PlainObject) (t o now : ℕ) (why : PendingCause)
    → MayCallAlone heap w objects t (task.NotifyAll o now)
    → AnswersAlone w.words (notify_all_steps w.shape (start_in w t) o now) (λ a. a ≡ Ok (Pending why)) → ⊥
never_notify_all heap w objects t o now why ready =
    never_so (notify_alls heap w objects t o now ready) (Ok (Pending why)) (λ p. p.1)

pub never_raced : (heap : Heap) (w : World) (objects : List PlainObject) (t o now expected found : ℕ)
    → MayCallAlone heap w objects t (task.Enter o now)
    → AnswersAlone w.words (enter_steps w.shape (start_in w t) o now)
    (λ a. a ≡ Ok (Pending (Raced expected found))) → ⊥
never_raced heap w objects t o now expected found ready =
    never_so (enters_exactly heap w objects t o now ready) (Ok (Pending (Raced expected found))) (λ p. p.1)

pub never_begins : (heap : Heap) (w : World) (objects : List PlainObject) (t o now : ℕ)
    → MayCallAlone heap w objects t (task.Wait o now) → waits_on (w.known t).wait o ≡ false
    → AnswersAlone w.words (wait_steps w.shape (start_in w t) o now) (λ a. a ≡ Ok (Done tt)) → ⊥
never_begins heap w objects t o now ready before =
    never_so (waits_first heap w objects t o now ready before) (Ok (Done tt)) (λ p. p.1)

pub never_goes_on : (heap : Heap) (w : World) (objects : List PlainObject) (t o now : ℕ)
    → MayCallAlone heap w objects t (task.Wait o now) → waits_on (w.known t).wait o ≡ true
    → is_told (w.words (Waiting t)) ≡ false
    → AnswersAlone w.words (wait_steps w.shape (start_in w t) o now) (λ a. a ≡ Ok (Done tt)) → ⊥
never_goes_on heap w objects t o now ready before differs =
    never_so (waits_again heap w objects t o now ready before) (Ok (Done tt)) (λ p. opposed (is_told (w.words (Waiting t))) p.1.0 differs)

pub never_dump : (heap : Heap) (w : World) (objects : List PlainObject) (t number : ℕ)
    → MayCallAlone heap w objects t task.Dump → number ≢ (start_in w t).shots + 1
    → AnswersAlone w.words (dump_steps w.shape (start_in w t)) (λ a. a ≡ Ok (Done number)) → ⊥
never_dump heap w objects t number ready differs =
    never_so (dumps heap w objects t ready) (Ok (Done number)) (λ p. differs (cc p.1))

pub never_check : (heap : Heap) (w : World) (objects : List PlainObject) (t : ℕ)
    → MayCallAlone heap w objects t task.Check
    → AnswersAlone w.words (check_steps w.shape (start_in w t))
    (λ a. a ≡ Done (not (stands_still w.shape w.words))) → ⊥
never_check heap w objects t ready =
    never_so (checks heap w objects t ready) (Done (not (stands_still w.shape w.words))) (λ p. not_itself (stands_still w.shape w.words) (cc p))

pub never_poll : (heap : Heap) (w : World) (t : ℕ) → MayCall heap w t task.Poll
    → has_requester (w.words Safepoint) ≡ true
    → AnswersAlone w.words (poll_steps (side_context task.Poll (start_in w t))) (λ a. a ≡ Done tt) → ⊥
never_poll heap w t ready differs =
    never_so (polls_itself heap w t ready) (Done tt) (λ p. opposed (has_requester (w.words Safepoint)) differs (sym p))

pub never_resume : (heap : Heap) (w : World) (t : ℕ) → MayCall heap w t task.Resume
    → is_halted (w.words Safepoint) ≡ true
    → AnswersAlone w.words (resume_steps (side_context task.Resume (start_in w t)) (local_of (w.known t)))
    (λ a. a ≡ Done tt) → ⊥
never_resume heap w t ready differs =
    never_so (resumes_itself heap w t ready) (Done tt)
    (λ p. opposed (is_halted (w.words Safepoint) || has_requester (w.words Safepoint)) (ap (λ b. b || has_requester (w.words Safepoint)) differs) (sym p))

-- RUNS AND WORLDS. A first step finds the word that stands there, and a load leaves each word
pub no_other_found : (w : World) (t : ℕ) (m : StepMade) (v : World) → m.found ≢ w.words m.plan.at → Moves w t (m ∷ []) v → ⊥
no_other_found w t m v differs moves = differs (moves_found w t (m ∷ []) v moves).found.0

pub no_other_left : (w : World) (t : ℕ) (m : StepMade) (v : World) (n : WordId) → m.plan.act ≡ Load → v.words n ≢ w.words n
    → Moves w t (m ∷ []) v → ⊥
no_other_left w t m v n loads differs moves =
    let so = moves_found w t (m ∷ []) v moves in
    differs (so.words n ∙ (λ i. with_word m.plan.at (word_after (loads i) (so.found.0 i)) w.words n) ∙ load_leaves m.plan.at n w.words)

module _ (w : World) (objects : List PlainObject) (t : ℕ) where
  pub no_mark_of_none : (o : ℕ) → w.words (Mark o) ≡ 0 → IsLeftAlone w t → Fits w objects → ⊥
  no_mark_of_none o none alone fits = no_mark_0 w objects t alone fits o none

  pub no_prototype_of_none : (c : ℕ) → w.words (Prototype c) ≡ 0 → IsLeftAlone w t → Fits w objects → ⊥
  no_prototype_of_none c none alone fits = prototype_some w objects t alone fits c none

  pub no_other_owner : (o u : ℕ) → who_in w.shape w.words o ≡ Some u → (monitor_of objects o).owner ≡ None → IsLeftAlone w t
      → Fits w objects → ⊥
  no_other_owner o u has none alone fits = let same = who_is_owner w objects t alone fits o in absurd (cc (has, none, same))
