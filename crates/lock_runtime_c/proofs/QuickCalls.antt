-- Enters and exits by the shortest way: that they may begin, and what C gets of them.
use Rattle.std.proofs.Common.{◌≡◌, ◌≢◌, zero, suc, List, [], ◌∷◌, nat_lt, ℕ, ◌+◌, ◌≤◌, ◌==◌, ◌&&◌, ◌||◌, arith, ne_eqb, not, nat_le, Bool, true, false, Option, None, Some, Result, Ok, Err, length, refl, sym, ap, ◌∙◌, subst}
use Rattle.std.specs.Prelude.{is_some, if◌then◌else◌, option_map}
use Rattle.std.proofs.lemmas.Bool.Decides.{nat_tests}
use Rattle.mark_word.specs.Wait.{read_wait}
use Rattle.plain_monitor.specs.Limits.{most_holds}
use Rattle.plain_monitor.specs.ValueWords.{read_value}
use Rattle.plain_monitor.specs.declared.entry.Path.{Path}
use Rattle.plain_monitor.specs.declared.entry.Value.{Value}
use Rattle.core_world.specs.Clauses.Lengths.{log_limit}
use Rattle.core_world.specs.Words.Forms.{names, says_ended}
use Rattle.core_world.specs.Due.{Runs}
use Rattle.core_world.specs.Steps.{known_after}
use Rattle.core_world.specs.Threads.ThreadView.{ThreadView}
use Rattle.core_world.specs.Locks.{count_where, hold_count}
use Rattle.core_world.specs.Threads.Stages.{one_if}
use Rattle.core_world.specs.Trees.Plans.{done_with, load, lone_context, pending_for}
use Rattle.core_world.specs.Trees.StepTree.{ask, done, ◌>>=◌}
use Rattle.core_world.specs.declared.answer.Unguarded.{Unguarded}
use Rattle.core_world.specs.declared.plan.StepPlan.{StepPlan}
use Rattle.core_world.specs.declared.answer.PendingCause.TheVariants as why
use Rattle.core_world.specs.declared.answer.Progress.{Progress}
use Rattle.core_world.specs.declared.answer.Progress.TheVariants as progress
use Rattle.core_world.specs.declared.word_id.WordId.TheVariants.{Safepoint}
use Rattle.core_world.specs.declared.heap_call.HeapCall.{HeapCall}
use Rattle.core_world.specs.declared.heap_call.HeapCall.TheVariants as task
use Rattle.core_world.specs.declared.heap_call.Operation.{Operation}
use Rattle.core_world.specs.declared.heap_call.Operation.TheVariants as op
use Rattle.heap_table.specs.Kept.{all_holds}
use Rattle.heap_table.specs.Quick.{EntersFree, HasEntered, HasLeft, IsFree, LeavesFree}
use Rattle.core_world.specs.Trees.Calls.{side_context}
use Rattle.core_world.specs.Trees.SafepointSteps.{has_requester, poll_steps}
use Rattle.core_calls.specs.CallsSay.{PollSays}
use Rattle.core_calls.specs.Paths.{Tells}
use Rattle.heap_table.specs.Parts.{HasMadeSteps}
use Rattle.heap_table.specs.Resting.{MayCall, MayOperate, Rests, start_now}
use Rattle.heap_table.specs.Seen.{HeapSeen, PassSeen}
use Rattle.heap_table.specs.declared.quick.QuickEnter.{QuickEnter}
use Rattle.heap_table.specs.declared.quick.QuickEnter.TheVariants as enters
use Rattle.heap_table.specs.declared.quick.QuickExit.{QuickExit}
use Rattle.heap_table.specs.declared.quick.QuickExit.TheVariants as exits
use Rattle.core_world.specs.Trees.Operations.{answer, enter_steps, exit_steps, get_plan, get_steps, put_plan, put_steps, value_found}
use Rattle.heap_table.proofs.Counting.{number_few}
use Rattle.core_world.proofs.Readings.{names_none}
use Rattle.own_logs.proofs.Settled.{settled}
use Rattle.lock_runtime.specs.Begun.{IsEntered, IsExited}
use Rattle.lock_runtime.specs.Others.{PendsForAnother}
use Rattle.lock_runtime.specs.Standing.{IsRunning}
use Rattle.lock_runtime_c.specs.Rest.{IsKept}
use Rattle.lock_runtime_c.specs.LogRoom.{KeepsRoom, is_full}
use Rattle.lock_runtime_c.specs.Numbers.{answered}
use Rattle.lock_runtime_c.specs.Outcomes.{nothing, of_progress}
use Rattle.lock_runtime_c.specs.Reasons.{first_reason, if_so, of_slot, of_standing, of_value, or_else, other_operation}
use Rattle.lock_runtime_c.specs.Told.{barred, IsMade, Told, ToldBy}
use Rattle.lock_runtime_c.specs.declared.answers.Answer.{Answer}
use Rattle.lock_runtime_c.specs.declared.outcome.Misuse.TheVariants as misuse
use Rattle.lock_runtime_c.specs.declared.outcome.Outcome.{Outcome}
use Rattle.lock_runtime_c.specs.declared.outcome.Outcome.TheVariants.{Done, Full, Misused}
use Rattle.lock_runtime_c.specs.declared.outcome.Said.TheVariants as said
use Rattle.lock_runtime_c.specs.inner.MayMake.{MayMake}
use Rattle.lock_runtime_c.specs.inner.QuickCalls.{EntersQuickly, ExitsQuickly, HasOpenedEnter, HasOpenedExit, IsAnswered, IsOpenTo}
use Rattle.lock_runtime.proofs.Quickly.{enter_rests, exit_rests, is_entered, is_exited}
use Rattle.lock_runtime_c.proofs.Keeps.{begun_keeps}
use Rattle.lock_runtime_c.proofs.MayBegin.{may_make}
use Rattle.lock_runtime_c.proofs.NeverFull.{roomy as roomy_by}

-- a thread has no more holds than places for them
pub few_holds : (h : HeapSeen) (p : PassSeen) → Rests h p → all_holds p.known.holds ≤ most_holds
few_holds h p rests =
    let z = settled h p rests in
    let n = subst (λ (k : ThreadView). length k.holds ≡ most_holds) z.knew (z.fits.holds.places p.known.thread) in
    let few = number_few (λ q word. not (word == 0)) 0 p.known.holds in
    omega (arith, n, few)

no_end : says_ended 0 ≡ false
unfolding read_wait
no_end = refl

unbarred : (h : HeapSeen) (p : PassSeen) (t : HeapCall) → first_reason h.heap.shape p.known t ≡ None → is_full p t ≡ false → barred h p t ≡ None
unbarred h p t reason full = λ i. or_else (option_map Misused (reason i)) (if full i then Some Full else None)

-- THAT IT IS OPEN: nothing bars an operation on the object
module _ (h : HeapSeen) (p : PassSeen) (o n : ℕ) (open_to : IsOpenTo h p o n) where
  stands : (made : Option (Operation × ℕ)) → of_standing p.known made ≡ None
  stands made =
      let free = open_to.free in
      let going = ap says_ended free.waits ∙ no_end in
      λ i. or_else (if_so (going i) misuse.Ended)
      (or_else (if_so (free.checks i) misuse.CheckIsUnfinished)
      (or_else (other_operation made (free.left i))
      (if_so (not (free.runs i || (p.known.requesting && is_some p.known.unfinished))) misuse.IsStopped)))

  roomy : (m : ℕ) → m ≤ n → not (nat_le (length p.known.log + m) p.limit && nat_le (length p.known.log + m) log_limit) ≡ false
  roomy m few = let room = open_to.room in grind (arith, nat_tests, few, room)

  enter_reason : (now : ℕ) → first_reason h.heap.shape p.known (task.Enter o now) ≡ None
  enter_reason now = λ i. or_else (stands (Some (op.Enter, o)) i) (if_so (not (open_to.declared i)) misuse.NoObject)

  exit_reason : first_reason h.heap.shape p.known (task.Exit o) ≡ None
  exit_reason = λ i. or_else (stands (Some (op.Exit, o)) i) (if_so (not (open_to.declared i)) misuse.NoObject)

  get_reason : (slot : ℕ) → of_slot h.heap.shape o slot ≡ None → first_reason h.heap.shape p.known (task.Get o slot) ≡ None
  get_reason slot there = λ i. or_else (stands None i) (there i)

  put_reason : (slot : ℕ) (v : Value) → or_else (of_slot h.heap.shape o slot) (of_value h.heap.shape v) ≡ None
      → first_reason h.heap.shape p.known (task.Put o slot v) ≡ None
  put_reason slot v there = λ i. or_else (stands None i) (there i)

  module _ (rests : Rests h p) where
    pub may_enter : (now : ℕ) → all_holds p.known.holds + 3 ≤ n → MayOperate h p (task.Enter o now)
    may_enter now few = may_make h p rests (task.Enter o now) (enter_reason now) (roomy _ few)

    pub may_exit : 1 ≤ n → MayOperate h p (task.Exit o)
    may_exit few = may_make h p rests (task.Exit o) exit_reason (roomy _ few)

    pub may_get : (slot : ℕ) → all_holds p.known.holds + 2 ≤ n → of_slot h.heap.shape o slot ≡ None → MayOperate h p (task.Get o slot)
    may_get slot few there = may_make h p rests (task.Get o slot) (get_reason slot there) (roomy _ few)

    pub may_put : (slot : ℕ) (v : Value) → all_holds p.known.holds + 2 ≤ n → or_else (of_slot h.heap.shape o slot) (of_value h.heap.shape v) ≡ None
        → MayOperate h p (task.Put o slot v)
    may_put slot v few there = may_make h p rests (task.Put o slot v) (put_reason slot v there) (roomy _ few)

    pub get_open : (slot : ℕ) → all_holds p.known.holds + 2 ≤ n → of_slot h.heap.shape o slot ≡ None → barred h p (task.Get o slot) ≡ None
    get_open slot few there = unbarred h p (task.Get o slot) (get_reason slot there) (roomy _ few)

    pub put_open : (slot : ℕ) (v : Value) → all_holds p.known.holds + 2 ≤ n → or_else (of_slot h.heap.shape o slot) (of_value h.heap.shape v) ≡ None
        → barred h p (task.Put o slot v) ≡ None
    put_open slot v few there = unbarred h p (task.Put o slot v) (put_reason slot v there) (roomy _ few)

    enter_open : (now : ℕ) → all_holds p.known.holds + 3 ≤ n → barred h p (task.Enter o now) ≡ None
    enter_open now few = unbarred h p (task.Enter o now) (enter_reason now) (roomy _ few)

    exit_open : 1 ≤ n → barred h p (task.Exit o) ≡ None
    exit_open few = unbarred h p (task.Exit o) exit_reason (roomy _ few)

    pub enters_quickly : (now : ℕ) (q : PassSeen) (how : QuickEnter) → all_holds p.known.holds + 3 ≤ n → HasEntered h p q o now how → EntersFree q.known how
        → EntersQuickly h p q o now how
    enters_quickly now q enters.Not few came free = (came, subst (λ (x : PassSeen). Rests h x) (sym came) rests)
    enters_quickly now q _ few came free = record { may = enter_open now few; begun = record { may = may_enter now few; came = came }; free = free }

    pub exits_quickly : (q : PassSeen) (how : QuickExit) → 1 ≤ n → HasLeft h p q o how → LeavesFree q.known how → ExitsQuickly h p q o how
    exits_quickly q exits.Not few came free = (came, subst (λ (x : PassSeen). Rests h x) (sym came) rests)
    exits_quickly q _ few came free = record { may = exit_open few; begun = record { may = may_exit few; came = came }; free = free }

-- THE EXIT of an object that the thread holds: the room for it was kept. A word that names an object isn't empty.
named_few : (o i : ℕ) (hs : List ℕ) → count_where (λ p h. names o h) i hs ≤ count_where (λ p h. not (h == 0)) i hs
named_few o i [] = omega arith
named_few o i (zero ∷ hs) =
    let few = named_few o (i + 1) hs in
    let none = ap one_if (names_none o) in
    omega (arith, few, none)
named_few o i (suc n ∷ hs) =
    let few = named_few o (i + 1) hs in
    let one = at_most_one (names o (suc n)) in
    let full = ap (λ b. one_if (not b)) (ne_eqb (suc n) 0 (λ e. omega (arith, e))) in
    omega (arith, few, one, full)
  where
    at_most_one : (b : Bool) → one_if b ≤ 1
    at_most_one true = omega arith
    at_most_one false = omega arith

module _ (h : HeapSeen) (p : PassSeen) (o : ℕ) (kept : IsKept h p) (free : IsFree p.known) (declared : nat_lt o h.heap.shape.declared ≡ true) where
  held_open : 1 ≤ hold_count o p.known.holds → IsOpenTo h p o 1
  held_open held =
      let few = named_few o 0 p.known.holds in
      record { free = free; declared = declared; room = roomy_by (all_holds p.known.holds) p kept.room.exits (omega (arith, few, held)) }

  pub may_leave : 1 ≤ hold_count o p.known.holds → MayOperate h p (task.Exit o)
  may_leave held = may_exit h p o 1 (held_open held) kept.rests (omega arith)

  pub leaves_quickly : (q : PassSeen) (how : QuickExit) → (how ≢ exits.Not → 1 ≤ hold_count o p.known.holds) → HasLeft h p q o how → LeavesFree q.known how
      → ExitsQuickly h p q o how
  leaves_quickly q exits.Not held came left = (came, subst (λ (x : PassSeen). Rests h x) (sym came) kept.rests)
  leaves_quickly q exits.Left held came left =
      exits_quickly h p o 1 (held_open (held (λ is. absurd (cc is)))) kept.rests q exits.Left (omega arith) came left
  leaves_quickly q exits.Inflating held came left =
      exits_quickly h p o 1 (held_open (held (λ is. absurd (cc is)))) kept.rests q exits.Inflating (omega arith) came left
  leaves_quickly q (exits.Raced mark found) held came left =
      exits_quickly h p o 1 (held_open (held (λ is. absurd (cc is)))) kept.rests q (exits.Raced mark found) (omega arith) came left
  leaves_quickly q (exits.Owned m owner place) held came left =
      exits_quickly h p o 1 (held_open (held (λ is. absurd (cc is)))) kept.rests q (exits.Owned m owner place) (omega arith) came left

-- a poll needs only that the thread runs
poll_reason : (h : HeapSeen) (p : PassSeen) → p.known.running ≡ true → first_reason h.heap.shape p.known task.Poll ≡ None
poll_reason h p runs = λ i. if_so (not (runs i)) (if p.known.requesting then misuse.IsAsking else misuse.IsStopped)

poll_open : (h : HeapSeen) (p : PassSeen) → p.known.running ≡ true → barred h p task.Poll ≡ None
poll_open h p runs = unbarred h p task.Poll (poll_reason h p runs) refl

pub may_poll : (h : HeapSeen) (p : PassSeen) → Rests h p → p.known.running ≡ true → MayCall h p task.Poll
may_poll h p rests runs = may_make h p rests task.Poll (poll_reason h p runs) refl

-- all that a poll says
pub record IsPolled (h : HeapSeen) (p q : PassSeen) (progress : Progress (Unit {0})) : Type 0 where
  pub run : HasMadeSteps h (poll_steps (side_context task.Poll (start_now h p))) p q progress
  pub says : Tells p.known q.known (λ ms. PollSays (start_now h p) ms progress)
  pub stands : IsRunning q.known
  pub others : PendsForAnother p.known.thread progress

-- WHAT C GETS of a call that nothing barred
module _ (h : HeapSeen) (p q : PassSeen) (rests : Rests h q) where
  answers : (t : HeapCall) (out : Outcome) (a : Answer) → Rests h p → MayMake h p t → barred h p t ≡ None → q.limit ≡ p.limit → IsMade h t p q out
      → a ≡ answered out → IsAnswered h t p q a
  answers t out a before may open_to limit made is = record {
    outcome = out;
    is = is;
    told = subst (λ (why : Option Outcome). ToldBy why h t p q out) (sym open_to) (limit, made);
    room = λ kept. begun_keeps h p q before rests limit t out may open_to kept made;
  }

  pub enter_answers : (o now : ℕ) (progress : Progress Path) (a : Answer) → barred h p (task.Enter o now) ≡ None → MayOperate h p (task.Enter o now)
      → IsEntered h p q o now (Ok progress) → a ≡ answered (of_progress said.Entered progress) → IsAnswered h (task.Enter o now) p q a
  enter_answers o now progress a open_to may all is =
      answers (task.Enter o now) _ a may.call.rests may open_to all.run.limit (Ok progress, refl, all.run.ran, all.says, (all.stands, all.others)) is

  pub exit_answers : (o : ℕ) (progress : Progress (Unit {0})) (a : Answer) → barred h p (task.Exit o) ≡ None → MayOperate h p (task.Exit o)
      → IsExited h p q o (Ok progress) → a ≡ answered (of_progress nothing progress) → IsAnswered h (task.Exit o) p q a
  exit_answers o progress a open_to may all is =
      answers (task.Exit o) _ a may.call.rests may open_to all.run.limit (Ok progress, refl, all.run.ran, all.says, (all.stands, all.owner)) is

  poll_answers : (progress : Progress (Unit {0})) (a : Answer) → Rests h p → p.known.running ≡ true → IsPolled h p q progress
      → a ≡ answered (of_progress nothing progress) → IsAnswered h task.Poll p q a
  poll_answers progress a before runs all is =
      answers task.Poll _ a before (may_poll h p before runs) (poll_open h p runs) all.run.limit
      (progress, refl, all.run.ran, all.says, (all.stands, all.others)) is

-- A call that is over: the pass rests, and this is the answer.
pub enter_over : (h : HeapSeen) (p q : PassSeen) (o now : ℕ) (progress : Progress Path) (a : Answer) → barred h p (task.Enter o now) ≡ None
    → MayOperate h p (task.Enter o now) → HasMadeSteps h (enter_steps h.heap.shape (start_now h p) o now) p q (Ok progress)
    → a ≡ answered (of_progress said.Entered progress) → Rests h q × IsAnswered h (task.Enter o now) p q a
enter_over h p q o now progress a open_to may run is =
    let rests = enter_rests h p o now may run in (rests, enter_answers h p q rests o now progress a open_to may (is_entered h p o now may run) is)

pub exit_over : (h : HeapSeen) (p q : PassSeen) (o : ℕ) (progress : Progress (Unit {0})) (a : Answer) → barred h p (task.Exit o) ≡ None
    → MayOperate h p (task.Exit o) → HasMadeSteps h (exit_steps (start_now h p) o) p q (Ok progress) → a ≡ answered (of_progress nothing progress)
    → Rests h q × IsAnswered h (task.Exit o) p q a
exit_over h p q o progress a open_to may run is =
    let rests = exit_rests h p o may run in (rests, exit_answers h p q rests o progress a open_to may (is_exited h p o may run) is)

-- one that the quick way made leaves its thread free
pub entered_whole : (h : HeapSeen) (p q : PassSeen) (o now : ℕ) (path : Path) → HasOpenedEnter h p q o now (enters.Done path)
    → Rests h q × (IsFree p.known → IsFree q.known) × IsAnswered h (task.Enter o now) p q (answered (Done (said.Entered path)))
entered_whole h p q o now path opened =
    let over = enter_over h p q o now (progress.Done path) _ opened.may opened.begun.may opened.begun.came refl in (over.0, λ _. opened.free, over.1)

pub left_whole : (h : HeapSeen) (p q : PassSeen) (o : ℕ) → HasOpenedExit h p q o exits.Left
    → Rests h q × (IsFree p.known → IsFree q.known) × IsAnswered h (task.Exit o) p q (answered (Done said.Nothing))
left_whole h p q o opened =
    let over = exit_over h p q o (progress.Done tt) _ opened.may opened.begun.may opened.begun.came refl in (over.0, λ _. opened.free, over.1)

-- A poll that is over leaves a free thread free.
poll_free : (h : HeapSeen) (p : PassSeen) (l : ThreadView) (a : Progress (Unit {0}))
    → Runs h.heap.shape h.heap.start (poll_steps (side_context task.Poll (start_now h p))) p.known l a → IsFree p.known → IsFree l
poll_free h p l a run free = ended (has_requester run.0) run.1
  where
    after : ThreadView
    after = known_after h.heap.shape h.heap.start (load (side_context task.Poll (start_now h p)) Safepoint) run.0 p.known

    here : IsFree after
    here = record {
      runs = free.runs;
      asks = free.asks;
      waits = free.waits;
      left = free.left;
      checks = free.checks;
    }

    ended : (b : Bool) → Runs h.heap.shape h.heap.start (if b then pending_for (why.Requested run.0) else done_with tt) after l a → IsFree l
    ended true made = subst IsFree (sym made.0) here
    ended false made = subst IsFree (sym made.0) here

pub record HasPolled (h : HeapSeen) (p q : PassSeen) (progress : Progress (Unit {0})) : Type 0 where
  pub rests : Rests h q
  pub free : IsFree p.known → IsFree q.known
  pub answer : IsAnswered h task.Poll p q (answered (of_progress nothing progress))

pub polled : (h : HeapSeen) (p q : PassSeen) (progress : Progress (Unit {0})) → Rests h p → p.known.running ≡ true → Rests h q → IsPolled h p q progress
    → HasPolled h p q progress
polled h p q progress before runs after all = record {
  rests = after;
  free = poll_free h p q.known progress all.run.ran.by;
  answer = poll_answers h p q after progress _ before runs all refl;
}

-- So do a get and a put.
get_free : (h : HeapSeen) (p : PassSeen) (l : ThreadView) (o slot : ℕ) (a : Result Value Unguarded)
    → Runs h.heap.shape h.heap.start (get_steps (start_now h p) o slot) p.known l a → IsFree p.known → IsFree l
get_free h p l o slot a run free = cases (hold_count o p.known.holds == 0) run
  where
    plan : StepPlan
    plan = get_plan (lone_context (task.Get o slot)) o slot

    here : (n : ℕ) → IsFree (known_after h.heap.shape h.heap.start plan n p.known)
    here n = record {
      runs = free.runs;
      asks = free.asks;
      waits = free.waits;
      left = refl;
      checks = refl;
    }

    cases : (b : Bool) → Runs h.heap.shape h.heap.start
        (if b then done (Err record {}) else (ask plan >>= (λ found. answer (value_found (read_value found))))) p.known l a → IsFree l
    cases true made = subst IsFree (sym made.0) free
    cases false made = subst IsFree (sym made.1.0) (here made.0)

put_free : (h : HeapSeen) (p : PassSeen) (l : ThreadView) (o slot : ℕ) (v : Value) (a : Result (Unit {0}) Unguarded)
    → Runs h.heap.shape h.heap.start (put_steps (start_now h p) o slot v) p.known l a → IsFree p.known → IsFree l
put_free h p l o slot v a run free = cases (hold_count o p.known.holds == 0) run
  where
    plan : StepPlan
    plan = put_plan (lone_context (task.Put o slot v)) o slot v

    here : (n : ℕ) → IsFree (known_after h.heap.shape h.heap.start plan n p.known)
    here n = record {
      runs = free.runs;
      asks = free.asks;
      waits = free.waits;
      left = refl;
      checks = refl;
    }

    cases : (b : Bool) → Runs h.heap.shape h.heap.start (if b then done (Err record {}) else (ask plan >>= (λ found. answer tt))) p.known l a → IsFree l
    cases true made = subst IsFree (sym made.0) free
    cases false made = subst IsFree (sym made.1.0) (here made.0)

-- all that a call says that nothing barred
pub record IsOver (h : HeapSeen) (t : HeapCall) (p q : PassSeen) (out : Outcome) : Type 0 where
  pub free : IsFree p.known → IsFree q.known
  pub told : Told h t p q out
  pub room : KeepsRoom p → KeepsRoom q

over : (h : HeapSeen) (p q : PassSeen) (t : HeapCall) (out : Outcome) → Rests h p → Rests h q → MayMake h p t → barred h p t ≡ None
    → q.limit ≡ p.limit → IsMade h t p q out → (IsFree p.known → IsFree q.known) → IsOver h t p q out
over h p q t out before after may open_to limit made free = record {
  free = free;
  told = subst (λ (why : Option Outcome). ToldBy why h t p q out) (sym open_to) (limit, made);
  room = λ kept. begun_keeps h p q before after limit t out may open_to kept made;
}

pub get_over : (h : HeapSeen) (p q : PassSeen) (o slot : ℕ) (out : Outcome) → MayOperate h p (task.Get o slot) → barred h p (task.Get o slot) ≡ None
    → Rests h q → q.limit ≡ p.limit → IsMade h (task.Get o slot) p q out → IsOver h (task.Get o slot) p q out
get_over h p q o slot out may open_to after limit made =
    over h p q (task.Get o slot) out may.call.rests after may open_to limit made (get_free h p q.known o slot made.0 made.2.by)

pub put_over : (h : HeapSeen) (p q : PassSeen) (o slot : ℕ) (v : Value) (out : Outcome) → MayOperate h p (task.Put o slot v)
    → barred h p (task.Put o slot v) ≡ None → Rests h q → q.limit ≡ p.limit → IsMade h (task.Put o slot v) p q out
    → IsOver h (task.Put o slot v) p q out
put_over h p q o slot v out may open_to after limit made =
    over h p q (task.Put o slot v) out may.call.rests after may open_to limit made (put_free h p q.known o slot v made.0 made.2.by)
