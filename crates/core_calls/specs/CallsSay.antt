-- What each call logs and leaves, by its answer, and why it is pending.
use Rattle.std.specs.Prelude.{◌≡◌, ◌≢◌, ◌⊎◌, ℕ, ◌+◌, ◌==◌, ◌&&◌, ◌||◌, nat_lt, not, cond, Bool, true}
use Rattle.std.specs.Prelude.{false, List, [], ◌∷◌, length, Option, Some, None, Result, Ok, Err}
use Rattle.plain_monitor.specs.Limits.{most_holds, most_made}
use Rattle.plain_monitor.specs.declared.entry.Entry.{Entry}
use Rattle.plain_monitor.specs.declared.entry.Entry.TheVariants as entry
use Rattle.plain_monitor.specs.declared.entry.Ending.{Ending}
use Rattle.plain_monitor.specs.declared.entry.Path.{Path}
use Rattle.plain_monitor.specs.declared.entry.Value.{Value}
use Rattle.plain_monitor.specs.ValueWords.{word_of, read_value}
use Rattle.mark_word.specs.declared.mark.MarkForm.TheVariants.{Neutral, Inflated}
use Rattle.mark_word.specs.Mark.{mark_of, read_mark}
use Rattle.mark_word.specs.Safe.{read_safe}
use Rattle.core_world.specs.declared.act.Act.TheVariants.{Load, Store, CompareExchange, FetchAnd}
use Rattle.core_world.specs.declared.word_id.WordId.{WordId}
use Rattle.core_world.specs.declared.word_id.WordId.TheVariants.{Safepoint, Prototype, Mark, Class, Slot, Displaced, Header, Length}
use Rattle.core_world.specs.declared.heap_call.Operation.{Operation}
use Rattle.core_world.specs.declared.heap_call.Operation.TheVariants as op
use Rattle.core_world.specs.declared.heap_call.Unfinished.{Unfinished}
use Rattle.core_world.specs.declared.answer.StackOut.{StackOut}
use Rattle.core_world.specs.declared.answer.StackOut.TheVariants.{Left, Monitor, Not}
use Rattle.core_world.specs.declared.answer.Progress.{Progress}
use Rattle.core_world.specs.declared.answer.Progress.TheVariants.{Done, Pending}
use Rattle.core_world.specs.declared.answer.PendingCause.{PendingCause}
use Rattle.core_world.specs.declared.answer.PendingCause.TheVariants.{Requested}
use Rattle.core_world.specs.declared.answer.TooDeep.{TooDeep}
use Rattle.core_world.specs.declared.answer.IllegalMonitorState.{IllegalMonitorState}
use Rattle.core_world.specs.declared.answer.Unguarded.{Unguarded}
use Rattle.core_world.specs.declared.answer.TooMany.{TooMany}
use Rattle.core_world.specs.declared.answer.TooManyDumps.{TooManyDumps}
use Rattle.core_world.specs.Words.Forms.{hash_in, waits_on, is_halted, is_still}
use Rattle.core_world.specs.Threads.ThreadView.{StepMade, Start}
use Rattle.core_world.specs.Locks.{hold_count}
use Rattle.core_world.specs.Words.Shape.{Shape}
use Rattle.core_world.specs.Trees.CreateSteps.{count_made, next_made}
use Rattle.core_world.specs.Trees.Plans.{free_place}
use Rattle.core_world.specs.Trees.SafepointSteps.{has_requester, running_too, all_but, released_word, halted_word}
use Rattle.plain_monitor.specs.Endings.{ending_entry}
use Rattle.core_world.specs.Trees.Operations.{goes_on_with, value_found}
use Rattle.core_calls.specs.Paths.{Leaves}
use Rattle.core_calls.specs.Causes.{AmongSteps, AmongAfter, Loaded, Put, Caused, CausedUnder, Overtaken, Requests, of_exchanges}
use Rattle.core_calls.specs.Causes.{of_safepoints, of_owners, of_waits, of_requests, of_polls, of_resumes, is_stopping}

-- How far a call is. Done: it logs these entries, by its answer, and nothing is unfinished. Pending: it logs none, this operation is unfinished, and it is so
-- for this cause. Of a check this is said in both cases.
abbrev pub IsPendingBy : {A : Type 0} → (A → List Entry) → (PendingCause → List StepMade → Type 0) → Option Unfinished
    → Bool → List StepMade → Progress A → Type 0
IsPendingBy own For u check ms (Done a) = Leaves (own a) None check ms
IsPendingBy own For u check ms (Pending why) = Leaves [] u check ms × For why ms

-- a call of thread t on object o, which is pending for one of these reasons
abbrev pub ProgressSays : {A : Type 0} → (A → List Entry) → (PendingCause → Bool) → ℕ → ℕ → Option Unfinished → Bool
    → List StepMade → Progress A → Type 0
ProgressSays own may_be t o u check = IsPendingBy own (Caused may_be t o) u check

-- A refusal comes without a step, and exactly where this holds of what the thread knew.
abbrev pub ResultSays : {A E : Type 0} → Bool → (List StepMade → A → Type 0) → List StepMade → Result A E → Type 0
ResultSays refuses says ms (Err e) = (refuses ≡ true) × (ms ≡ [])
ResultSays refuses says ms (Ok a) = (refuses ≡ false) × says ms a

abbrev pub unfinished_on : Operation → ℕ → Option Unfinished
unfinished_on op o = Some (record { op = op; object = o })

-- the thread has no hold on o
abbrev pub has_none : Start → ℕ → Bool
has_none k o = hold_count o k.local.holds == 0

-- the thread has the most holds, and no unfinished enter of o
abbrev pub is_full : Start → ℕ → Bool
is_full k o = (free_place k.local.holds == most_holds) && not (goes_on_with op.Enter o k.unfinished)

abbrev pub of_notifies : Bool → PendingCause → Bool
of_notifies requesting why = of_exchanges why || of_safepoints requesting why

abbrev pub of_enters : Bool → PendingCause → Bool
of_enters requesting why = of_owners why || of_notifies requesting why

-- An enter may take the bias away from the mark by an exchange of its own, for a neutral prototype, and expect that word there in its next exchange.
-- In every other exchange it expects a word that it loaded.
abbrev pub PutInMark : ℕ → WordId → ℕ → List StepMade → Type 0
PutInMark o at word before = (at ≡ Mark o) × Put at word before

abbrev pub EnterCause : Bool → ℕ → ℕ → PendingCause → List StepMade → Type 0
EnterCause requesting t o why ms = CausedUnder of_enters requesting t o why ms ⊎ Overtaken (PutInMark o) why ms

abbrev pub EnterSays : Start → ℕ → List StepMade → Result (Progress Path) TooDeep → Type 0
EnterSays k o =
    ResultSays (is_full k o)
    (IsPendingBy (λ path. entry.Enter o path ∷ []) (EnterCause k.requesting k.local.thread o)
    (unfinished_on op.Enter o) false)

abbrev pub ExitSays : Start → ℕ → List StepMade → Result (Progress (Unit {0})) IllegalMonitorState → Type 0
ExitSays k o =
    ResultSays (has_none k o)
    (ProgressSays (λ _. entry.Exit o ∷ []) of_exchanges k.local.thread o (unfinished_on op.Exit o) false)

-- A wait that has let go, in this call or in an earlier one, is pending for a notify or an owner; one that hasn't is for all else. The
-- call that lets go logs Wait.
abbrev pub lets_go : Start → ℕ → Bool
lets_go k o = not (waits_on k.local.wait o)

abbrev pub begins_with : Bool → ℕ → List Entry → List Entry
begins_with lets_go o es = cond lets_go (entry.Wait o ∷ es) es

abbrev pub WaitProgressSays : Bool → Bool → ℕ → ℕ → List StepMade → Progress (Unit {0}) → Type 0
WaitProgressSays lets_go requesting t o ms (Done x) = Leaves (begins_with lets_go o (entry.Resume o ∷ [])) None false ms
WaitProgressSays lets_go requesting t o ms (Pending why) =
    Leaves (cond (of_waits why) (begins_with lets_go o []) []) (unfinished_on op.Wait o) false ms
    × CausedUnder (λ requesting why. of_waits why || (lets_go && of_notifies requesting why)) requesting t o why ms

abbrev pub WaitSays : Start → ℕ → List StepMade → Result (Progress (Unit {0})) IllegalMonitorState → Type 0
WaitSays k o = ResultSays (has_none k o) (WaitProgressSays (lets_go k o) k.requesting k.local.thread o)

abbrev pub NotifySays : Start → ℕ → List StepMade → Result (Progress (Option ℕ)) IllegalMonitorState → Type 0
NotifySays k o =
    ResultSays (has_none k o)
    (IsPendingBy (λ woken. entry.Notify o woken ∷ []) (CausedUnder of_notifies k.requesting k.local.thread o)
    (unfinished_on op.Notify o) false)

abbrev pub NotifyAllSays : Start → ℕ → List StepMade → Result (Progress ℕ) IllegalMonitorState → Type 0
NotifyAllSays k o =
    ResultSays (has_none k o)
    (IsPendingBy (λ woken. entry.NotifyAll o woken ∷ [])
    (CausedUnder of_notifies k.requesting k.local.thread o) (unfinished_on op.NotifyAll o) false)

-- the word of this name may be o's header: its mark, a displaced word of thread t, or a monitor's header
abbrev pub IsHeader : ℕ → ℕ → WordId → Type 0
IsHeader t o at = (at ≡ Mark o) ⊎ (((place : ℕ) × (at ≡ Displaced t place)) ⊎ ((monitor : ℕ) × (at ≡ Header monitor)))

-- Not drawn: the value is a hash that a header had when it was loaded. Drawn: it is the value of the draw that was the thread's next, and an exchange
-- put it into a header.
abbrev pub IsDraw : Start → ℕ → ℕ → List StepMade → Option ℕ → Type 0
IsDraw k o value ms None =
    (value ≢ 0) × AmongSteps
    (λ m. IsHeader k.local.thread o m.plan.at × (m.plan.act ≡ Load) × (hash_in m.found ≡ value)) ms
IsDraw k o value ms (Some number) =
    (number ≡ k.draws + 1)
    × (value ≡ k.draw)
    × AmongSteps (λ m. IsHeader k.local.thread o m.plan.at × (m.plan.act ≡ CompareExchange m.found (mark_of (Neutral value 0)))) ms

-- The entry has the answer, and is drawn or not.
abbrev pub HashSays : Start → ℕ → List StepMade → Progress ℕ → Type 0
HashSays k o ms (Done value) =
    (drawn : Option ℕ) × IsDraw k o value ms drawn × Leaves (entry.Hash o value drawn ∷ []) None false ms
HashSays k o ms (Pending why) =
    Leaves [] (unfinished_on op.Hash o) false ms
    × CausedUnder of_notifies k.requesting k.local.thread o why ms

-- the value is the one that the word loaded from this slot spells
abbrev pub IsRead : ℕ → ℕ → Value → List StepMade → Type 0
IsRead o slot value ms = (word : ℕ) × (value ≡ value_found (read_value word)) × Loaded (Slot o slot) word ms

abbrev pub GetSays : Start → ℕ → ℕ → List StepMade → Result Value Unguarded → Type 0
GetSays k o slot =
    ResultSays (has_none k o)
    (λ ms value. Leaves (entry.Get o slot value ∷ []) None false ms × IsRead o slot value ms)

-- the word of the value was stored in this slot
abbrev pub IsWritten : ℕ → ℕ → Value → List StepMade → Type 0
IsWritten o slot value ms = AmongSteps (λ m. (m.plan.at ≡ Slot o slot) × (m.plan.act ≡ Store (word_of value))) ms

abbrev pub PutSays : Start → ℕ → ℕ → Value → List StepMade → Result (Unit {0}) Unguarded → Type 0
PutSays k o slot value =
    ResultSays (has_none k o)
    (λ ms _. Leaves (entry.Put o slot value ∷ []) None false ms × IsWritten o slot value ms)

abbrev pub PrintSays : Value → List StepMade → Unit {0} → Type 0
PrintSays value ms x = Leaves (entry.Print value ∷ []) None false ms

abbrev pub FinishSays : Ending → List StepMade → Unit {0} → Type 0
FinishSays ending ms x = Leaves (ending_entry ending ∷ []) None false ms

-- the thread's next shot
abbrev pub DumpProgressSays : Start → List StepMade → Progress ℕ → Type 0
DumpProgressSays k ms (Done number) =
    (number ≡ k.shots + 1) × Leaves (entry.Dump number ∷ []) None false ms
    × Put Safepoint (released_word k.local.thread) ms
DumpProgressSays k ms (Pending why) =
    Leaves [] (unfinished_on op.Dump 0) false ms
    × CausedUnder of_safepoints k.requesting k.local.thread 0 why ms

abbrev pub DumpSays : Start → List StepMade → Result (Progress ℕ) TooManyDumps → Type 0
DumpSays k = ResultSays (k.shots == 4) (DumpProgressSays k)

-- CREATE is never pending. The thread has made as many objects as a thread may.
abbrev pub has_made_all : Start → Bool
has_made_all k = not (nat_lt (count_made k.local) most_made)

-- These are all the steps, the newest first, and they make o of class c: the class's prototype was loaded, o's class word was stored, and then the
-- prototype that was found as o's first mark. Between the two stores the making of o is unfinished.
pub record MakesObject (o c : ℕ) (ms : List StepMade) : Type 0 where
  pub load : StepMade
  pub class_store : StepMade
  pub mark_store : StepMade
  pub all : ms ≡ mark_store ∷ class_store ∷ load ∷ []
  pub loads : (load.plan.at ≡ Prototype c) × (load.plan.act ≡ Load)
  pub stores_class : (class_store.plan.at ≡ Class o) × (class_store.plan.act ≡ Store (c + 1))
  pub unfinished : class_store.plan.after ≡ unfinished_on op.Create o
  pub stores_mark : (mark_store.plan.at ≡ Mark o) × (mark_store.plan.act ≡ Store load.found)

-- It answers the thread's next object.
abbrev pub CreateSays : Shape → Start → ℕ → List StepMade → Result ℕ TooMany → Type 0
CreateSays s k c =
    ResultSays (has_made_all k)
    (λ ms o. (o ≡ next_made s k.local) × Leaves (entry.New o c ∷ []) None false ms × MakesObject o c ms)

-- POLL, STOP, RESUME and CHECK log nothing, and leave the unfinished operation. So they leave the check, but for the check itself: that is
-- unfinished where its request stands and isn't reached, and over after every other answer.
-- A poll is done exactly where the word that it loads has no requester, and else it is pending for the requester of that word.
abbrev pub PollSays : Start → List StepMade → Progress (Unit {0}) → Type 0
PollSays k ms (Done x) =
    Leaves [] k.unfinished k.checking ms
    × ((word : ℕ) × (has_requester word ≡ false) × Loaded Safepoint word ms)
PollSays k ms (Pending why) =
    Leaves [] k.unfinished k.checking ms × Caused of_polls k.local.thread 0 why ms
    × ((word : ℕ) × (why ≡ Requested word) × Loaded Safepoint word ms)

-- The length of the log was published, and after that the thread's bit was cleared.
abbrev pub Stops : Start → List StepMade → Type 0
Stops k ms =
    AmongAfter (λ m before. (m.plan.at ≡ Safepoint) × (m.plan.act ≡ FetchAnd (all_but k.local.thread))
    × AmongSteps (λ n. (n.plan.at ≡ Length k.local.thread) × (n.plan.act ≡ Store (length k.local.log))) before)
    ms

abbrev pub StopSays : Start → List StepMade → Unit {0} → Type 0
StopSays k ms x = Leaves [] k.unfinished k.checking ms × Stops k ms

-- A resume is done where its exchange set the thread's bit, in a word without a requester and without the halt.
abbrev pub Resumes : ℕ → List StepMade → Type 0
Resumes t ms =
    AmongSteps (λ m. (m.plan.at ≡ Safepoint) × (m.plan.act ≡ CompareExchange m.found (running_too (read_safe m.found) t))
    × (is_halted m.found ≡ false) × (has_requester m.found ≡ false)) ms

abbrev pub ResumeSays : Start → List StepMade → Progress (Unit {0}) → Type 0
ResumeSays k ms (Done x) = Leaves [] k.unfinished k.checking ms × Resumes k.local.thread ms
ResumeSays k ms (Pending why) = Leaves [] k.unfinished k.checking ms × Caused of_resumes k.local.thread 0 why ms

-- the word that a check puts in place of its request when it is done: the halt where it answers true, and else the release
abbrev pub ended_word : Bool → ℕ → ℕ
ended_word stuck t = cond stuck halted_word (released_word t)

abbrev pub CheckSays : Start → List StepMade → Progress Bool → Type 0
CheckSays k ms (Done stuck) = Leaves [] k.unfinished false ms × Put Safepoint (ended_word stuck k.local.thread) ms
CheckSays k ms (Pending why) =
    Leaves [] k.unfinished (is_stopping why) ms
    × CausedUnder of_safepoints k.requesting k.local.thread 0 why ms

-- THE PARTS that are calls by themselves: the stack lock's enter and exit, and a safepoint's request, look and release. The enter has the mark that it was
-- given.
abbrev pub IsGiven : ℕ → ℕ → WordId → ℕ → List StepMade → Type 0
IsGiven o mark at word before = (at ≡ Mark o) × (word ≡ mark)

-- It is pending for its one exchange alone, which expects that mark.
abbrev pub StackEnterSays : ℕ → ℕ → List StepMade → Progress Path → Type 0
StackEnterSays o mark = IsPendingBy (λ path. entry.Enter o path ∷ []) (Overtaken (IsGiven o mark)) None false

-- the mark of o was loaded, and names this monitor
abbrev pub NamesMonitor : ℕ → ℕ → List StepMade → Type 0
NamesMonitor o number ms = (mark : ℕ) × (read_mark mark ≡ Some (Inflated number)) × Loaded (Mark o) mark ms

-- Only where the lock record is left is anything logged. A monitor is the one that the mark names.
abbrev pub StackOutSays : ℕ → ℕ → Option Unfinished → Bool → List StepMade → StackOut → Type 0
StackOutSays t o u check ms Left = Leaves (entry.Exit o ∷ []) None check ms
StackOutSays t o u check ms (Monitor number) = Leaves [] u check ms × NamesMonitor o number ms
StackOutSays t o u check ms (Not why) = Leaves [] u check ms × Caused of_exchanges t o why ms

abbrev pub StackExitSays : Start → ℕ → List StepMade → StackOut → Type 0
StackExitSays k o = StackOutSays k.local.thread o (unfinished_on op.Exit o) false

-- done where its exchange made the request
abbrev pub RequestSays : Start → List StepMade → Progress (Unit {0}) → Type 0
RequestSays k ms (Done x) = Leaves [] None false ms × Requests k.local.thread ms
RequestSays k ms (Pending why) = Leaves [] None false ms × Caused of_requests k.local.thread 0 why ms

-- done exactly where no thread runs by the word that it loads
abbrev pub IsReached : List StepMade → Type 0
IsReached ms = (word : ℕ) × (is_still word ≡ true) × Loaded Safepoint word ms

abbrev pub ReachedSays : Start → List StepMade → Progress (Unit {0}) → Type 0
ReachedSays k ms (Done x) = Leaves [] None false ms × IsReached ms
ReachedSays k ms (Pending why) = Leaves [] None false ms × Caused is_stopping k.local.thread 0 why ms

abbrev pub ReleaseSays : Start → List StepMade → Unit {0} → Type 0
ReleaseSays k ms x = Leaves [] None false ms × Put Safepoint (released_word k.local.thread) ms
