-- What a call leaves lets the next one begin.
use Rattle.std.proofs.Common.{◌≡◌, ℕ, suc, ◌+◌, ◌≤◌, ◌==◌, ◌&&◌, ◌||◌, ◌++◌, ◌∷◌, [], not, nat_lt, nat_le, lt-ltb, le-leb, eq-eqb, Bool, true, false}
use Rattle.std.proofs.Common.{List, length, cond, Option, None, Ok, Err, is_none, refl, sym, ap, ◌∙◌, subst, arith, inl, inr, append_assoc, append-nil}
use Rattle.std.proofs.lemmas.Bool.{and_from}
use Rattle.std.specs.List.{AllByRecursion}
use mathlib.Core.List.{map-append}
use Rattle.plain_monitor.specs.Limits.{most_fuel, entries_for}
use Rattle.plain_monitor.specs.declared.entry.Entry.TheVariants as entry
use Rattle.plain_monitor.specs.declared.entry.Entry.{Entry}
use Rattle.plain_monitor.specs.declared.entry.Ending.{Ending}
use Rattle.plain_monitor.specs.declared.entry.Logged.{Logged}
use Rattle.core_world.specs.declared.answer.PendingCause.{PendingCause}
use Rattle.core_world.specs.declared.answer.PendingCause.TheVariants as why
use Rattle.core_world.specs.declared.answer.Progress.{Progress}
use Rattle.core_world.specs.declared.answer.Progress.TheVariants.{Done, Pending}
use Rattle.core_world.specs.declared.heap_call.Operation.{Operation}
use Rattle.core_world.specs.declared.heap_call.Operation.TheVariants as op
use Rattle.core_world.specs.declared.heap_call.HeapCall.{HeapCall}
use Rattle.core_world.specs.declared.heap_call.HeapCall.TheVariants as task
use Rattle.core_world.specs.declared.heap_call.HeapCall.TheVariants.{Finish, Resume}
use Rattle.core_world.specs.declared.heap_call.Unfinished.{Unfinished}
use Rattle.core_world.specs.Clauses.Lengths.{log_limit}
use Rattle.core_world.specs.Clauses.Safepoints.{ends, is_ending}
use Rattle.core_world.specs.Threads.ThreadView.{ThreadView, StepMade}
use Rattle.core_world.specs.Threads.References.{has_reference}
use Rattle.core_world.specs.Trees.Calls.{may_begin, may_operate, most_logged}
use Rattle.core_world.specs.Trees.Operations.{same_op, goes_on_with}
use Rattle.core_world.specs.Words.Forms.{waits_on}
use Rattle.core_calls.specs.CallsSay.{unfinished_on, begins_with, PollSays, StopSays, ResumeSays}
use Rattle.core_calls.specs.Paths.{Leaves, Tells, ThreadHasLogged}
use Rattle.core_calls.proofs.Runs.{did_none}
use Rattle.heap_table.proofs.Resting.{fresh_rests}
use Rattle.own_logs.proofs.HoldSums.{all_empty}
use Rattle.heap_table.specs.Kept.{all_holds}
use Rattle.heap_table.specs.Resting.{Rests, MayCall, MayOperate, start_now}
use Rattle.heap_table.specs.Seen.{HeapSeen, PassSeen}
use Rattle.lock_runtime.specs.Standing.{IsRunning, IsStopped, StandsAfterTurn}
use Rattle.embed_example.specs.declared.Act.{Act}
use Rattle.embed_example.specs.declared.Act.TheVariants.{Wait}
use Rattle.embed_example.specs.declared.Stop.{Stop}
use Rattle.embed_example.specs.declared.Stop.TheVariants.{Halted}
use Rattle.embed_example.specs.Acts.{entries, op_of, HasAdded, HasMade, IsDone, IsGivenUp, IsLeft, Tried}
use Rattle.embed_example.specs.Between.{IsNew, IsLive, IsFree, MayTry, IsBeside}

-- LOGS. A log ends by its entries alone.
abbrev pub some_ends : List Entry → Bool
some_ends [] = false
some_ends (e ∷ es) = is_ending e || some_ends es

ends_by : (log : List Logged) → ends log ≡ some_ends (entries log)
ends_by [] = refl
ends_by (l ∷ log) = λ i. is_ending l.entry || ends_by log i

unended_both : (a b : List Logged) → ends a ≡ false → ends b ≡ false → ends (a ++ b) ≡ false
unended_both [] b f g = g
unended_both (l ∷ a) b f g = cases (is_ending l.entry) f (λ e. unended_both a b e g)
  where
    cases : (c : Bool) → (c || ends a) ≡ false → (ends a ≡ false → ends (a ++ b) ≡ false) → (c || ends (a ++ b)) ≡ false
    cases true f rest = absurd (cc f)
    cases false f rest = rest f

-- OPERATIONS
same_self : (w : Operation) → same_op w w ≡ true
same_self op.Enter = refl
same_self _ = refl

goes_self : (w : Operation) (o : ℕ) → goes_on_with w o (unfinished_on w o) ≡ true
goes_self w o = and_from (same_op w w) (o == o) (same_self w) (eq-eqb o o refl)

-- where a pending call leaves its thread, the call may go on
stands_again : (A : Type 0) (k : ThreadView) (cause : PendingCause) (going : Bool) → StandsAfterTurn {A = A} k (Pending cause) → going ≡ true
    → (k.running || (k.requesting && going)) ≡ true
stands_again A k (why.Stopping word) going s g = λ i. s.runs i || (s.asks i && g i)
stands_again A k other going s g = λ i. s.runs i || (k.requesting && going)

-- what the steps of a call leave is what its thread knows then
pub did_by : (es : List Entry) (u : Option Unfinished) (check : Bool) (k l : ThreadView) {P : List StepMade → Type 0} (t : Tells k l P)
    → Leaves es u check t.steps → ThreadHasLogged es u check k l
did_by es u check k l t leaves =
    record {
      new = t.new;
      log = t.log;
      entries = t.entries ∙ leaves.entries;
      unfinished = t.unfinished ∙ leaves.unfinished k.unfinished;
      checking = t.checking ∙ leaves.checking k.checking;
    }

-- WHAT A CALL ASKS
-- any may
pub free_may : (h : HeapSeen) (w : Operation) (o : ℕ) (p : PassSeen) → IsFree h p → MayTry w o h p
free_may h w o p f =
    record {
      live = f.live;
      stands = λ i. f.runs i || (p.known.requesting && goes_on_with w o p.known.unfinished);
      free = λ i. is_none (f.none i) || goes_on_with w o p.known.unfinished;
    }

-- AFTER A CALL. The pass was p, and is q.
module _ (h : HeapSeen) (p q : PassSeen) (live : IsLive h p) (rests : Rests h q) (limit : q.limit ≡ p.limit) where
  live_after : (es : List Entry) (u : Option Unfinished) → ThreadHasLogged es u false p.known q.known → some_ends es ≡ false → IsLive h q
  live_after es u d none =
      record {
        rests = rests;
        unchecked = d.checking;
        unended = ap ends d.log ∙ unended_both p.known.log d.new live.unended (ends_by d.new ∙ ap some_ends d.entries ∙ none);
        limit = subst (λ n. n ≤ log_limit) (sym limit) live.limit;
        whole = limit ∙ live.whole;
      }

  pub free_after : (es : List Entry) → ThreadHasLogged es None false p.known q.known → some_ends es ≡ false → IsRunning q.known → IsFree h q
  free_after es d none runs = record { live = live_after es None d none; runs = runs.runs; none = d.unfinished }

  pub added : (P : List Entry → Type 0) (es : List Entry) (u : Option Unfinished) → ThreadHasLogged es u false p.known q.known → P es → HasAdded P p q
  added P es u d is = record { new = d.new; log = d.log; is = subst P (sym d.entries) is }

  pub again : (A : Type 0) (w : Operation) (o : ℕ) (es : List Entry) (cause : PendingCause) → ThreadHasLogged es (unfinished_on w o) false p.known q.known
      → some_ends es ≡ false → StandsAfterTurn {A = A} q.known (Pending cause) → MayTry w o h q
  again A w o es cause d none stands =
      let going : goes_on_with w o q.known.unfinished ≡ true = ap (goes_on_with w o) d.unfinished ∙ goes_self w o in
      record {
        live = live_after es (unfinished_on w o) d none;
        stands = stands_again A q.known cause (goes_on_with w o q.known.unfinished) stands going;
        free = λ i. is_none (d.unfinished i) || going i;
      }

  -- a call that is done, and one that is pending
  module _ {A : Type 0} (Says : List StepMade → Progress A → Type 0) (progress : Progress A) (tells : Tells p.known q.known (λ ms. Says ms progress))
      (stands : StandsAfterTurn q.known progress) where
    pub progress_done : (P : List Entry → Type 0) (a : A) (es : List Entry)
        → progress ≡ Done a → ((ms : List StepMade) → Says ms (Done a) → Leaves es None false ms)
        → P es → some_ends es ≡ false → IsFree h q × HasAdded P p q
    progress_done P a es is so what none =
        let t = subst (λ (x : Progress A). Tells p.known q.known (λ ms. Says ms x)) is tells in
        let d = did_by es None false p.known q.known t (so t.steps t.says) in
        (free_after es d none (subst (StandsAfterTurn q.known) is stands), added P es None d what)

    pub progress_left : (P : List Entry → Type 0) (w : Operation) (o : ℕ) (cause : PendingCause) (es : List Entry) → progress ≡ Pending cause
        → ((ms : List StepMade) → Says ms (Pending cause) → Leaves es (unfinished_on w o) false ms)
        → P es → some_ends es ≡ false → MayTry w o h q × HasAdded P p q
    progress_left P w o cause es is so what none =
        let t = subst (λ (x : Progress A). Tells p.known q.known (λ ms. Says ms x)) is tells in
        let d = did_by es (unfinished_on w o) false p.known q.known t (so t.steps t.says) in
        (again A w o es cause d none (subst (StandsAfterTurn q.known) is stands), added P es (unfinished_on w o) d what)

-- where a try was done or is pending, the same operation may be made
pub tried_may : (a : Act) (o : ℕ) (h : HeapSeen) (p q : PassSeen) (progress : Progress (Unit {0})) → Tried a o h p q (Ok progress) → MayTry (op_of a) o h q
tried_may a o h p q (Done x) t = free_may h (op_of a) o q t.0
tried_may a o h p q (Pending cause) t = t.0

-- what a try is known by once it is known how it ended
pub tried_done : (a : Act) (o : ℕ) (h : HeapSeen) (p q : PassSeen) (progress : Progress (Unit {0})) (x : Unit {0}) → Tried a o h p q (Ok progress)
    → progress ≡ Done x → IsFree h q × HasAdded (IsDone a o) p q
tried_done a o h p q progress x t is = subst (λ (y : Progress (Unit {0})). Tried a o h p q (Ok y)) is t

pub tried_left : (a : Act) (o : ℕ) (h : HeapSeen) (p q : PassSeen) (progress : Progress (Unit {0})) (cause : PendingCause) → Tried a o h p q (Ok progress)
    → progress ≡ Pending cause → MayTry (op_of a) o h q × HasAdded (AllByRecursion (IsLeft a o)) p q
tried_left a o h p q progress cause t is = subst (λ (y : Progress (Unit {0})). Tried a o h p q (Ok y)) is t

-- a refusal leaves the thread as it was
pub as_before : (h : HeapSeen) (w : Operation) (o : ℕ) (p q : PassSeen) → MayTry w o h p → Rests h q → q.limit ≡ p.limit → q.known ≡ p.known → MayTry w o h q
as_before h w o p q may rests limit same =
    record {
      live = record {
        rests = rests;
        unchecked = ap (λ (k : ThreadView). k.checking) same ∙ may.live.unchecked;
        unended = ap (λ (k : ThreadView). ends k.log) same ∙ may.live.unended;
        limit = subst (λ n. n ≤ log_limit) (sym limit) may.live.limit;
        whole = limit ∙ may.live.whole;
      };
      stands = ap (λ (k : ThreadView). k.running || (k.requesting && goes_on_with w o k.unfinished)) same ∙ may.stands;
      free = ap (λ (k : ThreadView). is_none k.unfinished || goes_on_with w o k.unfinished) same ∙ may.free;
    }

-- BESIDE. Calls that log nothing
pub beside : (h : HeapSeen) (p q : PassSeen) → Rests h q → q.limit ≡ p.limit
    → ThreadHasLogged [] p.known.unfinished p.known.checking p.known q.known → IsBeside h p q
beside h p q rests limit d =
    record {
      rests = rests;
      log = did_none p.known.unfinished p.known.checking p.known q.known d;
      unfinished = d.unfinished;
      checking = d.checking;
      limit = limit;
    }

pub beside_resume : (h : HeapSeen) (p q : PassSeen) (progress : Progress (Unit {0})) → Rests h q → q.limit ≡ p.limit
    → Tells p.known q.known (λ ms. ResumeSays (start_now h p) ms progress) → IsBeside h p q
beside_resume h p q (Done x) rests limit t = beside h p q rests limit (did_by _ _ _ p.known q.known t t.says.0)
beside_resume h p q (Pending cause) rests limit t = beside h p q rests limit (did_by _ _ _ p.known q.known t t.says.0)

pub beside_poll : (h : HeapSeen) (p q : PassSeen) (progress : Progress (Unit {0})) → Rests h q → q.limit ≡ p.limit
    → Tells p.known q.known (λ ms. PollSays (start_now h p) ms progress) → IsBeside h p q
beside_poll h p q (Done x) rests limit t = beside h p q rests limit (did_by _ _ _ p.known q.known t t.says.0)
beside_poll h p q (Pending cause) rests limit t = beside h p q rests limit (did_by _ _ _ p.known q.known t t.says.0)

pub beside_stop : (h : HeapSeen) (p q : PassSeen) (x : Unit {0}) → Rests h q → q.limit ≡ p.limit
    → Tells p.known q.known (λ ms. StopSays (start_now h p) ms x) → IsBeside h p q
beside_stop h p q x rests limit t = beside h p q rests limit (did_by _ _ _ p.known q.known t t.says.0)

pub beside_self : (h : HeapSeen) (p : PassSeen) → Rests h p → IsBeside h p p
beside_self h p rests = record { rests = rests; log = refl; unfinished = refl; checking = refl; limit = refl }

pub beside_both : (h : HeapSeen) (p q r : PassSeen) → IsBeside h p q → IsBeside h q r → IsBeside h p r
beside_both h p q r a b =
    record {
      rests = b.rests;
      log = b.log ∙ a.log;
      unfinished = b.unfinished ∙ a.unfinished;
      checking = b.checking ∙ a.checking;
      limit = b.limit ∙ a.limit;
    }

-- a stopped thread that asks for nothing may resume
pub may_resume : (h : HeapSeen) (p : PassSeen) → Rests h p → IsStopped p.known → MayCall h p Resume
may_resume h p rests stopped = record { rests = rests; may = λ i. not (stopped.runs i) && not (stopped.asks i) }

-- and leave it running, let it go on with what is unfinished
pub may_beside : (h : HeapSeen) (w : Operation) (o : ℕ) (p q : PassSeen) → IsBeside h p q → IsRunning q.known → MayTry w o h p → MayTry w o h q
may_beside h w o p q b runs may =
    record {
      live = record {
        rests = b.rests;
        unchecked = b.checking ∙ may.live.unchecked;
        unended = ap ends b.log ∙ may.live.unended;
        limit = subst (λ n. n ≤ log_limit) (sym b.limit) may.live.limit;
        whole = b.limit ∙ may.live.whole;
      };
      stands = λ i. runs.runs i || (q.known.requesting && goes_on_with w o q.known.unfinished);
      free = ap (λ (u : Option Unfinished). is_none u || goes_on_with w o u) b.unfinished ∙ may.free;
    }

-- a thread that holds nothing may end
pub may_finish : (h : HeapSeen) (p : PassSeen) (ending : Ending) (count : ℕ) → IsFree h p → count ≡ all_holds p.known.holds → count ≡ 0
    → suc (length p.known.log) ≤ p.limit → MayOperate h p (Finish ending)
may_finish h p ending count f all none room =
    let short : nat_lt (length p.known.log) log_limit ≡ true = lt-ltb _ _ (omega (arith, room, f.live.limit)) in
    let act : may_operate p.known false ≡ true =
    λ i. not (f.live.unchecked i) && (f.runs i || (p.known.requesting && false)) && (is_none (f.none i) || false) && not (f.live.unended i) && short i in
    let empty = all_empty 0 p.known.holds (sym all ∙ none) in
    record { call = record { rests = f.live.rests; may = λ i. empty i && act i }; room = omega (arith, room) }

-- an operation may be tried where the log has room for its entry
may_operate_now : (h : HeapSeen) (w : Operation) (o : ℕ) (p : PassSeen) → MayTry w o h p → length p.known.log + 1 ≤ p.limit
    → may_operate p.known (goes_on_with w o p.known.unfinished) ≡ true
may_operate_now h w o p may room =
    let short : nat_lt (length p.known.log) log_limit ≡ true = lt-ltb _ _ (omega (arith, room, may.live.limit)) in
    λ i. not (may.live.unchecked i) && may.stands i && may.free i && not (may.live.unended i) && short i

-- so may one that logs one entry, on an object to which the thread has a reference
pub may_try : (h : HeapSeen) (w : Operation) (o : ℕ) (p : PassSeen) (t : HeapCall)
    → may_begin h.heap.shape h.heap.biasing p.known t ≡ (has_reference h.heap.shape p.known o && may_operate p.known (goes_on_with w o p.known.unfinished))
    → most_logged p.known t ≡ 1 → MayTry w o h p → has_reference h.heap.shape p.known o ≡ true → length p.known.log + 1 ≤ p.limit → MayOperate h p t
may_try h w o p t begins one may known room =
    let begun = may_operate_now h w o p may room in
    record {
      call = record { rests = may.live.rests; may = begins ∙ λ i. known i && begun i };
      room = subst (λ (n : ℕ). length p.known.log + n ≤ p.limit) (sym one) room;
    }

one_or_two : (b : Bool) → 1 ≤ cond b 1 2
one_or_two true = omega arith
one_or_two false = omega arith

-- and a wait where the log has room for what the wait logs at most
pub may_wait : (h : HeapSeen) (o now : ℕ) (p : PassSeen) → MayTry op.Wait o h p → has_reference h.heap.shape p.known o ≡ true
    → length p.known.log + cond (waits_on p.known.wait o) 1 2 ≤ p.limit → MayOperate h p (task.Wait o now)
may_wait h o now p may known room =
    let few = may.live.limit in
    let one = one_or_two (waits_on p.known.wait o) in
    let begun = may_operate_now h op.Wait o p may (omega (arith, room, one)) in
    let all : nat_le (length p.known.log + most_logged p.known (task.Wait o now)) log_limit ≡ true = le-leb _ _ (omega (arith, room, few)) in
    record { call = record { rests = may.live.rests; may = λ i. known i && begun i && all i }; room = room }

-- A NEW PASS is at rest and stopped, and once it runs any operation may begin.
pub new_rests : (h : HeapSeen) (fuel t : ℕ) (p : PassSeen) → IsNew h fuel t p → Rests h p
new_rests h fuel t p n = fresh_rests h t p n.fresh

pub new_stopped : (h : HeapSeen) (fuel t : ℕ) (p : PassSeen) → IsNew h fuel t p → IsStopped p.known
new_stopped h fuel t p n =
    record { runs = ap (λ (k : ThreadView). k.running) n.fresh.knows; asks = ap (λ (k : ThreadView). k.requesting) n.fresh.knows }

pub new_free : (h : HeapSeen) (fuel t : ℕ) (p q : PassSeen) → IsNew h fuel t p → fuel ≤ most_fuel → IsBeside h p q → IsRunning q.known → IsFree h q
new_free h fuel t p q n few b runs =
    let known = n.fresh.knows in
    let limit : q.limit ≡ entries_for fuel = b.limit ∙ n.limit in
    record {
      live = record {
        rests = b.rests;
        unchecked = b.checking ∙ ap (λ (k : ThreadView). k.checking) known;
        unended = ap ends (b.log ∙ ap (λ (k : ThreadView). k.log) known);
        limit = omega (arith, limit, few);
        whole = limit ∙ sym n.room;
      };
      runs = runs.runs;
      none = b.unfinished ∙ ap (λ (k : ThreadView). k.unfinished) known;
    }

-- A WAIT logs that it let go, or not.
pub wait_left : (o : ℕ) (a b : Bool) → AllByRecursion (IsLeft Wait o) (cond a (begins_with b o []) [])
wait_left o true true = (refl, tt)
wait_left o true false = tt
wait_left o false b = tt

pub wait_unended : (o : ℕ) (a b : Bool) → some_ends (cond a (begins_with b o []) []) ≡ false
wait_unended o true true = refl
wait_unended o true false = refl
wait_unended o false b = refl

pub wait_done : (o : ℕ) (b : Bool) → IsDone Wait o (begins_with b o (entry.Resume o ∷ []))
wait_done o true = inr refl
wait_done o false = inl refl

pub wait_over : (o : ℕ) (b : Bool) → some_ends (begins_with b o (entry.Resume o ∷ [])) ≡ false
wait_over o true = refl
wait_over o false = refl

-- TRIES. What they add, one after the other
pub added_beside : (h : HeapSeen) (P : List Entry → Type 0) (p q r : PassSeen) → HasAdded P p q → IsBeside h q r → HasAdded P p r
added_beside h P p q r a b = record { new = a.new; log = b.log ∙ a.log; is = a.is }

log_both : (p q r : List Logged) (a b : List Logged) → q ≡ p ++ a → r ≡ q ++ b → r ≡ p ++ (a ++ b)
log_both p q r a b f g = g ∙ ap (λ x. x ++ b) f ∙ append_assoc p a b

left_both : (a : Act) (o : ℕ) (es fs : List Entry) → AllByRecursion (IsLeft a o) es → AllByRecursion (IsLeft a o) fs → AllByRecursion (IsLeft a o) (es ++ fs)
left_both a o [] fs f g = g
left_both a o (e ∷ es) fs f g = (f.0, left_both a o es fs f.1 g)

pub added_left : (a : Act) (o : ℕ) (p q r : PassSeen) → HasAdded (AllByRecursion (IsLeft a o)) p q → HasAdded (AllByRecursion (IsLeft a o)) q r
    → HasAdded (AllByRecursion (IsLeft a o)) p r
added_left a o p q r x y =
    record {
      new = x.new ++ y.new;
      log = log_both p.known.log q.known.log r.known.log x.new y.new x.log y.log;
      is = subst (AllByRecursion (IsLeft a o)) (sym (map-append (λ (l : Logged). l.entry) x.new y.new))
          (left_both a o (entries x.new) (entries y.new) x.is y.is);
    }

pub added_none : (a : Act) (o : ℕ) (p : PassSeen) → HasAdded (AllByRecursion (IsLeft a o)) p p
added_none a o p = record { new = []; log = sym (append-nil p.known.log); is = tt }

-- after tries that were left, one is refused
pub given_up : (a : Act) (o : ℕ) (h : HeapSeen) (p q r : PassSeen) (e : Stop) → HasAdded (AllByRecursion (IsLeft a o)) p q → Tried a o h q r (Err e)
    → IsGivenUp a o h p r e
given_up a o h p q r e x t = (record { new = x.new; log = t.1 ∙ x.log; is = x.is }, inl t.2)

-- or the run is halted
pub given_up_halted : (a : Act) (o : ℕ) (h : HeapSeen) (p q r s : PassSeen) (e : Stop) → HasAdded (AllByRecursion (IsLeft a o)) p q
    → HasAdded (AllByRecursion (IsLeft a o)) q r → IsBeside h r s → e ≡ Halted → IsGivenUp a o h p s e
given_up_halted a o h p q r s e x y b is = (added_beside h (AllByRecursion (IsLeft a o)) p r s (added_left a o p q r x y) b, inr is)

pub made : (a : Act) (o : ℕ) (h : HeapSeen) (p q r : PassSeen) → HasAdded (AllByRecursion (IsLeft a o)) p q → HasAdded (IsDone a o) q r → IsFree h r
    → HasMade a o h p r
made a o h p q r x y free =
    record {
      free = free;
      added = record {
        new = x.new ++ y.new;
        log = log_both p.known.log q.known.log r.known.log x.new y.new x.log y.log;
        is = record {
          before = entries x.new;
          last = entries y.new;
          are = map-append (λ (l : Logged). l.entry) x.new y.new;
          left = x.is;
          made = y.is;
        };
      };
    }
