-- What one step makes of its thread's knowledge, and of the world.
use Rattle.std.specs.Prelude.{ℕ, ◌+◌, ◌==◌, ◌&&◌, ◌||◌, max, not, if◌then◌else◌, Bool, true, false, List, [], ◌∷◌, ◌++◌, length, slice_set, Option, Some, None}
use Rattle.plain_monitor.specs.declared.entry.Entry.{Entry}
use Rattle.plain_monitor.specs.declared.entry.Entry.TheVariants as entry
use Rattle.plain_monitor.specs.declared.entry.Logged.{Logged}
use Rattle.plain_monitor.specs.History.{last_stamp}
use Rattle.plain_monitor.specs.ValueWords.{read_value}
use Rattle.core_world.specs.declared.act.Act.{Act}
use Rattle.core_world.specs.declared.act.Act.TheVariants as act
use Rattle.core_world.specs.declared.word_id.WordId.{WordId}
use Rattle.core_world.specs.declared.word_id.WordId.TheVariants as id
use Rattle.core_world.specs.declared.plan.LogEffect.{LogEffect}
use Rattle.core_world.specs.declared.plan.LogEffect.TheVariants.{Quiet, Log, LogGet, LogHash}
use Rattle.core_world.specs.declared.plan.LocalEffect.{LocalEffect}
use Rattle.core_world.specs.declared.plan.LocalEffect.TheVariants.{Position, Claim, Detach, Enqueue, DropClaim, SaveRecursions, CountVerdict, TakeShot}
use Rattle.core_world.specs.declared.plan.StepPlan.{StepPlan}
use Rattle.core_world.specs.declared.heap_call.Unfinished.{Unfinished}
use Rattle.core_world.specs.Words.Shape.{Shape}
use Rattle.core_world.specs.Words.Names.{class_by}
use Rattle.core_world.specs.Words.Acts.{word_after, hits}
use Rattle.core_world.specs.Words.Forms.{runs_in, asks_in, is_halted, is_still, hash_in}
use Rattle.core_world.specs.Threads.Counts.{CountedVerdict, with_verdict_counted}
use Rattle.core_world.specs.Threads.ThreadView.{ThreadView, Moving, Still, Fetches, Returns, StepMade, CallUnderway, last_seen, start_of}
use Rattle.core_world.specs.Threads.ThreadView as known
use Rattle.core_world.specs.Threads.References.{is_on}
use Rattle.core_world.specs.World.{World, with_word_and_known}
use Rattle.core_world.specs.Locks.{lock_form, holder, hold_count, or_zero, owner_and_count_by}
use Rattle.core_world.specs.RevocationRules.{holds_in, words_from}
use Rattle.core_world.specs.Trees.StepTree.{StepTree, done, after_answers, is_over}
use Rattle.core_world.specs.Trees.Operations.{value_found}
use Rattle.core_world.specs.Trees.Calls.{steps_of}
use Rattle.mark_word.specs.Mark.{read_mark}

-- CALLS. What is left to do of the call that was begun last, and whether that call is over.
abbrev pub left_of : Shape → Option CallUnderway → StepTree (Unit {0})
left_of s None = done tt
left_of s (Some b) = after_answers (steps_of s b.task b.start) b.answers

abbrev pub rest_of_call : Shape → ThreadView → StepTree (Unit {0})
rest_of_call s k = left_of s k.call

unfoldable pub is_idle : Shape → ThreadView → Bool
is_idle s k = is_over (rest_of_call s k)

-- the call that a step belongs to, with what it found: the one that goes on, or a new one
abbrev pub with_answer : ℕ → Option CallUnderway → Option CallUnderway
with_answer n None = None
with_answer n (Some b) = Some (record b { answers = n ∷ b.answers })

abbrev pub call_after : Shape → ℕ → StepPlan → ℕ → ThreadView → Option CallUnderway
call_after s start p n k =
    if is_idle s k then Some (record { task = p.task; start = start_of start k; answers = n ∷ [] })
    else with_answer n k.call

-- LOGS. An Enter and a Resume are stamped above the stamp that they load.
abbrev pub is_taking : Entry → Bool
is_taking (entry.Enter o path) = true
is_taking (entry.Resume o) = true
is_taking _ = false

abbrev pub stamp_by : Entry → ℕ → ℕ → ℕ
stamp_by e found last = if is_taking e then max found last + 1 else last + 1

abbrev pub with_entry : Entry → ℕ → List Logged → List Logged
with_entry e found log = log ++ record { stamp = stamp_by e found (last_stamp log); entry = e } ∷ []

abbrev pub log_after : LogEffect → ℕ → List Logged → List Logged
log_after Quiet found log = log
log_after (Log e) found log = with_entry e found log
log_after (LogGet o slot) found log = with_entry (entry.Get o slot (value_found (read_value found))) found log
log_after (LogHash o) found log =
    if hash_in found == 0 then log else with_entry (entry.Hash o (hash_in found) None) found log

-- a hash that is found ends its operation
abbrev pub unfinished_after : LogEffect → ℕ → Option Unfinished → Option Unfinished
unfinished_after (LogHash o) found u = if hash_in found == 0 then u else None
unfinished_after _ found u = u

abbrev pub draws_after : LogEffect → ℕ → ℕ
draws_after (Log (entry.Hash o value (Some number))) draws = draws + 1
draws_after _ draws = draws

-- THE SAFEPOINT WORD. A step that changes it tells whether the thread runs and whether its request stands; a load by the requester tells
-- whether the safepoint is reached.
abbrev pub runs_after : WordId → Act → ℕ → ThreadView → Bool
runs_after id.Safepoint act.Load word k = k.running
runs_after id.Safepoint _ word k = runs_in word k.thread
runs_after _ act word k = k.running

abbrev pub asks_after : WordId → Act → ℕ → ThreadView → Bool
asks_after id.Safepoint act.Load word k = k.requesting
asks_after id.Safepoint _ word k = asks_in word k.thread
asks_after _ act word k = k.requesting

abbrev pub reached_after : WordId → Act → ℕ → ThreadView → Bool
reached_after id.Safepoint act.Load word k = k.reached || (k.requesting && is_still word)
reached_after id.Safepoint _ word k = k.reached && asks_in word k.thread
reached_after _ act word k = k.reached

-- the halt is known once it was found or set
abbrev pub halted_after : WordId → ℕ → ThreadView → Bool
halted_after id.Safepoint word k = k.halted || is_halted word
halted_after _ word k = k.halted

-- OWN WORDS
abbrev pub holds_after : WordId → Act → ThreadView → List ℕ
holds_after (id.Hold t p) (act.Store word) k = slice_set k.holds p word
holds_after _ _ k = k.holds

abbrev pub wait_after : WordId → Act → ThreadView → ℕ
wait_after (id.Waiting t) (act.Store word) k = if t == k.thread then word else k.wait
wait_after _ _ k = k.wait

abbrev pub published_after : WordId → Act → ThreadView → ℕ
published_after (id.Length t) (act.Store word) k = word
published_after _ _ k = k.published

-- WHAT IT KEEPS FOR ITSELF
abbrev pub kept_after : LocalEffect → ℕ → Option ℕ → Option ℕ
kept_after Claim found kept = Some found
kept_after DropClaim found kept = None
kept_after _ found kept = kept

-- a step that claims a position, loads it, takes a monitor from its object, or stands it in the ring
abbrev pub moving_after : LocalEffect → ℕ → Moving → Moving
moving_after Position found moving = Fetches found
moving_after Claim found moving = Still
moving_after (Detach monitor) found moving = Returns monitor
moving_after Enqueue found moving = Still
moving_after _ found moving = moving

abbrev pub saved_after : LocalEffect → ℕ → ℕ → ℕ
saved_after SaveRecursions found saved = found
saved_after _ found saved = saved

abbrev pub counts_after : LocalEffect → List CountedVerdict → List CountedVerdict
counts_after (CountVerdict class verdict reset) counts = with_verdict_counted counts class verdict reset
counts_after _ counts = counts

-- the words as the thread last saw them at its safepoint
abbrev pub seen_words : ThreadView → WordId → ℕ
seen_words k n = or_zero (last_seen n k.seen_at_safepoint)

-- who has the lock of o and how often, by words in which nothing is being inflated
abbrev pub owner_and_count_in : Shape → (WordId → ℕ) → ℕ → Option ℕ × ℕ
owner_and_count_in s f o =
    owner_and_count_by
    (holder (lock_form (read_mark (f (id.Mark o))) (f (id.Prototype (class_by s f o)))
    (λ m. f (id.Owner m)) None) (λ t. hold_count o (holds_in f t)))
    (λ t. hold_count o (holds_in f t))

-- the lengths of n logs, from thread t on; its own is that of its log
abbrev pub cut_from : ℕ → ℕ → ThreadView → List ℕ
cut_from t n k = words_from t n (λ u. if u == k.thread then length k.log else seen_words k (id.Length u))

abbrev pub cells_from : ℕ → List (ℕ × ℕ) → Shape → (WordId → ℕ) → List (Option ℕ × ℕ)
cells_from o [] s f = []
cells_from o (x ∷ xs) s f = owner_and_count_in s f o ∷ cells_from (o + 1) xs s f

-- the shot that its steps at the safepoint make
abbrev pub shot_of : Shape → ThreadView → known.DumpShot
shot_of s k =
    record {
      number = length k.shots + 1;
      cut = cut_from 0 s.threads k;
      cells = cells_from 0 s.objects s (seen_words k);
    }

abbrev pub shots_after : LocalEffect → Shape → ThreadView → List known.DumpShot
shots_after TakeShot s k = k.shots ++ shot_of s k ∷ []
shots_after _ s k = k.shots

-- WHAT IT HAS SEEN. A call begins with nothing seen, unless a request stands that an earlier one made.
abbrev pub seen_before : Shape → ThreadView → List StepMade
seen_before s k = if is_idle s k && not k.requesting then [] else k.seen

-- The steps that log Enter or Resume, and that set the thread running again after a stop, begin anew, since the thread counts on more words
-- from then on. The release of a safepoint leaves what was seen at it of the header of the unfinished operation's object, its mark and its class word,
-- and of the prototypes: later steps of the call go by no others.
abbrev pub is_header : Option Unfinished → WordId → Bool
is_header u (id.Mark o) = is_on u o
is_header u (id.Prototype c) = true
is_header u (id.Class o) = is_on u o
is_header u _ = false

abbrev pub only_headers : Option Unfinished → List StepMade → List StepMade
only_headers u [] = []
only_headers u (m ∷ ms) = if is_header u m.plan.at then m ∷ only_headers u ms else only_headers u ms

abbrev pub kept_by_note : LogEffect → List StepMade → List StepMade
kept_by_note (Log e) seen = if is_taking e then [] else seen
kept_by_note _ seen = seen

abbrev pub kept_by_act : WordId → Act → ℕ → ThreadView → List StepMade → List StepMade
kept_by_act id.Safepoint (act.CompareExchange expected word) left k seen =
    if k.reached && not (asks_in left k.thread) then only_headers k.unfinished k.seen_at_safepoint else if k.running
    then seen else []
kept_by_act _ _ left k seen = seen

-- since its safepoint was reached
abbrev pub seen_at_safepoint_before : WordId → Act → ThreadView → List StepMade
seen_at_safepoint_before id.Safepoint act.Load k = if k.reached then k.seen_at_safepoint else []
seen_at_safepoint_before _ _ k = k.seen_at_safepoint

-- THE STEP. Of thread t's plan, which finds n: what it knows where the act hits, and where it misses.
abbrev pub known_hit : Shape → ℕ → StepPlan → ℕ → ThreadView → ThreadView
known_hit s start p n k =
    let left = word_after p.act n in
    let step : StepMade = record { plan = p; found = n } in
    record {
      thread = k.thread;
      log = log_after p.note n k.log;
      running = runs_after p.at p.act left k;
      requesting = asks_after p.at p.act left k;
      reached = reached_after p.at p.act left k;
      halted = halted_after p.at left k;
      kept = kept_after p.own n k.kept;
      moving = moving_after p.own n k.moving;
      saved = saved_after p.own n k.saved;
      holds = holds_after p.at p.act k;
      wait = wait_after p.at p.act k;
      published = published_after p.at p.act k;
      stage = p.stage;
      unfinished = unfinished_after p.note n p.after;
      checking = p.check;
      counts = counts_after p.own k.counts;
      draws = draws_after p.note k.draws;
      shots = shots_after p.own s k;
      seen = step ∷ kept_by_note p.note (kept_by_act p.at p.act left k (seen_before s k));
      seen_at_safepoint = step ∷ seen_at_safepoint_before p.at p.act k;
      steps = step ∷ k.steps;
      call = call_after s start p n k;
    }

abbrev pub known_miss : Shape → ℕ → StepPlan → ℕ → ThreadView → ThreadView
known_miss s start p n k =
    let step : StepMade = record { plan = p; found = n } in
    record k {
      halted = halted_after p.at n k;
      seen = step ∷ seen_before s k;
      seen_at_safepoint = step ∷ k.seen_at_safepoint;
      steps = step ∷ k.steps;
      call = call_after s start p n k;
    }

abbrev pub known_after : Shape → ℕ → StepPlan → ℕ → ThreadView → ThreadView
known_after s start p n k = if hits p.act n then known_hit s start p n k else known_miss s start p n k

-- what a thread that knew this knows after these steps, the newest first
abbrev pub known_along : Shape → ℕ → List StepMade → ThreadView → ThreadView
known_along s start [] k = k
known_along s start (m ∷ ms) k = known_after s start m.plan m.found (known_along s start ms k)

-- the world that this step of thread t makes
abbrev pub world_after : StepPlan → ℕ → World → World
world_after p t w =
    with_word_and_known p.at (word_after p.act (w.words p.at)) t
    (known_after w.shape w.start p (w.words p.at) (w.known t)) w
