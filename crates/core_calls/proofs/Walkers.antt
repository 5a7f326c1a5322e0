-- Threads of small heaps, which make calls.
use Rattle.std.proofs.Common.{ℕ, zero, suc, ◌≡◌, nat_lt, cond, Bool, true, false, [], ◌∷◌, List, replicate, slice_set, refl, ap, Some, None, Err}
use Rattle.std.specs.List.{AllByRecursion}
use Rattle.lock_policy.specs.declared.policy.Verdict.TheVariants.{Single}
use Rattle.mark_word.specs.declared.mark.MarkForm.TheVariants.{Neutral, Anonymous, Biased, Locked, Inflated}
use Rattle.mark_word.specs.declared.owner.OwnerForm.TheVariants.{ByThread}
use Rattle.mark_word.specs.declared.wait.WaitForm.TheVariants.{Waiting, Notified}
use Rattle.mark_word.specs.Mark.{mark_of}
use Rattle.mark_word.specs.Owner.{owner_of}
use Rattle.mark_word.specs.Wait.{wait_of}
use Rattle.mark_word.specs.Safe.{read_safe}
use Rattle.plain_monitor.specs.Limits.{most_made}
use Rattle.plain_monitor.specs.declared.entry.Entry.TheVariants.{New}
use Rattle.plain_monitor.specs.declared.entry.Logged.{Logged}
use Rattle.core_world.specs.Opening.{first_known}
use Rattle.core_world.specs.declared.heap_call.HeapCall.TheVariants.{Enter, Reached}
use Rattle.core_world.specs.declared.answer.Progress.{Progress}
use Rattle.core_world.specs.declared.answer.PendingCause.TheVariants.{Stopping}
use Rattle.core_world.specs.declared.plan.LocalEffect.TheVariants.{CountVerdict}
use Rattle.core_world.specs.declared.word_id.WordId.TheVariants.{Safepoint}
use Rattle.core_world.specs.Threads.ThreadView.{ThreadView, StepMade, CallUnderway, start_of, local_of}
use Rattle.core_world.specs.Trees.CreateSteps.{count_made, next_made, make_steps}
use Rattle.core_world.specs.Trees.Operations.{lone_context, create_steps, answer}
use Rattle.core_world.specs.Trees.Plans.{with_own, load, done_with, pending_for}
use Rattle.core_world.specs.Trees.SafepointSteps.{reached_word, released_word, reached_steps}
use Rattle.core_world.specs.Trees.StepTree.{done, ask, after_answers, ◌>>=◌}
use Rattle.core_world.specs.Words.Forms.{hold_word, is_still}
use Rattle.core_world.specs.Words.Shape.{Shape}
use Rattle.core_calls.specs.Moments.{IsStepOf}
use Rattle.core_calls.specs.Paths.{made, Always, Says, Leaves}
use Rattle.core_calls.specs.Stands.{IsTrueOf, stopped}

-- a heap of one thread, and of one object with a slot; and one of two threads
abbrev pub small : Shape
small = record { threads = 1; classes = 1; declared = 1; objects = (0, 1) ∷ [] }

abbrev pub pair : Shape
pair = record { threads = 2; classes = 1; declared = 1; objects = (0, 1) ∷ [] }

-- WHAT STEPS FIND. Marks of object 0: neutral, biased to thread 0, locked by its first record, and inflated with monitor 0; and the prototype under a bias.
abbrev pub neutral : ℕ
neutral = mark_of (Neutral 0 0)

abbrev pub own_bias : ℕ
own_bias = mark_of (Biased 0 0 0)

abbrev pub own_record : ℕ
own_record = mark_of (Locked 0 0)

abbrev pub inflated : ℕ
inflated = mark_of (Inflated 0)

abbrev pub biasing : ℕ
biasing = mark_of (Anonymous 0 0)

-- a mark with the hash 1
abbrev pub hashed : ℕ
hashed = mark_of (Neutral 1 0)

-- the hold word of object 0; its owner thread 0, and thread 1
abbrev pub held : ℕ
held = hold_word 0 1

abbrev pub by_self : ℕ
by_self = owner_of (ByThread 0)

abbrev pub by_other : ℕ
by_other = owner_of (ByThread 1)

-- waiting words: of one that waits on object 0, and of one that was notified there
abbrev pub waits : ℕ
waits = wait_of (Waiting 0 1)

abbrev pub notified : ℕ
notified = wait_of (Notified 0)

-- the safepoint word where thread 0 alone runs, and where its safepoint is reached
abbrev pub going : ℕ
going = released_word 0

abbrev pub reached : ℕ
reached = reached_word 0

-- all that the steps of a dump, of a check and of a wait find, the newest first
abbrev pub dump_words : List ℕ
dump_words = 0 ∷ reached ∷ neutral ∷ 0 ∷ neutral ∷ 0 ∷ reached ∷ 0 ∷ neutral ∷ reached ∷ going ∷ going ∷ []

abbrev pub check_words : List ℕ
check_words = reached ∷ neutral ∷ 0 ∷ neutral ∷ 0 ∷ waits ∷ reached ∷ going ∷ going ∷ []

abbrev pub wait_words : List ℕ
wait_words = waits ∷ by_self ∷ 0 ∷ 0 ∷ 0 ∷ 0 ∷ by_self ∷ inflated ∷ inflated ∷ []

-- THREADS. Thread 0 runs; and it has entered object 0 besides
abbrev pub running : ThreadView
running = record (first_known 0) { running = true }

abbrev pub owner : ThreadView
owner = record running { holds = slice_set running.holds 0 held }

-- a thread whose request for a safepoint stands
abbrev pub asking : ThreadView
asking = record (first_known 0) { requesting = true }

-- a log of this many objects of class 0, of which each is said to have number 0
abbrev pub makes : ℕ → List Logged
makes n = replicate n (record { stamp = 0; entry = New 0 0 })

pub count_makes : (n : ℕ) → count_made (record (local_of running) { log = makes n }) ≡ n
count_makes zero = refl
count_makes (suc n) = ap suc (count_makes n)

abbrev pub maker : ThreadView
maker = record running { log = makes 1024 }

-- it has made all that it may
pub full_refuses : (s : Shape) → after_answers (create_steps s (start_of 0 maker) 0) [] ≡ done (Err record {})
full_refuses s = ap (λ (n : ℕ). cond (nat_lt n most_made) (make_steps (next_made s (local_of maker)) 0 >>= answer) (done (Err record {}))) (count_makes 1024)

-- The safepoint word is true of thread 0 where that runs, where its request stands, and where it is stopped.
pub going_true : IsTrueOf 0 (record { running = true; asking = false }) going
unfolding read_safe
going_true = record { form = record { running = 1; requester = None; halted = false }; spells = refl; runs = refl; asks = refl }

pub held_true : IsTrueOf 0 (record { running = false; asking = true }) reached
unfolding read_safe
held_true = record { form = record { running = 0; requester = Some 0; halted = false }; spells = refl; runs = refl; asks = refl }

pub off_true : IsTrueOf 0 stopped 0
unfolding read_safe
off_true = record { form = record { running = 0; requester = None; halted = false }; spells = refl; runs = refl; asks = refl }

-- a call whose first two steps are made
abbrev pub underway : CallUnderway
underway = record { task = Enter 0 0; start = start_of 0 running; answers = 0 ∷ neutral ∷ [] }

-- a look whether the safepoint is reached logs nothing
abbrev silent : List StepMade → Progress (Unit {0}) → Type 0
silent ms a = Leaves [] None false ms

silent_both : (n : ℕ) (b : Bool) → Always silent (made (load (lone_context Reached) Safepoint) n ∷ []) (cond b (done_with tt) (pending_for (Stopping n)))
silent_both n true = record { entries = refl; unfinished = λ before. refl; checking = λ before. refl }
silent_both n false = record { entries = refl; unfinished = λ before. refl; checking = λ before. refl }

pub quiet : Says (reached_steps (lone_context Reached)) (λ ms a. Leaves [] None false ms)
quiet = record { by = λ n. silent_both n (is_still n) }

-- a step of an enter that counts a verdict, as the policy says at its moment
pub counted : (o now class : ℕ)
    → Says (ask (with_own (CountVerdict class Single false) (load (lone_context (Enter o now)) Safepoint)))
    (λ ms _. AllByRecursion (IsStepOf (Enter o now)) ms)
counted o now class = record {
  by = λ n. (record { call = refl; counts = record { now = now; given = refl; decided = record { count = 0; last = 0; is = refl } } }, tt);
}
