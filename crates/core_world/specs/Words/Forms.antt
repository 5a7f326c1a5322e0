-- What the clauses ask of a word, by the form that it spells.
use Rattle.std.specs.Prelude.{ℕ, ◌==◌, ◌&&◌, nat_lt, Bool, true, false, Option, Some, None}
use Rattle.std.specs.Int.{bit_at}
use Rattle.mark_word.specs.declared.mark.MarkForm.{MarkForm}
use Rattle.mark_word.specs.declared.mark.MarkForm.TheVariants.{Neutral, Anonymous, Biased, Inflated}
use Rattle.mark_word.specs.declared.wait.WaitForm.{WaitForm}
use Rattle.mark_word.specs.declared.wait.WaitForm.TheVariants as wait
use Rattle.mark_word.specs.declared.hold.HoldForm.{HoldForm}
use Rattle.mark_word.specs.declared.hold.HoldForm.TheVariants.{Holds}
use Rattle.mark_word.specs.declared.safe.SafeForm.{SafeForm}
use Rattle.mark_word.specs.Mark.{read_mark}
use Rattle.mark_word.specs.Wait.{read_wait}
use Rattle.mark_word.specs.Hold.{read_hold, hold_of}
use Rattle.mark_word.specs.Safe.{read_safe}
use Rattle.plain_monitor.specs.Monitor.{is_thread}

-- the mark is neutral, of age 0, the only age that a heap's words have
abbrev pub is_neutral_form : Option MarkForm → Bool
is_neutral_form (Some (Neutral hash age)) = age == 0
is_neutral_form _ = false

abbrev pub is_neutral : ℕ → Bool
is_neutral n = is_neutral_form (read_mark n)

-- the mark has the bias pattern
abbrev pub is_biased_form : Option MarkForm → Bool
is_biased_form (Some (Anonymous epoch age)) = true
is_biased_form (Some (Biased thread epoch age)) = true
is_biased_form _ = false

abbrev pub is_biased : ℕ → Bool
is_biased n = is_biased_form (read_mark n)

-- the monitor that a mark names
abbrev pub monitor_form : Option MarkForm → Option ℕ
monitor_form (Some (Inflated m)) = Some m
monitor_form _ = None

abbrev pub monitor_in : ℕ → Option ℕ
monitor_in n = monitor_form (read_mark n)

-- the hash in a neutral word, 0 where there is none
abbrev pub hash_form : Option MarkForm → ℕ
hash_form (Some (Neutral hash age)) = hash
hash_form _ = 0

abbrev pub hash_in : ℕ → ℕ
hash_in n = hash_form (read_mark n)

-- the epoch of a prototype, where it is a biased one, which names no thread
abbrev pub epoch_form : Option MarkForm → Option ℕ
epoch_form (Some (Anonymous epoch age)) = Some epoch
epoch_form _ = None

abbrev pub epoch_in : ℕ → Option ℕ
epoch_in n = epoch_form (read_mark n)

-- the waiting word says Waiting with o
abbrev pub waits_form : Option WaitForm → ℕ → Bool
waits_form (Some (wait.Waiting object stamp)) o = object == o
waits_form _ o = false

abbrev pub waits_on : ℕ → ℕ → Bool
waits_on n o = waits_form (read_wait n) o

-- the stamp in a waiting word that says Waiting
abbrev pub stamp_form : Option WaitForm → ℕ
stamp_form (Some (wait.Waiting object stamp)) = stamp
stamp_form _ = 0

abbrev pub stamp_in : ℕ → ℕ
stamp_in n = stamp_form (read_wait n)

-- the waiting word says Notified with o
abbrev pub notified_form : Option WaitForm → ℕ → Bool
notified_form (Some (wait.Notified object)) o = object == o
notified_form _ o = false

abbrev pub says_notified : ℕ → ℕ → Bool
says_notified n o = notified_form (read_wait n) o

-- the waiting word says Entering with o
abbrev pub enters_form : Option WaitForm → ℕ → Bool
enters_form (Some (wait.Entering object)) o = object == o
enters_form _ o = false

abbrev pub enters_on : ℕ → ℕ → Bool
enters_on n o = enters_form (read_wait n) o

-- the waiting word says Entering, with whatever object
abbrev pub entering_form : Option WaitForm → Bool
entering_form (Some (wait.Entering object)) = true
entering_form _ = false

abbrev pub is_entering : ℕ → Bool
is_entering n = entering_form (read_wait n)

-- the waiting word says Ended
abbrev pub ended_form : Option WaitForm → Bool
ended_form (Some wait.Ended) = true
ended_form _ = false

abbrev pub says_ended : ℕ → Bool
says_ended n = ended_form (read_wait n)

-- the hold word names o
abbrev pub names_form : Option HoldForm → ℕ → Bool
names_form (Some (Holds object depth)) o = object == o
names_form _ o = false

abbrev pub names : ℕ → ℕ → Bool
names o h = names_form (read_hold h) o

-- the hold word names o at a depth above 1
abbrev pub deeper_form : Option HoldForm → ℕ → Bool
deeper_form (Some (Holds object depth)) o = (object == o) && nat_lt 1 depth
deeper_form _ o = false

abbrev pub is_deeper : ℕ → ℕ → Bool
is_deeper o h = deeper_form (read_hold h) o

-- the hold word of o at this depth
abbrev pub hold_word : ℕ → ℕ → ℕ
hold_word o d = hold_of (Holds o d)

-- the safepoint word has the bit of thread t, names t as the requester, has the halt
abbrev pub runs_form : Option SafeForm → ℕ → Bool
runs_form None t = false
runs_form (Some f) t = bit_at f.running t == 1

abbrev pub runs_in : ℕ → ℕ → Bool
runs_in n t = runs_form (read_safe n) t

abbrev pub requester_form : Option SafeForm → Option ℕ
requester_form None = None
requester_form (Some f) = f.requester

abbrev pub requester_in : ℕ → Option ℕ
requester_in n = requester_form (read_safe n)

abbrev pub asks_in : ℕ → ℕ → Bool
asks_in n t = is_thread (requester_in n) t

abbrev pub halted_form : Option SafeForm → Bool
halted_form None = false
halted_form (Some f) = f.halted

abbrev pub is_halted : ℕ → Bool
is_halted n = halted_form (read_safe n)

-- no thread runs
abbrev pub still_form : Option SafeForm → Bool
still_form None = false
still_form (Some f) = f.running == 0

abbrev pub is_still : ℕ → Bool
is_still n = still_form (read_safe n)
