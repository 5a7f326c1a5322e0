-- The waiting words say who waits and who was notified.
use Rattle.std.specs.Prelude.{◌≡◌, ◌⊎◌, ℕ, zero, suc, ◌==◌, ◌&&◌, ◌||◌, nat_lt, Bool, true, false, List, [], ◌∷◌, Option, Some, None}
use Rattle.std.specs.List.{AllByRecursion}
use Rattle.mark_word.specs.Wait.{wait_of}
use Rattle.mark_word.specs.declared.wait.WaitForm.TheVariants.{Notified}
use Rattle.plain_monitor.specs.declared.entry.Entry.TheVariants as entry
use Rattle.plain_monitor.specs.declared.entry.Logged.{Logged}
use Rattle.plain_monitor.specs.Monitor.{is_listed}
use Rattle.core_world.specs.declared.heap_call.Operation.TheVariants as op
use Rattle.core_world.specs.declared.heap_call.Unfinished.{Unfinished}
use Rattle.core_world.specs.declared.stage.Stage.{Stage}
use Rattle.core_world.specs.declared.stage.Stage.TheVariants.{Resumes, Waits, Notifies}
use Rattle.core_world.specs.Words.Forms.{waits_on, stamp_in, says_notified, enters_on, says_ended}
use Rattle.core_world.specs.Threads.Stages.{notification_in}
use Rattle.core_world.specs.Clauses.Safepoints.{IsUnfinished, ends}

-- of two threads whose waiting words say that they wait on o, the first has the smaller stamp, or at equal stamps the smaller number
abbrev pub WaitsLongerThan : (ℕ → ℕ) → ℕ → ℕ × ℕ → ℕ × ℕ → Type 0
WaitsLongerThan wait o p q =
    waits_on (wait p.0) o ≡ true → waits_on (wait q.0) o ≡ true
    → (nat_lt (stamp_in (wait p.0)) (stamp_in (wait q.0))
    || ((stamp_in (wait p.0) == stamp_in (wait q.0)) && nat_lt p.0 q.0)) ≡ true

abbrev pub StandByStamps : (ℕ → ℕ) → ℕ → List (ℕ × ℕ) → Type 0
StandByStamps wait o [] = Unit {0}
StandByStamps wait o (p ∷ ps) = AllByRecursion (WaitsLongerThan wait o p) ps × StandByStamps wait o ps

-- the first n of those who wait on o were notified, and all others say that they wait
abbrev pub AreNotified : (ℕ → ℕ) → ℕ → ℕ → List (ℕ × ℕ) → Type 0
AreNotified wait o n [] = n ≡ 0
AreNotified wait o zero (p ∷ ps) = (waits_on (wait p.0) o ≡ true) × AreNotified wait o zero ps
AreNotified wait o (suc n) (p ∷ ps) = (says_notified (wait p.0) o ≡ true) × AreNotified wait o n ps

-- the last entry of a log
abbrev pub last_entry : List Logged → Option Logged
last_entry [] = None
last_entry (l ∷ []) = Some l
last_entry (l ∷ m ∷ log) = last_entry (m ∷ log)

-- `own` is what each thread last stored in its waiting word, and `operation` what it has unfinished
pub record WaitsFit (monitor : ℕ → Option ℕ) (wait own : ℕ → ℕ) (log : ℕ → List Logged) (stage : ℕ → Stage)
    (operation : ℕ → Option Unfinished) (running : ℕ → Bool) (waits called : ℕ → List (ℕ × ℕ)) : Type 0 where
  -- who waits has a word that says so, or was notified by an owner who is telling all
  pub waiting : (t o : ℕ) → is_listed (waits o) t ≡ true → (waits_on (wait t) o ≡ true)
      ⊎ ((says_notified (wait t) o ≡ true) × ((u : ℕ) × (notification_in (stage u) ≡ Some o)))
  pub waiter : (t o : ℕ) → waits_on (wait t) o ≡ true → is_listed (waits o) t ≡ true
  -- who was notified has a word that says so, or has the lock again and is about to log it
  pub notified : (t o : ℕ) → is_listed (called o) t ≡ true → (says_notified (wait t) o ≡ true)
      ⊎ ((wait t ≡ 0) × (stage t ≡ Resumes o))
  pub told : (t o : ℕ) → says_notified (wait t) o ≡ true → (is_listed (called o) t ≡ true)
      ⊎ ((is_listed (waits o) t ≡ true) × ((u : ℕ) × (notification_in (stage u) ≡ Some o)))
  -- an owner who is telling all tells the oldest first
  pub telling : (t o n : ℕ) → stage t ≡ Notifies o n → AreNotified wait o n (waits o)
  pub resuming : (t o : ℕ) → stage t ≡ Resumes o → is_listed (called o) t ≡ true
  -- who has logged its Wait and not let go waits
  pub leaving : (t o : ℕ) → stage t ≡ Waits o → is_listed (waits o) t ≡ true
  -- both have their wait unfinished
  pub unfinished : (t o : ℕ) → (is_listed (waits o) t ≡ true) ⊎ (is_listed (called o) t ≡ true)
      → IsUnfinished (operation t) op.Wait o
  -- the word is what its own thread last stored, or that thread stored that it waits and was notified
  pub stored : (t : ℕ) → (wait t ≡ own t) ⊎ ((o : ℕ) × (waits_on (own t) o ≡ true) × (wait t ≡ wait_of (Notified o)))
  pub entering : (t o : ℕ) → enters_on (wait t) o ≡ true → IsUnfinished (operation t) op.Enter o
      × ((m : ℕ) × (monitor o ≡ Some m))
  -- Ended says that the log has its ending entry; a thread that has stopped for good says so
  pub done : (t : ℕ) → says_ended (wait t) ≡ true → ends (log t) ≡ true
  pub stopped : (t : ℕ) → ends (log t) ≡ true → running t ≡ false → says_ended (wait t) ≡ true
  -- the stamp is that of the Wait, which is the thread's last entry; and those who wait stand by their stamps, the oldest first
  pub stamped : (t o : ℕ) → waits_on (wait t) o ≡ true
      → last_entry (log t) ≡ Some (record { stamp = stamp_in (wait t); entry = entry.Wait o })
  pub sorted : (o : ℕ) → StandByStamps wait o (waits o)
  -- an object that somebody waits on or was notified from is inflated
  pub inflated : (o t : ℕ) → (is_listed (waits o) t ≡ true) ⊎ (is_listed (called o) t ≡ true) → (m : ℕ)
      × (monitor o ≡ Some m)
