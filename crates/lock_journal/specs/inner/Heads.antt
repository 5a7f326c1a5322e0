-- Which entry a merge of the logs gives next.
use Rattle.std.specs.Prelude.{◌≡◌, ◌≢◌, ℕ, ◌-◌, ◌^◌, ◌<◌, ◌≤◌, ◌||◌, ◌&&◌, ◌==◌, nat_lt, nat_le, if◌then◌else◌}
use Rattle.std.specs.Prelude.{IsTrue, List, length, slice_get, slice_index, Option, Some, None}
use Rattle.plain_monitor.specs.Limits.{most_threads}
use Rattle.plain_monitor.specs.declared.entry.Logged.{Logged}
use Rattle.plain_monitor.specs.History.{log_of}
use Rattle.lock_journal.specs.declared.order.Ahead.{Ahead}

-- the first entry that thread t has left
abbrev pub head_of : List (List Logged) → List ℕ → ℕ → Option Logged
head_of logs places t = slice_get (log_of logs t) (slice_index places t)

abbrev pub stamp_in : Option Logged → Option ℕ
stamp_in None = None
stamp_in (Some l) = Some l.stamp

-- the stamp of the first entry that thread t has left
abbrev pub stamp_of : List (List Logged) → List ℕ → ℕ → Option ℕ
stamp_of logs places t = stamp_in (head_of logs places t)

-- x is the thread and the stamp of the first entry that the thread has left, which stands before those of the others of the first
-- n threads
pub record IsLeastHead (logs : List (List Logged)) (places : List ℕ) (n : ℕ) (x : ℕ × ℕ) : Type 0 where
  pub thread : x.0 < n
  pub head : stamp_of logs places x.0 ≡ Some x.1
  pub before : (u s : ℕ) → u < n → u ≢ x.0 → stamp_of logs places u ≡ Some s
      → IsTrue (nat_lt x.1 s || ((x.1 == s) && nat_lt x.0 u))

-- the least head of the first n threads, and none where they have nothing left
abbrev pub IsLeastOf : List (List Logged) → List ℕ → ℕ → Option (ℕ × ℕ) → Type 0
IsLeastOf logs places n None = (u : ℕ) → u < n → stamp_of logs places u ≡ None
IsLeastOf logs places n (Some x) = IsLeastHead logs places n x

-- the least head of the threads before t, or the head of t where its stamp is smaller
abbrev pub earlier : Option (ℕ × ℕ) → ℕ → Option ℕ → Option (ℕ × ℕ)
earlier least t None = least
earlier None t (Some stamp) = Some (t, stamp)
earlier (Some first) t (Some stamp) = if nat_le first.1 stamp then Some first else Some (t, stamp)

-- a stamp, or the greatest number of 64 bits where there is none
abbrev pub or_greatest : Option ℕ → ℕ
or_greatest None = 2 ^ 64 - 1
or_greatest (Some stamp) = stamp

-- the stamps of the first entries that the threads have left, for as many threads as a program has at most
abbrev pub HasStamps : List (List Logged) → List ℕ → List ℕ → Type 0
HasStamps logs places stamps = (t : ℕ) → t < most_threads → slice_index stamps t ≡ or_greatest (stamp_of logs places t)

-- the least of the first n stamps, with the first thread that has it where it isn't the greatest number
pub record IsFirstLeast (stamps : List ℕ) (n : ℕ) (x : ℕ × ℕ) : Type 0 where
  pub within : x.0 ≤ n
  pub at : x.1 < 2 ^ 64 - 1 → (x.0 < n) × (slice_index stamps x.0 ≡ x.1)
  pub least : (u : ℕ) → u < n → x.1 ≤ slice_index stamps u
  pub first : (u : ℕ) → u < x.0 → x.1 < slice_index stamps u

-- none of the other stamps is below the limit
pub record IsLimit (stamps : List ℕ) (leader limit : ℕ) : Type 0 where
  pub within : leader < most_threads
  pub others : (u : ℕ) → u < most_threads → u ≢ leader → limit ≤ slice_index stamps u

-- what a merge for a loop holds is right for the logs
pub record IsAhead (logs : List (List Logged)) (ahead : Ahead) : Type 0 where
  pub held : HasStamps logs ahead.places ahead.stamps
  pub limit : IsLimit ahead.stamps ahead.leader ahead.limit

-- the least head, with a limit of the other stamps, and none where nothing is left
abbrev pub IsFirstOf : List (List Logged) → List ℕ → List ℕ → Option ((ℕ × ℕ) × ℕ) → Type 0
IsFirstOf logs places stamps None = IsLeastOf logs places (length logs) None
IsFirstOf logs places stamps (Some x) = IsLeastHead logs places (length logs) x.0 × IsLimit stamps x.0.0 x.1
