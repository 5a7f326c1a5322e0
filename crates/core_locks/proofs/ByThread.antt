-- The clauses that speak of each thread by itself: what the thread that moved shows of itself, and the others keep, holds of all.
use Rattle.plain_monitor.specs.Limits.{most_holds}
use Rattle.core_locks.proofs.Prelude.{◌≡◌, ◌≢◌, ◌⊎◌, ℕ, ◌+◌, ◌<◌, ◌≤◌, nat_lt, true, List, length, slice_index, Some, sym, ap, ◌∙◌, is_listed}
use Rattle.core_locks.proofs.Prelude.{Stage, RecordLocked, MonitorAcquired, Resumes, Waits, OwnerConverted, hold_word, is_neutral, monitor_in}
use Rattle.core_locks.proofs.Prelude.{recursions_ahead, recursions_lowered, one_if, ThreadView, with_known, Lock, OnRecord, OwnedBy, hold_count}
use Rattle.core_locks.proofs.Prelude.{depth_count, recursion_count, HoldsFitLogs, RecordsRest, RecursionsFit, GoesByMonitor, each_with_known}
use Rattle.core_locks.proofs.Prelude.{is_biased, Option, BiasedTo, false, BiasedAreFree, hash_in, HashesFit}

pub record HoldsOf (hold : ℕ → ℕ) (holds : List ℕ) (more stands : ℕ → ℕ) : Type 0 where
  pub stored : (p : ℕ) → hold p ≡ slice_index holds p
  pub places : length holds ≡ most_holds
  pub number : (o : ℕ) → hold_count o holds ≡ stands o + more o
  pub each : (o d : ℕ) → d < most_holds → depth_count o (d + 1) holds ≡ one_if (nat_lt d (hold_count o holds))

pub record RecordsOf (lock : ℕ → Lock) (t : ℕ) (holds : List ℕ) (stage : Stage) (displaced : ℕ → ℕ) : Type 0 where
  pub first : (o p : ℕ) → lock o ≡ OnRecord t p → (slice_index holds p ≡ hold_word o 1) ⊎ (stage ≡ RecordLocked o p)
  pub header : (o p : ℕ) → lock o ≡ OnRecord t p → is_neutral (displaced p) ≡ true
  pub others : (o p q d : ℕ) → lock o ≡ OnRecord t p → slice_index holds q ≡ hold_word o d → d ≤ most_holds → q ≢ p → displaced q ≡ 0
  pub seized : (o p : ℕ) → stage ≡ RecordLocked o p → (lock o ≡ OnRecord t p) × (slice_index holds p ≡ 0) × (p < most_holds) × (hold_count o holds ≡ 0)
  pub grabbed : (o : ℕ) → stage ≡ MonitorAcquired o → (lock o ≡ OwnedBy t) × (hold_count o holds ≡ 0)

pub record RecursionsOf (mark recursions : ℕ → ℕ) (lock : ℕ → Lock) (t : ℕ) (holds : List ℕ)
    (stage : Stage) (saved : ℕ) (displaced : ℕ → ℕ) (waits called : ℕ → List (ℕ × ℕ)) : Type 0 where
  pub first : (o p : ℕ) → GoesByMonitor (lock o) (waits o) (called o) t
      → slice_index holds p ≡ hold_word o 1 → (is_neutral (displaced p) ≡ true) ⊎ (displaced p ≡ 3)
  pub others : (o p d : ℕ) → GoesByMonitor (lock o) (waits o) (called o) t
      → slice_index holds p ≡ hold_word o (d + 2) → d ≤ 62 → (displaced p ≡ 0) ⊎ (displaced p ≡ 3)
  pub owned : (o m : ℕ) → monitor_in (mark o) ≡ Some m → lock o ≡ OwnedBy t → (stage ≡ Waits o → ⊥) → (stage ≡ Resumes o → ⊥)
      → recursions m + recursions_lowered stage o ≡ recursion_count o displaced holds + recursions_ahead stage o
  pub waiting : (o : ℕ) → (is_listed (waits o) t ≡ true) ⊎ (is_listed (called o) t ≡ true) → saved ≡ recursion_count o displaced holds
  pub thread_owns : (o : ℕ) → stage ≡ OwnerConverted o → recursion_count o displaced holds ≡ 0

-- a clause by threads, and back
pub records_by : {lock : ℕ → Lock} {holds : ℕ → List ℕ} {stage : ℕ → Stage} {displaced : ℕ → ℕ → ℕ}
    → ((u : ℕ) → RecordsOf lock u (holds u) (stage u) (displaced u)) → RecordsRest lock holds stage displaced
records_by at = record {
  first = λ o u. (at u).first o;
  header = λ o u. (at u).header o;
  others = λ o u. (at u).others o;
  seized = λ o u. (at u).seized o;
  grabbed = λ o u. (at u).grabbed o;
}

pub records_at : {lock : ℕ → Lock} {holds : ℕ → List ℕ} {stage : ℕ → Stage} {displaced : ℕ → ℕ → ℕ}
    → RecordsRest lock holds stage displaced → (u : ℕ) → RecordsOf lock u (holds u) (stage u) (displaced u)
records_at h u = record {
  first = λ o. h.first o u;
  header = λ o. h.header o u;
  others = λ o. h.others o u;
  seized = λ o. h.seized o u;
  grabbed = λ o. h.grabbed o u;
}

pub recursions_at : {mark recursions : ℕ → ℕ} {lock : ℕ → Lock} {holds : ℕ → List ℕ} {stage : ℕ → Stage} {saved : ℕ → ℕ} {displaced : ℕ → ℕ → ℕ}
    {waits called : ℕ → List (ℕ × ℕ)} → RecursionsFit mark recursions lock holds stage saved displaced waits called → (u : ℕ)
    → RecursionsOf mark recursions lock u (holds u) (stage u) (saved u) (displaced u) waits called
recursions_at h u =
    let owned = λ (o m : ℕ). h.owned o m u in
    record { first = λ o. h.first o u; others = λ o. h.others o u; owned = owned; waiting = λ o. h.waiting o u; thread_owns = λ o. h.thread_owns o u }

module _ (t : ℕ) (l : ThreadView) (f : ℕ → ThreadView) where
  -- the others may come to stand otherwise by another reckoning of the same number
  pub holds_told : (more : Stage → ℕ → ℕ) {hold next stands now : ℕ → ℕ → ℕ} → ((u p : ℕ) → u ≢ t → next u p ≡ hold u p)
      → ((u o : ℕ) → u ≢ t → now o u ≡ stands o u) → HoldsOf (next t) l.holds (more l.stage) (λ o. now o t)
      → HoldsFitLogs hold (λ u. (f u).holds) (λ u. more (f u).stage) stands
      → HoldsFitLogs next (λ u. (with_known t l f u).holds) (λ u. more (with_known t l f u).stage) now
  holds_told more {hold} {next} {stands} {now} else kept mine h =
      let at : (u : ℕ) → HoldsOf (next u) (with_known t l f u).holds (more (with_known t l f u).stage) (λ o. now o u) =
      λ u. each_with_known (λ u y. HoldsOf (next u) y.holds (more y.stage) (λ o. now o u)) t l f u mine
      (λ d.
      let number : (o : ℕ) → hold_count o (f u).holds ≡ now o u + more (f u).stage o = λ o. h.number u o ∙ ap (λ n. n + more (f u).stage o)
      (sym (kept u o d)) in
      record { stored = λ p. else u p d ∙ h.stored u p; places = h.places u; number = number; each = h.each u }) in
      record { stored = λ u. (at u).stored; places = λ u. (at u).places; number = λ u. (at u).number; each = λ u. (at u).each }

  pub records_told : {lock : ℕ → Lock} {displaced : ℕ → ℕ → ℕ} → RecordsOf lock t l.holds l.stage (displaced t)
      → RecordsRest lock (λ u. (f u).holds) (λ u. (f u).stage) displaced
      → RecordsRest lock (λ u. (with_known t l f u).holds) (λ u. (with_known t l f u).stage) displaced
  records_told {lock} {displaced} mine h = records_by (λ u. each_with_known (λ u y. RecordsOf lock u y.holds y.stage (displaced u)) t l f u mine
      (λ d. records_at h u))

  pub recursions_told : {mark recursions : ℕ → ℕ} {lock : ℕ → Lock} {saved : ℕ → ℕ} {displaced : ℕ → ℕ → ℕ} {waits called : ℕ → List (ℕ × ℕ)}
      → RecursionsOf mark recursions lock t l.holds l.stage (saved t) (displaced t) waits called
      → RecursionsFit mark recursions lock (λ u. (f u).holds) (λ u. (f u).stage) saved displaced waits called
      → RecursionsFit mark recursions lock (λ u. (with_known t l f u).holds) (λ u. (with_known t l f u).stage) saved displaced waits called
  recursions_told {mark} {recursions} {lock} {saved} {displaced} {waits} {called} mine h =
      let at : (u : ℕ) → RecursionsOf mark recursions lock u (with_known t l f u).holds (with_known t l f u).stage (saved u) (displaced u) waits called =
      λ u. each_with_known (λ u y. RecursionsOf mark recursions lock u y.holds y.stage (saved u) (displaced u) waits called) t l f u mine
      (λ d. recursions_at h u) in
      record {
        first = λ o u. (at u).first o;
        others = λ o u. (at u).others o;
        owned = λ o m u. (at u).owned o m;
        waiting = λ o u. (at u).waiting o;
        thread_owns = λ o u. (at u).thread_owns o;
        on_record = h.on_record;
        free = h.free;
      }

  pub biases_told : {mark : ℕ → ℕ} {lock : ℕ → Lock} {hash : ℕ → ℕ} {waits called : ℕ → List (ℕ × ℕ)}
      → ((o : ℕ) → is_biased (mark o) ≡ true → (lock o ≡ BiasedTo t → ⊥) → hold_count o l.holds ≡ 0)
      → BiasedAreFree mark lock (λ u. (f u).holds) hash waits called
      → BiasedAreFree mark lock (λ u. (with_known t l f u).holds) hash waits called
  biases_told {lock = lock} mine h =
      record {
        hashless = h.hashless;
        nobody = h.nobody;
        unheld = λ o u b. each_with_known (λ u y. (lock o ≡ BiasedTo u → ⊥) → hold_count o y.holds ≡ 0) t l f u (mine o b) (λ d. h.unheld o u b);
      }

  pub hashes_told : {mark : ℕ → ℕ} {lock : ℕ → Lock} {header : ℕ → Option ℕ} {displaced : ℕ → ℕ → ℕ} {hash : ℕ → ℕ}
      → ((o p : ℕ) → slice_index l.holds p ≡ hold_word o 1 → is_biased (mark o) ≡ false → is_neutral (displaced t p) ≡ true
      → (hash_in (displaced t p) ≡ 0) ⊎ (hash_in (displaced t p) ≡ hash o))
      → HashesFit mark lock header (λ u. (f u).holds) displaced hash → HashesFit mark lock header (λ u. (with_known t l f u).holds) displaced hash
  hashes_told {mark} {displaced = displaced} {hash = hash} mine h =
      record {
        stands = h.stands;
        records = λ o u p. each_with_known (λ u y. slice_index y.holds p ≡ hold_word o 1 → is_biased (mark o) ≡ false → is_neutral (displaced u p) ≡ true
            → (hash_in (displaced u p) ≡ 0) ⊎ (hash_in (displaced u p) ≡ hash o)) t l f u (mine o p) (λ d. h.records o u p);
        on_record = h.on_record;
      }
